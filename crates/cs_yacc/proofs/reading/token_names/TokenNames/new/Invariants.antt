use Rattle.cs_yacc.specs.Reading.TokenNumbers.{FindsWords, FindsBytes}
use Rattle.cs_yacc.proofs.reading.token_names.TokenNames.new.Given as goal

-- the tables have the names before this turn's
abbrev pub invariant-loop-index : goal.invariant-loop-index
invariant-loop-index l = FindsWords l.words.entries l.index l.name-items × FindsBytes l.literals.entries l.index l.name-items
