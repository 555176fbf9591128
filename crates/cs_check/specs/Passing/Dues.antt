-- What the code's dues tell, and what is due from a line of the head on. Working words of the code's contracts.
use Rattle.std.specs.Prelude.{◌+◌, List, ◌∷◌, ◌++◌, length, map}
use Rattle.std.specs.List.{range_with_len}
use Rattle.cs_grammar.specs.Grammar.{PlainGrammar}
use Rattle.cs_check.specs.declared.checking.due.Due as held
use Rattle.cs_check.specs.declared.checking.due.Due.TheVariants as dues
use Rattle.cs_lines.specs.Lines.Line.{Productive, Reachable, Empty, First, Last, Next}
use Rattle.cs_lines.specs.Lines.Read.{set_kind, row_kind}
use Rattle.cs_check.specs.Passing.Head.{Due, TheOpening, TheWeighing, TheToken, TheRule, TheLexeme, TheSet, TheRow}

-- which line the code means
abbrev pub due_told : held.Due → Due
due_told dues.Opening = TheOpening
due_told dues.Weighing = TheWeighing
due_told (dues.Token t) = TheToken t
due_told (dues.Rule r) = TheRule r
due_told (dues.Lexeme t) = TheLexeme t
due_told (dues.Set kind) = TheSet (set_kind kind)
due_told (dues.Row kind n) = TheRow (row_kind kind) n

-- ---- the rest of the head, from its lines of this kind on

abbrev pub next_on : PlainGrammar → List Due
next_on g = map (TheRow Next) (range_with_len 0 (g.tokens + 1))

abbrev pub last_on : PlainGrammar → List Due
last_on g = map (TheRow Last) (range_with_len 1 g.nonterminals) ++ next_on g

abbrev pub first_on : PlainGrammar → List Due
first_on g = map (TheRow First) (range_with_len 1 g.nonterminals) ++ last_on g

abbrev pub claims_on : PlainGrammar → List Due
claims_on g = TheSet Productive ∷ TheSet Reachable ∷ TheSet Empty ∷ first_on g

abbrev pub lexemes_on : PlainGrammar → List Due
lexemes_on g = map TheLexeme (range_with_len 1 g.tokens) ++ claims_on g

abbrev pub rules_on : PlainGrammar → List Due
rules_on g = map TheRule (range_with_len 1 (length g.rules)) ++ lexemes_on g

abbrev pub tokens_on : PlainGrammar → List Due
tokens_on g = map TheToken (range_with_len 1 g.tokens) ++ rules_on g
