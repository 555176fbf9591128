use Rattle.std.proofs.Common.{◌≡◌, drop}
use Rattle.std.specs.List.{list_any}
use Rattle.cs_yacc.specs.Reading.Finding.{is_unknown}
use Rattle.cs_yacc.specs.Reading.SpellingView.{spellings_of}
use Rattle.cs_yacc.proofs.reading.fault.has_unknown.Given as goal

abbrev pub invariant-loop-spelling : goal.invariant-loop-spelling
invariant-loop-spelling l = list_any (is_unknown l.declared l.lefts) (spellings_of (drop l.spelling-index l.spelling-items)) ≡ list_any (is_unknown l.declared l.lefts) l.spelled
