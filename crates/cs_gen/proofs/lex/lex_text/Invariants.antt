use Rattle.std.proofs.Common.{◌≡◌, ◌++◌}
use Rattle.std.specs.List.{flat_map}
use Rattle.cs_gen.specs.Texts.{up_to, token_rule}
use Rattle.cs_gen.proofs.lex.lex_text.Given as goal

abbrev pub invariant-loop-number : goal.invariant-loop-number
invariant-loop-number l = l.text.items ≡ l.initial.text.items ++ flat_map token_rule (up_to l.number)
