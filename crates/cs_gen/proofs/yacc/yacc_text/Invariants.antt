use Rattle.std.proofs.Common.{◌≡◌, ◌++◌}
use Rattle.std.specs.List.{flat_map}
use Rattle.cs_gen.specs.Draws.{several}
use Rattle.cs_gen.specs.Rules.{line}
use Rattle.cs_gen.specs.Texts.{line_text}
use Rattle.cs_gen.proofs.yacc.yacc_text.Given as goal

abbrev pub invariant-loop-number : goal.invariant-loop-number
invariant-loop-number l =
    (l.text.items ≡ l.initial.text.items ++ flat_map line_text (several line l.number l.fn.seed).what) × (l.numbers.at ≡ (several line l.number l.fn.seed).behind)
