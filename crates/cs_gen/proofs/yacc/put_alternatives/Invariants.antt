use Rattle.std.proofs.Common.{◌≡◌, ◌++◌}
use Rattle.cs_gen.specs.Draws.{several}
use Rattle.cs_gen.specs.Rules.{body}
use Rattle.cs_gen.specs.Texts.{alternatives}
use Rattle.cs_gen.proofs.yacc.put_alternatives.Given as goal

abbrev pub invariant-loop-body : goal.invariant-loop-body
invariant-loop-body l =
    (l.text.items ≡ l.initial.text.items ++ alternatives (several (λ _. body) l._body l.initial.numbers.at).what) × (l.numbers.at ≡ (several (λ _. body) l._body l.initial.numbers.at).behind)
