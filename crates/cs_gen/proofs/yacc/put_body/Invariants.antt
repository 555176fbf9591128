use Rattle.std.proofs.Common.{◌≡◌, ◌++◌}
use Rattle.cs_gen.specs.Draws.{several}
use Rattle.cs_gen.specs.Rules.{symbol}
use Rattle.cs_gen.specs.Texts.{names}
use Rattle.cs_gen.proofs.yacc.put_body.Given as goal

abbrev pub invariant-loop-symbol : goal.invariant-loop-symbol
invariant-loop-symbol l =
    (l.text.items ≡ l.initial.text.items ++ names (several (λ _. symbol) l._symbol l.initial.numbers.at).what) × (l.numbers.at ≡ (several (λ _. symbol) l._symbol l.initial.numbers.at).behind)
