-- The rules of a context goal as the code has them. Working words of proofs.
use Rattle.std.specs.Prelude.{◌≡◌, ◌+◌, ◌∷◌, ◌++◌, length}
use Rattle.cs_grammar.specs.declared.symbol.Symbol.TheVariants.{Nonterminal}
use Rattle.cs_grammar.specs.Grammar.{PlainGrammar, IsRule}
use Rattle.cs_goals.specs.declared.goal.Occurrence.{Occurrence}
use Rattle.cs_verdicts.specs.declared.positive.contexts.Cut.{Cut}

-- the right side of the outer rule, cut at the place, where the left side of the inner rule stands
pub record IsCutAt (g : PlainGrammar) (o : Occurrence) (c : Cut) : Type 0 where
  pub is_outer : IsRule g o.outer c.outer.now
  pub is_inner : IsRule g o.inner c.inner.now
  pub right_side : c.outer.now.right ≡ c.before.now ++ Nonterminal c.inner.now.left ∷ c.behind.now
  pub place : length c.before.now + 1 ≡ o.place
