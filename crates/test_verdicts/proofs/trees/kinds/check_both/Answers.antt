-- The sweep goes from the second symbol to the first, and its size is that of trees within the limit.
use Rattle.std.proofs.Common.{◌≡◌, ◌∙◌, ◌≤◌, ℕ, List, [], ◌∷◌, subst, sym}
use Rattle.cs_grammar.specs.declared.symbol.Symbol.{Symbol}
use Rattle.cs_grammar.specs.Grammar.{PlainGrammar}
use Rattle.cs_grammar.specs.Tree.{sizes}
use Rattle.cs_grammar.specs.Weights.{Measure}
use Rattle.cs_least.specs.declared.cost.cost.Cost.TheVariants.{Least}
use Rattle.cs_least.specs.Cost.Least.{IsCost}
use Rattle.cs_pairs.specs.declared.kinds.kind.TreeKind.{TreeKind}
use Rattle.cs_pairs.specs.declared.kinds.sweep.Sweep.{Sweep}
use Rattle.cs_pairs.specs.Kinds.Kinds.{AreTreesOfKind}
use Rattle.cs_pairs.specs.Kinds.Parts.{HaveSmallOfKind}
use Rattle.cs_pairs.specs.Kinds.Sweep.{IsSwept}
use Rattle.test_verdicts.proofs.trees.kinds.check_both.Goals as goal

-- the trees of the least size
small : (w : Measure) (g : PlainGrammar) (xs : List Symbol) (sweep : Sweep) (k : TreeKind) (n : ℕ) → IsSwept w g xs sweep → sweep.kind ≡ k → sweep.whole ≡ Least n → HaveSmallOfKind w g k xs
small w g xs sweep k n swept same is =
    let least = subst (IsCost w.limit (AreTreesOfKind g sweep.kind xs) (sizes w)) is swept.is_whole in
    let reached = least.1.reached in
    (reached.0, subst (λ (kind : TreeKind). AreTreesOfKind g kind xs reached.0) same reached.1, subst (λ (m : ℕ). m ≤ w.limit) (sym reached.2) least.0)

pub over-requires-clause-swept : goal.over-requires-clause-swept
over-requires-clause-swept g c = ([], c.new.ensures.swept _ _)

pub over-sweep-requires-clause-swept : goal.over-sweep-requires-clause-swept
over-sweep-requires-clause-swept g c = (_ ∷ [], c.over.ensures.swept [] (c.new.ensures.swept _ _))

pub kind_into-requires-clause-small : goal.kind_into-requires-clause-small
kind_into-requires-clause-small g c =
    let swept = c.over-sweep.ensures.swept _ (c.over.ensures.swept [] (c.new.ensures.swept _ _)) in
    let same = c.over-sweep.ensures.kind ∙ (c.over.ensures.kind ∙ c.new.ensures.kind) in
    small _ _ _ _ _ _ swept same c.in-Least.is
