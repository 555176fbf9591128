-- Where the inner rule of a context goal stands.
use Rattle.std.proofs.Common.{◌≡◌, ℕ, ◌-◌, Some, refl, sym, ap, ◌∙◌}
use Rattle.std.specs.Prelude.{slice_get}
use Rattle.cs_grammar.specs.declared.symbol.Symbol.TheVariants.{Nonterminal}
use Rattle.cs_grammar.specs.Grammar.{Production, PlainGrammar, IsRule}
use Rattle.cs_grammar.proofs.OneTree.{one_rule}
use Rattle.cs_goals.specs.Goal.{IsOccurrence}

-- the inner nonterminal stands at its place of the outer rule
pub stands_in : (g : PlainGrammar) (p i q : ℕ) (outer inner : Production) → IsOccurrence g p i q → IsRule g p outer → IsRule g q inner → slice_get outer.right (i - 1) ≡ Some (Nonterminal inner.left)
stands_in g p i q outer inner o is_outer is_inner =
    let outers = one_rule g p p o.outer outer refl o.is_outer is_outer in
    let inners = one_rule g q q o.inner inner refl o.is_inner is_inner in
    ap (λ (v : Production). slice_get v.right (i - 1)) (sym outers) ∙ o.at ∙ ap (λ (v : Production). Some (Nonterminal v.left)) inners
