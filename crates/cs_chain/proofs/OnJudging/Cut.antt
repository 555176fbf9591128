-- Trees and right sides, cut at one of their symbols.
use Rattle.std.proofs.Common.{◌≡◌, ℕ, ◌+◌, ◌-◌, ◌≤◌, ◌∷◌, ◌++◌, Some, length, take, drop, refl, sym, ap, ◌∙◌, arith}
use Rattle.std.specs.Prelude.{slice_get}
use Rattle.std.proofs.lemmas.List.{length-take-le}
use Rattle.std.proofs.lemmas.Option.{slice_get_within}
use Rattle.cs_grammar.specs.declared.symbol.Symbol.TheVariants.{Nonterminal}
use Rattle.cs_grammar.specs.Grammar.{Production, PlainGrammar, IsRule}
use Rattle.cs_grammar.specs.Weights.{Measure}
use Rattle.cs_grammar.specs.Context.{Context as TreeContext, context_size}
use Rattle.cs_least.specs.Embed.Around.{IsContextOf, HasLeastContext}
use Rattle.cs_least.proofs.OnEmbed.ChosenContexts.{chosen_context_exists, IsContext-chosen}
use Rattle.cs_least.proofs.OnEmbed.Steps.{split_at}
use Rattle.cs_goals.specs.Goal.{IsOccurrence}
pub use Rattle.cs_goals.proofs.Cut.{Cut, cut_at}
use Rattle.cs_goals.proofs.Placing.{stands_in}

-- the inner nonterminal stands at its place of the outer rule
pub placed_in : (g : PlainGrammar) (p i q : ℕ) (outer inner : Production) → IsOccurrence g p i q → IsRule g p outer → IsRule g q inner → (outer.right ≡ take (i - 1) outer.right ++ Nonterminal inner.left ∷ drop i outer.right) × (length (take (i - 1) outer.right) + 1 ≡ i)
placed_in g p i q outer inner o is_outer is_inner =
    let at = stands_in g p i q outer inner o is_outer is_inner in
    let next : i - 1 + 1 ≡ i = omega (arith, o.above_zero) in
    let short : length (take (i - 1) outer.right) ≡ i - 1 = length-take-le (i - 1) outer.right (omega (arith, slice_get_within outer.right (i - 1) (Nonterminal inner.left) at)) in
    (split_at outer.right (i - 1) (Nonterminal inner.left) at ∙ ap (λ k. take (i - 1) outer.right ++ Nonterminal inner.left ∷ drop k outer.right) next, omega (arith, short, o.above_zero))

-- a nonterminal with a context within the limit has a least one
pub least_context : (w : Measure) (g : PlainGrammar) (n : ℕ) (c : TreeContext) → IsContextOf g n c → context_size w c ≤ w.limit → HasLeastContext w g n
least_context w g n c is small =
    let d = chosen_context_exists w g n c is in
    let d_is = IsContext-chosen w g d.context (Nonterminal n) d.chosen in
    (context_size w d.context, (omega (arith, d.least c is, small), record { reached = (d.context, d_is, refl); least = d.least }))
