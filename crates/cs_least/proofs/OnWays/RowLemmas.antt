-- The steps that leave a node.
use Rattle.std.proofs.Common.{◌≡◌, ◌==◌, ℕ, Bool, true, false, List, [], ◌∷◌, refl, sym, ap, ◌∙◌, subst, inl, inr, get_or}
use Rattle.std.specs.Prelude.{Contains, cond, All}
use Rattle.std.proofs.lemmas.Bool.Decides.{Decides-eqb}
use Rattle.cs_least.specs.declared.ways.step.Step.{Step}
use Rattle.std.proofs.lemmas.List.Elements.{All-contains, Contains-get_or}
use Rattle.cs_least.specs.Ways.Ways.{Net, IsNode, IsNet}
use Rattle.cs_least.specs.Ways.Rows.{leaving}
use Rattle.cs_least.proofs.OnWays.Holding.{contains_first, contains_later, contains_cases, contains_none}

module _ (n : ℕ) where
  leaves_written : (s t : Step) (steps : List Step) (b : Bool) → (t.from == n) ≡ b → ((Contains (leaving steps n) s → Contains steps s × (s.from ≡ n)) → Contains (cond b (t ∷ leaving steps n) (leaving steps n)) s → Contains (t ∷ steps) s × (s.from ≡ n))
  leaves_written s t steps true e rec h = elim (contains_cases t s (leaving steps n) h) [
    | inl here ↦ (subst (Contains (t ∷ steps)) here (contains_first t steps), ap (λ (u : Step). u.from) (sym here) ∙ (Decides-eqb t.from n).0 e)
    | inr there ↦ let r = rec there in (contains_later t s steps r.0, r.1)
  ]
  leaves_written s t steps false e rec h = let r = rec h in (contains_later t s steps r.0, r.1)

  pub leaves : (s : Step) (steps : List Step) → Contains (leaving steps n) s → Contains steps s × (s.from ≡ n)
  leaves s [] h = absurd (contains_none s h)
  leaves s (t ∷ steps) h = leaves_written s t steps (t.from == n) refl (leaves s steps) h

  leaving_written : (s t : Step) (steps : List Step) (b : Bool) → (t.from == n) ≡ b → (Contains steps s → Contains (leaving steps n) s) → s.from ≡ n → Contains (t ∷ steps) s → Contains (cond b (t ∷ leaving steps n) (leaving steps n)) s
  leaving_written s t steps true e rec is h = elim (contains_cases t s steps h) [
    | inl here ↦ subst (Contains (t ∷ leaving steps n)) here (contains_first t (leaving steps n))
    | inr there ↦ contains_later t s (leaving steps n) (rec there)
  ]
  leaving_written s t steps false e rec is h = elim (contains_cases t s steps h) [
    | inl here ↦ let yes : (t.from == n) ≡ true = (Decides-eqb t.from n).1 (ap (λ (u : Step). u.from) here ∙ is) in absurd cc
    | inr there ↦ rec there
  ]

  pub leaving_has : (s : Step) (steps : List Step) → s.from ≡ n → Contains steps s → Contains (leaving steps n) s
  leaving_has s [] is h = absurd (contains_none s h)
  leaving_has s (t ∷ steps) is h = leaving_written s t steps (t.from == n) refl (leaving_has s steps is) is h

-- the steps that leave a node lead to nodes
pub leaving_nodes : (net : Net) (n : ℕ) → IsNet net → All (λ (s : Step). IsNode net.nodes s.to) (leaving net.steps n)
leaving_nodes net n is_net = λ k d within.
    let s = get_or (leaving net.steps n) k d in
    (All-contains (λ (t : Step). IsNode net.nodes t.from × IsNode net.nodes t.to) net.steps s is_net (leaves n s net.steps (Contains-get_or (leaving net.steps n) k d within)).0).1
