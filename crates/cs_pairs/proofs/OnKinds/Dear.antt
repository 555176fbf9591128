-- Trees of which one at the rim is as large as a number are as large together.
use Rattle.std.proofs.Common.{◌≡◌, ℕ, ◌-◌, ◌<◌, ◌≤◌, List, [], ◌∷◌, length, get_or, refl, sym, subst, ⊎_elim, arith}
use Rattle.cs_grammar.specs.declared.symbol.Symbol.{Symbol}
use Rattle.cs_grammar.specs.Grammar.{PlainGrammar}
use Rattle.cs_grammar.specs.Weights.{Measure}
use Rattle.cs_grammar.specs.Tree.{Tree, Forest, Bare, Grown, size, sizes, yield, yields}
use Rattle.cs_pairs.specs.declared.kinds.kind.TreeKind.{TreeKind}
use Rattle.cs_pairs.specs.declared.kinds.kind.TreeKind.TheVariants.{Any, Empty, Begins, Ends}
use Rattle.cs_pairs.specs.Kinds.Kinds.{IsOfKind, IsTreeOfKind, AreTreesOfKind, before, behind}
use Rattle.cs_pairs.specs.Kinds.Sweep.{node_size}
use Rattle.cs_pairs.proofs.OnKinds.Joined.{joined_cases}
use Rattle.cs_pairs.proofs.OnKinds.Placing.{behind_twice}

-- where no tree at all is of a kind, the trees before one of the kind are of it too
pub bare_kind : (k : TreeKind) → IsOfKind k [] → before k ≡ k
bare_kind Any h = refl
bare_kind Empty h = refl
bare_kind (Begins b) h = let e = h.1 in absurd cc
bare_kind (Ends a) ([], e) = absurd cc
bare_kind (Ends a) (x ∷ rest, e) = absurd cc

module _ (w : Measure) (g : PlainGrammar) (n : ℕ) where
  abbrev Dear : TreeKind → Symbol → Type 0
  Dear k x = (t : Tree) → IsTreeOfKind g k x t → n ≤ size w t

  dear_first : (k : TreeKind) (x : Symbol) (xs : List Symbol) → Dear k x → Dear (before k) x → (f : Forest) → AreTreesOfKind g k (x ∷ xs) f → n ≤ sizes w f
  dear_first k x xs own other Bare h = absurd h.0
  dear_first k x xs own other (Grown t f) h =
      ⊎_elim
      (λ o. omega (arith, own t (h.0.0, o.0)))
      (λ o. omega (arith, other t (h.0.0, o.0)))
      (joined_cases k (yield t) (yields f) h.1)

  dear_last : (k : TreeKind) (x : Symbol) (xs : List Symbol) (d : Symbol) → Dear k (get_or (x ∷ xs) (length xs) d) → Dear (behind k) (get_or (x ∷ xs) (length xs) d) → (f : Forest) → AreTreesOfKind g k (x ∷ xs) f → n ≤ sizes w f
  dear_last k x [] d own other Bare h = absurd h.0
  dear_last k x [] d own other (Grown t Bare) h =
      ⊎_elim
      (λ o. omega (arith, own t (h.0.0, o.0)))
      (λ o. omega (arith, own t (h.0.0, subst (λ j. IsOfKind j (yield t)) (bare_kind k o.1) o.0)))
      (joined_cases k (yield t) [] h.1)
  dear_last k x [] d own other (Grown t (Grown u f)) h = absurd h.0.1
  dear_last k x (y ∷ xs) d own other Bare h = absurd h.0
  dear_last k x (y ∷ xs) d own other (Grown t f) h =
      ⊎_elim
      (λ o. omega (arith, dear_last (behind k) y xs d other (subst (λ j. Dear j (get_or (y ∷ xs) (length xs) d)) (sym (behind_twice k).1) other) f (h.0.1, o.1)))
      (λ o. omega (arith, dear_last k y xs d own other f (h.0.1, o.1)))
      (joined_cases k (yield t) (yields f) h.1)

  -- in the names of the code
  pub dear_at_first : (k : TreeKind) (xs : List Symbol) (d : Symbol) → 0 < length xs → Dear k (get_or xs 0 d) → Dear (before k) (get_or xs 0 d) → (f : Forest) → AreTreesOfKind g k xs f → n < node_size w f
  dear_at_first k [] d some own other f h = absurd (omega (arith, some))
  dear_at_first k (x ∷ xs) d some own other f h = omega (arith, dear_first k x xs own other f h)

  pub dear_at_last : (k : TreeKind) (xs : List Symbol) (d : Symbol) → 0 < length xs → Dear k (get_or xs (length xs - 1) d) → Dear (behind k) (get_or xs (length xs - 1) d) → (f : Forest) → AreTreesOfKind g k xs f → n < node_size w f
  dear_at_last k [] d some own other f h = absurd (omega (arith, some))
  dear_at_last k (x ∷ xs) d some own other f h =
      let at : length (x ∷ xs) - 1 ≡ length xs = omega arith in
      let own' = subst (λ i. Dear k (get_or (x ∷ xs) i d)) at own in
      let other' = subst (λ i. Dear (behind k) (get_or (x ∷ xs) i d)) at other in
      omega (arith, dear_last k x xs d own' other' f h)
