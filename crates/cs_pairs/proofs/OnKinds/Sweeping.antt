-- One more symbol in a sweep.
use Rattle.std.proofs.Common.{◌≡◌, ℕ, ◌≤◌, ◌⊎◌, List, [], ◌∷◌, ◌++◌, length, drop, refl, sym, ap, ◌∙◌, subst, ⊎_elim, inl, inr, arith}
use Rattle.std.proofs.lemmas.List.{drop_all}
use Rattle.cs_grammar.specs.declared.symbol.Symbol.{Symbol}
use Rattle.cs_grammar.specs.declared.symbol.Symbol.TheVariants.{Token}
use Rattle.cs_grammar.specs.Grammar.{PlainGrammar}
use Rattle.cs_grammar.specs.Weights.{Measure}
use Rattle.cs_grammar.specs.Tree.{Tree, Leaf, Node, Forest, Bare, Grown, size, sizes, yield, yields}
use Rattle.cs_least.specs.declared.cost.cost.Cost.{Cost}
use Rattle.cs_least.specs.declared.cost.cost.Cost.TheVariants.{Never}
use Rattle.cs_least.specs.Cost.Least.{IsCost}
use Rattle.cs_least.specs.Cost.Rank.{capped, rank, plus}
use Rattle.cs_least.proofs.OnCost.Ranks.{IsCost-from, IsCost-plus, IsCost-same, cost_low, cost_reached, cost_capped}
use Rattle.cs_pairs.specs.declared.kinds.kind.TreeKind.{TreeKind}
use Rattle.cs_pairs.specs.declared.kinds.kind.TreeKind.TheVariants.{Any, Empty, Begins, Ends}
use Rattle.cs_pairs.specs.declared.kinds.sweep.Sweep.{Sweep}
use Rattle.cs_pairs.specs.Kinds.Sweep.{IsSwept}
use Rattle.cs_pairs.specs.Kinds.Kinds.{IsOfKind, IsTreeOfKind, AreTreesOfKind, before, behind}
use Rattle.cs_pairs.specs.Kinds.ListCost.{lesser, bare_cost}
use Rattle.cs_pairs.specs.Kinds.Ways.{AreHere, AreLater, joint_size}
use Rattle.cs_pairs.proofs.OnKinds.Joined.{joined_cases, joined_here, joined_later}
use Rattle.cs_pairs.proofs.OnKinds.ListCosts.{lesser_left, lesser_right, lesser_either, IsCapped-lesser, bare_low, bare_reached, IsCapped-bare}

module _ (w : Measure) (g : PlainGrammar) (k : TreeKind) (x : Symbol) (xs : List Symbol) where
  -- in one of the two ways
  pub one_way : (f : Forest) → AreTreesOfKind g k (x ∷ xs) f → ((p : Tree × Forest) × AreHere g k x xs p × (joint_size w p ≡ sizes w f)) ⊎ ((p : Tree × Forest) × AreLater g k x xs p × (joint_size w p ≡ sizes w f))
  one_way Bare h = absurd h.0
  one_way (Grown t f) h =
      ⊎_elim
      (λ o. inl ((t, f), ((h.0.0, o.0), (h.0.1, o.1)), refl))
      (λ o. inr ((t, f), ((h.0.0, o.0), (h.0.1, o.1)), refl))
      (joined_cases k (yield t) (yields f) h.1)

  pub from_here : (p : Tree × Forest) → AreHere g k x xs p → AreTreesOfKind g k (x ∷ xs) (Grown p.0 p.1)
  from_here p h = ((h.0.0, h.1.0), joined_here k (yield p.0) (yields p.1) h.0.1 h.1.1)

  pub from_later : (p : Tree × Forest) → AreLater g k x xs p → AreTreesOfKind g k (x ∷ xs) (Grown p.0 p.1)
  from_later p h = ((h.0.0, h.1.0), joined_later k (yield p.0) (yields p.1) h.0.1 h.1.1)

module _ (w : Measure) (g : PlainGrammar) where
  pub swept_none : (k : TreeKind) → IsCost w.limit (AreTreesOfKind g k []) (sizes w) (bare_cost k)
  swept_none k = IsCost-from w.limit (AreTreesOfKind g k []) (sizes w) (bare_cost k) (IsCapped-bare w k) (λ h. (Bare, bare_reached w g k h, omega arith)) low
    where
      low : (f : Forest) → AreTreesOfKind g k [] f → rank w.limit (bare_cost k) ≤ capped w.limit (sizes w f)
      low Bare h = omega (arith, bare_low w k h.1)
      low (Grown t f) h = absurd h.0

  -- a sweep over no symbols is one over what is left behind all
  pub swept_behind : (xs : List Symbol) (sweep : Sweep) → IsSwept w g [] sweep → IsSwept w g (drop (length xs) xs) sweep
  swept_behind xs sweep none = subst (λ (l : List Symbol). IsSwept w g l sweep) (sym (drop_all (length xs) xs (omega arith))) none

  module _ (k : TreeKind) (x : Symbol) (xs : List Symbol) where
    -- the lesser of the two ways is the least
    pub lesser_way : (here later : Cost) → IsCost w.limit (AreHere g k x xs) (joint_size w) here → IsCost w.limit (AreLater g k x xs) (joint_size w) later → IsCost w.limit (AreTreesOfKind g k (x ∷ xs)) (sizes w) (lesser w.limit here later)
    lesser_way here later is_here is_later =
        IsCost-from w.limit (AreTreesOfKind g k (x ∷ xs)) (sizes w) (lesser w.limit here later)
        (IsCapped-lesser w here later (cost_capped w.limit (AreHere g k x xs) (joint_size w) here is_here) (cost_capped w.limit (AreLater g k x xs) (joint_size w) later is_later))
        (λ h.
        ⊎_elim
        (λ e.
        let p = cost_reached w.limit (AreHere g k x xs) (joint_size w) here is_here (omega (arith, h, ap (rank w.limit) e)) in
        (Grown p.0.0 p.0.1, from_here w g k x xs p.0 p.1, omega (arith, p.2, ap (rank w.limit) e)))
        (λ e.
        let p = cost_reached w.limit (AreLater g k x xs) (joint_size w) later is_later (omega (arith, h, ap (rank w.limit) e)) in
        (Grown p.0.0 p.0.1, from_later w g k x xs p.0 p.1, omega (arith, p.2, ap (rank w.limit) e)))
        (lesser_either w here later))
        (λ f h.
        ⊎_elim
        (λ o. omega (arith, lesser_left w here later, cost_low w.limit (AreHere g k x xs) (joint_size w) here is_here o.0 o.1, o.2))
        (λ o. omega (arith, lesser_right w here later, cost_low w.limit (AreLater g k x xs) (joint_size w) later is_later o.0 o.1, o.2))
        (one_way w g k x xs f h))

  module _ (k : TreeKind) (x : Symbol) (xs : List Symbol) (own rest : Cost) where
    pub here_cost : IsCost w.limit (IsTreeOfKind g k x) (size w) own → IsCost w.limit (AreTreesOfKind g (behind k) xs) (sizes w) rest → IsCost w.limit (AreHere g k x xs) (joint_size w) (plus w.limit own rest)
    here_cost first others = IsCost-plus w.limit (IsTreeOfKind g k x) (AreTreesOfKind g (behind k) xs) (size w) (sizes w) own rest first others

    pub later_cost : IsCost w.limit (IsTreeOfKind g (before k) x) (size w) own → IsCost w.limit (AreTreesOfKind g k xs) (sizes w) rest → IsCost w.limit (AreLater g k x xs) (joint_size w) (plus w.limit own rest)
    later_cost first others = IsCost-plus w.limit (IsTreeOfKind g (before k) x) (AreTreesOfKind g k xs) (size w) (sizes w) own rest first others

  -- behind a tree of a kind the two ways are one
  pub behind_cost : (k : TreeKind) (x : Symbol) (xs : List Symbol) (own rest : Cost) → IsCost w.limit (IsTreeOfKind g (behind k) x) (size w) own → IsCost w.limit (AreTreesOfKind g (behind k) xs) (sizes w) rest → IsCost w.limit (AreTreesOfKind g (behind k) (x ∷ xs)) (sizes w) (plus w.limit own rest)
  behind_cost k x xs own rest first others =
      let Both = λ (p : Tree × Forest). IsTreeOfKind g (behind k) x p.0 × AreTreesOfKind g (behind k) xs p.1 in
      let both = IsCost-plus w.limit (IsTreeOfKind g (behind k) x) (AreTreesOfKind g (behind k) xs) (size w) (sizes w) own rest first others in
      IsCost-same w.limit Both (AreTreesOfKind g (behind k) (x ∷ xs)) (joint_size w) (sizes w) (plus w.limit own rest)
      (λ p h. (Grown p.0 p.1, ((h.0.0, h.1.0), joined k (yield p.0) (yields p.1) h.0.1 h.1.1), omega arith))
      (λ f h. apart f h) both
    where
      joined : (j : TreeKind) (u v : List ℕ) → IsOfKind (behind j) u → IsOfKind (behind j) v → IsOfKind (behind j) (u ++ v)
      joined Any u v hu hv = tt
      joined Empty u v hu hv = joined_here Empty u v hu hv
      joined (Begins b) u v hu hv = tt
      joined (Ends a) u v hu hv = joined_here Empty u v hu hv

      parted : (j : TreeKind) (u v : List ℕ) → IsOfKind (behind j) (u ++ v) → IsOfKind (behind j) u × IsOfKind (behind j) v
      parted Any u v h = (tt, tt)
      parted Empty u v h = ⊎_elim (λ o. o) (λ o. o) (joined_cases Empty u v h)
      parted (Begins b) u v h = (tt, tt)
      parted (Ends a) u v h = ⊎_elim (λ o. o) (λ o. o) (joined_cases Empty u v h)

      apart : (f : Forest) → AreTreesOfKind g (behind k) (x ∷ xs) f → (p : Tree × Forest) × (IsTreeOfKind g (behind k) x p.0 × AreTreesOfKind g (behind k) xs p.1) × (joint_size w p ≤ sizes w f)
      apart Bare h = absurd h.0
      apart (Grown t f) h = let o = parted k (yield t) (yields f) h.1 in ((t, f), ((h.0.0, o.0), (h.0.1, o.1)), omega arith)

  -- trees behind a leaf of the token begin with it, whatever they are
  token_first : (b t : ℕ) (xs : List Symbol) (cost : Cost) → t ≡ b → IsCost w.limit (AreTreesOfKind g Any (Token t ∷ xs)) (sizes w) cost → IsCost w.limit (AreTreesOfKind g (Begins b) (Token t ∷ xs)) (sizes w) cost
  token_first b t xs cost same any =
      IsCost-same w.limit (AreTreesOfKind g Any (Token t ∷ xs)) (AreTreesOfKind g (Begins b) (Token t ∷ xs)) (sizes w) (sizes w) cost
      begins
      (λ f h. (f, (h.0, tt), omega arith))
      any
    where
      begins : (f : Forest) → AreTreesOfKind g Any (Token t ∷ xs) f → (e : Forest) × AreTreesOfKind g (Begins b) (Token t ∷ xs) e × (sizes w e ≤ sizes w f)
      begins Bare h = absurd h.0
      begins (Grown (Leaf s) f) h =
          let leaf : t ≡ s = (let e = h.0.0 in cc) in
          (Grown (Leaf s) f, (h.0, (yields f, ap (λ k. k ∷ yields f) (sym leaf ∙ same))), omega arith)
      begins (Grown (Node r children) f) h = let e = h.0.0.2 in absurd cc

  -- behind a leaf of another token none do
  token_other : (b t : ℕ) (xs : List Symbol) → (t ≡ b → ⊥) → (f : Forest) → AreTreesOfKind g (Begins b) (Token t ∷ xs) f → ⊥
  token_other b t xs other Bare h = h.0
  token_other b t xs other (Grown (Leaf s) f) h =
      let leaf : t ≡ s = (let e = h.0.0 in cc) in
      let first : s ≡ b = (let e = h.1.1 in cc) in
      other (leaf ∙ first)
  token_other b t xs other (Grown (Node r children) f) h = let e = h.0.0.2 in absurd cc

  module _ (s : Sweep) (b t : ℕ) (xs : List Symbol) (own sum : Cost) (kind : s.kind ≡ Begins b) (leaf : IsCost w.limit (IsTreeOfKind g Any (Token t)) (size w) own) (is_sum : sum ≡ plus w.limit own s.rest) (swept : IsSwept w g xs s) where
    any_trees : IsCost w.limit (AreTreesOfKind g Any (Token t ∷ xs)) (sizes w) sum
    any_trees =
        let others = subst (λ (j : TreeKind). IsCost w.limit (AreTreesOfKind g j xs) (sizes w) s.rest) (ap behind kind) swept.is_rest in
        subst (IsCost w.limit (AreTreesOfKind g Any (Token t ∷ xs)) (sizes w)) (sym is_sum) (behind_cost (Begins b) (Token t) xs own s.rest leaf others)

    behind_trees : IsCost w.limit (AreTreesOfKind g (behind s.kind) (Token t ∷ xs)) (sizes w) sum
    behind_trees = subst (λ (j : TreeKind). IsCost w.limit (AreTreesOfKind g j (Token t ∷ xs)) (sizes w) sum) (sym (ap behind kind)) any_trees

    pub swept_first : t ≡ b → IsSwept w g (Token t ∷ xs) (record { kind = s.kind; whole = sum; rest = sum })
    swept_first same = record {
      is_whole = subst (λ (j : TreeKind). IsCost w.limit (AreTreesOfKind g j (Token t ∷ xs)) (sizes w) sum) (sym kind) (token_first b t xs sum same any_trees);
      is_rest = behind_trees;
    }

    pub swept_other : (t ≡ b → ⊥) → IsSwept w g (Token t ∷ xs) (record { kind = s.kind; whole = Never; rest = sum })
    swept_other other = record {
      is_whole = subst (λ (j : TreeKind). IsCost w.limit (AreTreesOfKind g j (Token t ∷ xs)) (sizes w) Never) (sym kind) (token_other b t xs other);
      is_rest = behind_trees;
    }
