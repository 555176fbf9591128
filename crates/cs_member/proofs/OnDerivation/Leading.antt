-- Items that lead to others over symbols that have empty trees.
use Rattle.std.proofs.Common.{◌≡◌, ℕ, zero, suc, ◌+◌, ◌-◌, ◌<◌, ◌≤◌, List, [], ◌∷◌, Some, length, drop, refl, sym, ap, ◌∙◌, subst, arith}
use Rattle.std.specs.Prelude.{All, slice_get}
use Rattle.std.specs.List.{slice_range}
use Rattle.std.proofs.lemmas.List.{length-take}
use Rattle.std.proofs.lemmas.Option.{slice_get_within, get_or_from_slice_get, same_Some}
use Rattle.cs_grammar.specs.declared.symbol.Symbol.{Symbol}
use Rattle.cs_grammar.specs.declared.symbol.Symbol.TheVariants.{Nonterminal}
use Rattle.cs_grammar.specs.Grammar.{Production, PlainGrammar, IsGrammar, IsRule}
use Rattle.cs_grammar.proofs.Measures.{IsRuleOf-rule, All-at}
use Rattle.cs_grammar.proofs.OneTree.{one_rule}
use Rattle.cs_member.specs.declared.tables.item.Item.{Item}
use Rattle.cs_member.specs.Chart.Now.{IsPast}
use Rattle.cs_member.specs.Tables.Tables.{AreEmpties, HasEmpty}
use Rattle.cs_member.proofs.OnTables.Places.{there_at, at_take, at_from_take}
use Rattle.cs_member.proofs.OnChart.Putting.{awaited_within}
use Rattle.cs_member.proofs.OnTables.Entering.{kept_empty, empty_kept, empty_symbol}

module _ {X : Type 0} where
  pub at_drop : (xs : List X) (a k n : ℕ) → n ≡ a + k → slice_get (drop a xs) k ≡ slice_get xs n
  at_drop xs zero k n e = ap (λ m. slice_get xs m) (let same : k ≡ n = omega arith in same)
  at_drop [] (suc a) k n e = refl
  at_drop (x ∷ xs) (suc a) k zero e = absurd (omega arith)
  at_drop (x ∷ xs) (suc a) k (suc n) e = at_drop xs a k n (omega arith)

  -- a part of a list
  pub at_range : (xs : List X) (a b k : ℕ) (x : X) → slice_get (slice_range xs a b) k ≡ Some x → (a + k < b) × (slice_get xs (a + k) ≡ Some x)
  at_range xs a b k x e =
      let lt = slice_get_within (slice_range xs a b) k x e in
      let long = length-take (b - a) (drop a xs) in
      (omega arith, sym (at_drop xs a k (a + k) refl) ∙ at_from_take (drop a xs) (b - a) k x e)

  pub range_at : (xs : List X) (a b n : ℕ) (x : X) → a ≤ n → n < b → slice_get xs n ≡ Some x → slice_get (slice_range xs a b) (n - a) ≡ Some x
  range_at xs a b n x le lt e = at_take (drop a xs) (b - a) (n - a) x (omega arith) (at_drop xs a (n - a) n (omega arith) ∙ e)

  pub all_from : (P : X → Type 0) (xs : List X) → ((k : ℕ) (x : X) → slice_get xs k ≡ Some x → P x) → All P xs
  all_from P xs each k d lt = let there = there_at xs k lt in subst P (sym (get_or_from_slice_get xs k there.0 d there.1)) (each k there.0 there.1)

module _ (g : PlainGrammar) (empties : List ℕ) (grammar : IsGrammar g) (is : AreEmpties g empties) where
  -- the symbols between an item and one past it have empty trees
  pub past_all : (first x : Item) (p : Production) → IsRule g first.rule p → IsPast g first x → All (HasEmpty empties) (slice_range p.right first.place x.place)
  past_all first x p rule past =
      all_from (HasEmpty empties) (slice_range p.right first.place x.place)
      (λ k s at.
      let in_right = at_range p.right first.place x.place k s at in
      let bare = past.bare (first.place + k) (omega arith) in_right.0 in
      let w = bare.1 in
      let same : w.rule ≡ p = one_rule g first.rule first.rule w.rule p refl w.number rule in
      let here : slice_get p.right (first.place + k) ≡ Some (Nonterminal bare.0) = subst (λ (q : Production). slice_get q.right (first.place + k) ≡ Some (Nonterminal bare.0)) same w.at in
      let one : Nonterminal bare.0 ≡ s = same_Some (Nonterminal bare.0) s (sym here ∙ in_right.1) in
      let low = (awaited_within g (record { rule = first.rule; place = first.place + k }) bare.0 p rule (IsRuleOf-rule g first.rule p grammar rule) w).1 in
      subst (λ (t : Symbol). HasEmpty empties t) one (kept_empty g empties bare.0 is low bare.2))

  -- and where they have, it is past it
  pub all_past : (first : Item) (k : ℕ) (p : Production) → IsRule g first.rule p → first.place ≤ k → k ≤ length p.right → All (HasEmpty empties) (slice_range p.right first.place k) → IsPast g first (record { rule = first.rule; place = k })
  all_past first k p rule le within all = record {
    same = refl;
    low = le;
    bare = λ i ge lt.
        let there = there_at p.right i (omega arith) in
        let has = All-at (HasEmpty empties) (slice_range p.right first.place k) (i - first.place) there.0 all (range_at p.right first.place k i there.0 ge lt there.1) in
        let empty = empty_symbol empties there.0 has in
        (empty.0, record { rule = p; number = rule; at = there.1 ∙ ap Some empty.1 }, empty_kept g empties empty.0 is empty.2);
  }
