-- What the nodes of an order weigh.
use Rattle.std.proofs.Common.{◌≡◌, ℕ, zero, suc, ◌+◌, ◌<◌, ◌≤◌, Bool, true, false, List, [], ◌∷◌, ◌++◌, length, replicate, get_or, refl, sym, ◌∙◌, subst, append_assoc, arith, inl, inr}
use Rattle.std.specs.Prelude.{Contains, sum, sum_by}
use Rattle.std.proofs.Math.ListN.{set, length-set}
use Rattle.std.proofs.lemmas.Bool.{false≢true}
use Rattle.std.proofs.lemmas.List.{length-replicate}
use Rattle.std.proofs.lemmas.List.Sums.{sum_by-cons}
use Rattle.std.proofs.lemmas.List.Elements.{Contains-append_left, Contains-append_right, Contains-push}
use Rattle.cs_graph.specs.Marks.{IsMarked}
use Rattle.cs_graph.proofs.Counting.{true_or_false, marked_before, none_marked}

-- what the nodes weigh that are not marked
abbrev spare : List Bool → List ℕ → ℕ
spare marks [] = 0
spare [] (w ∷ weights) = 0
spare (true ∷ marks) (w ∷ weights) = spare marks weights
spare (false ∷ marks) (w ∷ weights) = w + spare marks weights

spare-set : (marks : List Bool) (weights : List ℕ) (i : ℕ) → i < length marks → length weights ≡ length marks → get_or marks i false ≡ false → get_or weights i 0 + spare (set marks i true) weights ≡ spare marks weights
spare-set [] weights i lt size e = absurd (omega arith)
spare-set (b ∷ marks) [] i lt size e = absurd (omega arith)
spare-set (true ∷ marks) (w ∷ weights) zero lt size e = absurd (false≢true (sym e))
spare-set (false ∷ marks) (w ∷ weights) zero lt size e = refl
spare-set (true ∷ marks) (w ∷ weights) (suc i) lt size e = spare-set marks weights i (omega arith) (omega arith) e
spare-set (false ∷ marks) (w ∷ weights) (suc i) lt size e = omega (arith, spare-set marks weights i (omega arith) (omega arith) e)

spare-none : (weights : List ℕ) → spare (replicate (length weights) false) weights ≡ sum weights
spare-none [] = refl
spare-none (w ∷ weights) = omega (arith, spare-none weights, sum_by-cons (λ (n : ℕ). n) w weights)

-- A list that holds each of its nodes once weighs at most what all nodes weigh.
module _ (order weights : List ℕ) (within : (i : ℕ) → Contains order i → i < length weights) (once : (before after : List ℕ) (i : ℕ) → order ≡ before ++ i ∷ after → Contains before i → ⊥) where
  weighed : (xs before : List ℕ) (marks : List Bool) → order ≡ before ++ xs → length marks ≡ length weights → ((i : ℕ) → IsMarked marks i → Contains before i) → sum_by (λ node. get_or weights node 0) xs ≤ spare marks weights
  weighed [] before marks is sized marked = omega arith
  weighed (x ∷ xs) before marks is sized marked =
      let there : x < length weights = within x (subst (λ (ys : List ℕ). Contains ys x) (sym is) (Contains-append_right before (x ∷ xs) x (0, omega arith, refl))) in
      elim (true_or_false (get_or marks x false)) [
        | inl m ↦ absurd (once before xs x is (marked x m))
        | inr new ↦
            let rest = weighed xs (before ++ x ∷ []) (set marks x true) (is ∙ sym (append_assoc before (x ∷ []) xs)) (length-set marks x true ∙ sized) (λ i m. elim (marked_before marks x i m) [
              | inl was ↦ Contains-append_left before (x ∷ []) i (marked i was)
              | inr here ↦ subst (Contains (before ++ x ∷ [])) (sym here) (Contains-push before x)
            ]) in
            omega (arith, spare-set marks weights x (omega arith) (sym sized) new, sum_by-cons (λ node. get_or weights node 0) x xs)
      ]

  pub weighed_once : sum_by (λ node. get_or weights node 0) order ≤ sum weights
  weighed_once =
      let first = weighed order [] (replicate (length weights) false) refl (length-replicate (length weights) false) (λ i m. absurd (none_marked (length weights) i m)) in
      omega (arith, spare-none weights)
