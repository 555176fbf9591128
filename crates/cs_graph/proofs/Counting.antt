-- Marks, set and counted.
use Rattle.std.proofs.Common.{◌≡◌, ◌⊎◌, ℕ, zero, suc, ◌+◌, ◌<◌, Bool, true, false, List, [], ◌∷◌, length, replicate, get_or, refl, sym, ap, ◌∙◌, arith, inl, inr}
use Rattle.std.proofs.Math.ListN.{set}
use Rattle.std.proofs.lemmas.Bool.{false≢true}
use Rattle.cs_graph.specs.Marks.{IsMarked, unmarked}

pub true_or_false : (b : Bool) → (b ≡ true) ⊎ (b ≡ false)
true_or_false true = inl refl
true_or_false false = inr refl

pub unmarked-replicate : (n : ℕ) → unmarked (replicate n false) ≡ n
unmarked-replicate zero = refl
unmarked-replicate (suc n) = omega (arith, unmarked-replicate n)

pub unmarked-set : (marks : List Bool) (i : ℕ) → i < length marks → get_or marks i false ≡ false → unmarked (set marks i true) + 1 ≡ unmarked marks
unmarked-set [] i lt e = absurd (omega arith)
unmarked-set (true ∷ marks) zero lt e = absurd (false≢true (sym e))
unmarked-set (false ∷ marks) zero lt e = refl
unmarked-set (true ∷ marks) (suc i) lt e = unmarked-set marks i (omega arith) e
unmarked-set (false ∷ marks) (suc i) lt e = omega (arith, unmarked-set marks i (omega arith) e)

pub marked_there : (marks : List Bool) (i : ℕ) → i < length marks → IsMarked (set marks i true) i
marked_there [] i lt = absurd (omega arith)
marked_there (b ∷ marks) zero lt = refl
marked_there (b ∷ marks) (suc i) lt = marked_there marks i (omega arith)

pub marked_still : (marks : List Bool) (i j : ℕ) → IsMarked marks j → IsMarked (set marks i true) j
marked_still [] i j e = absurd (false≢true e)
marked_still (b ∷ marks) zero zero e = refl
marked_still (b ∷ marks) zero (suc j) e = e
marked_still (b ∷ marks) (suc i) zero e = e
marked_still (b ∷ marks) (suc i) (suc j) e = marked_still marks i j e

pub marked_before : (marks : List Bool) (i j : ℕ) → IsMarked (set marks i true) j → IsMarked marks j ⊎ (j ≡ i)
marked_before [] i j e = absurd (false≢true e)
marked_before (b ∷ marks) zero zero e = inr refl
marked_before (b ∷ marks) zero (suc j) e = inl e
marked_before (b ∷ marks) (suc i) zero e = inl e
marked_before (b ∷ marks) (suc i) (suc j) e = elim (marked_before marks i j e) [ inl h ↦ inl h | inr h ↦ inr (ap suc h) ]

pub unmarked_not : (marks : List Bool) (i : ℕ) → get_or marks i false ≡ false → IsMarked marks i → ⊥
unmarked_not marks i e m = false≢true (sym e ∙ m)

pub none_marked : (n i : ℕ) → IsMarked (replicate n false) i → ⊥
none_marked zero i e = false≢true e
none_marked (suc n) zero e = false≢true e
none_marked (suc n) (suc i) e = none_marked n i e
