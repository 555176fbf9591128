-- Lists of one element and of none.
use Rattle.std.proofs.Common.{◌≡◌, ℕ, zero, suc, Bool, true, false, [], ◌∷◌, refl, arith, Contains}
use Rattle.std.specs.Prelude.{if◌then◌else◌}

pub none_of : {X : Type 0} (x : X) → Contains [] x → ⊥
none_of x (k, lt, e) = omega (arith, lt)

pub one_of : (n m : ℕ) → Contains (n ∷ []) m → n ≡ m
one_of n m (zero, lt, e) = e
one_of n m (suc k, lt, e) = absurd (omega (arith, lt))

pub in_one : (b : Bool) (n m : ℕ) → Contains (if b then n ∷ [] else []) m → (b ≡ true) × (n ≡ m)
in_one true n m h = (refl, one_of n m h)
in_one false n m h = absurd (none_of m h)
