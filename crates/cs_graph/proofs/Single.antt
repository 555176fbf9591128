-- Lists of one node and of none.
use Rattle.std.proofs.Common.{◌≡◌, ℕ, zero, suc, [], ◌∷◌, sym, arith}
use Rattle.std.specs.Prelude.{Contains}

pub contained_alone : (x y : ℕ) → Contains (x ∷ []) y → y ≡ x
contained_alone x y (zero, lt, e) = sym e
contained_alone x y (suc k, lt, e) = absurd (omega arith)

pub contains_none : (x : ℕ) → Contains [] x → ⊥
contains_none x h = let lt = h.1 in absurd (omega arith)
