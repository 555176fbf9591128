-- Whether a seat has seen the end, by the number of its draws that found it.
use Rattle.std.proofs.Common.{◌≡◌, ℕ, arith}
use Rattle.std.specs.Prelude.{nat_lt, false}
use Rattle.std.proofs.lemmas.Bool.{ltb-false}

pub none_over : (n : ℕ) → nat_lt 0 n ≡ false → n ≡ 0
none_over n e = let le = ltb-false 0 n e in omega arith
