-- Numbers that are drawn from a sequence (linear congruential sequences: Knuth, The Art of Computer Programming 2, 3.2.1; the
-- multiplier and the increment are those of his MMIX).
use Rattle.std.specs.Prelude.{ℕ, zero, suc, ◌+◌, ◌*◌, ◌/◌, ◌%◌, ◌^◌, List, [], ◌∷◌, ◌++◌}

-- the number behind this one in the sequence
abbrev pub next : ℕ → ℕ
next number = (number * 6364136223846793005 + 1442695040888963407) % 2 ^ 64

-- what was drawn, and the number at which the sequence then stands
pub record Drawn (A : Type 0) : Type 0 where
  pub what : A
  pub behind : ℕ

-- one of the numbers below k, from the upper bits of the next number
abbrev pub draw : ℕ → ℕ → Drawn ℕ
draw k number = record { what = (next number / 2 ^ 33) % k; behind = next number }

-- one of the numbers from 1 to k
abbrev pub one_of : ℕ → ℕ → Drawn ℕ
one_of k number = record { what = 1 + (draw k number).what; behind = (draw k number).behind }

-- what is drawn for each of the numbers from 1 to n, one behind the other
unfoldable pub several : {A : Type 0} → (ℕ → ℕ → Drawn A) → ℕ → ℕ → Drawn (List A)
several one zero number = record { what = []; behind = number }
several one (suc n) number =
    let before = several one n number in
    let last = one (suc n) before.behind in
    record { what = before.what ++ last.what ∷ []; behind = last.behind }
