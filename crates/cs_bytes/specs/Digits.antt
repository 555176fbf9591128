-- The numbers that digits spell.
use Rattle.std.specs.Prelude.{ℕ, ◌+◌, ◌-◌, ◌*◌, if◌then◌else◌, List, fold}
use Rattle.cs_bytes.specs.Classes.{is_digit, is_between}

-- the value of a digit in a base up to 16
abbrev pub digit_of : ℕ → ℕ
digit_of b =
    if is_digit b then b - 48
    else if is_between 65 70 b then b - 65 + 10
    else if is_between 97 102 b then b - 97 + 10
    else 0

-- the number that the digits spell in the base
abbrev pub number_of : ℕ → List ℕ → ℕ
number_of base digits = fold (λ n b. n * base + digit_of b) 0 digits
