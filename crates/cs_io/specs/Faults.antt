-- Counts of calls and of faults. They stand still at the greatest u64.
use Rattle.std.specs.Prelude.{ℕ, ◌+◌, ◌-◌, ◌^◌, ◌≤◌, min}

-- the greatest u64
abbrev pub greatest : ℕ
greatest = 2 ^ 64 - 1

-- the count after one more call or fault
abbrev pub next_count : ℕ → ℕ
next_count count = min (count + 1) greatest

-- the count rose, or stands at the greatest u64
abbrev pub Rose : ℕ → ℕ → Type 0
Rose before now = next_count before ≤ now
