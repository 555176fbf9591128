-- The limits of a pattern.
use Rattle.std.specs.Prelude.{ℕ, nat_lt, if◌then◌else◌, Option, Some, None}
use Rattle.cs_pattern.specs.declared.text.fault.PatternFault.{PatternFault}
use Rattle.cs_pattern.specs.declared.text.fault.PatternFault.TheVariants.{TooDeep, TooManyPositions}

-- the limit that a pattern of this depth and so many leaves passes: the depth is tried first
abbrev pub passed_limit : ℕ → ℕ → Option PatternFault
passed_limit depth leaves = if nat_lt 200 depth then Some (TooDeep depth 200) else (if nat_lt 8192 leaves then Some (TooManyPositions 8192) else None)
