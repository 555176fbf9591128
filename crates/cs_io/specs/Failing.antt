-- The calls of a desk or a sink in memory that are made to fail.
use Rattle.std.specs.Prelude.{ℕ, List, Bool, ◌==◌}
use Rattle.std.specs.List.{list_any}

-- whether the number of a call, from 0, is in the list
abbrev pub fails_at : List ℕ → ℕ → Bool
fails_at failing call = list_any (λ number. number == call) failing
