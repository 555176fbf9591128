-- The best match so far.
use Rattle.std.specs.Prelude.{ℕ, ◌<◌, ◌≤◌, List, Option, Some, None, take}
use Rattle.cs_pattern_parts.specs.Tree.Pattern.{Regex}
use Rattle.cs_scanner.specs.Automaton.Machine.{MatchesRule}

-- among the fronts of at most i bytes and at least one
pub record IsBestMatch (rs : List Regex) (text : List ℕ) (i rule size : ℕ) : Type 0 where
  pub some : 0 < size
  pub within : size ≤ i
  pub matches : MatchesRule rs rule (take size text)
  pub longest : (other n : ℕ) → n ≤ i → MatchesRule rs other (take n text) → n ≤ size
  pub lowest : (other : ℕ) → MatchesRule rs other (take size text) → rule ≤ other

abbrev pub IsBest : List Regex → List ℕ → ℕ → Option (ℕ × ℕ) → Type 0
IsBest rs text i None = (rule n : ℕ) → 0 < n → n ≤ i → MatchesRule rs rule (take n text) → ⊥
IsBest rs text i (Some m) = IsBestMatch rs text i m.0 m.1
