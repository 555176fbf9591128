-- Candidates: ways that were found, by what they cost, their source and their node.
use Rattle.std.specs.Prelude.{◌≡◌, ℕ, ◌+◌, Bool, false, not, List, Option, Some, None, Contains, slice_get, nat_le, if◌then◌else◌}
use Rattle.std.specs.declared.cmp.Ordering.{Ordering}
use Rattle.std.specs.Ordering.{nat_cmp, ordering_then, is_lt}
use Rattle.std.specs.declared.cmp.Reverse.{Reverse}
use Rattle.cs_grammar.specs.Weights.{capped}
use Rattle.cs_least.specs.declared.ways.step.Step.{Step}
use Rattle.cs_least.specs.declared.ways.step.Source.{Source}
use Rattle.cs_least.specs.declared.ways.candidate.Candidate.{Candidate}
use Rattle.cs_least.specs.declared.ways.reach.Reach.{Reach}
use Rattle.cs_least.specs.declared.ways.reach.Reach.TheVariants.{Large, Least}

abbrev pub beginning : ℕ → ℕ → Source → Candidate
beginning limit i s = record { cost = capped limit s.cost; origin = i; node = s.node }

abbrev pub after : ℕ → Candidate → Step → Candidate
after limit c s = record { cost = capped limit (c.cost + s.cost); origin = c.origin; node = s.to }

abbrev pub reach_of : ℕ → Candidate → Reach
reach_of limit c = if nat_le c.cost limit then Least c.cost c.origin else Large

-- the beginning at one of these sources
abbrev pub IsBeginning : ℕ → List Source → Candidate → Type 0
IsBeginning limit sources c = (i : ℕ) × (s : Source) × (slice_get sources i ≡ Some s) × (c ≡ beginning limit i s)

-- what was found goes on by one of these steps
abbrev pub IsAfter : ℕ → Candidate → List Step → Candidate → Type 0
IsAfter limit found steps c = (s : Step) × Contains steps s × (c ≡ after limit found s)

-- the order of the heap: what comes first is greatest
abbrev pub order : Reverse Candidate → Reverse Candidate → Ordering
order x y =
    ordering_then (nat_cmp y.0.cost x.0.cost) (ordering_then (nat_cmp y.0.origin x.0.origin) (nat_cmp y.0.node x.0.node))

-- whether something is known and what was found doesn't come before it
abbrev pub is_known : Option Candidate → Candidate → Bool
is_known None found = false
is_known (Some best) found = not (is_lt (order (record { 0 = best }) (record { 0 = found })))
