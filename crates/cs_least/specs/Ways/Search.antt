-- The search: which nodes are settled, and what was found and isn't.
use Rattle.std.specs.Prelude.{◌≡◌, ◌⊎◌, ℕ, ◌+◌, ◌-◌, ◌<◌, ◌≤◌, true, false, List, [], ◌∷◌, Option, Some, None, length, slice_get, slice_index_or, slice_set, Contains}
use Rattle.std.specs.List.Sorted.{IsPermutation}
use Rattle.std.specs.BinaryHeap.{IsHeap}
use Rattle.std.specs.declared.cmp.Reverse.{Reverse}
use Rattle.cs_grammar.specs.Weights.{capped}
use Rattle.cs_least.specs.declared.ways.step.Step.{Step}
use Rattle.cs_least.specs.declared.ways.step.Source.{Source}
use Rattle.cs_least.specs.declared.ways.candidate.Candidate.{Candidate}
use Rattle.cs_least.specs.declared.ways.reach.Reach.{Reach}
use Rattle.cs_least.specs.declared.ways.reach.Reach.TheVariants.{Never, Large, Least}
use Rattle.cs_least.specs.Ways.Ways.{Net, IsNode, Way, IsWay, way_cost, way_origin, reach_at}
use Rattle.cs_least.specs.Ways.Candidates.{beginning, after, reach_of, order, is_known, IsAfter}
use Rattle.cs_least.specs.Ways.Rows.{leaving}

-- what a heap holds
abbrev pub Holds : List (Reverse Candidate) → Candidate → Type 0
Holds heap c = Contains heap (record { 0 = c })

-- the order of what is told: costs within the limit, then Large, then Never
abbrev pub reach_cost : ℕ → Reach → ℕ
reach_cost limit (Least cost origin) = cost
reach_cost limit Large = limit + 1
reach_cost limit Never = limit + 2

abbrev pub reach_origin : Reach → ℕ
reach_origin (Least cost origin) = origin
reach_origin Large = 0
reach_origin Never = 0

-- A cost and a source come no later than another cost and its source: it is less, or as much and the source is no later.
-- Above the limit the sources say nothing.
pub record IsAhead (limit c o d p : ℕ) : Type 0 where
  pub cost : c ≤ d
  pub origin : d ≤ c → c ≤ limit → o ≤ p

abbrev pub IsToldAhead : ℕ → Reach → Candidate → Type 0
IsToldAhead limit r c = IsAhead limit (reach_cost limit r) (reach_origin r) c.cost c.origin

-- some way to the node costs this much, and where that is within the limit it begins at this source
pub record IsFound (limit : ℕ) (net : Net) (sources : List Source) (n cost origin : ℕ) : Type 0 where
  pub way : Way
  pub is_way : IsWay net sources n way
  pub costs : capped limit (way_cost way) ≡ cost
  pub begins : cost ≤ limit → way_origin way ≡ origin

-- the node of a candidate is settled no later than it, or a candidate that comes no later waits
abbrev pub IsCovered : ℕ → List Reach → List (Reverse Candidate) → Candidate → Type 0
IsCovered limit table heap c =
    IsToldAhead limit (reach_at table c.node) c
    ⊎ ((d : Candidate) × Holds heap d × (d.node ≡ c.node) × IsAhead limit d.cost d.origin c.cost c.origin)

-- what is told of a settled node, as a candidate
abbrev pub told : ℕ → List Reach → ℕ → Candidate
told limit table n = record { cost = reach_cost limit (reach_at table n); origin = reach_origin (reach_at table n); node = n }

abbrev pub IsSettled : ℕ → List Reach → ℕ → Type 0
IsSettled limit table n = reach_cost limit (reach_at table n) ≤ limit + 1

-- no cost above the limit is written out
abbrev pub IsCappedReach : ℕ → Reach → Type 0
IsCappedReach limit (Least cost origin) = cost ≤ limit
IsCappedReach limit Large = Unit {0}
IsCappedReach limit Never = Unit {0}

-- what is known of each node is covered
pub record IsKnown (limit : ℕ) (table : List Reach) (known : List (Option Candidate)) (heap : List (Reverse Candidate)) : Type 0 where
  pub node : (p : ℕ) (c : Candidate) → slice_index_or known p None ≡ Some c → c.node ≡ p + 1
  pub cost : (p : ℕ) (c : Candidate) → slice_index_or known p None ≡ Some c → c.cost ≤ limit + 1
  pub covered : (p : ℕ) (c : Candidate) → slice_index_or known p None ≡ Some c → IsCovered limit table heap c

-- nothing is pushed, since what is known of the node comes no later
pub record WasKnown (c : Candidate) (known : List (Option Candidate)) (heap : List (Reverse Candidate)) (known_then : List (Option Candidate)) (heap_then : List (Reverse Candidate)) : Type 0 where
  pub was : is_known (slice_index_or known (c.node - 1) None) c ≡ true
  pub same : known_then ≡ known
  pub waits : heap_then ≡ heap

-- the candidate is pushed, and known now
pub record IsKnownNow (c : Candidate) (known : List (Option Candidate)) (heap : List (Reverse Candidate)) (known_then : List (Option Candidate)) (heap_then : List (Reverse Candidate)) : Type 0 where
  pub written : known_then ≡ slice_set known (c.node - 1) (Some c)
  pub order : IsHeap order heap → IsHeap order heap_then
  pub pushed : IsPermutation (record { 0 = c } ∷ heap) heap_then

abbrev pub IsOffered : Candidate → List (Option Candidate) → List (Reverse Candidate) → List (Option Candidate) → List (Reverse Candidate) → Type 0
IsOffered c known heap known_then heap_then = WasKnown c known heap known_then heap_then ⊎ IsKnownNow c known heap known_then heap_then

-- the candidate is known now, where nothing that is known comes no later
pub record IsFirstNow (c : Candidate) (known known_then : List (Option Candidate)) : Type 0 where
  pub new : is_known (slice_index_or known (c.node - 1) None) c ≡ false
  pub written : known_then ≡ slice_set known (c.node - 1) (Some c)

abbrev pub IsKept : Candidate → List (Option Candidate) → List (Option Candidate) → Type 0
IsKept c known known_then =
    ((is_known (slice_index_or known (c.node - 1) None) c ≡ true) × (known_then ≡ known)) ⊎ IsFirstNow c known known_then

-- what is known is of a kind, and no candidate of the kind comes before what is known of its node
pub record AreFirsts (limit : ℕ) (Kind : Candidate → Type 0) (known : List (Option Candidate)) : Type 0 where
  pub kind : (p : ℕ) (c : Candidate) → slice_index_or known p None ≡ Some c → Kind c
  pub node : (p : ℕ) (c : Candidate) → slice_index_or known p None ≡ Some c → c.node ≡ p + 1
  pub each : (c : Candidate) → Kind c → (b : Candidate) × (slice_index_or known (c.node - 1) None ≡ Some b) × (b.node ≡ c.node) × IsAhead limit b.cost b.origin c.cost c.origin

-- the heap holds what is known of the first nodes, so many
pub record HoldsUpTo (n : ℕ) (known : List (Option Candidate)) (heap : List (Reverse Candidate)) : Type 0 where
  pub all : (p : ℕ) (c : Candidate) → p < n → slice_index_or known p None ≡ Some c → Holds heap c
  pub only : (c : Candidate) → Holds heap c → (p : ℕ) × (slice_index_or known p None ≡ Some c)

-- Candidates of a kind, so many, were pushed where they come before what is known. Whatever the table says: where what was
-- known is covered, what is known now is, and so are the candidates of the kind.
pub record AreOffered (limit : ℕ) (Kind : Candidate → Type 0) (many : ℕ) (known : List (Option Candidate)) (heap : List (Reverse Candidate)) (known_then : List (Option Candidate)) (heap_then : List (Reverse Candidate)) : Type 0 where
  pub size : length known_then ≡ length known
  pub order : IsHeap order heap → IsHeap order heap_then
  pub count : length heap_then ≤ length heap + many
  pub kept : (c : Candidate) → Holds heap c → Holds heap_then c
  pub only : (c : Candidate) → Holds heap_then c → Holds heap c ⊎ Kind c
  pub knows : (table : List Reach) → IsKnown limit table known heap → IsKnown limit table known_then heap_then
  pub each : (table : List Reach) → IsKnown limit table known heap → (c : Candidate) → Kind c → IsCovered limit table heap_then c

-- Where the search stands. What is told and what waits was found; what waits comes no earlier than what is told, of any
-- node; each source, and each step from a settled node, was tried.
pub record IsSearch (limit : ℕ) (net : Net) (sources : List Source) (table : List Reach) (known : List (Option Candidate)) (heap : List (Reverse Candidate)) : Type 0 where
  pub many : length table ≡ net.nodes
  pub capped : (n : ℕ) → IsCappedReach limit (reach_at table n)
  pub found : (n : ℕ) → IsSettled limit table n → IsFound limit net sources n (reach_cost limit (reach_at table n)) (reach_origin (reach_at table n))
  pub nodes : (c : Candidate) → Holds heap c → IsNode net.nodes c.node
  pub waiting : (c : Candidate) → Holds heap c → IsFound limit net sources c.node c.cost c.origin
  pub later : (n : ℕ) (c : Candidate) → IsSettled limit table n → Holds heap c → IsToldAhead limit (reach_at table n) c
  pub begun : (i : ℕ) (s : Source) → slice_get sources i ≡ Some s → IsCovered limit table heap (beginning limit i s)
  pub tried : (s : Step) → Contains net.steps s → IsSettled limit table s.from → IsCovered limit table heap (after limit (told limit table s.from) s)
  pub know : length known ≡ net.nodes
  pub knows : IsKnown limit table known heap

-- how many steps leave the nodes that aren't settled, of those from node n on
abbrev pub steps_from : List Step → ℕ → List Reach → ℕ
steps_from steps n [] = 0
steps_from steps n (Never ∷ table) = length (leaving steps n) + steps_from steps (n + 1) table
steps_from steps n (Large ∷ table) = steps_from steps (n + 1) table
steps_from steps n (Least cost origin ∷ table) = steps_from steps (n + 1) table

abbrev pub unsettled_steps : List Step → List Reach → ℕ
unsettled_steps steps table = steps_from steps 1 table

-- the node of what was found was settled, and nothing changes
pub record WasSettled (table : List Reach) (known : List (Option Candidate)) (heap : List (Reverse Candidate)) (n : ℕ) (table_then : List Reach) (known_then : List (Option Candidate)) (heap_then : List (Reverse Candidate)) : Type 0 where
  pub was : (reach_at table n ≡ Never) → ⊥
  pub same : table_then ≡ table
  pub knows : known_then ≡ known
  pub waits : heap_then ≡ heap

-- it is settled now, and what goes on by its steps is offered
pub record IsSettledNow (limit : ℕ) (net : Net) (found : Candidate) (table : List Reach) (known : List (Option Candidate)) (heap : List (Reverse Candidate)) (table_then : List Reach) (known_then : List (Option Candidate)) (heap_then : List (Reverse Candidate)) : Type 0 where
  pub was : reach_at table found.node ≡ Never
  pub told : table_then ≡ slice_set table (found.node - 1) (reach_of limit found)
  pub offered : AreOffered limit (IsAfter limit found (leaving net.steps found.node)) (length (leaving net.steps found.node)) known heap known_then heap_then

abbrev pub IsSettling : ℕ → Net → Candidate → List Reach → List (Option Candidate) → List (Reverse Candidate) → List Reach → List (Option Candidate) → List (Reverse Candidate) → Type 0
IsSettling limit net found table known heap table_then known_then heap_then =
    WasSettled table known heap found.node table_then known_then heap_then
    ⊎ IsSettledNow limit net found table known heap table_then known_then heap_then
