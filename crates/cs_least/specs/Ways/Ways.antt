-- Ways over fixed steps: what they cost, where they begin, and which are least.
use Rattle.std.specs.Prelude.{◌≡◌, ℕ, ◌+◌, ◌-◌, ◌<◌, ◌≤◌, List, Option, Some, None, length, slice_get, slice_index_or, All, Contains, MatchOption}
use Rattle.cs_grammar.specs.Grammar.{IsNumberOf}
use Rattle.cs_grammar.specs.Entries.{entry_or}
use Rattle.cs_least.specs.declared.ways.step.Step.{Step}
use Rattle.cs_least.specs.declared.ways.step.Source.{Source}
use Rattle.cs_least.specs.declared.ways.reach.Reach.{Reach}
use Rattle.cs_least.specs.declared.ways.reach.Reach.TheVariants.{Never, Large, Least}

-- how many nodes there are, and the steps between them
pub record Net : Type 0 where
  pub nodes : ℕ
  pub steps : List Step

abbrev pub net_of : ℕ → List Step → Net
net_of nodes steps = record { nodes = nodes; steps = steps }

-- one of so many nodes, which are numbered from 1
abbrev pub IsNode : ℕ → ℕ → Type 0
IsNode nodes n = IsNumberOf nodes n

-- each step leads from a node to a node
abbrev pub IsNet : Net → Type 0
IsNet net = All (λ (s : Step). IsNode net.nodes s.from × IsNode net.nodes s.to) net.steps

-- A way begins at the source at an index of the list of sources, or goes on by a step.
pub data Way : Type 0 where
  Begin : (index : ℕ) → (source : Source) → Way
  On : (way : Way) → (step : Step) → Way

-- a way from one of the sources to node n, by steps of the net each of which leaves the node that was reached
abbrev pub IsWay : Net → List Source → ℕ → Way → Type 0
IsWay net sources n (Begin i s) = (slice_get sources i ≡ Some s) × (s.node ≡ n)
IsWay net sources n (On w s) = Contains net.steps s × (s.to ≡ n) × IsWay net sources s.from w

-- what a way costs: its source and its steps together
abbrev pub way_cost : Way → ℕ
way_cost (Begin i s) = s.cost
way_cost (On w s) = way_cost w + s.cost

-- the index of a way's source
abbrev pub way_origin : Way → ℕ
way_origin (Begin i s) = i
way_origin (On w s) = way_origin w

-- A way to node n costs this much and begins at this source; no way to n costs less, and none that costs as much begins
-- at an earlier source.
pub record IsLeastWay (net : Net) (sources : List Source) (n cost origin : ℕ) : Type 0 where
  pub way : Way
  pub is_way : IsWay net sources n way
  pub costs : way_cost way ≡ cost
  pub begins : way_origin way ≡ origin
  pub least : (v : Way) → IsWay net sources n v → cost ≤ way_cost v
  pub first : (v : Way) → IsWay net sources n v → way_cost v ≡ cost → origin ≤ way_origin v

-- What is told of node n under a limit. Never: no way reaches it. Large: one does, and each costs more than the limit.
-- Least: the least cost, which is within the limit, and the first source of the ways that cost as much.
abbrev pub IsReach : ℕ → Net → List Source → ℕ → Reach → Type 0
IsReach limit net sources n Never = (w : Way) → IsWay net sources n w → ⊥
IsReach limit net sources n Large = (w : Way) × IsWay net sources n w × ((v : Way) → IsWay net sources n v → limit < way_cost v)
IsReach limit net sources n (Least cost origin) = (cost ≤ limit) × IsLeastWay net sources n cost origin

-- what a table says of a node
abbrev pub reach_at : List Reach → ℕ → Reach
reach_at table n = entry_or table n Never

-- the table says of each node what the least way to it costs
pub record AreLeastWays (limit : ℕ) (net : Net) (sources : List Source) (table : List Reach) : Type 0 where
  pub many : length table ≡ net.nodes
  pub exact : (n : ℕ) → IsReach limit net sources n (reach_at table n)

-- a way to n that costs this much ends by this step
abbrev pub IsLastStep : Net → List Source → ℕ → ℕ → Step → Type 0
IsLastStep net sources n cost s = (w : Way) × IsWay net sources n (On w s) × (way_cost (On w s) ≡ cost)

-- the step at index i is the first of the list by which a way to n of this cost ends
pub record IsFirstStep (net : Net) (sources : List Source) (n cost i : ℕ) : Type 0 where
  pub step : Step
  pub at : slice_get net.steps i ≡ Some step
  pub ends : IsLastStep net sources n cost step
  pub first : (k : ℕ) → (s : Step) → k < i → slice_get net.steps k ≡ Some s → IsLastStep net sources n cost s → ⊥

-- no way to n of this cost ends by a step: each is a source alone
abbrev pub HasNoStep : Net → List Source → ℕ → ℕ → Type 0
HasNoStep net sources n cost = (s : Step) → IsLastStep net sources n cost s → ⊥

-- What is told of node n's last steps, where this is told of its ways: the first step of the list by which a least way ends,
-- or none where no least way ends by a step, or where none is within the limit.
abbrev pub IsFirstTold : Net → List Source → ℕ → Reach → Option ℕ → Type 0
IsFirstTold net sources n (Least cost origin) first = MatchOption first (HasNoStep net sources n cost) (IsFirstStep net sources n cost)
IsFirstTold net sources n Large first = first ≡ None
IsFirstTold net sources n Never first = first ≡ None

-- so much is told of each node
pub record AreFirstSteps (net : Net) (sources : List Source) (table : List Reach) (firsts : List (Option ℕ)) : Type 0 where
  pub many : length firsts ≡ net.nodes
  pub each : (n : ℕ) → IsNode net.nodes n → IsFirstTold net sources n (reach_at table n) (slice_index_or firsts (n - 1) None)

-- for every limit and list of sources of which this is the table of least ways
abbrev pub TellFirstSteps : Net → List Reach → List (Option ℕ) → Type 0
TellFirstSteps net table firsts =
    (limit : ℕ) (sources : List Source) → AreLeastWays limit net sources table → AreFirstSteps net sources table firsts
