-- What the steps of the search do with what waits.
use Rattle.std.specs.Prelude.{◌≡◌, ℕ, List, Option, length}
use Rattle.std.specs.BinaryHeap.{heap_items, IsHeap}
use Rattle.std.specs.declared.collections.BinaryHeap.{BinaryHeap}
use Rattle.std.specs.Global.{Global, Vec}
use Rattle.std.specs.declared.cmp.Reverse.{Reverse}
use Rattle.cs_least.specs.declared.ways.step.Step.{Step}
use Rattle.cs_least.specs.declared.ways.step.Source.{Source}
use Rattle.cs_least.specs.declared.ways.candidate.Candidate.{Candidate}
use Rattle.cs_least.specs.declared.ways.reach.Reach.{Reach}
use Rattle.cs_least.specs.declared.ways.search.Waiting.{Waiting}
use Rattle.cs_least.specs.Ways.Ways.{Net}
use Rattle.cs_least.specs.Ways.Candidates.{IsBeginning, IsAfter, order}
use Rattle.cs_least.specs.Ways.Search.{IsOffered, AreOffered, AreFirsts, HoldsUpTo, IsSettling}

-- what was found is pushed where it comes before what is known
abbrev pub Offers : Candidate → Waiting → Waiting → Type 0
Offers found old new = IsOffered found old.known.items (heap_items old.heap) new.known.items (heap_items new.heap)

-- of each node the first of the beginnings is known
abbrev pub AreFirstBeginnings : ℕ → ℕ → List Source → Vec (Option Candidate) → Type 0
AreFirstBeginnings limit nodes sources known = (length known.items ≡ nodes) × AreFirsts limit (IsBeginning limit sources) known.items

-- all that is known waits, and nothing else
abbrev pub HoldsKnown : List (Option Candidate) → BinaryHeap (Reverse Candidate) Global → Type 0
HoldsKnown known heap = IsHeap order (heap_items heap) × HoldsUpTo (length known) known (heap_items heap)

-- what goes on by these steps is
abbrev pub OffersSteps : ℕ → Candidate → List Step → Waiting → Waiting → Type 0
OffersSteps limit found steps old new =
    AreOffered limit (IsAfter limit found steps) (length steps) old.known.items (heap_items old.heap) new.known.items (heap_items new.heap)

-- the node of what was found is settled
abbrev pub Settles : ℕ → Net → Candidate → List Reach → Waiting → List Reach → Waiting → Type 0
Settles limit net found table old table_then new =
    IsSettling limit net found table old.known.items (heap_items old.heap) table_then new.known.items (heap_items new.heap)
