-- The search for strongly connected components: nodes on a stack, in groups each of which leads to those behind it.
use Rattle.std.specs.Prelude.{◌≡◌, ◌⊎◌, ℕ, ◌+◌, ◌≤◌, ◌<◌, List, [], ◌∷◌, ◌++◌, Contains, Some, length, slice_get, take, drop}
use Rattle.std.specs.List.{AllPairs}
use Rattle.std.specs.Global.{Vec}
use Rattle.cs_graph.specs.declared.component.State.{State}
use Rattle.cs_graph.specs.declared.component.State.TheVariants.{New, Open, Closed}
use Rattle.cs_graph.specs.declared.component.Group.{Group}
use Rattle.cs_graph.specs.declared.component.Search.{Search}
use Rattle.cs_graph.specs.Graph.{Edge, Leads}

abbrev pub number : State → ℕ
number New = 0
number (Open place) = place
number (Closed n) = n

abbrev pub IsNew : List State → ℕ → Type 0
IsNew states node = slice_get states node ≡ Some New

-- the other place is in the group of the place, or in one behind it
abbrev pub IsAbove : List Group → ℕ → ℕ → Type 0
IsAbove groups place other = (g : Group) → Contains groups g → g.first ≤ place → g.first ≤ other

abbrev pub Precedes : Group → Group → Type 0
Precedes g h = (g.first ≤ h.first) × (g.pending ≤ h.pending)

abbrev pub IsRising : List Group → Type 0
IsRising groups = AllPairs Precedes groups

-- A successor of the node at the place is closed, or in its group or one behind it, or pending in one of these.
pub data IsFound (states : List State) (pending : List ℕ) (groups : List Group) (place to : ℕ) : Type 0 where
  is_closed : (n : ℕ) → slice_get states to ≡ Some (Closed n) → IsFound states pending groups place to
  is_behind : (other : ℕ) → slice_get states to ≡ Some (Open other) → IsAbove groups place other → IsFound states pending groups place to
  is_pending : (k : ℕ) → slice_get pending k ≡ Some to → ((g : Group) → Contains groups g → g.first ≤ place → g.pending ≤ k) → IsFound states pending groups place to

-- a pending node is a successor of one on the stack, in the same group
pub record HasSource (graph : List (Vec ℕ)) (stack : List ℕ) (groups : List Group) (k to : ℕ) : Type 0 where
  pub place : ℕ
  pub node : ℕ
  pub is : slice_get stack place ≡ Some node
  pub step : Edge graph node to
  pub pending_in : (g : Group) → Contains groups g → g.first ≤ place → g.pending ≤ k
  pub placed_in : (g : Group) → Contains groups g → g.pending ≤ k → g.first ≤ place

-- Closed nodes have edges to closed nodes of the same number or a lower one, and nodes of one number lead to one another.
pub record AreClosed (graph : List (Vec ℕ)) (states : List State) (closed : List Group) : Type 0 where
  pub numbered : (node n : ℕ) → slice_get states node ≡ Some (Closed n) → n < length closed
  pub falling : (node n to : ℕ) → slice_get states node ≡ Some (Closed n) → Edge graph node to → (m : ℕ) × (slice_get states to ≡ Some (Closed m)) × (m ≤ n)
  pub joined : (node other n : ℕ) → slice_get states node ≡ Some (Closed n) → slice_get states other ≡ Some (Closed n) → Leads graph node other

-- The search, but that edges to some nodes may not be found.
pub record IsSearchBut (graph : List (Vec ℕ)) (states : List State) (stack pending : List ℕ) (groups closed : List Group) (but : ℕ → Type 0) : Type 0 where
  pub size : length states ≡ length graph
  pub placed : (place node : ℕ) → slice_get stack place ≡ Some node → slice_get states node ≡ Some (Open place)
  pub opened : (node place : ℕ) → slice_get states node ≡ Some (Open place) → slice_get stack place ≡ Some node
  pub leads : (place other node to : ℕ) → slice_get stack place ≡ Some node → slice_get stack other ≡ Some to → IsAbove groups place other → Leads graph node to
  pub source : (k to : ℕ) → slice_get pending k ≡ Some to → HasSource graph stack groups k to
  pub looked : (place node to : ℕ) → slice_get stack place ≡ Some node → Edge graph node to → IsFound states pending groups place to ⊎ but to
  pub rising : IsRising groups
  pub within : (g : Group) → Contains groups g → (g.first ≤ length stack) × (g.pending ≤ length pending)
  pub grouped : (place node : ℕ) → slice_get stack place ≡ Some node → (g : Group) × Contains groups g × (g.first ≤ place)
  pub done : AreClosed graph states closed

abbrev pub IsSearch : List (Vec ℕ) → List State → List ℕ → List ℕ → List Group → List Group → Type 0
IsSearch graph states stack pending groups closed = IsSearchBut graph states stack pending groups closed (λ to. ⊥)

abbrev pub IsSearchOf : List (Vec ℕ) → Search → Type 0
IsSearchOf graph s = IsSearch graph s.states.items s.stack.items s.pending.items s.groups.items s.closed.items

-- the search with this group behind the others
abbrev pub IsSearchWith : List (Vec ℕ) → Search → Group → Type 0
IsSearchWith graph s last = IsSearch graph s.states.items s.stack.items s.pending.items (s.groups.items ++ last ∷ []) s.closed.items

-- the search, but that edges to the node may not be found
abbrev pub IsSearchAt : List (Vec ℕ) → Search → ℕ → Type 0
IsSearchAt graph s node = IsSearchBut graph s.states.items s.stack.items s.pending.items s.groups.items s.closed.items (λ to. to ≡ node)

abbrev pub AllLead : List (Vec ℕ) → List ℕ → ℕ → Type 0
AllLead graph stack to = (place node : ℕ) → slice_get stack place ≡ Some node → Leads graph node to

-- the groups that begin at the place or before it are left
pub record IsJoined (groups : List Group) (place : ℕ) (joined : List Group) : Type 0 where
  pub kept : (g : Group) → Contains groups g → g.first ≤ place → Contains joined g
  pub old : (g : Group) → Contains joined g → Contains groups g
  pub low : (g : Group) → Contains joined g → g.first ≤ place
  pub rising : IsRising joined
  pub fewer : length joined ≤ length groups

-- the nodes have the number, and the others the state that they had
pub record AreNumbered (states : List State) (nodes : List ℕ) (n : ℕ) (numbered : List State) : Type 0 where
  pub size : length numbered ≡ length states
  pub now : (node : ℕ) → Contains nodes node → slice_get numbered node ≡ Some (Closed n)
  pub old : (node : ℕ) (s : State) → slice_get numbered node ≡ Some s → (slice_get states node ≡ Some s) ⊎ (Contains nodes node × (s ≡ Closed n))
  pub still : (node : ℕ) (s : State) → slice_get states node ≡ Some s → (slice_get numbered node ≡ Some s) ⊎ Contains nodes node

-- how many steps are left at most: to look at the pending nodes and at the successors of new ones, and to close the groups
abbrev pub unopened : List State → List (Vec ℕ) → ℕ
unopened [] graph = 0
unopened (s ∷ states) [] = 0
unopened (New ∷ states) (v ∷ graph) = unopened states graph + (length v.items + 2)
unopened (Open place ∷ states) (v ∷ graph) = unopened states graph
unopened (Closed n ∷ states) (v ∷ graph) = unopened states graph

abbrev pub work : List (Vec ℕ) → List State → List ℕ → List Group → ℕ
work graph states pending groups = unopened states graph + length pending + length groups

abbrev pub work_of : List (Vec ℕ) → Search → ℕ
work_of graph s = work graph s.states.items s.pending.items s.groups.items

-- no node became new
abbrev pub AreSeen : Search → Search → Type 0
AreSeen old new = (node : ℕ) → IsNew new.states.items node → IsNew old.states.items node

pub record IsOpened (graph : List (Vec ℕ)) (old : Search) (node : ℕ) (new : Search) : Type 0 where
  pub search : IsSearchOf graph new
  pub seen : AreSeen old new
  pub opened : IsNew new.states.items node → ⊥
  pub less : work_of graph new < work_of graph old

-- a successor was looked at
pub record IsLook (graph : List (Vec ℕ)) (old new : Search) : Type 0 where
  pub search : IsSearchOf graph new
  pub seen : AreSeen old new
  pub less : work_of graph new ≤ work_of graph old

-- a step on from the last group
pub record IsStep (graph : List (Vec ℕ)) (old : Search) (last : Group) (new : Search) : Type 0 where
  pub search : IsSearchOf graph new
  pub seen : AreSeen old new
  pub less : work_of graph new < work_of graph old + 1

-- all groups are closed
pub record IsDone (graph : List (Vec ℕ)) (old new : Search) : Type 0 where
  pub search : IsSearchOf graph new
  pub seen : AreSeen old new
  pub none : new.groups.items ≡ []

-- the nodes of the last group are closed
pub record IsClosed (old : Search) (last : Group) (new : Search) : Type 0 where
  pub numbered : AreNumbered old.states.items (drop last.first old.stack.items) (length old.closed.items) new.states.items
  pub stack : new.stack.items ≡ take last.first old.stack.items
  pub pending : new.pending.items ≡ old.pending.items
  pub groups : new.groups.items ≡ old.groups.items
  pub closed : new.closed.items ≡ old.closed.items ++ last ∷ []
