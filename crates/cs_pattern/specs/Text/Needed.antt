-- Which definitions operations need, those that stand behind others included.
use Rattle.std.specs.Prelude.{◌≡◌, ◌≢◌, ◌⊎◌, ℕ, ◌<◌, if◌then◌else◌, List, [], ◌∷◌, Option, Some, None, length, nat_lt, slice_get, slice_index_or}
use Rattle.std.specs.BTreeSet.{BTreeSet, insert_key}
use Rattle.std.specs.Ordering.{nat_cmp}
use Rattle.std.specs.Global.{Vec}
use Rattle.cs_pattern.specs.declared.operations.measure.Measure.{Measure}
use Rattle.cs_pattern_parts.specs.declared.tree.pattern.Pattern.{Pattern}
use Rattle.cs_pattern.specs.declared.operations.operations.Op as code
use Rattle.cs_pattern.specs.Text.Checked.{AreChecked}
use Rattle.cs_pattern.specs.Operations.Definitions.{Definition}
use Rattle.cs_pattern.specs.Operations.Grammar.{Tree}
use Rattle.cs_pattern.specs.Operations.Operations.{Op, ops_of, class, quoted, substitute, repeat, group, join, either}
use Rattle.cs_pattern.specs.Text.Substitution.{IsTreeOf}
use Rattle.cs_pattern.specs.Operations.Depth.{pattern_of}
use Rattle.cs_pattern.specs.Operations.Trees.{known_at, IsPatternOf}

-- some operation puts in the definition of that index
abbrev pub Substitutes : List Op → ℕ → Type 0
Substitutes [] index = ⊥
Substitutes (op ∷ ops) index = (op ≡ substitute index) ⊎ Substitutes ops index

-- the index is one of these
abbrev pub IsOneOf : List ℕ → ℕ → Type 0
IsOneOf [] i = ⊥
IsOneOf (x ∷ xs) i = (x ≡ i) ⊎ IsOneOf xs i

-- where the definition of that index stands in the order
abbrev pub place_of : List ℕ → ℕ → ℕ
place_of places index = slice_index_or places index 0

-- Each index has a place, and each in the order the place where it stands.
pub record ArePlaces (count : ℕ) (order places : List ℕ) : Type 0 where
  pub count_is : length places ≡ count
  pub each : (k : ℕ) → k < length order → place_of places (slice_index_or order k 0) ≡ k

-- the places, and that of the definition
abbrev pub add_place : List ℕ → ℕ → List ℕ → List ℕ
add_place places index pending = if nat_lt index (length places) then insert_key nat_cmp pending (place_of places index) else pending

abbrev pub add_op : List ℕ → Op → List ℕ → List ℕ
add_op places (substitute index) pending = add_place places index pending
add_op places (class set) pending = pending
add_op places (quoted bytes) pending = pending
add_op places (repeat r) pending = pending
add_op places group pending = pending
add_op places (join count) pending = pending
add_op places (either count) pending = pending

-- the places, and those of the definitions that the operations put in
abbrev pub add_used : List ℕ → List ℕ → List Op → List ℕ
add_used places pending [] = pending
add_used places pending (op ∷ ops) = add_used places (add_op places op pending) ops

abbrev pub ops_or_none : Option (Vec code.Op) → List Op
ops_or_none None = []
ops_or_none (Some ops) = ops_of ops.items

-- the operations of the definition of that index
abbrev pub ops_at : List (Vec code.Op) → ℕ → List Op
ops_at bodies index = ops_or_none (slice_get bodies index)

-- the second places are the first and those of the definitions that the operations put in
abbrev pub AddsUsed : List ℕ → List Op → BTreeSet ℕ → BTreeSet ℕ → Type 0
AddsUsed places ops old new = new.keys ≡ add_used places old.keys ops

-- other definitions have the patterns as before
abbrev pub KeepsOthers : ℕ → List (ℕ × Pattern) → List (ℕ × Pattern) → Type 0
KeepsOthers index old new = (i : ℕ) → i ≢ index → known_at new i ≡ known_at old i

-- these definitions have their patterns
abbrev pub AreKnown : List Definition → List ℕ → List (ℕ × Pattern) → Type 0
AreKnown ds needed known = (i : ℕ) (d : Definition) (tree : Tree) → IsOneOf needed i → slice_get ds i ≡ Some d → IsTreeOf ds d.text tree → known_at known i ≡ pattern_of tree

-- the operations and the order are those of some definitions
abbrev pub AreOf : List Definition → List (Vec code.Op) → List ℕ → Type 0
AreOf ds bodies order = (measures : List Measure) × AreChecked ds bodies measures order

-- some definitions have these operations, and this is their order
abbrev pub AreOfSome : List (Vec code.Op) → List ℕ → Type 0
AreOfSome bodies order = (ds : List Definition) × AreOf ds bodies order

-- they are, in some order
abbrev pub HaveOrder : List (Vec code.Op) → Type 0
HaveOrder bodies = (order : List ℕ) × AreOfSome bodies order

-- the operations, or those of a definition that they need, put the definition in
pub data Needs (bodies : List (Vec code.Op)) (ops : List Op) : ℕ → Type 0 where
  directly : (i : ℕ) → Substitutes ops i → i < length bodies → Needs bodies ops i
  behind : (i j : ℕ) → Needs bodies ops i → Substitutes (ops_at bodies i) j → j < length bodies → Needs bodies ops j

-- each is a definition, and what it uses stands behind it
abbrev pub AreInOrder : List (Vec code.Op) → List ℕ → Type 0
AreInOrder bodies [] = Unit {0}
AreInOrder bodies (i ∷ more) = (i < length bodies) × ((j : ℕ) → Substitutes (ops_at bodies i) j → j < length bodies → IsOneOf more j) × AreInOrder bodies more

-- the needed definitions and no others, each before those that it uses
pub record AreNeeded (bodies : List (Vec code.Op)) (ops : List Op) (needed : List ℕ) : Type 0 where
  pub all : (i : ℕ) → Needs bodies ops i → IsOneOf needed i
  pub only : (i : ℕ) → IsOneOf needed i → Needs bodies ops i
  pub in_order : AreInOrder bodies needed

-- the definition's pattern is made of those known before
pub record Learns (bodies : List (Vec code.Op)) (index : ℕ) (old new : List (ℕ × Pattern)) : Type 0 where
  pub this : index < length bodies → IsPatternOf old (ops_at bodies index) (known_at new index)
  pub others : KeepsOthers index old new

-- whatever definitions these are, the needed ones have their patterns
abbrev pub KnowNeeded : List (Vec code.Op) → List ℕ → List (ℕ × Pattern) → Type 0
KnowNeeded bodies needed known = (ds : List Definition) (order : List ℕ) → AreOf ds bodies order → AreKnown ds needed known
