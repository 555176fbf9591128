-- The two sides of a yield, at which a token may stand.
use Rattle.std.specs.Prelude.{ℕ}
use Rattle.cs_pairs.specs.declared.kinds.kind.TreeKind.{TreeKind}
use Rattle.cs_pairs.specs.declared.kinds.kind.TreeKind.TheVariants.{Any, Empty, Begins, Ends}
use Rattle.cs_pairs.specs.declared.kinds.side.Side.{Side}
use Rattle.cs_pairs.specs.declared.kinds.side.Side.TheVariants.{First, Last}

-- trees whose yield has this token at the side
abbrev pub kind_on : Side → ℕ → TreeKind
kind_on First b = Begins b
kind_on Last a = Ends a

-- the kinds of the trees before a tree of such a kind and behind it, where a list of trees is of the kind by it
abbrev pub before_on : Side → TreeKind
before_on First = Empty
before_on Last = Any

abbrev pub behind_on : Side → TreeKind
behind_on First = Any
behind_on Last = Empty
