-- What lists of trees of a kind cost, by what single trees cost.
use Rattle.std.specs.Prelude.{ℕ, ◌≤◌, nat_eq, nat_le, if◌then◌else◌}
use Rattle.cs_grammar.specs.Weights.{Measure, number}
use Rattle.cs_least.specs.declared.cost.cost.Cost.{Cost}
use Rattle.cs_least.specs.declared.cost.cost.Cost.TheVariants.{Never, Least}
use Rattle.cs_least.specs.Cost.Rank.{rank, cost_of}
use Rattle.cs_pairs.specs.declared.kinds.kind.TreeKind.{TreeKind}
use Rattle.cs_pairs.specs.declared.kinds.kind.TreeKind.TheVariants.{Any, Empty, Begins, Ends}

-- the first of two costs isn't higher
abbrev pub IsAtMost : ℕ → Cost → Cost → Type 0
IsAtMost limit a b = rank limit a ≤ rank limit b

-- the first of two costs where the second is no lower
abbrev pub lesser : ℕ → Cost → Cost → Cost
lesser limit a b = if nat_le (rank limit a) (rank limit b) then a else b

-- a leaf with token t
abbrev pub leaf_cost : Measure → TreeKind → ℕ → Cost
leaf_cost w Any t = cost_of w.limit (number w t)
leaf_cost w Empty t = Never
leaf_cost w (Begins b) t = if nat_eq t b then cost_of w.limit (number w t) else Never
leaf_cost w (Ends a) t = if nat_eq t a then cost_of w.limit (number w t) else Never

-- no tree at all
abbrev pub bare_cost : TreeKind → Cost
bare_cost Any = Least 0
bare_cost Empty = Least 0
bare_cost (Begins b) = Never
bare_cost (Ends a) = Never
