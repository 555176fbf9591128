-- Costs as numbers that stop counting above a limit, and their sums.
use Rattle.std.specs.Prelude.{ℕ, ◌+◌, ◌<◌, ◌≤◌, ◌↔◌, Bool, IsTrue, List, [], ◌∷◌, nat_le, if◌then◌else◌}
pub use Rattle.cs_grammar.specs.Weights.{capped}
use Rattle.cs_grammar.specs.Entries.{entry_or}
use Rattle.cs_least.specs.declared.cost.cost.Cost.{Cost}
use Rattle.cs_least.specs.declared.cost.cost.Cost.TheVariants.{Never, Large, Least}

-- the order of costs: the sizes within the limit, then Large, then Never
abbrev pub rank : ℕ → Cost → ℕ
rank limit (Least n) = n
rank limit Large = limit + 1
rank limit Never = limit + 2

-- no size above the limit is written out
abbrev pub IsCapped : ℕ → Cost → Type 0
IsCapped limit (Least n) = n ≤ limit
IsCapped limit Large = Unit {0}
IsCapped limit Never = Unit {0}

-- the cost of one thing of this size
abbrev pub cost_of : ℕ → ℕ → Cost
cost_of limit n = if nat_le n limit then Least n else Large

-- the cost of two parts together
abbrev pub plus : ℕ → Cost → Cost → Cost
plus limit Never b = Never
plus limit Large Never = Never
plus limit Large Large = Large
plus limit Large (Least n) = Large
plus limit (Least m) Never = Never
plus limit (Least m) Large = Large
plus limit (Least m) (Least n) = cost_of limit (m + n)

-- the cost of a sum so far and of these parts, of each of which a cost is told
abbrev pub sum_from : {X : Type 0} → ℕ → (X → Cost) → Cost → List X → Cost
sum_from limit told sum [] = sum
sum_from limit told sum (x ∷ xs) = sum_from limit told (plus limit sum (told x)) xs

-- what a table of costs says of a number from 1
abbrev pub entry : List Cost → ℕ → Cost
entry table n = entry_or table n Never

-- under whichever limit: true exactly where the cost a is lower than b
abbrev pub TellsLower : Bool → Cost → Cost → Type 0
TellsLower lower a b = (limit : ℕ) → IsCapped limit a → IsCapped limit b → (IsTrue lower ↔ (rank limit a < rank limit b))
