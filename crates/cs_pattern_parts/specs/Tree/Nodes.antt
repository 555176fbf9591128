-- The nodes of a pattern, and a pattern made again of its nodes.
use Rattle.std.specs.Prelude.{◌≡◌, ℕ, ◌+◌, ◌-◌, List, [], ◌∷◌, ◌++◌, map, length, take, drop, slice_index_or}
use Rattle.std.proofs.Common.{Bor}
use Rattle.cs_pattern_parts.specs.declared.tree.pattern.Pattern.{Pattern}
use Rattle.cs_pattern_parts.specs.Tree.Pattern.{Regex, Empty, Class, Join, Either, Many, Parts, Nothing, Then, parts_of, regex}

-- what references point to
abbrev pub values : List (Bor Pattern) → List Regex
values = map (λ p. regex p.now)

abbrev pub listed : Parts → List Regex
listed Nothing = []
listed (Then r rs) = r ∷ listed rs

abbrev pub parts_in : Regex → List Regex
parts_in Empty = []
parts_in (Class set) = []
parts_in (Join parts) = listed parts
parts_in (Either parts) = listed parts
parts_in (Many part) = part ∷ []

-- the second stack is the first with these on it
abbrev pub ArePut : List (Bor Pattern) → List Regex → List (Bor Pattern) → Type 0
ArePut old parts new = values new ≡ values old ++ parts

-- the nodes of a pattern: each before its parts, and of these the last first
abbrev mutual
  pub nodes_of : Regex → List Regex
  nodes_of Empty = Empty ∷ []
  nodes_of (Class set) = Class set ∷ []
  nodes_of (Join parts) = Join parts ∷ nodes_of_parts parts
  nodes_of (Either parts) = Either parts ∷ nodes_of_parts parts
  nodes_of (Many part) = Many part ∷ nodes_of part

  pub nodes_of_parts : Parts → List Regex
  nodes_of_parts Nothing = []
  nodes_of_parts (Then r rs) = nodes_of_parts rs ++ nodes_of r

-- the nodes of the patterns of a stack, the top first
abbrev pub nodes_in : List Regex → List Regex
nodes_in [] = []
nodes_in (r ∷ rs) = nodes_in rs ++ nodes_of r

-- a node is a leaf or none
abbrev pub own_leaves : Regex → ℕ
own_leaves Empty = 1
own_leaves (Class set) = 1
own_leaves (Join parts) = 0
own_leaves (Either parts) = 0
own_leaves (Many part) = 0

abbrev pub all_own_leaves : List Regex → ℕ
all_own_leaves [] = 0
all_own_leaves (r ∷ rs) = own_leaves r + all_own_leaves rs

-- ---- a node made again: its parts are on top of the stack, the last on top

abbrev pub below : ℕ → List Regex → List Regex
below count stack = take (length stack - count) stack

abbrev pub last : ℕ → List Regex → List Regex
last count stack = drop (length stack - count) stack

abbrev pub top : List Regex → Regex
top stack = slice_index_or stack (length stack - 1) Empty

-- the stack with the node in place of its parts
abbrev pub with_node : List Regex → Regex → List Regex
with_node stack Empty = stack ++ Empty ∷ []
with_node stack (Class set) = stack ++ Class set ∷ []
with_node stack (Join parts) = let count = length (listed parts) in below count stack ++ Join (parts_of (last count stack)) ∷ []
with_node stack (Either parts) = let count = length (listed parts) in below count stack ++ Either (parts_of (last count stack)) ∷ []
with_node stack (Many part) = below 1 stack ++ Many (top stack) ∷ []

-- the second stack is the first with the pattern on it
abbrev pub IsPut : List Pattern → Regex → List Pattern → Type 0
IsPut old pattern new = map regex new ≡ map regex old ++ pattern ∷ []

-- the second stack is the first with the node in place of its parts
abbrev pub IsMadeAgain : List Pattern → Regex → List Pattern → Type 0
IsMadeAgain old node new = map regex new ≡ with_node (map regex old) node

-- the stack when all nodes are made again, from the last to the first
abbrev pub with_nodes : List Regex → List Regex → List Regex
with_nodes stack [] = stack
with_nodes stack (node ∷ nodes) = with_node (with_nodes stack nodes) node
