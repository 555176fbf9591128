-- Lists that fall into so many parts, one after another.
use Rattle.std.specs.Prelude.{◌≡◌, ◌↔◌, ℕ, zero, suc, ◌≤◌, List, [], ◌++◌}
use Rattle.cs_pattern_parts.specs.Tree.Pattern.{Regex, Matches}

-- the list falls into this number of parts that are each P
abbrev pub Times : (List ℕ → Type 0) → ℕ → List ℕ → Type 0
Times P zero word = word ≡ []
Times P (suc n) word = (x : List ℕ) × (y : List ℕ) × (word ≡ x ++ y) × P x × Times P n y

-- the list falls into a number of parts that are each P, and the number is one of these
abbrev pub SomeTimes : (ℕ → Type 0) → (List ℕ → Type 0) → List ℕ → Type 0
SomeTimes Count P word = (n : ℕ) × Count n × Times P n word

-- the list is P and has a byte
abbrev pub HasBytes : (List ℕ → Type 0) → List ℕ → Type 0
HasBytes P word = P word × (word ≡ [] → ⊥)

abbrev pub IsBetween : ℕ → ℕ → ℕ → Type 0
IsBetween least most n = (least ≤ n) × (n ≤ most)

-- the same lists are P and Q
abbrev pub AreSame : (List ℕ → Type 0) → (List ℕ → Type 0) → Type 0
AreSame P Q = (word : List ℕ) → P word ↔ Q word

-- the whole matches what falls into parts that the part matches, where their number is one of these
abbrev pub IsRepeated : Regex → (ℕ → Type 0) → Regex → Type 0
IsRepeated whole Count part = AreSame (Matches whole) (SomeTimes Count (Matches part))
