-- The values of the options that choose: criteria, operators and slips, as names between commas, in any order, each at most
-- once; and what is weighed and the format, as one word.
use Rattle.std.specs.Prelude.{◌≡◌, ◌≢◌, ◌⊎◌, ◌↔◌, ℕ, Bool, false, ◌==◌, ◌&&◌, ◌||◌, List, IsTrue, AllPairs, Contains, bytes_eq, codes}
use Rattle.std.specs.List.{slice_split}
use Rattle.cs_choices.specs.declared.format.Format.{Format}
use Rattle.cs_choices.specs.declared.format.Format.TheVariants.{One, Two}
use Rattle.cs_choices.specs.declared.weigh.Weigh.{Weigh}
use Rattle.cs_choices.specs.declared.weigh.Weigh.TheVariants.{Nodes, Bytes}
use Rattle.cs_choices.specs.declared.criteria.Criteria.{Criteria}
use Rattle.cs_choices.specs.declared.operators.Operators.{Operators}
use Rattle.cs_choices.specs.declared.slips.Slips.{Slips}
use Rattle.cs_bytes.specs.Names.{comma_sign}

-- the parts of a value between its commas
abbrev pub parts : List ℕ → List (List ℕ)
parts value = slice_split (λ b. b == comma_sign) value

-- The list has the names that are chosen, each once, and no other.
pub record Chooses (chosen : List ℕ → Bool) (names : List (List ℕ)) : Type 0 where
  pub each : (name : List ℕ) → IsTrue (chosen name) ↔ Contains names name
  pub once : AllPairs (λ a b. a ≢ b) names

-- whether the name is that of a criterion that is chosen
abbrev pub has_criterion : Criteria → List ℕ → Bool
has_criterion c name =
    (bytes_eq name (codes "rule") && c.rule)
    || (bytes_eq name (codes "cdrc") && c.cdrc)
    || (bytes_eq name (codes "pair") && c.pair)

-- whether the name is that of an operator that is chosen
abbrev pub has_operator : Operators → List ℕ → Bool
has_operator o name =
    (bytes_eq name (codes "delete") && o.delete)
    || (bytes_eq name (codes "insert") && o.insert)
    || (bytes_eq name (codes "replace") && o.replace)
    || (bytes_eq name (codes "swap") && o.swap)

-- whether the name is that of a slip that is chosen
abbrev pub has_slip : Slips → List ℕ → Bool
has_slip s name =
    (bytes_eq name (codes "drop") && s.drops)
    || (bytes_eq name (codes "double") && s.doubles)
    || (bytes_eq name (codes "swap") && s.swaps)

-- no operator is chosen: nothing is mutated
abbrev pub no_operators : Operators
no_operators = record { delete = false; insert = false; replace = false; swap = false }

-- the value names the criteria
abbrev pub IsCriteria : List ℕ → Criteria → Type 0
IsCriteria value criteria = Chooses (has_criterion criteria) (parts value)

-- the value names the operators, or is `none`
abbrev pub IsOperators : List ℕ → Operators → Type 0
IsOperators value operators =
    ((value ≡ codes "none") × (operators ≡ no_operators)) ⊎ Chooses (has_operator operators) (parts value)

-- the value names the slips
abbrev pub IsSlips : List ℕ → Slips → Type 0
IsSlips value slips = Chooses (has_slip slips) (parts value)

-- the word for what sizes count
abbrev pub weigh_word : Weigh → List ℕ
weigh_word Nodes = codes "nodes"
weigh_word Bytes = codes "bytes"

-- the value says what sizes count
abbrev pub IsWeigh : List ℕ → Weigh → Type 0
IsWeigh value weigh = value ≡ weigh_word weigh

-- the number of the format
abbrev pub format_word : Format → List ℕ
format_word One = codes "1"
format_word Two = codes "2"

-- the value names the format
abbrev pub IsFormat : List ℕ → Format → Type 0
IsFormat value format = value ≡ format_word format

-- the value means nothing, by what values mean
abbrev pub MeansNothing : {A : Type 0} → (List ℕ → A → Type 0) → List ℕ → Type 0
MeansNothing {A} Means value = (a : A) → Means value a → ⊥
