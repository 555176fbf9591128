-- Tables that give the number of a token by its spelling.
use Rattle.std.specs.Prelude.{◌≡◌, ◌≢◌, ℕ, ◌-◌, ◌<◌, ◌==◌, List, Option, Some, None, slice_get, if◌then◌else◌}
use Rattle.std.specs.Global.{Vec}
use Rattle.std.specs.Map.{lookup}
use Rattle.std.specs.Str.{bytes_eq}
use Rattle.cs_yacc.specs.declared.reading.name.TokenName.{TokenName}
use Rattle.cs_yacc.specs.declared.reading.name.TokenName.TheVariants.{Word, Byte}
use Rattle.cs_yacc.specs.Reading.Meaning.{same_spelling}

-- what the entries have at the bytes of a word
abbrev pub number_at_word : List (Vec ℕ × ℕ) → List ℕ → Option ℕ
number_at_word entries w = lookup (λ k. bytes_eq w k.items) entries

-- what the entries have at a byte
abbrev pub number_at_byte : List (ℕ × ℕ) → ℕ → Option ℕ
number_at_byte entries b = lookup (λ k. b == k) entries

-- What is found is the number of a name that is spelled so, counted from 1; where nothing is found, none of the first
-- `count` names is spelled so.
pub record Finds {A : Type 0} (spelled : A → TokenName) (found : A → Option ℕ) (count : ℕ) (names : List TokenName) : Type 0 where
  pub number : (a : A) (t : ℕ) → found a ≡ Some t → (0 < t) × (slice_get names (t - 1) ≡ Some (spelled a))
  pub none : (a : A) → found a ≡ None → (k : ℕ) → k < count → slice_get names k ≢ Some (spelled a)

abbrev pub FindsWords : List (Vec ℕ × ℕ) → ℕ → List TokenName → Type 0
FindsWords entries count names = Finds Word (number_at_word entries) count names

abbrev pub FindsBytes : List (ℕ × ℕ) → ℕ → List TokenName → Type 0
FindsBytes entries count names = Finds Byte (number_at_byte entries) count names

-- what is found is as it was, but for the name, if it is spelled so, which has this number
abbrev pub Puts : {A : Type 0} → (A → TokenName) → (A → Option ℕ) → (A → Option ℕ) → TokenName → ℕ → Type 0
Puts {A = A} spelled now was name number = (a : A) → now a ≡ (if same_spelling (spelled a) name then Some number else was a)

abbrev pub PutsWord : List (Vec ℕ × ℕ) → List (Vec ℕ × ℕ) → TokenName → ℕ → Type 0
PutsWord now was name number = Puts Word (number_at_word now) (number_at_word was) name number

abbrev pub PutsByte : List (ℕ × ℕ) → List (ℕ × ℕ) → TokenName → ℕ → Type 0
PutsByte now was name number = Puts Byte (number_at_byte now) (number_at_byte was) name number
