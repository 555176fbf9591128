-- Which nonterminals are expected at a position.
use Rattle.std.specs.Prelude.{◌≡◌, ◌<◌, ◌++◌, ℕ, List, Bool, Some, true, All, Contains, length, slice_get}
use Rattle.std.specs.Global.{Vec}
use Rattle.smallvec.specs.SmallVec.{SmallVec}
use Rattle.cs_member.specs.declared.tables.word.Word.{Word}
use Rattle.cs_member.specs.Tables.Sets.{Has, InWords}

abbrev pub IsMarked : List Bool → ℕ → Type 0
IsMarked expected a = slice_get expected a ≡ Some true

-- what is marked is listed, and nothing else
pub record AreMarked (expected : List Bool) (pending : List ℕ) : Type 0 where
  pub listed : (a : ℕ) → IsMarked expected a → Contains pending a
  pub within : All (λ a. a < length expected) pending

-- more is marked
pub record Marks (expected : List Bool) (pending : List ℕ) (marked : List Bool) (listed : List ℕ) : Type 0 where
  pub size : length marked ≡ length expected
  pub stays : (a : ℕ) → IsMarked expected a → IsMarked marked a
  pub more : List ℕ
  pub grown : listed ≡ pending ++ more

-- by nonterminal: nonterminals with which its rules begin
pub record AreCorners (many : ℕ) (corners : List (Vec ℕ)) : Type 0 where
  pub size : length corners ≡ many
  pub within : (a : ℕ) (list : Vec ℕ) → slice_get corners a ≡ Some list → All (λ b. b < many) list.items

-- where such nonterminals are there, those with which their rules begin are there too
abbrev pub IsDescended : List (Vec ℕ) → (ℕ → Type 0) → Type 0
IsDescended corners These = (a b : ℕ) (list : Vec ℕ) → These a → slice_get corners a ≡ Some list → Contains list.items b → These b

-- the nonterminal, those with which its rules begin, and so on
pub record IsDescent (corners : List (Vec ℕ)) (a : ℕ) (words : List Word) : Type 0 where
  pub itself : InWords words a
  pub closed : IsDescended corners (InWords words)

-- by nonterminal: those with which its rules may begin
pub record AreDescents (many : ℕ) (corners : List (Vec ℕ)) (descents : List (SmallVec Word)) : Type 0 where
  pub size : length descents ≡ many
  pub each : (a : ℕ) (words : SmallVec Word) → slice_get descents a ≡ Some words → IsDescent corners a words.items

-- what is expected stays so
abbrev pub Stays : List ℕ → List ℕ → Type 0
Stays old new = (a : ℕ) → Has old a → Has new a
