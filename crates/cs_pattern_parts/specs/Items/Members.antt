-- Sets of bytes as ascending lists: what the value of a set of bytes is.
use Rattle.std.specs.Prelude.{◌≡◌, ℕ, zero, suc, ◌<◌, Bool, false, ◌||◌, ◌==◌, if◌then◌else◌, List, [], ◌∷◌, ◌++◌, All}

-- each number is below those behind it
abbrev pub IsAscending : List ℕ → Type 0
IsAscending [] = Unit {0}
IsAscending (x ∷ xs) = All (λ y. x < y) xs × IsAscending xs

-- the list is a set of bytes: it ascends, and its numbers are below 256
pub record IsByteSet (set : List ℕ) : Type 0 where
  pub ascends : IsAscending set
  pub bytes : All (λ b. b < 256) set

-- the set has the byte
abbrev pub has : List ℕ → ℕ → Bool
has [] byte = false
has (x ∷ xs) byte = (x == byte) || has xs byte

-- the numbers below a limit that pass a test, ascending
unfoldable pub picked : (ℕ → Bool) → ℕ → List ℕ
picked test zero = []
picked test (suc n) = picked test n ++ (if test n then n ∷ [] else [])

-- the bytes that pass a test
abbrev pub bytes_where : (ℕ → Bool) → List ℕ
bytes_where test = picked test 256

-- two lists have the same bytes
abbrev pub HaveSameMembers : List ℕ → List ℕ → Type 0
HaveSameMembers s t = (b : ℕ) → b < 256 → has s b ≡ has t b
