-- What adding to a set does.
use Rattle.std.specs.Prelude.{◌≡◌, ℕ, ◌<◌, ◌≤◌, Bool, true, false, ◌||◌, List, ◌∷◌, length, drop, Option, None, MatchOption}
use Rattle.cs_pattern_parts.specs.Items.Members.{has, bytes_where}
use Rattle.cs_pattern_parts.specs.Items.Bracket.{is_yes, is_refused, any_test, members, member_test, member_bytes}
use Rattle.cs_pattern_parts.specs.Items.Brackets.{Member, range, BracketMark}

-- Where the test refuses no byte, those that pass it are added; else it refuses each.
abbrev pub Inserts : List ℕ → List ℕ → (ℕ → Option Bool) → Bool → Type 0
Inserts old new test true = ((b : ℕ) → is_refused (test b) ≡ false) × (new ≡ bytes_where (λ b. is_yes (test b) || has old b))
Inserts old new test false = (b : ℕ) → test b ≡ None

-- the set has the bytes of the members, of which none is refused
pub record AreBytesOfMembers (ms : List BracketMark) (set : List ℕ) : Type 0 where
  pub accepted : is_refused (any_test (members ms) 0) ≡ false
  pub is : set ≡ bytes_where (λ b. is_yes (any_test (members ms) b))

-- the member that begins at the index ends before the next one, and its bytes are added
pub record AddsMember (ms : List BracketMark) (index : ℕ) (old new : List ℕ) (next : ℕ) : Type 0 where
  pub member : Member
  pub forward : index < next
  pub within : next ≤ length ms
  pub is : members (drop index ms) ≡ member ∷ members (drop next ms)
  pub adds : Inserts old new (member_test member) true

-- the member that begins at the index is refused
pub record RefusesMember (ms : List BracketMark) (index : ℕ) : Type 0 where
  pub member : Member
  pub more : List Member
  pub is : members (drop index ms) ≡ member ∷ more
  pub refused : (b : ℕ) → member_test member b ≡ None

-- the bytes from the one mark through the other are added, or are no range
abbrev pub InsertsRange : List ℕ → List ℕ → BracketMark → BracketMark → Bool → Type 0
InsertsRange old new x y taken = Inserts old new (member_test (range x y)) taken

-- the member at the index is added, and ends before the answer, or it is refused
abbrev pub AddsOrRefuses : List BracketMark → ℕ → List ℕ → List ℕ → Option ℕ → Type 0
AddsOrRefuses ms index old new answer = MatchOption answer (RefusesMember ms index) (AddsMember ms index old new)

-- the set of the members, or none where one is refused
abbrev pub IsSetOrNone : List BracketMark → Option (List ℕ) → Type 0
IsSetOrNone ms answer = MatchOption answer (member_bytes ms ≡ None) (AreBytesOfMembers ms)
