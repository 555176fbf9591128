-- Brackets (POSIX, bracket expressions in the POSIX locale).
use Rattle.std.specs.Prelude.{ℕ, ◌+◌, Bool, true, false, ◌==◌, nat_le, ◌&&◌, ◌||◌, not, if◌then◌else◌, List, [], ◌∷◌, Option, Some, None, drop}
use Rattle.std.specs.List.{list_any}
use Rattle.cs_bytes.specs.Names.{caret, closing_bracket, dash}
use Rattle.cs_pattern_parts.specs.declared.items.bracket.Class.{Class}
use Rattle.cs_bytes.specs.Places.{has_at}
use Rattle.cs_pattern_parts.specs.Items.Members.{bytes_where, has}
use Rattle.cs_pattern_parts.specs.Items.NamedClasses.{class_of, is_in_class}
use Rattle.cs_pattern_parts.specs.Items.Brackets.{BracketMark, plain, escaped, class, collating, Member, one, range}
use Rattle.cs_pattern_parts.specs.Items.Marks.{marks}

abbrev pub class_by : Option Class → ℕ → Option Bool
class_by None b = None
class_by (Some k) b = Some (is_in_class k b)

-- the byte is in the class of that name; None where there is no such class
abbrev pub class_test : List ℕ → ℕ → Option Bool
class_test name = class_by (class_of name)

abbrev pub is_dash : BracketMark → Bool
is_dash (plain b) = b == dash
is_dash (escaped b) = false
is_dash (class name) = false
is_dash collating = false

-- a range begins here: a `-` stands second, and a mark behind it
abbrev pub begins_range : List BracketMark → Bool
begins_range [] = false
begins_range (x ∷ []) = false
begins_range (x ∷ d ∷ []) = false
begins_range (x ∷ d ∷ y ∷ rest) = is_dash d

-- the members of these marks: a `-` between two marks makes a range of them, unless it ends or begins one before
abbrev mutual
  pub members : List BracketMark → List Member
  members [] = []
  members (x ∷ more) = members_at x more

  pub members_at : BracketMark → List BracketMark → List Member
  members_at x [] = one x ∷ []
  members_at x (d ∷ more) = if is_dash d then behind_dash x d more else one x ∷ members_at d more

  pub behind_dash : BracketMark → BracketMark → List BracketMark → List Member
  behind_dash x d [] = one x ∷ one d ∷ []
  behind_dash x d (y ∷ rest) = range x y ∷ members rest

-- the byte for which a mark stands
abbrev pub byte_of_mark : BracketMark → Option ℕ
byte_of_mark (plain b) = Some b
byte_of_mark (escaped b) = b
byte_of_mark (class name) = None
byte_of_mark collating = None

abbrev pub within : Option ℕ → Option ℕ → ℕ → Option Bool
within (Some first) (Some last) b = if nat_le first last then Some (nat_le first b && nat_le b last) else None
within None last b = None
within (Some first) None b = None

abbrev pub same : Option ℕ → ℕ → Option Bool
same None b = None
same (Some c) b = Some (b == c)

-- the byte is of the member; None where the member is refused
abbrev pub member_test : Member → ℕ → Option Bool
member_test (one (plain c)) b = Some (b == c)
member_test (one (escaped c)) b = same c b
member_test (one (class name)) b = class_test name b
member_test (one collating) b = None
member_test (range x y) b = within (byte_of_mark x) (byte_of_mark y) b

abbrev pub or_both : Option Bool → Option Bool → Option Bool
or_both None q = None
or_both (Some p) None = None
or_both (Some p) (Some q) = Some (p || q)

-- the byte is of one of the members; None where one of them is refused
abbrev pub any_test : List Member → ℕ → Option Bool
any_test [] b = Some false
any_test (m ∷ ms) b = or_both (member_test m b) (any_test ms b)

abbrev pub is_yes : Option Bool → Bool
is_yes None = false
is_yes (Some b) = b

abbrev pub is_refused : Option Bool → Bool
is_refused None = true
is_refused (Some b) = false

-- The bytes of the members. None where a member is refused, which no byte decides.
unfoldable pub member_bytes : List BracketMark → Option (List ℕ)
member_bytes ms = if is_refused (any_test (members ms) 0) then None else Some (bytes_where (λ b. is_yes (any_test (members ms) b)))

abbrev pub unless_empty : List ℕ → Option (List ℕ)
unless_empty [] = None
unless_empty (b ∷ bytes) = Some (b ∷ bytes)

-- the bytes of the bracket, or of none but its members
abbrev pub turned : Bool → Option (List ℕ) → Option (List ℕ)
turned inverted None = None
turned false (Some bytes) = unless_empty bytes
turned true (Some bytes) = unless_empty (bytes_where (λ b. not (has bytes b)))

abbrev pub is_collating : BracketMark → Bool
is_collating (plain b) = false
is_collating (escaped b) = false
is_collating (class name) = false
is_collating collating = true

-- what a `[` begins
pub data Bracket : Type 0 where
  -- its bytes, and its size without the `[`
  set : List ℕ → ℕ → Bracket
  collation : Bracket
  nothing : Bracket

abbrev pub set_or_nothing : Option (List ℕ) → ℕ → Bracket
set_or_nothing None size = nothing
set_or_nothing (Some bytes) size = set bytes size

-- a `[`, its marks and its `]`: a collating part is told, whatever else is wrong
abbrev pub closed : Bool → List BracketMark → ℕ → Bracket
closed inverted ms size = if list_any is_collating ms then collation else set_or_nothing (turned inverted (member_bytes ms)) size

abbrev pub bracket_in : Bool → ℕ → List ℕ → Bracket
bracket_in inverted skipped text = if has_at text (marks text).1 closing_bracket then closed inverted (marks text).0 (skipped + ((marks text).1 + 1)) else nothing

unfoldable pub bracket : List ℕ → Bracket
bracket text = if has_at text 0 caret then bracket_in true 1 (drop 1 text) else bracket_in false 0 text
