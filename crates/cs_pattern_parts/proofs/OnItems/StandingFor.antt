-- The item at the front of a text of bytes stands for bytes.
use Rattle.std.proofs.Common.{◌≡◌, ℕ, zero, suc, ◌+◌, ◌<◌, ◌≤◌, Bool, true, false, List, [], ◌∷◌, length, take, drop, min, refl, subst, ◌∙◌, arith}
use Rattle.std.specs.Prelude.{Option, Some, None, if◌then◌else◌, ◌==◌, ◌||◌, not, nat_le}
use Rattle.std.specs.List.{list_any, prefix_len}
use Rattle.std.proofs.lemmas.Bool.{eq-eqb, leb-true}
use Rattle.std.proofs.lemmas.List.Elements.{All-nil, All-cons, All-head, All-tail, All-drop}
use Rattle.cs_pattern_parts.specs.declared.items.item.Repetition.{Repetition}
use Rattle.cs_pattern_parts.specs.declared.items.item.Repetition.TheVariants.{Optional, AtLeast}
use Rattle.cs_pattern_parts.specs.declared.items.front.Stop.TheVariants.{Anchor, Trailing, Syntax}
use Rattle.cs_pattern_parts.specs.Items.Members.{picked, bytes_where, has}
use Rattle.cs_bytes.specs.Classes.{is_octal_digit, is_hexadecimal_digit}
use Rattle.cs_bytes.specs.Places.{has_at}
use Rattle.cs_pattern_parts.specs.Items.ByteKind.{is_plain}
use Rattle.cs_pattern_parts.specs.Items.Character.{octal, hexadecimal, escape}
use Rattle.cs_pattern_parts.specs.Items.Parts.{byte_of, letter}
use Rattle.cs_pattern_parts.specs.Items.Brackets.{BracketMark}
use Rattle.cs_bytes.specs.Digits.{number_of}
use Rattle.cs_pattern_parts.specs.Items.Steps.{and_more, up_to, steps}
use Rattle.cs_pattern_parts.specs.Items.Quoted.{escaped, quoted_byte}
use Rattle.cs_pattern_parts.specs.Items.Quoted as quotes
use Rattle.cs_pattern_parts.specs.Items.Marks.{marks}
use Rattle.cs_pattern_parts.specs.Items.Bracket.{Bracket, collation, nothing, is_refused, is_yes, any_test, members, member_bytes, unless_empty, turned, is_collating, set_or_nothing, closed, bracket_in, bracket}
use Rattle.cs_pattern_parts.specs.Items.Interval.{interval, name}
use Rattle.cs_pattern_parts.specs.Items.Items.{Item, class, quoted, named, opening, closing, bar, repetition}
use Rattle.cs_pattern_parts.specs.Items.Front.{Front, item, stop, one_byte_item, any_byte, escape_front, quoted_front, bracket_front, brace_front, sign_front, front}
use Rattle.cs_pattern_parts.specs.Items.StandsFor.{AreBytes, HasSomeByte}
use Rattle.cs_pattern_parts.proofs.OnItems.Picked.{has_picked, some_is_no_none, picked_below}

either_way : {A : Type 0} (P : A → Type 0) (v : Bool) (x y : A) → P x → P y → P (if v then x else y)
either_way P true x y p q = p
either_way P false x y p q = q

-- ---- sets

some_byte : (xs : List ℕ) → AreBytes xs → (xs ≡ [] → ⊥) → HasSomeByte xs
some_byte [] h e = absurd (e refl)
some_byte (x ∷ xs) h e = (x, All-head (λ b. b < 256) x xs h, (0, omega arith, refl))

pub bytes_where-bytes : (t : ℕ → Bool) → AreBytes (bytes_where t)
bytes_where-bytes t = picked_below t 256

-- a set has a byte where one passes its test
pub bytes_where-has_byte : (t : ℕ → Bool) (b : ℕ) → b < 256 → t b ≡ true → HasSomeByte (bytes_where t)
bytes_where-has_byte t b lt e = some_byte (picked t 256) (picked_below t 256) (some_is_no_none (picked t 256) b (has_picked t 256 b lt ∙ e))

pub one_byte-has_byte : (b : ℕ) → b < 256 → HasSomeByte (bytes_where (λ c. c == b))
one_byte-has_byte b lt = bytes_where-has_byte (λ c. c == b) b lt (eq-eqb b b refl)

-- ---- fronts

-- a class has a byte, and what is quoted are bytes
abbrev pub StandsForBytes : Item → Type 0
StandsForBytes (class set) = HasSomeByte set
StandsForBytes (quoted bytes) = AreBytes bytes
StandsForBytes (named name) = Unit {0}
StandsForBytes opening = Unit {0}
StandsForBytes closing = Unit {0}
StandsForBytes bar = Unit {0}
StandsForBytes (repetition r) = Unit {0}

abbrev StandsWell : Front → Type 0
StandsWell (item i n) = StandsForBytes i
StandsWell (stop s) = Unit {0}

-- ---- escapes

abbrev IsByteIfAny : Option ℕ → Type 0
IsByteIfAny None = Unit {0}
IsByteIfAny (Some b) = b < 256

abbrev EscapesByte : Option (Option ℕ × ℕ) → Type 0
EscapesByte None = Unit {0}
EscapesByte (Some p) = IsByteIfAny p.0

number_byte : (n : ℕ) → IsByteIfAny (byte_of n)
number_byte n = by_test (nat_le n 255) refl
  where
    by_test : (v : Bool) → nat_le n 255 ≡ v → IsByteIfAny (if v then Some n else None)
    by_test true e = let le : n ≤ 255 = leb-true n 255 e in omega arith
    by_test false e = tt

octal_byte : (text : List ℕ) → IsByteIfAny (octal text).0
unfolding octal
octal_byte text = number_byte (number_of 8 (take (min (prefix_len is_octal_digit text) 3) text))

hexadecimal_byte : (text : List ℕ) → IsByteIfAny (hexadecimal text).0
unfolding hexadecimal
hexadecimal_byte text =
    either_way (λ (p : Option ℕ × ℕ). IsByteIfAny p.0) (min (prefix_len is_hexadecimal_digit text) 2 == 0) (Some 120, 0)
    (byte_of (number_of 16 (take (min (prefix_len is_hexadecimal_digit text) 2) text)), min (prefix_len is_hexadecimal_digit text) 2)
    (omega arith)
    (number_byte (number_of 16 (take (min (prefix_len is_hexadecimal_digit text) 2) text)))

letter_byte : (b : ℕ) → b < 256 → letter b < 256
letter_byte b lt =
    one (b == 97) 7 _ (omega arith) (one (b == 98) 8 _ (omega arith) (one (b == 116) 9 _ (omega arith) (one (b == 110) 10 _ (omega arith)
    (one (b == 118) 11 _ (omega arith) (one (b == 102) 12 _ (omega arith) (one (b == 114) 13 b (omega arith) lt))))))
  where
    one : (v : Bool) (x y : ℕ) → x < 256 → y < 256 → (if v then x else y) < 256
    one true x y p q = p
    one false x y p q = q

escape_byte : (text : List ℕ) → AreBytes text → EscapesByte (escape text)
unfolding escape
escape_byte [] h = tt
escape_byte (b ∷ rest) h =
    either_way EscapesByte (b == 10) None _ tt
    (either_way EscapesByte (is_octal_digit b) (Some (octal (b ∷ rest))) _ (octal_byte (b ∷ rest))
    (either_way EscapesByte (b == 120) (Some ((hexadecimal rest).0, (hexadecimal rest).1 + 1)) (Some (Some (letter b), 1)) (hexadecimal_byte rest)
    (letter_byte b (All-head (λ c. c < 256) b rest h))))

escape_stands : (o : Option (Option ℕ × ℕ)) → EscapesByte o → StandsWell (escape_front o)
escape_stands None h = tt
escape_stands (Some (None, n)) h = tt
escape_stands (Some (Some b, n)) h = one_byte-has_byte b h

-- ---- quoted texts

abbrev GivesByte : Option (ℕ × ℕ) → Type 0
GivesByte None = Unit {0}
GivesByte (Some p) = p.0 < 256

escaped_byte : (o : Option (Option ℕ × ℕ)) → EscapesByte o → GivesByte (escaped o)
escaped_byte None h = tt
escaped_byte (Some (None, n)) h = tt
escaped_byte (Some (Some b, n)) h = h

quoted_gives : (text : List ℕ) → AreBytes text → GivesByte (quoted_byte text)
unfolding quoted_byte
quoted_gives [] h = tt
quoted_gives (b ∷ rest) h =
    either_way GivesByte ((b == 10) || (b == 34)) None _ tt
    (either_way GivesByte (b == 92) (escaped (escape rest)) (Some (b, 1)) (escaped_byte (escape rest) (escape_byte rest (All-tail (λ c. c < 256) b rest h)))
    (All-head (λ c. c < 256) b rest h))

more_bytes : (o : Option (ℕ × ℕ)) (more : ℕ → List ℕ × ℕ) → GivesByte o → ((n : ℕ) → AreBytes (more n).0) → AreBytes (and_more o more).0
more_bytes None more h k = All-nil (λ b. b < 256)
more_bytes (Some (x, n)) more h k = All-cons (λ b. b < 256) x (more n).0 h (k n)

up_to_bytes : (k : ℕ) (text : List ℕ) → AreBytes text → AreBytes (up_to quoted_byte k text).0
up_to_bytes zero text h = All-nil (λ b. b < 256)
up_to_bytes (suc k) text h =
    more_bytes (quoted_byte text) (λ n. up_to quoted_byte k (drop n text)) (quoted_gives text h) (λ n. up_to_bytes k (drop n text) (All-drop (λ b. b < 256) n text h))

steps_bytes : (text : List ℕ) → AreBytes text → AreBytes (steps quoted_byte text).0
unfolding steps
steps_bytes text h = up_to_bytes (length text) text h

quoted_stands : (text : List ℕ) → AreBytes text → StandsWell (quoted_front (quotes.quoted text))
unfolding quotes.quoted
quoted_stands text h =
    either_way (λ (o : Option (List ℕ × ℕ)). StandsWell (quoted_front o)) (has_at text (steps quoted_byte text).1 34)
    (Some ((steps quoted_byte text).0, (steps quoted_byte text).1 + 1)) None (steps_bytes text h) tt

-- ---- brackets

abbrev AreBytesIfAny : Option (List ℕ) → Type 0
AreBytesIfAny None = Unit {0}
AreBytesIfAny (Some xs) = AreBytes xs

abbrev HasByteIfAny : Option (List ℕ) → Type 0
HasByteIfAny None = Unit {0}
HasByteIfAny (Some xs) = HasSomeByte xs

member_bytes_are : (ms : List BracketMark) → AreBytesIfAny (member_bytes ms)
unfolding member_bytes
member_bytes_are ms =
    either_way AreBytesIfAny (is_refused (any_test (members ms) 0)) None (Some (bytes_where (λ b. is_yes (any_test (members ms) b)))) tt
    (bytes_where-bytes (λ b. is_yes (any_test (members ms) b)))

unless_empty_has : (xs : List ℕ) → AreBytes xs → HasByteIfAny (unless_empty xs)
unless_empty_has [] h = tt
unless_empty_has (x ∷ xs) h = some_byte (x ∷ xs) h (λ e. absurd (cc e))

turned_has : (inverted : Bool) (o : Option (List ℕ)) → AreBytesIfAny o → HasByteIfAny (turned inverted o)
turned_has inverted None h = tt
turned_has false (Some xs) h = unless_empty_has xs h
turned_has true (Some xs) h = unless_empty_has (bytes_where (λ b. not (has xs b))) (bytes_where-bytes (λ b. not (has xs b)))

abbrev BracketWell : Bracket → Type 0
BracketWell b = StandsWell (bracket_front b)

set_stands : (o : Option (List ℕ)) (size : ℕ) → HasByteIfAny o → BracketWell (set_or_nothing o size)
set_stands None size h = tt
set_stands (Some xs) size h = h

closed_stands : (inverted : Bool) (ms : List BracketMark) (size : ℕ) → BracketWell (closed inverted ms size)
closed_stands inverted ms size =
    either_way BracketWell (list_any is_collating ms) collation (set_or_nothing (turned inverted (member_bytes ms)) size) tt
    (set_stands (turned inverted (member_bytes ms)) size (turned_has inverted (member_bytes ms) (member_bytes_are ms)))

bracket_in_stands : (inverted : Bool) (skipped : ℕ) (text : List ℕ) → BracketWell (bracket_in inverted skipped text)
bracket_in_stands inverted skipped text =
    either_way BracketWell (has_at text (marks text).1 93) (closed inverted (marks text).0 (skipped + ((marks text).1 + 1))) nothing
    (closed_stands inverted (marks text).0 (skipped + ((marks text).1 + 1))) tt

bracket_stands : (text : List ℕ) → BracketWell (bracket text)
unfolding bracket
bracket_stands text =
    either_way BracketWell (has_at text 0 94) (bracket_in true 1 (drop 1 text)) (bracket_in false 0 text) (bracket_in_stands true 1 (drop 1 text)) (bracket_in_stands false 0 text)

-- ---- the rest

brace_stands : (o : Option (Repetition × ℕ)) (word : Option (List ℕ × ℕ)) → StandsWell (brace_front o word)
brace_stands (Some (r, n)) word = tt
brace_stands None None = tt
brace_stands None (Some (bytes, n)) = tt

sign_stands : (b : ℕ) → b < 256 → StandsWell (sign_front b)
unfolding sign_front
sign_stands b lt =
    either_way StandsWell (b == 46) (item any_byte 1) _ (bytes_where-has_byte (λ c. not (c == 10)) 0 (omega arith) refl)
    (either_way StandsWell (b == 40) (item opening 1) _ tt (either_way StandsWell (b == 41) (item closing 1) _ tt
    (either_way StandsWell (b == 124) (item bar 1) _ tt (either_way StandsWell (b == 42) (item (repetition (AtLeast 0)) 1) _ tt
    (either_way StandsWell (b == 43) (item (repetition (AtLeast 1)) 1) _ tt (either_way StandsWell (b == 63) (item (repetition Optional) 1) _ tt
    (either_way StandsWell ((b == 94) || (b == 36)) (stop Anchor) _ tt (either_way StandsWell (b == 47) (stop Trailing) _ tt
    (either_way StandsWell (is_plain b) (item (one_byte_item b) 1) (stop Syntax) (one_byte-has_byte b lt) tt)))))))))

front_stands : (text : List ℕ) → AreBytes text → StandsWell (front text)
unfolding front
front_stands [] h = tt
front_stands (b ∷ rest) h =
    let first = All-head (λ c. c < 256) b rest h in
    let others = All-tail (λ c. c < 256) b rest h in
    either_way StandsWell (b == 92) (escape_front (escape rest)) _ (escape_stands (escape rest) (escape_byte rest others))
    (either_way StandsWell (b == 34) (quoted_front (quotes.quoted rest)) _ (quoted_stands rest others)
    (either_way StandsWell (b == 91) (bracket_front (bracket rest)) _ (bracket_stands rest)
    (either_way StandsWell (b == 123) (brace_front (interval rest) (name rest)) (sign_front b) (brace_stands (interval rest) (name rest)) (sign_stands b first))))

-- what stands at the front of bytes stands for bytes
pub front-stands_for_bytes : (text : List ℕ) (i : Item) (n : ℕ) → AreBytes text → front text ≡ item i n → StandsForBytes i
front-stands_for_bytes text i n h e = subst StandsWell e (front_stands text h)
