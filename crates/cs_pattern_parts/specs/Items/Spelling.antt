-- What a text spells in front: the items of patterns (POSIX lex, "Regular expressions in lex").
use Rattle.std.specs.Prelude.{◌≡◌, ◌≢◌, ◌⊎◌, ℕ, ◌+◌, ◌<◌, ◌≤◌, ◌==◌, not, true, List, [], ◌∷◌, ◌++◌, length, Some, slice_get, codes}
use Rattle.std.specs.List.{list_all}
use Rattle.cs_bytes.specs.Names.{newline, double_quote, backslash, opening_brace, closing_brace, comma_sign, caret, dollar, slash}
use Rattle.cs_bytes.specs.Classes.{is_digit, begins_word, is_dashed_word_byte}
use Rattle.cs_bytes.specs.Digits.{number_of}
use Rattle.cs_pattern_parts.specs.declared.items.item.Repetition.{Repetition}
use Rattle.cs_pattern_parts.specs.declared.items.item.Repetition.TheVariants.{Optional, Exactly, AtLeast, Between}
use Rattle.cs_pattern_parts.specs.declared.items.front.Stop.{Stop}
use Rattle.cs_pattern_parts.specs.declared.items.front.Stop.TheVariants.{Anchor, Trailing, Collation, Syntax}
use Rattle.cs_pattern_parts.specs.Items.ByteKind.{is_plain}
use Rattle.cs_pattern_parts.specs.Items.Members.{bytes_where}
use Rattle.cs_pattern_parts.specs.Items.Parts.{Shows, Escapes, InTurn, BeginsWithByte}
use Rattle.cs_pattern_parts.specs.Items.Brackets.{IsBracket, BeginsCollation}
use Rattle.cs_pattern_parts.specs.Items.Items.{Item, class, quoted, named, opening, closing, bar, repetition}

-- ---- quoted texts

-- the first n bytes of the text stand for the byte between double quotes
pub data StandsFor : List ℕ → ℕ → ℕ → Type 0 where
  itself : (b : ℕ) (text : List ℕ) → b ≢ newline → b ≢ double_quote → b ≢ backslash → StandsFor (b ∷ text) 1 b
  escaped : (text : List ℕ) (n b : ℕ) → Escapes text n (Some b) → StandsFor (backslash ∷ text) (n + 1) b

-- a double quote, what stands for these bytes, and a double quote
pub data IsQuoted : List ℕ → ℕ → List ℕ → Type 0 where
  closed : (text : List ℕ) (n : ℕ) (bytes : List ℕ) → InTurn StandsFor text n bytes → slice_get text n ≡ Some double_quote → IsQuoted (double_quote ∷ text) (n + 2) bytes

-- ---- intervals and names

abbrev pub IsNumber : List ℕ → Type 0
IsNumber digits = (0 < length digits) × (list_all is_digit digits ≡ true)

-- `{`, these bytes and `}`
abbrev pub braced : List ℕ → List ℕ
braced bytes = opening_brace ∷ bytes ++ closing_brace ∷ []

-- The bytes between braces are an interval: the numbers are at most 1,000, the first is at most the second, and the last is
-- at least 1, but for `{0,}`.
pub data IsInterval : List ℕ → Repetition → Type 0 where
  exactly : (digits : List ℕ) → IsNumber digits → 1 ≤ number_of 10 digits → number_of 10 digits ≤ 1000 → IsInterval digits (Exactly (number_of 10 digits))
  at_least : (digits : List ℕ) → IsNumber digits → number_of 10 digits ≤ 1000 → IsInterval (digits ++ comma_sign ∷ []) (AtLeast (number_of 10 digits))
  between : (digits others : List ℕ) → IsNumber digits → IsNumber others → number_of 10 digits ≤ number_of 10 others → 1 ≤ number_of 10 others → number_of 10 others ≤ 1000
      → IsInterval (digits ++ comma_sign ∷ others) (Between (number_of 10 digits) (number_of 10 others))

abbrev pub IsName : List ℕ → Type 0
IsName [] = ⊥
IsName (b ∷ rest) = (begins_word b ≡ true) × (list_all is_dashed_word_byte rest ≡ true)

-- ---- items

abbrev pub one_byte : ℕ → List ℕ
one_byte b = bytes_where (λ c. c == b)

abbrev pub all_but_newline : List ℕ
all_but_newline = bytes_where (λ c. not (c == newline))

-- the first n bytes of the text spell the class of these bytes
pub data SpellsClass (text : List ℕ) (n : ℕ) : List ℕ → Type 0 where
  byte : (b : ℕ) → is_plain b ≡ true → Shows text (b ∷ []) n → SpellsClass text n (one_byte b)
  escape : (rest : List ℕ) (m b : ℕ) → text ≡ backslash ∷ rest → Escapes rest m (Some b) → n ≡ m + 1 → SpellsClass text n (one_byte b)
  full_stop : Shows text (codes ".") n → SpellsClass text n all_but_newline
  bracket : (set : List ℕ) → IsBracket text n set → SpellsClass text n set

-- the first n bytes of the text spell the repetition
pub data SpellsRepetition (text : List ℕ) (n : ℕ) : Repetition → Type 0 where
  star : Shows text (codes "*") n → SpellsRepetition text n (AtLeast 0)
  plus_sign : Shows text (codes "+") n → SpellsRepetition text n (AtLeast 1)
  question_mark : Shows text (codes "?") n → SpellsRepetition text n Optional
  interval : (bytes : List ℕ) (r : Repetition) → IsInterval bytes r → Shows text (braced bytes) n → SpellsRepetition text n r

-- the first n bytes of the text spell the item
abbrev pub Spells : List ℕ → ℕ → Item → Type 0
Spells text n (class set) = SpellsClass text n set
Spells text n (quoted bytes) = IsQuoted text n bytes
Spells text n (named name) = IsName name × Shows text (braced name) n
Spells text n opening = Shows text (codes "(") n
Spells text n closing = Shows text (codes ")") n
Spells text n bar = Shows text (codes "|") n
Spells text n (repetition r) = SpellsRepetition text n r

-- ---- where there is no item

-- the text spells no item in front, and begins with nothing that has a fault of its own
pub record BeginsNothing (text : List ℕ) : Type 0 where
  pub no_item : (n : ℕ) (i : Item) → Spells text n i → ⊥
  pub no_caret : BeginsWithByte text caret → ⊥
  pub no_dollar : BeginsWithByte text dollar → ⊥
  pub no_slash : BeginsWithByte text slash → ⊥
  pub no_collation : BeginsCollation text → ⊥

-- why the text spells no item in front
abbrev pub IsStoppedBy : List ℕ → Stop → Type 0
IsStoppedBy text Anchor = BeginsWithByte text caret ⊎ BeginsWithByte text dollar
IsStoppedBy text Trailing = BeginsWithByte text slash
IsStoppedBy text Collation = BeginsCollation text
IsStoppedBy text Syntax = BeginsNothing text
