-- The forms of lines: how far each goes.
use Rattle.std.specs.Prelude.{◌≡◌, ℕ, ◌+◌, ◌<◌, ◌⊎◌, Bool, true, false, ◌&&◌, List, [], length, take, drop, IsTrue}
use Rattle.std.specs.List.{prefix_len}
use Rattle.cs_ctext.specs.Comments.{IsComment}
use Rattle.cs_bytes.specs.Names.{newline, percent, closing_brace}
use Rattle.cs_bytes.specs.Places.{begins_with, begins_with_two}
use Rattle.cs_lex.specs.Layout.Steps.{Covers, HasSize}
use Rattle.cs_bytes.specs.Classes.{is_blank, is_dashed_word_byte}
use Rattle.cs_bytes.specs.Places.{front, line_len, line_size}
use Rattle.cs_lex.specs.Layout.Patterns.{IsPattern}
use Rattle.cs_lex.specs.Layout.Runs.{IsCodeRun, IsOpenRun}
use Rattle.cs_lex.specs.Layout.Lines.{option_size, is_option_byte}

-- how many blanks begin the text
abbrev pub blanks : List ℕ → ℕ
blanks text = prefix_len is_blank text

-- a newline, and `%}` at the next line's beginning
abbrev pub closes_block : List ℕ → Bool
closes_block text = begins_with newline text && begins_with_two percent closing_brace (drop 1 text)

-- A block goes from the line in front through the next line that begins with `%}`.
pub record IsCodeBlock (text : List ℕ) (size : ℕ) : Type 0 where
  pub inside : ℕ
  pub closed : closes_block (drop inside text) ≡ true
  pub first : (k : ℕ) → k < inside → closes_block (drop k text) ≡ false
  pub ends : size ≡ inside + 1 + line_size (drop (inside + 1) text)

-- the line in front without its newline
abbrev pub line_of : List ℕ → List ℕ
line_of text = take (line_len text) text

-- what stands behind `%option` on its line
abbrev pub options_of : List ℕ → List ℕ
options_of text = line_of (drop 7 text)

-- the words behind `%option` are known
abbrev pub AreOptions : List ℕ → Type 0
AreOptions text = (n : ℕ) × Covers (HasSize option_size) (λ rest. rest ≡ []) (options_of text) n

-- the first word behind `%option` that isn't known stands behind n bytes
abbrev pub IsFirstUnknown : List ℕ → ℕ → Type 0
IsFirstUnknown text n = Covers (HasSize option_size) (λ rest. IsTrue (front is_option_byte rest) × (option_size rest ≡ 0)) (options_of text) n

-- loose text goes to the end of its last line
pub record IsLoose (text : List ℕ) (size : ℕ) : Type 0 where
  pub inside : ℕ
  pub run : IsCodeRun false text inside
  pub ends : size ≡ inside + line_size (drop inside text)

-- nothing is left of a line, or one comment that is closed on it, with blanks behind
abbrev pub IsCommentTail : List ℕ → Type 0
IsCommentTail line = (line ≡ []) ⊎ ((size : ℕ) × IsComment line size × (blanks (drop size line) ≡ length (drop size line)))

-- the rest of a line has only blanks, and at most one comment that is closed on it
abbrev pub IsTail : List ℕ → Type 0
IsTail line = IsCommentTail (drop (blanks line) line)

-- A line, without its newline, is a definition: a name, blanks, a substitute with the extent of a pattern, and a tail.
pub record IsDefinition (line : List ℕ) (name_to from to : ℕ) : Type 0 where
  pub name : name_to ≡ prefix_len is_dashed_word_byte line
  pub blank : from ≡ name_to + blanks (drop name_to line)
  pub some_blank : name_to < from
  pub extent : (n : ℕ) × IsPattern (drop from line) n × (to ≡ from + n)
  pub some : from < to
  pub tail : IsTail (drop to line)

abbrev pub IsNoDefinition : List ℕ → Type 0
IsNoDefinition line = (name_to from to : ℕ) → ¬ IsDefinition line name_to from to

-- A rule begins the text: a pattern, blanks, an action, and the newline behind it.
pub record IsRule (text : List ℕ) (pattern_to from to size : ℕ) : Type 0 where
  pub pattern : IsPattern text pattern_to
  pub blank : from ≡ pattern_to + blanks (drop pattern_to text)
  pub extent : (n : ℕ) × IsCodeRun true (drop from text) n × (to ≡ from + n)
  pub ends : size ≡ to + line_size (drop to text)

-- A rule begins the text, and a comment or brace of its action that isn't closed stands behind n bytes.
pub record IsOpenRule (text : List ℕ) (n : ℕ) : Type 0 where
  pub pattern_to : ℕ
  pub from : ℕ
  pub pattern : IsPattern text pattern_to
  pub blank : from ≡ pattern_to + blanks (drop pattern_to text)
  pub stays : (k : ℕ) × IsOpenRun true (drop from text) k × (n ≡ from + k)
