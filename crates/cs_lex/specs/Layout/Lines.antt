-- What a line of a lex file is, by what it begins with (POSIX lex; `%option` and its words of flex).
use Rattle.std.specs.Prelude.{ℕ, Bool, true, false, ◌==◌, ◌||◌, not, if◌then◌else◌, List, [], ◌∷◌, drop, codes}
use Rattle.std.specs.List.{prefix_len, take_while, list_any}
use Rattle.std.specs.Str.{bytes_eq}
use Rattle.cs_bytes.specs.Names.{percent, capital_s, capital_x, letter_s, letter_x, opening_brace}
use Rattle.cs_bytes.specs.Places.{begins_with, begins_with_two}
use Rattle.cs_ctext.specs.Comments.{opens_comment}
use Rattle.cs_lex.specs.declared.layout.line.LineKind.{LineKind}
use Rattle.cs_lex.specs.declared.layout.line.LineKind.TheVariants.{SectionEnd, Block, Options, Skipped, Conditions, Unknown, Loose, Definition, Rule, NoForm}
use Rattle.cs_bytes.specs.Classes.{is_blank, is_space, begins_word, is_dashed_word_byte}
use Rattle.cs_bytes.specs.Places.{front}

-- the word is one of these
abbrev pub is_among : List (List ℕ) → List ℕ → Bool
is_among words word = list_any (bytes_eq word) words

-- the words of `%` lines that are skipped
abbrev pub skipped_words : List (List ℕ)
skipped_words = codes "array" ∷ codes "pointer" ∷ codes "p" ∷ codes "n" ∷ codes "a" ∷ codes "e" ∷ codes "k" ∷ codes "o" ∷ []

-- the words that `%option` may have
abbrev pub option_words : List (List ℕ)
option_words =
    codes "noyywrap" ∷ codes "yylineno" ∷ codes "nounput" ∷ codes "noinput" ∷ codes "nodefault" ∷ codes "warn" ∷ codes "debug"
    ∷ codes "verbose" ∷ codes "8bit" ∷ codes "reentrant" ∷ codes "bison-bridge" ∷ codes "bison-locations" ∷ codes "never-interactive"
    ∷ codes "always-interactive" ∷ []

-- s, S, x or X
abbrev pub begins_condition : ℕ → Bool
begins_condition b = (b == letter_s) || (b == capital_s) || (b == letter_x) || (b == capital_x)

-- the kind of a line that begins with `%` and this word, which may be empty
abbrev pub word_kind : List ℕ → LineKind
word_kind word =
    if bytes_eq word (codes "option") then Options
    else if is_among skipped_words word then Skipped
    else if front begins_condition word then Conditions
    else Unknown

-- the kind of a line that begins with `%` and this rest
abbrev pub percent_kind : List ℕ → LineKind
percent_kind rest =
    if begins_with percent rest then SectionEnd
    else if begins_with opening_brace rest then Block
    else word_kind (take_while is_dashed_word_byte rest)

-- a blank, a newline, `/*` or `//` begins the text
abbrev pub begins_loose : List ℕ → Bool
begins_loose text = front is_space text || opens_comment text

-- the kind of the line of the definitions section in front of the text; none has a form at the end
abbrev pub definitions_kind : List ℕ → LineKind
definitions_kind text =
    if begins_with percent text then percent_kind (drop 1 text)
    else if begins_loose text then Loose
    else if front begins_word text then Definition
    else NoForm

-- nothing is left of the text
abbrev pub is_end : List ℕ → Bool
is_end [] = true
is_end (b ∷ text) = false

-- the kind of the line of the rules section in front of the text; the section may also end with the file
abbrev pub rules_kind : List ℕ → LineKind
rules_kind text =
    if is_end text || begins_with_two percent percent text then SectionEnd
    else if begins_with_two percent opening_brace text then Block
    else if begins_loose text then Loose
    else Rule

-- ---- the words of `%option`

abbrev pub is_option_byte : ℕ → Bool
is_option_byte b = not (is_blank b)

-- of the blank or known word in front; 0 where neither stands there
abbrev pub option_size : List ℕ → ℕ
option_size line =
    if front is_blank line then 1
    else if is_among option_words (take_while is_option_byte line) then prefix_len is_option_byte line
    else 0
