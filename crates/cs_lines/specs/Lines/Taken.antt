-- What the code takes of the words that are left of a line. These are working words of contracts inside `lines`.
use Rattle.std.specs.Prelude.{◌≡◌, ◌/◌, ◌%◌, ◌<◌, ◌==◌, ℕ, Bool, false, List, [], ◌∷◌, ◌++◌, All, map, drop, Option, codes}
use Rattle.std.specs.Bool.{MatchBool}
use Rattle.cs_bytes.specs.Names.{space}
use Rattle.cs_pattern_parts.specs.Items.StandsFor.{AreBytes}
use Rattle.cs_choices.specs.declared.weigh.Weigh.{Weigh}
use Rattle.cs_lines.specs.declared.lines.words.Words.{Words}
use Rattle.cs_lines.specs.declared.lines.steps.TwoNames.{TwoNames}
use Rattle.cs_lines.specs.declared.lines.steps.TwoNumbers.{TwoNumbers}
use Rattle.cs_lines.specs.declared.lines.spelled.SpelledByte.{SpelledByte}
use Rattle.cs_lines.specs.declared.lines.names.Names.{Names}
use Rattle.cs_lines.specs.declared.lines.numbers.Numbers.{Numbers}
use Rattle.cs_lines.specs.declared.lines.quoted.Quoted.{Quoted}
use Rattle.cs_lines.specs.declared.lines.line.GoalWords as goals
use Rattle.cs_lines.specs.declared.lines.line.Verdict as verdicts
use Rattle.cs_lines.specs.declared.lines.line.EditWords as edits
use Rattle.cs_lines.specs.Words.Words.{numeral, quoted, escaped, IsVisible, IsWord}
use Rattle.cs_lines.specs.Words.Edits.{EditWords}
use Rattle.cs_lines.specs.Lines.Line.{SetKind, RowKind, GoalWords, VerdictWords}
use Rattle.cs_lines.specs.Lines.Texts.{weigh_word, set_word, row_word, goal_words, verdict_words, edit_words, goal_names, edit_names}
use Rattle.cs_lines.specs.Lines.Splits.{words_behind}
use Rattle.cs_lines.specs.Lines.Numbers.{IsRead}
use Rattle.cs_lines.specs.Lines.Spelled.{BeginsSpelled, IsDigitOf, spelled_or_none, bytes_in}
use Rattle.cs_lines.specs.Lines.Read.{names_in, numbers_in, IsText, TellsText, TellsGoal, TellsVerdict, TellsEdit}

-- the words that are left
abbrev pub words_in : Words → List (List ℕ)
words_in words = words_behind words.rest.now

-- the words of a line that says why there is no text
abbrev pub no_text : List (List ℕ) → List (List ℕ)
no_text reason = [] ∷ [] ∷ codes "no" ∷ codes "text" ∷ reason

-- ---- words

-- this one is taken, which was the next
abbrev pub Takes : Words → Words → List ℕ → Type 0
Takes before after word = words_in before ≡ word ∷ words_in after

-- the next word, if there is one, is another
abbrev pub IsNotNext : Words → List ℕ → Type 0
IsNotNext words word = (others : List (List ℕ)) → words_in words ≡ word ∷ others → ⊥

abbrev pub TakesName : Words → Words → List ℕ → Type 0
TakesName before after name = IsWord name × Takes before after name

abbrev pub HasNoName : Words → Type 0
HasNoName words = (name : List ℕ) (others : List (List ℕ)) → IsWord name → words_in words ≡ name ∷ others → ⊥

abbrev pub TakesNames : Words → Words → TwoNames → Type 0
TakesNames before after two =
    IsWord two.left.now × IsWord two.right.now × (words_in before ≡ two.left.now ∷ two.right.now ∷ words_in after)

abbrev pub HasNoNames : Words → Type 0
HasNoNames words = (one other : List ℕ) (others : List (List ℕ)) → IsWord one → IsWord other → words_in words ≡ one ∷ other ∷ others → ⊥

abbrev pub TakesNumber : Words → Words → ℕ → Type 0
TakesNumber before after read = (n : ℕ) × IsRead n read × (words_in before ≡ numeral n ∷ words_in after)

abbrev pub HasNoNumber : Words → Type 0
HasNoNumber words = (n : ℕ) (others : List (List ℕ)) → words_in words ≡ numeral n ∷ others → ⊥

-- a word and a number behind it
abbrev pub Counted : List ℕ → Words → Words → ℕ → Type 0
Counted word before after read = (n : ℕ) × IsRead n read × (words_in before ≡ word ∷ numeral n ∷ words_in after)

abbrev pub HasNoCount : List ℕ → Words → Type 0
HasNoCount word words = (n : ℕ) (others : List (List ℕ)) → words_in words ≡ word ∷ numeral n ∷ others → ⊥

-- two numbers with a word between them are all that is left
abbrev pub AreTwoNumbers : List ℕ → Words → TwoNumbers → Type 0
AreTwoNumbers word words two =
    (n : ℕ) × (m : ℕ) × IsRead n two.first × IsRead m two.second × (words_in words ≡ numeral n ∷ word ∷ numeral m ∷ [])

abbrev pub AreNotTwoNumbers : List ℕ → Words → Type 0
AreNotTwoNumbers word words = (n m : ℕ) → words_in words ≡ numeral n ∷ word ∷ numeral m ∷ [] → ⊥

-- ---- one word

-- the byte may be the next of names: a space where no byte of one is due, or a byte of one
abbrev pub MayFollow : Bool → ℕ → Type 0
MayFollow is_due byte = MatchBool (byte == space) (is_due ≡ false) (IsVisible byte)

-- the word is a number, which is read as this one
abbrev pub IsNumberRead : List ℕ → ℕ → Type 0
IsNumberRead word read = (n : ℕ) × (word ≡ numeral n) × IsRead n read

abbrev pub IsNoNumber : List ℕ → Type 0
IsNoNumber word = (n : ℕ) → word ≡ numeral n → ⊥

abbrev pub IsNoWeigh : List ℕ → Type 0
IsNoWeigh word = (weigh : Weigh) → word ≡ weigh_word weigh → ⊥

abbrev pub IsNoSet : List ℕ → Type 0
IsNoSet word = (kind : SetKind) → word ≡ set_word kind → ⊥

abbrev pub IsNoRow : List ℕ → Type 0
IsNoRow word = (kind : RowKind) → word ≡ row_word kind → ⊥

-- ---- parts of lines

abbrev pub TakesGoal : Words → Words → goals.GoalWords → Type 0
TakesGoal before after told =
    (goal : GoalWords) × All IsWord (goal_names goal) × TellsGoal told goal × (words_in before ≡ goal_words goal (words_in after))

abbrev pub HasNoGoal : Words → Type 0
HasNoGoal words =
    (goal : GoalWords) (others : List (List ℕ)) → All IsWord (goal_names goal) → words_in words ≡ goal_words goal others → ⊥

abbrev pub TakesVerdict : Words → Words → verdicts.Verdict → Type 0
TakesVerdict before after told =
    (verdict : VerdictWords) × TellsVerdict told verdict × (words_in before ≡ verdict_words verdict ++ words_in after)

abbrev pub HasNoVerdict : Words → Type 0
HasNoVerdict words =
    (verdict : VerdictWords) (others : List (List ℕ)) → words_in words ≡ verdict_words verdict ++ others → ⊥

abbrev pub TakesEdit : Words → Words → edits.EditWords → Type 0
TakesEdit before after told =
    (edit : EditWords) × All IsWord (edit_names edit) × TellsEdit told edit × (words_in before ≡ edit_words edit (words_in after))

abbrev pub HasNoEdit : Words → Type 0
HasNoEdit words =
    (edit : EditWords) (others : List (List ℕ)) → All IsWord (edit_names edit) → words_in words ≡ edit_words edit others → ⊥

-- ---- lists up to the end of a line

-- the names are all the words that are left
abbrev pub AreNamesOf : Words → Names → Type 0
AreNamesOf words names = All IsWord (names_in names) × (names_in names ≡ words_in words)

abbrev pub AreNumbersOf : Words → Numbers → Type 0
AreNumbersOf words numbers = map numeral (numbers_in numbers) ≡ words_in words

-- ---- texts

-- the bytes are this text with its quotes
abbrev pub IsQuotedAs : List ℕ → Quoted → Type 0
IsQuotedAs bytes told = (text : List ℕ) × IsText told text × (bytes ≡ quoted text)

abbrev pub IsNotQuoted : List ℕ → Type 0
IsNotQuoted bytes = (text : List ℕ) → AreBytes text → bytes ≡ quoted text → ⊥

-- they are a lexeme's text, or the word for none
abbrev pub IsLexemeText : List ℕ → Option Quoted → Type 0
IsLexemeText bytes told =
    (text : Option (List ℕ)) × AreBytes (bytes_in text) × TellsText told text × (bytes ≡ spelled_or_none text)

abbrev pub IsNoLexemeText : List ℕ → Type 0
IsNoLexemeText bytes = (text : Option (List ℕ)) → AreBytes (bytes_in text) → bytes ≡ spelled_or_none text → ⊥

-- they begin with the spelling of a byte
abbrev pub IsFront : List ℕ → SpelledByte → Type 0
IsFront bytes front = BeginsSpelled bytes front.byte front.size

-- the bytes are the two digits of a byte
abbrev pub AreDigitsOf : ℕ → ℕ → ℕ → Type 0
AreDigitsOf high low byte = IsDigitOf (byte / 16) high × IsDigitOf (byte % 16) low

abbrev pub AreNoDigits : ℕ → ℕ → Type 0
AreNoDigits high low = (n m : ℕ) → IsDigitOf n high → IsDigitOf m low → ⊥

-- the bytes begin with the escape of a byte
abbrev pub BeginsEscaped : List ℕ → ℕ → Type 0
BeginsEscaped bytes byte = bytes ≡ escaped byte ++ drop 4 bytes

abbrev pub BeginsUnescaped : List ℕ → Type 0
BeginsUnescaped bytes = (byte : ℕ) (rest : List ℕ) → byte < 256 → bytes ≡ escaped byte ++ rest → ⊥
