-- The C words of a text (ISO C, identifiers and preprocessing numbers).
use Rattle.std.specs.Prelude.{ℕ, ◌+◌, List, [], ◌∷◌, drop, IsTrue}
use Rattle.cs_bytes.specs.Classes.{is_digit, is_word_byte, begins_word}
use Rattle.cs_bytes.specs.Places.{front, IsRun}
use Rattle.cs_ctext.specs.Comments.{IsOpenComment}
use Rattle.cs_ctext.specs.Blocks.{IsPart}
use Rattle.cs_ctext.specs.declared.word_iter.Word.{Word}

abbrev pub word_at : ℕ → ℕ → Word
word_at at n = record { from = at; to = at + n }

-- The text, whose first byte has the offset `at`, has these words outside comments and closed quoted constructs, in order.
-- A run that begins with a digit is no word. A comment that is open takes the rest of the text.
pub data HasWords : ℕ → List ℕ → List Word → Type 0 where
  nothing : {at : ℕ} → HasWords at [] []
  word : {at n : ℕ} {text : List ℕ} {words : List Word} → IsTrue (front begins_word text) → IsRun is_word_byte text n → HasWords (at + n) (drop n text) words → HasWords at text (word_at at n ∷ words)
  number : {at n : ℕ} {text : List ℕ} {words : List Word} → IsTrue (front is_digit text) → IsRun is_word_byte text n → HasWords (at + n) (drop n text) words → HasWords at text words
  part : {at n : ℕ} {text : List ℕ} {words : List Word} → IsPart is_word_byte text n → HasWords (at + n) (drop n text) words → HasWords at text words
  open_comment : {at : ℕ} {text : List ℕ} → IsOpenComment text → HasWords at text []
