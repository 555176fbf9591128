-- What stands at a place of a text, and how far it goes.
use Rattle.std.specs.Prelude.{◌≡◌, ℕ, ◌+◌, ◌<◌, ◌≤◌, Bool, true, false, ◌==◌, ◌&&◌, List, [], ◌∷◌, length, take, drop, min, IsTrue}
use Rattle.std.specs.List.{list_all, prefix_len, position_or_len}
use Rattle.cs_bytes.specs.Classes.{is_newline}

-- the text begins with a byte that passes
abbrev pub front : (ℕ → Bool) → List ℕ → Bool
front passes [] = false
front passes (b ∷ text) = passes b

-- the text is empty, or begins with a byte that passes
abbrev pub front_or_end : (ℕ → Bool) → List ℕ → Bool
front_or_end passes [] = true
front_or_end passes (b ∷ text) = passes b

-- the text begins with the byte
abbrev pub begins_with : ℕ → List ℕ → Bool
begins_with byte [] = false
begins_with byte (b ∷ text) = b == byte

-- the text begins with these two bytes
abbrev pub begins_with_two : ℕ → ℕ → List ℕ → Bool
begins_with_two first second text = begins_with first text && begins_with second (drop 1 text)

-- the byte stands at the index
abbrev pub has_at : List ℕ → ℕ → ℕ → Bool
has_at text index byte = begins_with byte (drop index text)

-- the two bytes stand at the index, one behind the other
abbrev pub has_pair : List ℕ → ℕ → ℕ → ℕ → Bool
has_pair text index first second = begins_with_two first second (drop index text)

-- The text begins with the mark.
abbrev pub BeginsWith : List ℕ → List ℕ → Type 0
BeginsWith mark text = take (length mark) text ≡ mark

-- The longest run of bytes that pass in front of the text has n bytes: they pass, and the byte behind them, if any, doesn't.
pub record IsRun (passes : ℕ → Bool) (text : List ℕ) (n : ℕ) : Type 0 where
  pub within : n ≤ length text
  pub run : IsTrue (list_all passes (take n text))
  pub ends : front passes (drop n text) ≡ false

-- the offset behind the longest run of bytes that pass from the other offset on
abbrev pub run_end : (ℕ → Bool) → List ℕ → ℕ → ℕ
run_end passes text from = from + prefix_len passes (drop from text)

-- A longest run of bytes that pass ends at the offset `end`, and it begins at or before the offset `from`.
pub record EndsRun (passes : ℕ → Bool) (text : List ℕ) (from end : ℕ) : Type 0 where
  pub start : ℕ
  pub before : start ≤ from
  pub is : end ≡ run_end passes text start

-- Behind n bytes stand the first two such bytes.
pub record IsFirstPair (first second : ℕ) (text : List ℕ) (n : ℕ) : Type 0 where
  pub here : has_pair text n first second ≡ true
  pub none_before : (k : ℕ) → k < n → has_pair text k first second ≡ false

-- the two bytes stand nowhere in the text, one behind the other
abbrev pub HasNoPair : ℕ → ℕ → List ℕ → Type 0
HasNoPair first second text = (k : ℕ) → has_pair text k first second ≡ false

-- the size of the line in front without its newline, and with it; the last line may have none
abbrev pub line_len : List ℕ → ℕ
line_len text = position_or_len is_newline text

abbrev pub line_size : List ℕ → ℕ
line_size text = min (line_len text + 1) (length text)
