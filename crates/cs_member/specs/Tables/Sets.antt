-- Sets of numbers, as bits in words of 64 and as the words that aren't 0.
use Rattle.std.specs.Prelude.{◌≡◌, ℕ, ◌/◌, ◌%◌, List, slice_index, Contains}
use Rattle.std.specs.Int.{bit_at}
use Rattle.cs_member.specs.declared.tables.word.Word.{Word}

-- the number's bit is set
abbrev pub Has : List ℕ → ℕ → Type 0
Has set n = bit_at (slice_index set (n / 64)) (n % 64) ≡ 1

-- the word has the number
abbrev pub InWord : Word → ℕ → Type 0
InWord word n = (word.at ≡ n / 64) × (bit_at word.bits (n % 64) ≡ 1)

-- one of the words has the number
abbrev pub InWords : List Word → ℕ → Type 0
InWords words n = (word : Word) × Contains words word × InWord word n
