-- Sets of bytes as 256 bits in four words.
use Rattle.std.specs.Prelude.{ℕ, ◌/◌, ◌%◌, Bool, ◌==◌, List, slice_index}
use Rattle.std.specs.Int.{bit_at}
use Rattle.cs_pattern_parts.specs.Items.Members.{bytes_where}

-- the byte's bit is set
abbrev pub has_bit : List ℕ → ℕ → Bool
has_bit words byte = bit_at (slice_index words (byte / 64)) (byte % 64) == 1

-- the bytes whose bits are set
abbrev pub bytes_of : List ℕ → List ℕ
bytes_of words = bytes_where (has_bit words)
