-- The rank of a byte: which of two bytes comes first in the order of lexemes (ASCII; the order is this project's).
use Rattle.std.specs.Prelude.{ℕ, ◌+◌, ◌*◌, ◌==◌, if◌then◌else◌}
use Rattle.cs_bytes.specs.Names.{tab, newline, space}
use Rattle.cs_bytes.specs.Classes.{is_between, is_digit}

-- The class of a byte: `a` to `z`, `0` to `9`, `A` to `Z`, the other visible bytes, space, newline, tab, and all others.
abbrev pub class_of : ℕ → ℕ
class_of byte =
    if is_between 97 122 byte then 0 else
    if is_digit byte then 1 else
    if is_between 65 90 byte then 2 else
    if is_between 33 126 byte then 3 else
    if byte == space then 4 else
    if byte == newline then 5 else
    if byte == tab then 6 else 7

-- by class, and in a class by value
unfoldable pub rank : ℕ → ℕ
rank byte = 256 * class_of byte + byte
