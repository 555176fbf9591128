-- The named classes of bytes, which are those of ASCII (POSIX, "RE bracket expression", in the POSIX locale).
use Rattle.std.specs.Prelude.{ℕ, Bool, ◌==◌, nat_le, ◌&&◌, ◌||◌, not, if◌then◌else◌, List, Option, Some, None, codes}
use Rattle.std.specs.Option.{option_or}
use Rattle.std.specs.Str.{bytes_eq}
use Rattle.cs_bytes.specs.Names.{space, tab}
use Rattle.cs_bytes.specs.Classes.{is_letter, is_digit, is_hexadecimal_digit}
use Rattle.cs_pattern_parts.specs.declared.items.bracket.Class.{Class}
use Rattle.cs_pattern_parts.specs.declared.items.bracket.Class.TheVariants.{Upper, Lower, Digit, Alpha, Alnum, Xdigit, Blank, Space, Cntrl, Graph, Print, Punct}

unfoldable pub letter_class : List ℕ → Option Class
letter_class name =
    if bytes_eq name (codes "upper") then Some Upper else (if bytes_eq name (codes "lower") then Some Lower
    else (if bytes_eq name (codes "digit") then Some Digit else (if bytes_eq name (codes "alpha") then Some Alpha
    else (if bytes_eq name (codes "alnum") then Some Alnum else (if bytes_eq name (codes "xdigit") then Some Xdigit else None)))))

unfoldable pub other_class : List ℕ → Option Class
other_class name =
    if bytes_eq name (codes "blank") then Some Blank else (if bytes_eq name (codes "space") then Some Space
    else (if bytes_eq name (codes "cntrl") then Some Cntrl else (if bytes_eq name (codes "graph") then Some Graph
    else (if bytes_eq name (codes "print") then Some Print else (if bytes_eq name (codes "punct") then Some Punct else None)))))

-- the class of that name
unfoldable pub class_of : List ℕ → Option Class
class_of name = option_or (letter_class name) (other_class name)

-- the bytes of a class
unfoldable pub is_in_class : Class → ℕ → Bool
is_in_class Upper b = nat_le 65 b && nat_le b 90
is_in_class Lower b = nat_le 97 b && nat_le b 122
is_in_class Digit b = is_digit b
is_in_class Alpha b = is_letter b
is_in_class Alnum b = is_letter b || is_digit b
is_in_class Xdigit b = is_hexadecimal_digit b
is_in_class Blank b = (b == space) || (b == tab)
is_in_class Space b = (b == space) || (nat_le 9 b && nat_le b 13)
is_in_class Cntrl b = nat_le b 31 || (b == 127)
is_in_class Graph b = nat_le 33 b && nat_le b 126
is_in_class Print b = nat_le 32 b && nat_le b 126
is_in_class Punct b = (nat_le 33 b && nat_le b 126) && not (is_letter b || is_digit b)
