-- What a repetition makes of a pattern.
use Rattle.std.specs.Prelude.{ℕ, zero, suc, ◌-◌, ◌==◌, List, [], ◌∷◌, ◌++◌, replicate, map}
use Rattle.cs_pattern_parts.specs.declared.items.item.Repetition.{Repetition}
use Rattle.cs_pattern_parts.specs.declared.items.item.Repetition.TheVariants.{Optional, Exactly, AtLeast, Between}
use Rattle.cs_pattern_parts.specs.Tree.Pattern.{Regex, Empty, Class, Join, Either, Many, parts_of}
use Rattle.cs_pattern_parts.specs.Items.Members.{bytes_where}

-- the pattern or the empty text
abbrev pub optional : Regex → Regex
optional r = Either (parts_of (r ∷ Empty ∷ []))

-- so many of these
abbrev pub optionals : ℕ → Regex → List Regex
optionals n r = replicate n (optional r)

abbrev pub at_least : ℕ → Regex → Regex
at_least zero r = Many r
at_least (suc n) r = Join (parts_of (replicate (suc n) r ++ Many r ∷ []))

-- `r?` is r or nothing. `r{n}` is n copies. `r{n,}` is n copies and then any number, so `r+` is one and then any number, and
-- `r*` any number alone. `r{n,m}` is n copies and then m - n that are optional.
abbrev pub repeated : Regex → Repetition → Regex
repeated r Optional = optional r
repeated r (Exactly n) = Join (parts_of (replicate n r))
repeated r (AtLeast n) = at_least n r
repeated r (Between n m) = Join (parts_of (replicate n r ++ optionals (m - n) r))

abbrev pub one_byte : ℕ → Regex
one_byte b = Class (bytes_where (λ c. c == b))

-- a quoted text: its bytes one after another
abbrev pub quoted : List ℕ → Regex
quoted [] = Empty
quoted (b ∷ bytes) = Join (parts_of (map one_byte (b ∷ bytes)))
