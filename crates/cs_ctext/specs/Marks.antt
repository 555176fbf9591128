-- Bytes that open or close something in C text.
use Rattle.std.specs.Prelude.{ℕ, Bool, ◌==◌, ◌||◌}
use Rattle.cs_bytes.specs.Names.{quote, double_quote, opening_brace, closing_brace}

-- `{` or `}`
abbrev pub is_brace : ℕ → Bool
is_brace b = (b == opening_brace) || (b == closing_brace)

-- `"` or `'`
abbrev pub is_quote : ℕ → Bool
is_quote b = (b == double_quote) || (b == quote)
