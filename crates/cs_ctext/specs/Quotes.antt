-- Quoted constructs: from a quote mark to the next equal mark on the line, where a backslash takes the byte behind it along
-- (ISO C, string literals and character constants).
use Rattle.std.specs.Prelude.{◌≡◌, ◌≢◌, ℕ, suc, List, [], ◌∷◌, IsTrue}
use Rattle.cs_bytes.specs.Names.{newline, backslash}
use Rattle.cs_ctext.specs.Marks.{is_quote}

-- The rest of a quoted construct, through the closing mark: plain bytes, and backslashes each with the byte behind it, a newline too.
pub data IsQuotedRest (mark : ℕ) : List ℕ → ℕ → Type 0 where
  closing : {text : List ℕ} → IsQuotedRest mark (mark ∷ text) 1
  plain : {b : ℕ} {text : List ℕ} {n : ℕ} → b ≢ mark → b ≢ backslash → b ≢ newline → IsQuotedRest mark text n → IsQuotedRest mark (b ∷ text) (suc n)
  escaped : {b : ℕ} {text : List ℕ} {n : ℕ} → IsQuotedRest mark text n → IsQuotedRest mark (backslash ∷ b ∷ text) (suc (suc n))

-- a closed quoted construct begins the text, and has this size
abbrev pub IsQuoted : List ℕ → ℕ → Type 0
IsQuoted [] size = ⊥
IsQuoted (mark ∷ text) size = IsTrue (is_quote mark) × (n : ℕ) × IsQuotedRest mark text n × (size ≡ suc n)
