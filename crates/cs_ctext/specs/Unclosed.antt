-- Working words of the proofs: what a walk over C text remembers of quote marks.
use Rattle.std.specs.Prelude.{◌≡◌, ℕ, ◌+◌, ◌<◌, ◌≤◌, true, false, List, drop, length, Some, None}
use Rattle.cs_bytes.specs.Places.{has_at}
use Rattle.cs_ctext.specs.Scans.{quoted_rest, quoted_size}
use Rattle.cs_ctext.specs.declared.quoted.Rest.{Rest}
use Rattle.cs_ctext.specs.declared.quoted.Rest.TheVariants.{Closed, Unclosed}

-- each such mark in `from..to` begins no closed quoted construct
abbrev pub NoneCloses : ℕ → List ℕ → ℕ → ℕ → Type 0
NoneCloses mark text from to = (i : ℕ) → from ≤ i → i < to → has_at text i mark ≡ true → quoted_size (drop i text) ≡ None

-- the construct whose rest is the text isn't closed, and neither is one that begins at such a mark before its line's end
pub record StaysOpen (mark : ℕ) (text : List ℕ) (end : ℕ) : Type 0 where
  pub within : end ≤ length text
  pub unclosed : quoted_rest mark false text ≡ None
  pub others : (i : ℕ) → i < end → has_at text i mark ≡ true → quoted_rest mark false (drop (i + 1) text) ≡ None

-- what the code says of the rest of a quoted construct
abbrev pub FindsRest : ℕ → List ℕ → Rest → Type 0
FindsRest mark text (Closed size) = (quoted_rest mark false text ≡ Some size) × (size ≤ length text)
FindsRest mark text (Unclosed end) = StaysOpen mark text end
