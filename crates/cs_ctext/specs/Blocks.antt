-- Blocks of C: `{` through the matching `}`.
use Rattle.std.specs.Prelude.{◌≡◌, ℕ, suc, ◌+◌, Bool, false, List, [], ◌∷◌, drop}
use Rattle.cs_bytes.specs.Names.{opening_brace, closing_brace}
use Rattle.cs_bytes.specs.Places.{front}
use Rattle.cs_ctext.specs.Marks.{is_brace}
use Rattle.cs_ctext.specs.Comments.{IsComment, OpensComment}
use Rattle.cs_ctext.specs.Quotes.{IsQuoted}

-- A part of C text that is passed as a whole: a comment, a closed quoted construct, or another byte.
-- A `/` that opens no comment is another byte, and so is a quote mark that isn't closed on its line; a special byte isn't.
pub data IsPart (is_special : ℕ → Bool) : List ℕ → ℕ → Type 0 where
  comment : {text : List ℕ} {n : ℕ} → IsComment text n → IsPart is_special text n
  quoted : {text : List ℕ} {n : ℕ} → IsQuoted text n → IsPart is_special text n
  other : {b : ℕ} {text : List ℕ} → is_special b ≡ false → ¬ OpensComment (b ∷ text) → ((n : ℕ) → ¬ IsQuoted (b ∷ text) n) → IsPart is_special (b ∷ text) 1

-- a part of this size begins the text, whichever bytes are special, if the first isn't
abbrev pub BeginsPart : List ℕ → ℕ → Type 0
BeginsPart text size = (is_special : ℕ → Bool) → front is_special text ≡ false → IsPart is_special text size

-- The rest of a block, through the `}` that closes it: parts and nested blocks stand before it.
pub data IsBlockRest : List ℕ → ℕ → Type 0 where
  closing : {text : List ℕ} → IsBlockRest (closing_brace ∷ text) 1
  part : {text : List ℕ} {k n m : ℕ} → IsPart is_brace text k → IsBlockRest (drop k text) n → m ≡ k + n → IsBlockRest text m
  nested : {text : List ℕ} {k n m : ℕ} → IsBlockRest text k → IsBlockRest (drop k text) n → m ≡ suc (k + n) → IsBlockRest (opening_brace ∷ text) m

-- a block begins the text, and has this size
abbrev pub IsBlock : List ℕ → ℕ → Type 0
IsBlock [] size = ⊥
IsBlock (b ∷ text) size = (b ≡ opening_brace) × (n : ℕ) × IsBlockRest text n × (size ≡ suc n)
