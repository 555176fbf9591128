-- The words of a text: what stands between spaces, of which one stands between any two words.
use Rattle.std.specs.Prelude.{ℕ, Bool, not, ◌==◌, if◌then◌else◌, List, [], ◌∷◌}
use Rattle.cs_bytes.specs.Names.{space}
use Rattle.cs_lines.specs.Lines.Pieces.{onto}

-- the byte stands in a word
abbrev pub in_word : ℕ → Bool
in_word b = not (b == space)

-- the words of a text, of which there is one at least; two spaces side by side have an empty word between them
abbrev pub split : List ℕ → List (List ℕ)
split [] = [] ∷ []
split (b ∷ text) = if b == space then [] ∷ split text else onto b (split text)

-- the words behind a space, up to the end; none where the text doesn't begin with a space
abbrev pub words_behind : List ℕ → List (List ℕ)
words_behind [] = []
words_behind (b ∷ text) = if b == space then split text else []
