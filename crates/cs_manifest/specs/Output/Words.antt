-- Words and lines; their escapes are those of `Escapes` of cs_bytes.
use Rattle.std.specs.Prelude.{ℕ, ◌+◌, List, [], ◌∷◌, ◌++◌, decimal}
use Rattle.std.specs.List.{flat_map, enumerate_from}
pub use Rattle.cs_bytes.specs.Escapes.{exclamation_mark, tilde, hexadecimal_digit, escaped, is_plain_literal, is_plain_text, literal_byte, text_byte, literal, quoted}
use Rattle.cs_bytes.specs.Names.{newline, space}

-- each line ends with a newline
abbrev pub line : List ℕ → List ℕ
line words = words ++ newline ∷ []

-- a number behind its word
abbrev pub numbered_word : List ℕ → ℕ → List ℕ
numbered_word word number = word ++ decimal number

-- the text of each member, in order, each behind a space
abbrev pub spaced : {A : Type 0} → (A → List ℕ) → List A → List ℕ
spaced f xs = flat_map (λ x. space ∷ f x) xs

-- the lines of each member, seen with its number from n on, in order
abbrev pub numbered_from : {A : Type 0} → ℕ → (ℕ → A → List ℕ) → List A → List ℕ
numbered_from n f xs = flat_map (λ p. f p.0 p.1) (enumerate_from n xs)

-- with its number from 1 on
abbrev pub with_numbers : {A : Type 0} → (ℕ → A → List ℕ) → List A → List ℕ
with_numbers f xs = numbered_from 1 f xs
