-- Texts from pieces. Working words of proofs.
use Rattle.std.specs.Prelude.{◌≡◌, ℕ, List, ◌++◌, Option, Some, map}
use Rattle.std.specs.List.{AllZip, flat_map}
use Rattle.std.proofs.Common.{Bor, Global, Vec}
use Rattle.cs_scanner.specs.Lexeme.Lexeme.{lexeme_in}
use Rattle.cs_spell.specs.Texts.Texts.{spelled}
use Rattle.cs_spell.specs.declared.texts.way.Way.{Way}

-- what references point to
abbrev pub values : List (Bor (List ℕ)) → List (List ℕ)
values = map (λ b. b.now)

-- the lexemes of the tokens
abbrev pub AreLexemesOf : List (Option (List ℕ)) → List ℕ → List (List ℕ) → Type 0
AreLexemesOf lexemes tokens texts = AllZip (λ token lexeme. lexeme_in lexemes token ≡ Some lexeme) tokens texts

-- the text is that of the pieces with the spelling
abbrev pub IsSpelledBy : Way → List ℕ → List ℕ → List (Bor (List ℕ)) → Vec ℕ Global → Type 0
IsSpelledBy way separator spelling pieces text = text.items ≡ spelled way separator spelling (values pieces)

-- the texts, each with the spelling behind it
abbrev pub followed : List ℕ → List (List ℕ) → List ℕ
followed spelling texts = flat_map (λ text. text ++ spelling) texts

-- the spelling, and these
abbrev pub surrounded : List ℕ → List (List ℕ) → List ℕ
surrounded spelling texts = spelling ++ followed spelling texts
