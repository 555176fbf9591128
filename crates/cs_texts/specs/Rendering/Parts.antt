-- The text of tokens, part by part.
use Rattle.std.specs.Prelude.{◌≡◌, ℕ, List, ◌++◌, All, Option, Some, take}
use Rattle.cs_scanner.specs.Lexeme.Lexeme.{lexeme_in}
use Rattle.cs_texts.specs.Rendering.Rendering.{HasLexeme, IsRuleText}

-- the token's lexeme was put behind the text
abbrev pub PutsLexeme : List (Option (List ℕ)) → ℕ → List ℕ → List ℕ → Type 0
PutsLexeme lexemes token old new = (lexeme : List ℕ) × (lexeme_in lexemes token ≡ Some lexeme) × (new ≡ old ++ lexeme)

-- the rule's text of the tokens in front of the place
abbrev pub IsTextUpTo : List (Option (List ℕ)) → List ℕ → List ℕ → ℕ → List ℕ → Type 0
IsTextUpTo lexemes separator tokens place text = IsRuleText lexemes separator (take place tokens) text

-- no token in front of the place lacks a lexeme
abbrev pub HaveUpTo : List (Option (List ℕ)) → List ℕ → ℕ → Type 0
HaveUpTo lexemes tokens place = All (HasLexeme lexemes) (take place tokens)
