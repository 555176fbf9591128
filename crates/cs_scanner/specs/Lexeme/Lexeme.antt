-- Lexemes: the least text whose scan is one match that gives a token.
use Rattle.std.specs.Prelude.{◌≡◌, ◌-◌, ℕ, ◌<◌, ◌≤◌, List, [], ◌∷◌, Option, Some, None, length, slice_index_or}
use Rattle.cs_pattern_parts.specs.Items.StandsFor.{AreBytes}
use Rattle.cs_scanner.specs.Scan.Scan.{Scanning, Gives}
use Rattle.cs_scanner.specs.Lexeme.Order.{IsAtMost}

-- the scan of the text is one match, which gives the token
abbrev pub IsOneMatch : Scanning → ℕ → List ℕ → Type 0
IsOneMatch s token text = Gives s text (length text) (token ∷ [])

-- The text is the lexeme of the token: of all texts of bytes whose scan is one match that gives the token, the least.
pub record IsLexeme (s : Scanning) (token : ℕ) (text : List ℕ) : Type 0 where
  pub bytes : AreBytes text
  pub gives : IsOneMatch s token text
  pub least : (other : List ℕ) → AreBytes other → IsOneMatch s token other → IsAtMost text other

-- no text is one
abbrev pub HasNoLexeme : Scanning → ℕ → Type 0
HasNoLexeme s token = (text : List ℕ) → AreBytes text → IsOneMatch s token text → ⊥

-- the token's lexeme, or that it has none
abbrev pub IsLexemeOf : Scanning → ℕ → Option (List ℕ) → Type 0
IsLexemeOf s token None = HasNoLexeme s token
IsLexemeOf s token (Some text) = IsLexeme s token text

-- the entry of a token, which counts from 1, in a list
abbrev pub lexeme_in : List (Option (List ℕ)) → ℕ → Option (List ℕ)
lexeme_in lexemes token = slice_index_or lexemes (token - 1) None

-- the lexemes of the tokens from 1 to so many, one after another
pub record AreLexemes (s : Scanning) (tokens : ℕ) (lexemes : List (Option (List ℕ))) : Type 0 where
  pub all : length lexemes ≡ tokens
  pub each : (token : ℕ) → 0 < token → token ≤ tokens → IsLexemeOf s token (lexeme_in lexemes token)
