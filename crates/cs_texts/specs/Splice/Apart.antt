-- Tokens whose lexemes scan back to them, whichever of them stand side by side.
use Rattle.std.specs.Prelude.{◌≡◌, ℕ, ◌-◌, ◌<◌, List, Bool, [], ◌∷◌, ◌++◌, All, Option, Some, true, length, slice_get}
use Rattle.cs_scanner.specs.Lexeme.Lexeme.{lexeme_in}
use Rattle.cs_scanner.specs.Scan.Compared.{scanning}
use Rattle.cs_scanner.specs.Scan.Going.{IsBegunBy}
use Rattle.cs_scanner.specs.Scan.Scan.{Scanning, Gives, Scans}
use Rattle.cs_texts.specs.Rendering.Rendering.{HasLexeme, IsRuleText}
use Rattle.cs_texts.specs.declared.rendering.render_work.RenderWork.{RenderWork}

-- the token, which counts from 1, is one of those that are marked
abbrev pub IsApart : List Bool → ℕ → Type 0
IsApart marks token = (0 < token) × (slice_get marks (token - 1) ≡ Some true)

abbrev pub AreApart : List Bool → List ℕ → Type 0
AreApart marks tokens = All (IsApart marks) tokens

-- each marked token has a lexeme, so that each list of them has a rule's text
abbrev pub HaveLexemes : List (Option (List ℕ)) → List Bool → Type 0
HaveLexemes lexemes marks = (token : ℕ) → IsApart marks token → HasLexeme lexemes token

-- the rule's text of each list of marked tokens scans to the list
abbrev pub ScanBack : RenderWork → List Bool → Type 0
ScanBack work marks =
    (tokens text : List ℕ) → AreApart marks tokens → IsRuleText work.lexemes.now work.separator.now tokens text
    → Scans (scanning work.scanner.now) text tokens

-- ---- working words of proofs

-- each text that begins with the lexeme and the separator has the lexeme as its first match, which gives the token
abbrev pub IsTakenFirst : Scanning → List ℕ → List ℕ → ℕ → Type 0
IsTakenFirst s lexeme separator token = (later : List ℕ) → Gives s ((lexeme ++ separator) ++ later) (length lexeme) (token ∷ [])

-- the scan of each text that begins with the separator and the byte gives what the scan from the byte on does
abbrev pub IsPassedBefore : Scanning → List ℕ → ℕ → Type 0
IsPassedBefore s separator first = (later : List ℕ) → IsBegunBy s (separator ++ first ∷ later) [] (first ∷ later)

-- the token has a lexeme, which is taken first, and the separator in front of its first byte is passed over
pub record StandsApart (work : RenderWork) (token : ℕ) : Type 0 where
  pub first : ℕ
  pub rest : List ℕ
  pub has : lexeme_in work.lexemes.now token ≡ Some (first ∷ rest)
  pub taken : IsTakenFirst (scanning work.scanner.now) (first ∷ rest) work.separator.now token
  pub passed : IsPassedBefore (scanning work.scanner.now) work.separator.now first

-- each token that is marked stands apart
abbrev pub MarkApart : RenderWork → List Bool → Type 0
MarkApart work marks = (token : ℕ) → IsApart marks token → StandsApart work token
