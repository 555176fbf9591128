-- The rendering of a list of tokens: the text that the rule makes of it where that text scans back, else why it has none.
use Rattle.std.specs.Prelude.{◌≡◌, ℕ, ◌<◌, ◌≤◌, length, List, ◌++◌, ◌∷◌, All, Option, Some, None}
use Rattle.std.specs.List.{AllZip}
use Rattle.cs_scanner.specs.Scan.Scan.{Scanning, Scans}
use Rattle.cs_scanner.specs.declared.scanning.scanner.Scanner.{Scanner}
use Rattle.cs_scanner.specs.Scan.Compared.{IsInCommon, scanning}
use Rattle.cs_scanner.specs.Lexeme.Lexeme.{lexeme_in}
use Rattle.cs_texts.specs.declared.rendering.rendered.Rendered.{Rendered}
use Rattle.cs_texts.specs.declared.rendering.rendered.Rendered.TheVariants as answers
use Rattle.cs_texts.specs.declared.rendering.rendered.RenderedParts.{RenderedParts}
use Rattle.cs_texts.specs.declared.rendering.rendered.RenderedParts.TheVariants as parts
use Rattle.cs_texts.specs.Rendering.Joined.{joined}

-- the value of an answer: a text, the token without a lexeme, or how many tokens the scan has in common with the list
pub data Rendering : Type 0 where
  Text : List ℕ → Rendering
  NoLexeme : ℕ → Rendering
  Differs : ℕ → Rendering

-- reads the value off the answer
abbrev pub rendering : Rendered → Rendering
rendering (answers.Text text) = Text text.items
rendering (answers.NoLexeme token) = NoLexeme token
rendering (answers.Differs after) = Differs after

-- and off one that is lent: its parts stand one behind another
abbrev pub rendering_in : RenderedParts → Rendering
rendering_in (parts.Text front middle back) = Text (front.now ++ middle.now ++ back.now)
rendering_in (parts.NoLexeme token) = NoLexeme token
rendering_in (parts.Differs after) = Differs after

-- each token is one of those that have an entry in the list
abbrev pub AreTokens : List (Option (List ℕ)) → List ℕ → Type 0
AreTokens lexemes tokens = All (λ token. (0 < token) × (token ≤ length lexemes)) tokens

-- the token has a lexeme in the list
abbrev pub HasLexeme : List (Option (List ℕ)) → ℕ → Type 0
HasLexeme lexemes token = (text : List ℕ) × (lexeme_in lexemes token ≡ Some text)

-- the token is the first of the list that has no lexeme
pub record IsFirstWithout (lexemes : List (Option (List ℕ))) (tokens : List ℕ) (token : ℕ) : Type 0 where
  pub front : List ℕ
  pub behind : List ℕ
  pub list : tokens ≡ front ++ token ∷ behind
  pub front_has : All (HasLexeme lexemes) front
  pub none : lexeme_in lexemes token ≡ None

-- the rule's text of the tokens: the lexeme of each, one after another, with the separator between them
pub record IsRuleText (lexemes : List (Option (List ℕ))) (separator tokens text : List ℕ) : Type 0 where
  pub texts : List (List ℕ)
  pub each : AllZip (λ token lexeme. lexeme_in lexemes token ≡ Some lexeme) tokens texts
  pub is : text ≡ joined separator texts

-- The rule's text where it scans to the tokens. Where it doesn't, how many tokens its scan and the list have in common at
-- their fronts. Where a token has no lexeme, the first such token.
abbrev pub IsRendered : Scanning → List (Option (List ℕ)) → List ℕ → List ℕ → Rendering → Type 0
IsRendered s lexemes separator tokens (Text text) = IsRuleText lexemes separator tokens text × Scans s text tokens
IsRendered s lexemes separator tokens (NoLexeme token) = IsFirstWithout lexemes tokens token
IsRendered s lexemes separator tokens (Differs after) = (text : List ℕ) × IsRuleText lexemes separator tokens text × (Scans s text tokens → ⊥) × IsInCommon s text tokens after

-- the value of the answer is the rendering of the tokens
abbrev pub Renders : Scanner → List (Option (List ℕ)) → List ℕ → List ℕ → Rendered → Type 0
Renders scanner lexemes separator tokens answer = IsRendered (scanning scanner) lexemes separator tokens (rendering answer)
