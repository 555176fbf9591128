-- Texts with a spelling in them.
use Rattle.std.specs.Prelude.{◌≡◌, ℕ, ◌<◌, ◌≤◌, List, ◌++◌, Option, None, Some, length, take, drop, slice_get, slice_set}
use Rattle.std.specs.List.{AllZip, flat_map}
use Rattle.cs_scanner.specs.Lexeme.Lexeme.{lexeme_in}
use Rattle.cs_scanner.specs.Scan.Compared.{IsInCommon}
use Rattle.cs_scanner.specs.Scan.Scan.{Gives, IsMatch, Scanning, Scans}
use Rattle.cs_spell.specs.declared.texts.way.Way.{Way}
use Rattle.cs_spell.specs.declared.texts.way.Way.TheVariants.{Gives as Exchanged, Skips}
use Rattle.cs_texts.specs.Rendering.Joined.{joined}
use Rattle.cs_texts.specs.Rendering.Rendering.{IsFirstWithout, Rendering, Text, NoLexeme, Differs}

-- the first place of the token in the list; their number, where it isn't there
pub record IsFirstPlace (tokens : List ℕ) (token place : ℕ) : Type 0 where
  pub within : place ≤ length tokens
  pub at : place < length tokens → slice_get tokens place ≡ Some token
  pub first : (k : ℕ) → k < place → slice_get tokens k ≡ Some token → ⊥

-- how a spelling stands in a text: in place of the lexeme of the first such token, or around each lexeme
abbrev pub IsWayOf : Option ℕ → List ℕ → Way → Type 0
IsWayOf None tokens way = way ≡ Skips
IsWayOf (Some token) tokens way = (place : ℕ) × (way ≡ Exchanged token place) × IsFirstPlace tokens token place

-- the lexemes of tokens, with the spelling among them
abbrev pub spelled : Way → List ℕ → List ℕ → List (List ℕ) → List ℕ
spelled (Exchanged token place) separator spelling lexemes = joined separator (slice_set lexemes place spelling)
spelled Skips separator spelling lexemes = spelling ++ flat_map (λ lexeme. lexeme ++ spelling) lexemes

-- the text of tokens with the spelling
pub record IsSpelledText (lexemes : List (Option (List ℕ))) (separator : List ℕ) (way : Way) (spelling tokens text : List ℕ) : Type 0 where
  pub texts : List (List ℕ)
  pub each : AllZip (λ token lexeme. lexeme_in lexemes token ≡ Some lexeme) tokens texts
  pub is : text ≡ spelled way separator spelling texts

-- one of the matches of the scan is this piece, by the rule
pub data HasMatch (s : Scanning) (rule : ℕ) (piece : List ℕ) : List ℕ → Type 0 where
  here : (text : List ℕ) (size : ℕ) → IsMatch s.patterns text rule size → take size text ≡ piece → HasMatch s rule piece text
  behind : (text : List ℕ) (size : ℕ) (tokens : List ℕ) → Gives s text size tokens → HasMatch s rule piece (drop size text) → HasMatch s rule piece text

-- the text scans to the tokens, and the spelling is one of the matches, by the rule
abbrev pub ShowsSpelling : Scanning → ℕ → List ℕ → List ℕ → List ℕ → Type 0
ShowsSpelling s rule spelling tokens text = Scans s text tokens × HasMatch s rule spelling text

-- What comes of the tokens with the spelling of the scanner rule: the text where it shows the spelling; the first token that
-- has no lexeme; or how many tokens the list and what the scan gives have in common at their fronts.
abbrev pub IsRenderedWith : Scanning → List (Option (List ℕ)) → List ℕ → Way → ℕ → List ℕ → List ℕ → Rendering → Type 0
IsRenderedWith s lexemes separator way rule spelling tokens (Text text) =
    IsSpelledText lexemes separator way spelling tokens text × ShowsSpelling s rule spelling tokens text
IsRenderedWith s lexemes separator way rule spelling tokens (NoLexeme token) = IsFirstWithout lexemes tokens token
IsRenderedWith s lexemes separator way rule spelling tokens (Differs after) =
    (text : List ℕ) × IsSpelledText lexemes separator way spelling tokens text × (ShowsSpelling s rule spelling tokens text → ⊥) × IsInCommon s text tokens after
