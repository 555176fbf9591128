-- Where the matches of tokens stand in a text that scans to them, and how many of its bytes settle the scan so far.
use Rattle.std.specs.Prelude.{◌≡◌, ℕ, ◌+◌, ◌≤◌, ◌<◌, List, ◌++◌, Option, Some, IfSome, length, slice_get, slice_index, take, drop}
use Rattle.std.proofs.Common.{Vec, Global}
use Rattle.cs_scanner.specs.Scan.Scan.{Scanning}
use Rattle.cs_scanner.specs.Lexeme.Lexeme.{lexeme_in}
use Rattle.cs_texts.specs.Rendering.Rendering.{IsRuleText}
use Rattle.cs_texts.specs.declared.splice.marks.TextMark.{TextMark}
use Rattle.cs_texts.specs.Splice.Settled.{IsPassed, IsSettledBy}

-- The scan of the text gives these tokens up to the place, and so many bytes of the text, if any do, settle that.
pub record IsFront (s : Scanning) (text tokens : List ℕ) (at : ℕ) (read : Option ℕ) : Type 0 where
  pub within : at ≤ length text
  pub passed : IsPassed s tokens at text
  pub settled : IfSome read (λ n. (at ≤ n) × IsSettledBy text (IsPassed s tokens at) n)

-- the mark is that of the match that gives the token at the place k of those that the text scans to
pub record IsMark (s : Scanning) (text tokens : List ℕ) (k : ℕ) (mark : TextMark) : Type 0 where
  pub starts : IsPassed s (take k tokens) mark.start text
  pub ends : IsFront s text (take (k + 1) tokens) mark.end mark.read
  pub order : mark.start ≤ mark.end

abbrev pub AreMarks : Scanning → List ℕ → List ℕ → List TextMark → Type 0
AreMarks s text tokens marks = (k : ℕ) (mark : TextMark) → slice_get marks k ≡ Some mark → IsMark s text tokens k mark

-- the marks, one for each token
pub record AreAllMarks (s : Scanning) (text tokens : List ℕ) (marks : List TextMark) : Type 0 where
  pub all : length marks ≡ length tokens
  pub each : AreMarks s text tokens marks

abbrev pub IfMarked : Scanning → List ℕ → List ℕ → Option (Vec TextMark Global) → Type 0
IfMarked s text tokens found = IfSome found (λ marks. AreAllMarks s text tokens marks.items)

-- the text up to the token's match, and the text from it on, are the rule's texts of the tokens there
pub record IsAligned (lexemes : List (Option (List ℕ))) (separator tokens text : List ℕ) (k : ℕ) (mark : TextMark) : Type 0 where
  pub front : IsRuleText lexemes separator (take (k + 1) tokens) (take mark.end text)
  pub back : IsRuleText lexemes separator (drop k tokens) (drop mark.start text)

abbrev pub AreAlignedUpTo : List (Option (List ℕ)) → List ℕ → List ℕ → List ℕ → List TextMark → ℕ → Type 0
AreAlignedUpTo lexemes separator tokens text marks most =
    (k : ℕ) (mark : TextMark) → k < most → slice_get marks k ≡ Some mark → IsAligned lexemes separator tokens text k mark

abbrev pub AreAligned : List (Option (List ℕ)) → List ℕ → List ℕ → List ℕ → List TextMark → Type 0
AreAligned lexemes separator tokens text marks = AreAlignedUpTo lexemes separator tokens text marks (length tokens)

-- behind the front, a lexeme of the token at the place k makes the rule's text of the tokens up to it
abbrev pub TakesLexeme : List (Option (List ℕ)) → List ℕ → List ℕ → ℕ → List ℕ → Type 0
TakesLexeme lexemes separator tokens k front =
    (lexeme : List ℕ) → lexeme_in lexemes (slice_index tokens k) ≡ Some lexeme → IsRuleText lexemes separator (take (k + 1) tokens) (front ++ lexeme)

-- the place is where the match of the token at the place k is to stand
pub record IsDue (lexemes : List (Option (List ℕ))) (separator tokens text : List ℕ) (k at : ℕ) : Type 0 where
  pub within : at ≤ length text
  pub takes_lexeme : TakesLexeme lexemes separator tokens k (take at text)
  pub back : IsRuleText lexemes separator (drop k tokens) (drop at text)
