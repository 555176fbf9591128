-- What the first bytes of a text settle of its scan, whatever comes behind them.
use Rattle.std.specs.Prelude.{◌≡◌, ◌⊎◌, ℕ, ◌+◌, ◌≤◌, List, [], ◌∷◌, ◌++◌, Option, Some, None, IfSome, length, take, drop, slice_index}
use Rattle.cs_pattern_parts.specs.Tree.Pattern.{Regex}
use Rattle.cs_pattern_parts.specs.declared.kind.Kind.{Kind}
use Rattle.cs_scanner.specs.Scan.Scan.{Scanning, IsLongest, Gives, given}
use Rattle.cs_scanner.specs.Scan.Going.{IsBegunBy}
use Rattle.cs_texts.specs.declared.splice.step.GivenToken.{GivenToken}
use Rattle.cs_texts.specs.declared.splice.step.GivenToken.TheVariants.{Nothing, Token}
use Rattle.cs_texts.specs.declared.splice.step.Look.{Look}
use Rattle.cs_texts.specs.declared.splice.step.Step.{Step}

-- so many bytes of the text make each text that begins with them P
abbrev pub IsSettledBy : List ℕ → (List ℕ → Type 0) → ℕ → Type 0
IsSettledBy text P n = (n ≤ length text) × ((rest : List ℕ) → P (take n text ++ rest))

-- the tokens that a match gives
abbrev pub tokens_of : GivenToken → List ℕ
tokens_of Nothing = []
tokens_of (Token token) = token ∷ []

-- what a match of the kind gives at the front of each text that begins with the byte
abbrev pub IsGivenBy : Kind → List ℕ → ℕ → GivenToken → Type 0
IsGivenBy kind literals first g = (text : List ℕ) → slice_index text 0 ≡ first → given literals kind text ≡ Some (tokens_of g)

-- the longest match at the front of the text, and how many bytes settle it
pub record IsLook (patterns : List Regex) (text : List ℕ) (look : Look) : Type 0 where
  pub longest : IsLongest patterns text look.found
  pub settled : IfSome look.read (IsSettledBy text (λ t. IsLongest patterns t look.found))

-- the match at the front of the text, what it gives, and how many bytes settle that
pub record IsStep (s : Scanning) (text : List ℕ) (step : Step) : Type 0 where
  pub gives : Gives s text step.size (tokens_of step.given)
  pub settled : IfSome step.read (IsSettledBy text (λ t. Gives s t step.size (tokens_of step.given)))

-- the tokens behind so many of those that are wanted are the next of them
pub record IsCounted (wanted : List ℕ) (count : ℕ) (tokens : List ℕ) (next : ℕ) : Type 0 where
  pub all : next ≡ count + length tokens
  pub within : next ≤ length wanted
  pub front : take next wanted ≡ take count wanted ++ tokens

-- the scan of the text gives these tokens first, and then those of the scan from the place on
abbrev pub IsPassed : Scanning → List ℕ → ℕ → List ℕ → Type 0
IsPassed s tokens at text = IsBegunBy s text tokens (drop at text)

-- a number that is one of each, and at least both
abbrev pub IsFurther : Option ℕ → ℕ → Option ℕ → Option ℕ → Type 0
IsFurther read at more None = Unit {0}
IsFurther read at more (Some n) = (m : ℕ) × (k : ℕ) × (read ≡ Some m) × (more ≡ Some k) × (m ≤ n) × (at + k ≤ n) × ((n ≡ m) ⊎ (n ≡ at + k))

-- the scan of the two texts, one behind the other, gives the tokens first, and then those of the second
abbrev pub Arrives : Scanning → List ℕ → List ℕ → List ℕ → Type 0
Arrives s near far tokens = IsBegunBy s (near ++ far) tokens far
