-- The longest match, and the scan of a text (POSIX.1-2017, lex: of the patterns that match, the one that matches the most
-- bytes is chosen, and of those that match as many, the rule given first).
use Rattle.std.specs.Prelude.{◌≡◌, ◌≢◌, ℕ, suc, ◌+◌, ◌-◌, ◌<◌, ◌≤◌, Bool, true, false, List, [], ◌∷◌, ◌++◌, Option, Some, None, length, take, drop, slice_get, slice_index, if◌then◌else◌, nat_lt, ◌==◌}
use Rattle.cs_pattern_parts.specs.Tree.Pattern.{Regex}
use Rattle.cs_pattern_parts.specs.declared.kind.Kind.{Kind}
use Rattle.cs_pattern_parts.specs.declared.kind.Kind.TheVariants.{Token, OwnByte, Skip, Foreign}
use Rattle.cs_scanner.specs.Automaton.Machine.{MatchesRule}

-- A match at the front of the text: some rule matches so many bytes, at least 1, none matches more, and this is the lowest
-- rule that matches them.
pub record IsMatch (patterns : List Regex) (text : List ℕ) (rule size : ℕ) : Type 0 where
  pub some : 0 < size
  pub within : size ≤ length text
  pub matches : MatchesRule patterns rule (take size text)
  pub longest : (other n : ℕ) → n ≤ length text → MatchesRule patterns other (take n text) → n ≤ size
  pub lowest : (other : ℕ) → MatchesRule patterns other (take size text) → rule ≤ other

-- nothing matches a byte or more at the front of the text
abbrev pub HasNoMatch : List Regex → List ℕ → Type 0
HasNoMatch patterns text = (rule n : ℕ) → 0 < n → n ≤ length text → MatchesRule patterns rule (take n text) → ⊥

abbrev pub IsLongest : List Regex → List ℕ → Option (ℕ × ℕ) → Type 0
IsLongest patterns text None = HasNoMatch patterns text
IsLongest patterns text (Some m) = IsMatch patterns text m.0 m.1

-- patterns, a kind for each, and for each byte the token of its literal, or 0
pub record Scanning : Type 0 where
  pub patterns : List Regex
  pub kinds : List Kind
  pub literals : List ℕ

-- the token of the literal of a byte, if it is in use
abbrev pub literal_token : List ℕ → ℕ → Option (List ℕ)
literal_token literals byte = if nat_lt 0 (slice_index literals byte) then Some (slice_index literals byte ∷ []) else None

-- What a match of the kind at the front of the text gives; None where the scan stops. Skip gives nothing, a token itself, and
-- a match by its own byte the token of its first byte's literal.
abbrev pub given : List ℕ → Kind → List ℕ → Option (List ℕ)
given literals Skip text = Some []
given literals (Token token) text = Some (token ∷ [])
given literals Foreign text = None
given literals OwnByte text = literal_token literals (slice_index text 0)

-- a match at the front of the text, which gives these tokens
pub record Gives (s : Scanning) (text : List ℕ) (size : ℕ) (tokens : List ℕ) : Type 0 where
  pub rule : ℕ
  pub kind : Kind
  pub is_match : IsMatch s.patterns text rule size
  pub at : slice_get s.kinds (rule - 1) ≡ Some kind
  pub gives : given s.literals kind text ≡ Some tokens

-- no match at the front of the text gives tokens
abbrev pub GivesNone : Scanning → List ℕ → Type 0
GivesNone s text = (size : ℕ) (tokens : List ℕ) → Gives s text size tokens → ⊥

-- A scan stops at the front of a text for one of three reasons: nothing matches a byte there; the match is of a rule whose action
-- only C knows; it is by its own byte, and no literal of that byte is in use.
pub data IsStop (s : Scanning) (text : List ℕ) : Type 0 where
  nothing_matches : HasNoMatch s.patterns text → IsStop s text
  is_foreign : (rule size : ℕ) → IsMatch s.patterns text rule size → slice_get s.kinds (rule - 1) ≡ Some Foreign → IsStop s text
  has_no_literal : (rule size : ℕ) → IsMatch s.patterns text rule size → slice_get s.kinds (rule - 1) ≡ Some OwnByte → literal_token s.literals (slice_index text 0) ≡ None → IsStop s text

-- at such a front no match gives tokens
abbrev pub StopsThere : Scanning → List ℕ → Type 0
StopsThere s text = IsStop s text → GivesNone s text

-- where each pattern has a kind, and no match gives tokens, that it is no such front cannot be
abbrev pub StopsThereAlone : Scanning → List ℕ → Type 0
StopsThereAlone s text = length s.kinds ≡ length s.patterns → GivesNone s text → (IsStop s text → ⊥) → ⊥

-- any two matches at the front of the text are one
abbrev pub AreOneMatch : List Regex → List ℕ → Type 0
AreOneMatch patterns text = (rule size other n : ℕ) → IsMatch patterns text rule size → IsMatch patterns text other n → (rule ≡ other) × (size ≡ n)

-- The scan of the text gives these tokens. It covers the text, or stops where no match gives tokens.
pub data Runs (s : Scanning) : List ℕ → List ℕ → Bool → Type 0 where
  ends : (text given : List ℕ) (whole : Bool) → text ≡ [] → given ≡ [] → whole ≡ true → Runs s text given whole
  stops : (text given : List ℕ) (whole : Bool) → text ≢ [] → GivesNone s text → given ≡ [] → whole ≡ false → Runs s text given whole
  goes_on : (text given : List ℕ) (whole : Bool) (size : ℕ) (now later : List ℕ) → Gives s text size now → Runs s (drop size text) later whole → given ≡ now ++ later → Runs s text given whole

-- any two scans of the text are one
abbrev pub AreOneScan : Scanning → List ℕ → Type 0
AreOneScan s text = (given other : List ℕ) (whole covers : Bool) → Runs s text given whole → Runs s text other covers → (given ≡ other) × (whole ≡ covers)

-- the text has a scan: that it has none cannot be
abbrev pub HasScan : Scanning → List ℕ → Type 0
HasScan s text = ((given : List ℕ) (whole : Bool) → Runs s text given whole → ⊥) → ⊥

-- the text scans to the tokens: matches cover it, one behind the other, and give them
abbrev pub Scans : Scanning → List ℕ → List ℕ → Type 0
Scans s text tokens = Runs s text tokens true

-- The scan of the text stops at the place: matches that give tokens cover the bytes in front of it, and there no match does.
pub data StopsAt (s : Scanning) : List ℕ → ℕ → Type 0 where
  at_front : (text : List ℕ) (at : ℕ) → text ≢ [] → GivesNone s text → at ≡ 0 → StopsAt s text at
  behind : (text : List ℕ) (at size later : ℕ) (tokens : List ℕ) → Gives s text size tokens → StopsAt s (drop size text) later → at ≡ size + later → StopsAt s text at

-- any two places where the scan stops are one
abbrev pub AreOneStop : Scanning → List ℕ → Type 0
AreOneStop s text = (at other : ℕ) → StopsAt s text at → StopsAt s text other → at ≡ other

-- a scan that doesn't cover the text stops at a place, and one that covers it at none
pub record IsStopOrWhole (s : Scanning) (text : List ℕ) : Type 0 where
  pub stops : (given : List ℕ) → Runs s text given false → (at : ℕ) × StopsAt s text at
  pub covers : (tokens : List ℕ) → Scans s text tokens → (at : ℕ) → StopsAt s text at → ⊥

-- how many tokens two lists have in common at their fronts
abbrev pub in_common : List ℕ → List ℕ → ℕ
in_common [] ys = 0
in_common (x ∷ xs) [] = 0
in_common (x ∷ xs) (y ∷ ys) = if x == y then suc (in_common xs ys) else 0
