-- Which texts give a token, by the kinds of the rules that win them.
use Rattle.std.specs.Prelude.{◌≡◌, ◌≢◌, ◌⊎◌, ℕ, ◌-◌, ◌<◌, ◌≤◌, List, [], ◌∷◌, Option, Some, None, length, slice_get, slice_set}
use Rattle.std.proofs.Common.{Vec, Global}
use Rattle.cs_pattern_parts.specs.Items.StandsFor.{AreBytes}
use Rattle.cs_pattern_parts.specs.declared.kind.Kind.{Kind}
use Rattle.cs_pattern_parts.specs.declared.kind.Kind.TheVariants.{Token, OwnByte}
use Rattle.cs_scanner.specs.Automaton.Machine.{Machine, MatchesRule, StateOf}
use Rattle.cs_scanner.specs.declared.scanning.scanner.Scanner.{Scanner}
use Rattle.cs_scanner.specs.Scan.Compared.{scanning}
use Rattle.cs_scanner.specs.Scan.Scan.{Scanning, literal_token}
use Rattle.cs_scanner.specs.declared.lexeme.search.Visit.{Visit}
use Rattle.cs_scanner.specs.declared.lexeme.steps.StepTable.{StepTable}
use Rattle.cs_scanner.specs.Lexeme.Visits.{Spells}
use Rattle.cs_scanner.specs.Lexeme.Order.{IsAtMost, IsBefore}
use Rattle.cs_scanner.specs.Lexeme.Lexeme.{lexeme_in}
use Rattle.cs_scanner.specs.Lexeme.Texts.{texts_of}

-- some text leads to the state
abbrev pub IsReached : Machine → ℕ → Type 0
IsReached m state = (text : List ℕ) × StateOf m state text

-- the lowest rule that matches the text has this kind
pub record IsWonBy (s : Scanning) (text : List ℕ) (kind : Kind) : Type 0 where
  pub rule : ℕ
  pub matches : MatchesRule s.patterns rule text
  pub lowest : (other : ℕ) → MatchesRule s.patterns other text → rule ≤ other
  pub at : slice_get s.kinds (rule - 1) ≡ Some kind

-- the kind of the lowest rule that matches the text, or that none does
abbrev pub IsKindOf : Scanning → List ℕ → Option Kind → Type 0
IsKindOf s text None = (rule : ℕ) → MatchesRule s.patterns rule text → ⊥
IsKindOf s text (Some kind) = IsWonBy s text kind

-- a rule that names the token wins the text
abbrev pub IsNamed : Scanning → ℕ → List ℕ → Type 0
IsNamed s token text = (text ≢ []) × IsWonBy s text (Token token)

-- the text begins with the byte, and a rule that gives its own byte wins it
abbrev pub IsOwn : Scanning → ℕ → List ℕ → Type 0
IsOwn s byte text = (rest : List ℕ) × (text ≡ byte ∷ rest) × IsWonBy s text OwnByte

-- the text begins with a byte below the limit whose literal is the token, and a rule that gives its own byte wins it
pub record IsOwnBelow (s : Scanning) (below token : ℕ) (text : List ℕ) : Type 0 where
  pub byte : ℕ
  pub low : byte < below
  pub own : IsOwn s byte text
  pub literal : literal_token s.literals byte ≡ Some (token ∷ [])

-- one of the two
abbrev pub IsGiven : Scanning → ℕ → ℕ → List ℕ → Type 0
IsGiven s below token text = IsNamed s token text ⊎ IsOwnBelow s below token text

-- the least text of bytes that is P, or that none is
abbrev pub IsLeast : (List ℕ → Type 0) → Option (List ℕ) → Type 0
IsLeast P None = (text : List ℕ) → AreBytes text → P text → ⊥
IsLeast P (Some text) = AreBytes text × P text × ((other : List ℕ) → AreBytes other → P other → IsAtMost text other)

-- the texts of the tokens so far, by own bytes below the limit
abbrev pub AreLeast : Scanning → ℕ → List (Option (List ℕ)) → Type 0
AreLeast s below texts = (token : ℕ) → 0 < token → token ≤ length texts → IsLeast (IsGiven s below token) (lexeme_in texts token)

-- at the place stands a state whose texts are won by a rule of the kind
abbrev pub IsWonAt : Scanning → Machine → List Visit → ℕ → Kind → Type 0
IsWonAt s m visits place kind = (visit : Visit) (text : List ℕ) → slice_get visits place ≡ Some visit → StateOf m visit.state text → IsWonBy s text kind

-- no text of the state at the place is
abbrev pub IsLostAt : Scanning → Machine → List Visit → ℕ → Kind → Type 0
IsLostAt s m visits place kind = (visit : Visit) (text : List ℕ) → slice_get visits place ≡ Some visit → StateOf m visit.state text → IsWonBy s text kind → ⊥

-- the first place behind the start where texts are won by the kind
pub record IsFirstWon (s : Scanning) (m : Machine) (visits : List Visit) (kind : Kind) (place : ℕ) : Type 0 where
  pub behind : 0 < place
  pub won : IsWonAt s m visits place kind
  pub lost : (j : ℕ) → 0 < j → j < place → IsLostAt s m visits j kind

-- of the places in front of the limit, the text of the first one behind the start whose texts are won by the kind
pub record IsFoundText (s : Scanning) (m : Machine) (visits : List Visit) (limit : ℕ) (kind : Kind) (text : List ℕ) : Type 0 where
  pub place : ℕ
  pub below : place < limit
  pub first : IsFirstWon s m visits kind place
  pub spells : Spells visits place text

abbrev pub IsFound : Scanning → Machine → List Visit → ℕ → Kind → Option (List ℕ) → Type 0
IsFound s m visits limit kind None = (j : ℕ) → 0 < j → j < limit → IsLostAt s m visits j kind
IsFound s m visits limit kind (Some text) = IsFoundText s m visits limit kind text

-- the same as a place
abbrev pub IsFirstPlace : Scanning → Machine → List Visit → ℕ → Kind → Option ℕ → Type 0
IsFirstPlace s m visits limit kind None = (j : ℕ) → 0 < j → j < limit → IsLostAt s m visits j kind
IsFirstPlace s m visits limit kind (Some place) = (place < limit) × IsFirstWon s m visits kind place

-- the texts of the tokens that the kinds of the places in front of the limit name
abbrev pub AreFound : Scanning → Machine → List Visit → ℕ → List (Option (List ℕ)) → Type 0
AreFound s m visits limit texts = (token : ℕ) → 0 < token → token ≤ length texts → IsFound s m visits limit (Token token) (lexeme_in texts token)

abbrev pub AreNamed : Scanning → List (Option (List ℕ)) → Type 0
AreNamed s texts = (token : ℕ) → 0 < token → token ≤ length texts → IsLeast (IsNamed s token) (lexeme_in texts token)

-- the start, met by the empty text
abbrev pub first_visit : ℕ → Visit
first_visit start = record { state = start; origin = None }

-- a state that was met behind the start
abbrev pub second_visit : ℕ → ℕ → Visit
second_visit byte to = record { state = to; origin = Some (record { place = 0; byte = byte }) }

-- the lesser of a text and one that is kept, if there is one, is kept
abbrev pub KeepsLeast : Option (List ℕ) → List ℕ → Option (List ℕ) → Type 0
KeepsLeast None text new = new ≡ Some text
KeepsLeast (Some known) text new = (IsBefore text known × (new ≡ Some text)) ⊎ ((IsBefore text known → ⊥) × (new ≡ Some known))

-- the token is one of those asked for and has no text yet
abbrev pub IsOpen : List (Option (List ℕ)) → ℕ → Type 0
IsOpen texts token = (0 < token) × (token ≤ length texts) × (lexeme_in texts token ≡ None)

abbrev pub own_byte : Kind
own_byte = OwnByte

abbrev pub token_kind : ℕ → Kind
token_kind token = Token token

-- the kind names no open token
abbrev pub NamesNoOpen : List (Option (List ℕ)) → Option Kind → Type 0
NamesNoOpen texts kind = (token : ℕ) → kind ≡ Some (Token token) → IsOpen texts token → ⊥

-- no token has a text
pub record AreEmpty (count : ℕ) (texts : List (Option (List ℕ))) : Type 0 where
  pub all : length texts ≡ count
  pub none : (token : ℕ) → lexeme_in texts token ≡ None

-- the texts that the places in front of the limit name, for as many tokens as before
pub record AreAllFound (scanner : Scanner) (visits : List Visit) (limit : ℕ) (old new : List (Option (List ℕ))) : Type 0 where
  pub found : AreFound (scanning scanner) scanner.automaton.now visits limit new
  pub all : length new ≡ length old

-- the lesser text of the token is kept, and the others stay
abbrev pub KeepsText : List (Option (List ℕ)) → ℕ → List ℕ → List (Option (List ℕ)) → Type 0
KeepsText old token text new = (kept : Option (List ℕ)) × KeepsLeast (lexeme_in old token) text kept × (new ≡ slice_set old (token - 1) kept)

-- the texts of so many tokens, by own bytes below the limit
pub record AreMidOwn (s : Scanning) (below tokens : ℕ) (texts : List (Option (List ℕ))) : Type 0 where
  pub least : AreLeast s below texts
  pub all : length texts ≡ tokens

-- the kind of the lowest rule that matches the texts of the state, or that none does
abbrev pub IsKindAt : Scanner → ℕ → Option Kind → Type 0
IsKindAt scanner state kind = (x : List ℕ) → StateOf scanner.automaton.now state x → IsKindOf (scanning scanner) x kind

-- the kind names the token, which is open
abbrev pub NamesOpen : List (Option (List ℕ)) → Option Kind → ℕ → Type 0
NamesOpen texts kind token = (kind ≡ Some (token_kind token)) × IsOpen texts token

-- the token's text is put, and the others stay
abbrev pub PutsText : List (Option (List ℕ)) → ℕ → List ℕ → List (Option (List ℕ)) → Type 0
PutsText old token text new = new ≡ slice_set old (token - 1) (Some text)

-- of all places, the first one behind the start whose texts give their own byte
abbrev pub IsFirstOwn : Scanner → List Visit → Option ℕ → Type 0
IsFirstOwn scanner visits place = IsFirstPlace (scanning scanner) scanner.automaton.now visits (length visits) own_byte place

-- its text
abbrev pub IsFirstOwnText : Scanner → List Visit → Option (List ℕ) → Type 0
IsFirstOwnText scanner visits text = IsFound (scanning scanner) scanner.automaton.now visits (length visits) own_byte text

-- what is seen of the texts that all places name
abbrev pub PutsNamed : StepTable → List Visit → List (Option (Vec ℕ Global)) → List (Option (Vec ℕ Global)) → Type 0
PutsNamed table visits old new = AreAllFound table.scanner visits (length visits) (texts_of old) (texts_of new)

-- what is seen of the texts of tokens so far
abbrev pub AreLeastTexts : Scanner → ℕ → List (Option (Vec ℕ Global)) → Type 0
AreLeastTexts scanner below texts = AreLeast (scanning scanner) below (texts_of texts)

-- what is seen of the least texts of tokens that rules name
abbrev pub AreNamedTexts : Scanner → List (Option (Vec ℕ Global)) → Type 0
AreNamedTexts scanner texts = AreNamed (scanning scanner) (texts_of texts)

-- the least text that begins with the byte and gives its own byte
abbrev pub IsLeastOwn : Scanner → ℕ → Option (List ℕ) → Type 0
IsLeastOwn scanner byte text = IsLeast (IsOwn (scanning scanner) byte) text

-- as many are seen as before
abbrev pub KeepsCount : List (Option (Vec ℕ Global)) → List (Option (Vec ℕ Global)) → Type 0
KeepsCount old new = length (texts_of new) ≡ length (texts_of old)
