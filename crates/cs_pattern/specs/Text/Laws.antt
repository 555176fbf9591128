-- What laws say of a fact.
use Rattle.std.specs.Prelude.{◌≡◌, ◌⊎◌, ℕ, List, Some, slice_get}
use Rattle.cs_pattern_parts.specs.declared.items.front.Stop.{Stop}
use Rattle.cs_pattern_parts.specs.Items.Items.{Placed, items_of}
use Rattle.cs_pattern_parts.specs.Items.StandsFor.{AreBytes}
use Rattle.cs_pattern_parts.specs.Tree.Pattern.{Regex}
use Rattle.cs_pattern_parts.specs.Tree.Scannable.{IsScannable}
use Rattle.cs_pattern.specs.Operations.Definitions.{Definition}
use Rattle.cs_pattern.specs.Operations.Grammar.{Tree, IsDerivation}
use Rattle.cs_pattern.specs.declared.text.fault.PatternFault.{PatternFault}
use Rattle.cs_pattern.specs.Text.Answers.{IsPatternOf, IsFault}
use Rattle.cs_pattern.specs.Text.Checking.{AreAccepted, IsRefused}
use Rattle.cs_pattern.specs.Text.Classes.{HaveByteTexts}
use Rattle.cs_pattern.specs.Text.Substitution.{IsTreeOf}
use Rattle.cs_pattern.specs.Text.Table.{Reads, StopsAt, IsFirstStop}

abbrev pub HasAtMostOne : {A : Type 0} → (A → Type 0) → Type 0
HasAtMostOne {A} P = (x y : A) → P x → P y → x ≡ y

abbrev pub HasOne : {A : Type 0} → (A → Type 0) → Type 0
HasOne {A} P = (x : A) × P x

-- if one has a value, the other has none
abbrev pub Exclude : {A B : Type 0} → (A → Type 0) → (B → Type 0) → Type 0
Exclude {A} {B} P Q = (x : A) (y : B) → P x → Q y → ⊥

-- reading stops at the offset for the reason
abbrev pub IsStop : List ℕ → ℕ × Stop → Type 0
IsStop bytes stop = StopsAt bytes stop.0 stop.1

-- the definition of the index is refused with the fault
abbrev pub IsRefusal : List Definition → ℕ × PatternFault → Type 0
IsRefusal ds refusal = IsRefused ds refusal.0 refusal.1

-- the definitions are accepted, or refused at some index with some fault
abbrev pub HaveVerdict : List Definition → Type 0
HaveVerdict ds = AreAccepted ds ⊎ HasOne (IsRefusal ds)

-- no text has a pattern and a fault
abbrev pub HasNotBoth : List Definition → List ℕ → Type 0
HasNotBoth ds text = Exclude (IsPatternOf ds text) (IsFault text ds)

-- the text has a pattern or a fault
abbrev pub HasPatternOrFault : List Definition → List ℕ → Type 0
HasPatternOrFault ds text = HasOne (IsPatternOf ds text) ⊎ HasOne (IsFault text ds)

-- the text is read to its end, or reading stops
abbrev pub IsReadOrStops : List ℕ → Type 0
IsReadOrStops bytes = HasOne (Reads bytes) ⊎ HasOne (IsFirstStop bytes)

-- the items have a derivation
abbrev pub HasDerivation : List Placed → Type 0
HasDerivation xs = (tree : Tree) × IsDerivation (items_of xs) tree

-- the definition of the index has no tree
abbrev pub HasNoTree : List Definition → ℕ → Type 0
HasNoTree ds i = (d : Definition) (tree : Tree) → slice_get ds i ≡ Some d → IsTreeOf ds d.text tree → ⊥

-- the text and the texts of the definitions are bytes
abbrev pub HaveBytes : List Definition → List ℕ → Type 0
HaveBytes ds text = AreBytes text × HaveByteTexts ds

-- an automaton can be made of each pattern of the text
abbrev pub IsScannableText : List Definition → List ℕ → Type 0
IsScannableText ds text = (pattern : Regex) → IsPatternOf ds text pattern → IsScannable pattern
