-- What contracts say of a question, a grammar with its tables and a list of tokens, and of its chart.
use Rattle.std.specs.Prelude.{◌≡◌, ◌≤◌, ◌<◌, ◌+◌, ◌⊎◌, ◌++◌, ◌∷◌, [], ℕ, List, Option, Bool, Some, true, All, length, slice_get}
use Rattle.cs_grammar.specs.Grammar.{PlainGrammar}
use Rattle.cs_member.specs.declared.tables.item.Item.{Item}
use Rattle.cs_member.specs.declared.tables.word.Word.{Word}
use Rattle.cs_member.specs.declared.tables.fronts.Front.{Front}
use Rattle.cs_member.specs.declared.chart.now.Question.{Question}
use Rattle.cs_member.specs.declared.chart.now.Now.{Now}
use Rattle.cs_member.specs.declared.chart.now.Origins.{Origins}
use Rattle.cs_member.specs.declared.chart.now.Span.{Span}
use Rattle.cs_member.specs.declared.chart.now.Way.{Way}
use Rattle.cs_member.specs.declared.chart.chart.Position.{Position}
use Rattle.cs_member.specs.declared.chart.chart.Begun.{Begun}
use Rattle.cs_member.specs.Tables.Item.{IsItem}
use Rattle.cs_member.specs.Chart.Buckets.{rows_in}
use Rattle.cs_member.specs.Tables.Sets.{Has, InWords}
use Rattle.cs_member.specs.Chart.Now.{Ends, Stood, IsHere, AreHere, ArePassed, IsPut, ArePut}
use Rattle.cs_member.specs.Tables.Expecting.{AreDescents, IsDescended}
use Rattle.cs_member.specs.Chart.Chart.{OfFronts, OfScan, OfSpan, AreCaused, IsFollowed, AreRows}
use Rattle.cs_member.specs.Chart.Made.{AreAwaited, IsScanned, IsFrom, IsMade, IsChart}

-- the chart of the question's list
abbrev pub IsChartOf : Question → List Position → Type 0
IsChartOf q chart = IsChart q.grammar.now q.tables.now q.tokens.now (length q.tokens.now + 1) chart

abbrev pub HasDescents : Question → Type 0
HasDescents q = AreDescents (q.grammar.now.nonterminals + 1) q.tables.now.corners.items q.tables.now.descents.items

-- the origins of the item stand at this place
abbrev pub HoldsItem : List Origins → Item → ℕ → Type 0
HoldsItem origins item k = (o : Origins) × (slice_get origins k ≡ Some o) × (o.item ≡ item)

-- the same origins, or one item more without origins
abbrev pub MayAdd : List Origins → List Origins → Type 0
MayAdd old new = (new ≡ old) ⊎ ((o : Origins) × (new ≡ old ++ o ∷ []) × (o.set.items ≡ []))

-- each item awaits a symbol, as before
abbrev pub StaysHere : List Origins → List Origins → Type 0
StaysHere old new = (g : PlainGrammar) → AreHere g old → AreHere g new

abbrev pub KeepsHere : Item → List Origins → List Origins → Type 0
KeepsHere item old new = (g : PlainGrammar) → IsHere g item → AreHere g old → AreHere g new

abbrev pub StoodAt : ℕ → List Word → List Origins → List Origins → Type 0
StoodAt place words old new = (o : Origins) → slice_get old place ≡ Some o → Stood o.item (InWords words) old new

abbrev pub EndsIn : ℕ → Option ℕ → (ℕ → Type 0) → Now → Now → Type 0
EndsIn left cause From old new = Ends left cause From old.spans.items new.spans.items

abbrev pub IsPutBy : Question → Way → Item → (ℕ → Type 0) → Now → Now → Type 0
IsPutBy q way first From old new = IsPut q.grammar.now way.ahead way.cause first From old new

abbrev pub ArePutBy : Question → Way → (Item → ℕ → Type 0) → Now → Now → Type 0
ArePutBy q way Put old new = ArePut q.grammar.now way.ahead way.cause Put old new

abbrev pub FollowsBegun : Begun → Item → ℕ → Type 0
FollowsBegun begun x j = OfFronts begun.expected.now begun.fronts.now begun.from x j

abbrev pub AreFrontsOf : Question → List Front → Type 0
AreFrontsOf q fronts = All (λ f. IsItem q.grammar.now f.item × (f.left ≤ q.grammar.now.nonterminals)) fronts

abbrev pub ScanPuts : Question → Way → List Position → Now → Now → Type 0
ScanPuts q way chart old new = ArePutBy q way (OfScan chart q.tables.now.tokens.items q.tokens.now) old new

abbrev pub FollowPuts : Question → Option ℕ → ℕ → List Position → Now → Now → Type 0
FollowPuts q ahead number chart old new =
    (s : Span) → slice_get old.spans.items number ≡ Some s → ArePut q.grammar.now ahead (Some number) (OfSpan chart q.tables.now.nonterminals.items s) old new

abbrev pub AreCausedIn : Question → List Position → Now → Now → Type 0
AreCausedIn q chart old new = AreCaused q.grammar.now chart q.tables.now.nonterminals.items old new

abbrev pub AllFollowed : Question → Option ℕ → List Position → Now → Type 0
AllFollowed q ahead chart now = (n : ℕ) → n < length now.spans.items → IsFollowed q.grammar.now ahead chart q.tables.now.nonterminals.items now n

-- the start symbol is expected at the first position
abbrev pub ExpectsStart : Question → Bool → List ℕ → Type 0
ExpectsStart q first expected = first ≡ true → Has expected q.grammar.now.start

abbrev pub AreAwaitedOf : Question → List Origins → List ℕ → Type 0
AreAwaitedOf q origins expected = AreAwaited q.grammar.now origins expected

abbrev pub IsDescendedOf : Question → List ℕ → Type 0
IsDescendedOf q expected = IsDescended q.tables.now.corners.items (Has expected)

abbrev pub AreRowsAt : Question → Now → Position → Type 0
AreRowsAt q now position = AreRows q.grammar.now now.origins.items (rows_in position.rows)

abbrev pub AreAwaitedAt : Question → Now → Position → Type 0
AreAwaitedAt q now position = AreAwaited q.grammar.now now.origins.items position.expected.items

abbrev pub ArePassedAt : Question → List Position → Now → Type 0
ArePassedAt q before now = ArePassed q.grammar.now (slice_get q.tokens.now (length before)) now

abbrev pub IsScannedAt : Question → List Position → Now → Type 0
IsScannedAt q before now = IsScanned q.grammar.now q.tables.now q.tokens.now before now

abbrev pub IsFromAt : Question → List Position → Now → Type 0
IsFromAt q before now = IsFrom q.grammar.now q.tables.now q.tokens.now before now

abbrev pub IsMadeAt : Question → List Position → Position → Type 0
IsMadeAt q before position = IsMade q.grammar.now q.tables.now q.tokens.now before position
