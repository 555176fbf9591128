-- The chart: its positions as sets.
use Rattle.std.specs.Prelude.{◌≡◌, ◌≤◌, ◌<◌, ◌+◌, ◌-◌, ◌⊎◌, ◌++◌, ℕ, List, Option, Some, All, Contains, length, slice_get}
use Rattle.std.specs.Global.{Vec}
use Rattle.cs_grammar.specs.declared.symbol.Symbol.TheVariants.{Token, Nonterminal}
use Rattle.cs_grammar.specs.Grammar.{PlainGrammar}
use Rattle.cs_member.specs.declared.tables.item.Item.{Item}
use Rattle.cs_member.specs.declared.chart.chart.Row.{Row}
use Rattle.cs_member.specs.declared.chart.chart.Position.{Position}
use Rattle.cs_member.specs.declared.tables.fronts.Front.{Front}
use Rattle.cs_member.specs.declared.chart.now.Span.{Span}
use Rattle.cs_member.specs.declared.chart.now.Now.{Now}
use Rattle.cs_member.specs.declared.chart.now.Origins.{Origins}
use Rattle.cs_member.specs.declared.tables.item.Next.{Next}
use Rattle.cs_member.specs.declared.tables.item.Next.TheVariants.{Awaited, Done}
use Rattle.cs_member.specs.Tables.Item.{Awaits, IsDone, IsItem, over}
use Rattle.cs_member.specs.Chart.Buckets.{AreBuckets, rows_in}
use Rattle.cs_member.specs.Tables.Sets.{Has, InWords}
use Rattle.cs_member.specs.Chart.Now.{StandsIn, ArePassed, IsKept, IsPast}

-- a row whose item can be moved
pub record IsRow (g : PlainGrammar) (row : Row) : Type 0 where
  pub item : IsItem g (over row.item)
  pub small : row.item.place < 128
  pub words : All (λ word. word.at < 1024) row.words.items

-- the items of rows, with the awaited symbol taken
abbrev pub OfRows : List Row → Item → ℕ → Type 0
OfRows rows x j = (row : Row) × Contains rows row × (x ≡ over row.item) × InWords row.words.items j

-- the fronts of rules of expected nonterminals
abbrev pub OfFronts : List ℕ → List Front → ℕ → Item → ℕ → Type 0
OfFronts expected fronts from x j = (front : Front) × Contains fronts front × Has expected front.left × (x ≡ front.item) × (j ≡ from)

-- the item stands at the position with this origin
abbrev pub StandsAt : Position → Item → ℕ → Type 0
StandsAt position x j = (b : ℕ) × (bucket : Vec Row) × (row : Row) × (slice_get (rows_in position.rows) b ≡ Some bucket)
    × Contains bucket.items row × (row.item ≡ x) × InWords row.words.items j

-- rules of the nonterminal may begin at the position
abbrev pub ExpectedAt : Position → ℕ → Type 0
ExpectedAt position a = Has position.expected.items a

-- the position number i, with rows for each nonterminal
pub record IsPosition (g : PlainGrammar) (i : ℕ) (position : Position) : Type 0 where
  pub buckets : AreBuckets position.rows
  pub size : length (rows_in position.rows) ≡ g.nonterminals + 1
  pub rows : (b : ℕ) (bucket : Vec Row) → slice_get (rows_in position.rows) b ≡ Some bucket → All (IsRow g) bucket.items
  pub early : (b j : ℕ) (bucket : Vec Row) (row : Row) → slice_get (rows_in position.rows) b ≡ Some bucket → Contains bucket.items row → InWords row.words.items j → j < i
  pub awaits : (b : ℕ) (bucket : Vec Row) (row : Row) → slice_get (rows_in position.rows) b ≡ Some bucket → Contains bucket.items row → 0 < b → Awaits g row.item (Nonterminal b)

abbrev pub ArePositions : PlainGrammar → List Position → Type 0
ArePositions g chart = (i : ℕ) (position : Position) → slice_get chart i ≡ Some position → IsPosition g i position

-- the items that await the symbol of a bucket at a position, with that taken
abbrev pub OfBucket : Position → ℕ → Item → ℕ → Type 0
OfBucket position b x j = (bucket : Vec Row) × (slice_get (rows_in position.rows) b ≡ Some bucket) × OfRows bucket.items x j

-- the fronts that begin with the symbol, of rules that may begin at the position with this number
abbrev pub OfBegun : Position → List (Vec Front) → ℕ → ℕ → Item → ℕ → Type 0
OfBegun position fronts b from x j = (list : Vec Front) × (slice_get fronts b ≡ Some list) × OfFronts position.expected.items list.items from x j

-- what follows from a span
abbrev pub OfSpan : List Position → List (Vec Front) → Span → Item → ℕ → Type 0
OfSpan chart fronts s x j = (position : Position) × (slice_get chart s.from ≡ Some position)
    × (OfBucket position s.nonterminal x j ⊎ OfBegun position fronts s.nonterminal s.from x j)

-- a span that begins at one of so many positions
pub record IsSpan (g : PlainGrammar) (many : ℕ) (s : Span) : Type 0 where
  pub nonterminal : s.nonterminal ≤ g.nonterminals
  pub from : s.from < many

-- what is found begins at one of so many positions
pub record AreBefore (g : PlainGrammar) (many : ℕ) (now : Now) : Type 0 where
  pub spans : All (IsSpan g many) now.spans.items
  pub stands : (x : Item) (j : ℕ) → StandsIn now.origins.items x j → j < many

-- more is found
pub record Grows (g : PlainGrammar) (ahead : Option ℕ) (old new : Now) : Type 0 where
  pub passed : ArePassed g ahead old → ArePassed g ahead new
  pub stood : (x : Item) (j : ℕ) → StandsIn old.origins.items x j → StandsIn new.origins.items x j
  pub more : List Span
  pub grown : new.spans.items ≡ old.spans.items ++ more

-- what is found follows from spans that were found before
pub record AreCaused (g : PlainGrammar) (chart : List Position) (fronts : List (Vec Front)) (old new : Now) : Type 0 where
  pub stands : (x : Item) (j : ℕ) → StandsIn new.origins.items x j → StandsIn old.origins.items x j
      ⊎ ((m : ℕ) × (s : Span) × (first : Item) × (slice_get new.spans.items m ≡ Some s) × OfSpan chart fronts s first j × IsPast g first x)
  pub spans : (n : ℕ) (t : Span) → slice_get new.spans.items n ≡ Some t → (n < length old.spans.items)
      ⊎ ((m : ℕ) × (s : Span) × (first : Item) × (x : Item) × (t.cause ≡ Some m) × (m < n) × (slice_get new.spans.items m ≡ Some s) × OfSpan chart fronts s first t.from
      × IsPast g first x × IsDone g x t.nonterminal)

-- what follows from a span is kept
abbrev pub IsFollowed : PlainGrammar → Option ℕ → List Position → List (Vec Front) → Now → ℕ → Type 0
IsFollowed g ahead chart fronts now n = (s : Span) (x : Item) (j : ℕ) → slice_get now.spans.items n ≡ Some s → OfSpan chart fronts s x j → IsKept g ahead now x j

-- what follows from the last token before a position
abbrev pub OfScan : List Position → List (Vec Front) → List ℕ → Item → ℕ → Type 0
OfScan chart fronts tokens x j = (position : Position) × (t : ℕ) × (slice_get chart (length chart - 1) ≡ Some position) × (slice_get tokens (length chart - 1) ≡ Some t)
    × (OfBucket position 0 x j ⊎ OfBegun position fronts t (length chart - 1) x j)

-- the bucket of the rows whose items have this behind their places
abbrev pub bucket_of : Next → ℕ
bucket_of (Awaited (Nonterminal a)) = a
bucket_of (Awaited (Token t)) = 0
bucket_of (Done a) = 0

-- the number of the awaited nonterminal, or 0 where a token is awaited
abbrev pub BucketOf : PlainGrammar → ℕ → Item → Type 0
BucketOf g b x = ((0 < b) × Awaits g x (Nonterminal b)) ⊎ ((b ≡ 0) × (t : ℕ) × Awaits g x (Token t))

-- a row of what stands here
pub record IsHeld (g : PlainGrammar) (origins : List Origins) (b : ℕ) (row : Row) : Type 0 where
  pub fits : IsRow g row
  pub bucket : BucketOf g b row.item
  pub back : (j : ℕ) → InWords row.words.items j → StandsIn origins row.item j

-- the rows of what stands here
pub record AreRows (g : PlainGrammar) (origins : List Origins) (rows : List (Vec Row)) : Type 0 where
  pub size : length rows ≡ g.nonterminals + 1
  pub held : (b : ℕ) (bucket : Vec Row) (row : Row) → slice_get rows b ≡ Some bucket → Contains bucket.items row → IsHeld g origins b row
  pub stand : (x : Item) (j : ℕ) → StandsIn origins x j
      → (b : ℕ) × (bucket : Vec Row) × (row : Row) × (slice_get rows b ≡ Some bucket) × Contains bucket.items row × (row.item ≡ x) × InWords row.words.items j
