-- Charts that are made of a grammar's tables and a list of tokens.
use Rattle.std.specs.Prelude.{◌≡◌, ◌<◌, ◌+◌, ◌⊎◌, ℕ, List, None, Some, length, take, slice_get}
use Rattle.cs_member.specs.Tables.Item.{Awaits, IsDone}
use Rattle.cs_member.specs.declared.chart.now.Span.{Span}
use Rattle.cs_member.specs.Chart.Closed.{Sets}
use Rattle.cs_grammar.specs.Grammar.{PlainGrammar}
use Rattle.cs_member.specs.declared.tables.item.Item.{Item}
use Rattle.cs_member.specs.declared.chart.now.Now.{Now}
use Rattle.cs_member.specs.declared.chart.chart.Position.{Position}
use Rattle.cs_member.specs.declared.tables.tables.Tables.{Tables}
use Rattle.cs_member.specs.Chart.Now.{IsNow, ArePassed, IsKept, IsPast, StandsIn, SpansIn}
use Rattle.cs_member.specs.Chart.Chart.{AreRows, AreBefore, OfScan, OfSpan, IsFollowed, ExpectedAt, StandsAt}
use Rattle.cs_member.specs.Chart.Buckets.{AreBuckets, rows_in}
use Rattle.cs_member.specs.Tables.Expecting.{IsDescended}
use Rattle.cs_member.specs.Tables.Sets.{Has}
use Rattle.cs_member.specs.declared.chart.now.Origins.{Origins}
use Rattle.cs_grammar.specs.declared.symbol.Symbol.TheVariants.{Nonterminal}

-- what the items await is expected
abbrev pub AreAwaited : PlainGrammar → List Origins → List ℕ → Type 0
AreAwaited g origins expected = (k a : ℕ) (o : Origins) → slice_get origins k ≡ Some o → Awaits g o.item (Nonterminal a) → Has expected a

-- what follows from the token before the position is kept, where there is one
abbrev pub IsScanned : PlainGrammar → Tables → List ℕ → List Position → Now → Type 0
IsScanned g tables tokens before now = 0 < length before → (x : Item) (j : ℕ) → OfScan before tables.tokens.items tokens x j → IsKept g (slice_get tokens (length before)) now x j

-- what is found comes from the token before the position, or from a span that was found before: the causes by which a derivation
-- is found again
pub record IsFrom (g : PlainGrammar) (tables : Tables) (tokens : List ℕ) (before : List Position) (now : Now) : Type 0 where
  pub stands : (x : Item) (j : ℕ) → StandsIn now.origins.items x j
      → ((first : Item) × OfScan before tables.tokens.items tokens first j × IsPast g first x)
      ⊎ ((m : ℕ) × (s : Span) × (first : Item) × (slice_get now.spans.items m ≡ Some s) × OfSpan before tables.nonterminals.items s first j × IsPast g first x)
  pub spans : (n : ℕ) (t : Span) → slice_get now.spans.items n ≡ Some t
      → ((first : Item) × (x : Item) × (t.cause ≡ None) × OfScan before tables.tokens.items tokens first t.from × IsPast g first x × IsDone g x t.nonterminal)
      ⊎ ((m : ℕ) × (s : Span) × (first : Item) × (x : Item) × (t.cause ≡ Some m) × (m < n) × (slice_get now.spans.items m ≡ Some s)
      × OfSpan before tables.nonterminals.items s first t.from × IsPast g first x × IsDone g x t.nonterminal)

-- the position behind these is made of what is found there
pub record IsMade (g : PlainGrammar) (tables : Tables) (tokens : List ℕ) (before : List Position) (position : Position) : Type 0 where
  pub now : Now
  pub is_now : IsNow g now
  pub before_here : AreBefore g (length before) now
  pub passed : ArePassed g (slice_get tokens (length before)) now
  pub scanned : IsScanned g tables tokens before now
  pub followed : (n : ℕ) → n < length now.spans.items → IsFollowed g (slice_get tokens (length before)) before tables.nonterminals.items now n
  pub from : IsFrom g tables tokens before now
  pub buckets : AreBuckets position.rows
  pub rows : AreRows g now.origins.items (rows_in position.rows)
  pub first : length before ≡ 0 → ExpectedAt position g.start
  pub awaited : AreAwaited g now.origins.items position.expected.items
  pub closed : IsDescended tables.corners.items (Has position.expected.items)
  pub spans : position.spans.items ≡ now.spans.items

-- each position is made of those before it
pub record IsChart (g : PlainGrammar) (tables : Tables) (tokens : List ℕ) (many : ℕ) (chart : List Position) : Type 0 where
  pub long : length chart ≡ many
  pub each : (i : ℕ) (position : Position) → slice_get chart i ≡ Some position → IsMade g tables tokens (take i chart) position

-- a chart as sets
abbrev pub sets_of : List Position → Sets
sets_of chart = record {
  Stands = λ i x j. (p : Position) × (slice_get chart i ≡ Some p) × StandsAt p x j;
  Expected = λ i a. (p : Position) × (slice_get chart i ≡ Some p) × ExpectedAt p a;
  Spans = λ i a j. (p : Position) × (slice_get chart i ≡ Some p) × SpansIn p.spans.items a j;
}
