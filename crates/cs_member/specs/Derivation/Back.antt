-- How an item is found: behind another, by a token or by a span.
use Rattle.std.specs.Prelude.{◌≡◌, ◌≤◌, ◌<◌, ◌+◌, ◌⊎◌, ℕ, List, Option, None, Some, Contains, length, slice_get}
use Rattle.std.specs.Global.{Vec}
use Rattle.cs_grammar.specs.declared.symbol.Symbol.TheVariants.{Token, Nonterminal}
use Rattle.cs_grammar.specs.Grammar.{Production, PlainGrammar, IsRule}
use Rattle.cs_member.specs.declared.tables.item.Item.{Item}
use Rattle.cs_member.specs.declared.derivation.back.Back.{Back}
use Rattle.cs_member.specs.declared.derivation.back.Sought.{Sought}
use Rattle.cs_member.specs.declared.derivation.back.Sought.TheVariants.{Exactly, End}
use Rattle.cs_member.specs.declared.chart.chart.Position.{Position}
use Rattle.cs_member.specs.declared.chart.chart.Row.{Row}
use Rattle.cs_member.specs.declared.tables.fronts.Front.{Front}
use Rattle.cs_member.specs.declared.chart.now.Span.{Span}
use Rattle.cs_member.specs.declared.tables.tables.Tables.{Tables}
use Rattle.cs_member.specs.Tables.Item.{Awaits, IsDone, IsFront, IsItem, over}
use Rattle.cs_member.specs.Chart.Buckets.{rows_in}
use Rattle.cs_member.specs.Tables.Sets.{InWords}
use Rattle.cs_member.specs.Chart.Now.{IsPast}
use Rattle.cs_member.specs.Chart.Chart.{OfScan, OfSpan, OfBucket, StandsAt}

-- the item is what is sought
abbrev pub Meets : PlainGrammar → Sought → Item → Type 0
Meets g (Exactly y) x = x ≡ y
Meets g (End a) x = IsDone g x a

-- an item is sought, if it is one of the grammar
abbrev pub IsSought : PlainGrammar → Sought → Type 0
IsSought g (Exactly y) = IsItem g y
IsSought g (End a) = Unit {0}

-- the place that is sought in a rule
pub record IsPlaceSought (g : PlainGrammar) (sought : Sought) (r k : ℕ) : Type 0 where
  pub within : (p : Production) → IsRule g r p → k ≤ length p.right
  pub meets : Meets g sought (record { rule = r; place = k })
  pub only : (x : Item) → x.rule ≡ r → Meets g sought x → x.place ≡ k

-- the item leads to what is sought
pub record LeadsTo (g : PlainGrammar) (sought : Sought) (first x : Item) : Type 0 where
  pub past : IsPast g first x
  pub meets : Meets g sought x

-- no item leads to what is sought
abbrev pub NoneLeads : PlainGrammar → Sought → (Item → Type 0) → Type 0
NoneLeads g sought These = (first x : Item) → These first → LeadsTo g sought first x → ⊥

-- what is found is sought, and the item before leads to it
abbrev pub IsBehind : PlainGrammar → Sought → Back → Type 0
IsBehind g sought back = LeadsTo g sought (over back.before) back.found

-- the item is of one of the rows, with this origin
abbrev pub IsInRows : List Row → ℕ → Item → Type 0
IsInRows rows from x = (row : Row) × Contains rows row × (row.item ≡ x) × InWords row.words.items from

-- the items of fronts
abbrev pub IsOfFronts : List Front → Item → Type 0
IsOfFronts fronts x = (f : Front) × Contains fronts f × (x ≡ f.item)

-- the items behind those of a position's bucket, or of these fronts, with this origin
abbrev pub OfSymbol : Position → ℕ → List Front → ℕ → ℕ → Item → Type 0
OfSymbol position bucket fronts begin from x = OfBucket position bucket x from ⊎ (IsOfFronts fronts x × (from ≡ begin))

-- the item begins the rule of one of these fronts, or stands in a position's bucket, with this origin
abbrev pub IsBefore : Position → ℕ → List Front → ℕ → ℕ → Item → Type 0
IsBefore position bucket fronts begin from x =
    ((from ≡ begin) × IsOfFronts fronts (over x))
    ⊎ ((from < begin) × (list : Vec Row) × (slice_get (rows_in position.rows) bucket ≡ Some list) × IsInRows list.items from x)

-- the item stands at a position with an origin before it
abbrev pub StandsBefore : List Position → Item → ℕ → ℕ → Type 0
StandsBefore chart x from at = (from < at) × (p : Position) × (slice_get chart at ≡ Some p) × StandsAt p x from

-- the item stands at a position with an origin before it, or at its origin as a front
abbrev pub IsAt : PlainGrammar → List Position → Item → ℕ → ℕ → Type 0
IsAt g chart x from at =
    ((from ≡ at) × (a : ℕ) × IsFront g a x) ⊎ StandsBefore chart x from at

-- a token stands behind the item, or the nonterminal of the span of this number, up to a position
abbrev pub HasChild : PlainGrammar → List ℕ → List Position → Item → ℕ → ℕ → Option ℕ → Type 0
HasChild g tokens chart x begin at None = (t : ℕ) × (slice_get tokens begin ≡ Some t) × (begin + 1 ≡ at) × Awaits g x (Token t)
HasChild g tokens chart x begin at (Some m) =
    (p : Position) × (s : Span) × (slice_get chart at ≡ Some p) × (slice_get p.spans.items m ≡ Some s) × (s.from ≡ begin) × Awaits g x (Nonterminal s.nonterminal)

-- the item before stands where the child begins, and what is found is behind both
pub record IsBack (g : PlainGrammar) (tokens : List ℕ) (chart : List Position) (at from : ℕ) (child : Option ℕ) (back : Back) : Type 0 where
  pub there : IsAt g chart back.before from back.begin
  pub earlier : back.begin < at
  pub awaits : HasChild g tokens chart back.before back.begin at child
  pub past : IsPast g (over back.before) back.found

-- the same, and it is what is sought
abbrev pub IsFound : PlainGrammar → List ℕ → List Position → Sought → ℕ → ℕ → Option ℕ → Back → Type 0
IsFound g tokens chart sought at from child back = IsBack g tokens chart at from child back × Meets g sought back.found

-- what follows from the token before a position, or from one of its spans, with this origin
abbrev pub OfChild : Tables → List ℕ → List Position → List Span → Option ℕ → ℕ → Item → Type 0
OfChild tables tokens before spans None from x = OfScan before tables.tokens.items tokens x from
OfChild tables tokens before spans (Some m) from x = (s : Span) × (slice_get spans m ≡ Some s) × OfSpan before tables.nonterminals.items s x from

-- a child up to a position: the token before it, or one of its spans
abbrev pub IsChild : List Position → ℕ → Option ℕ → Type 0
IsChild chart at None = Unit {0}
IsChild chart at (Some m) = (p : Position) × (slice_get chart at ≡ Some p) × (m < length p.spans.items)
