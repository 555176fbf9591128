-- The position that is being made, as sets.
use Rattle.std.specs.Prelude.{◌≡◌, ◌≤◌, ◌<◌, ◌+◌, ◌*◌, ◌/◌, ◌%◌, ◌⊎◌, ◌++◌, ℕ, List, Option, Some, All, length, slice_get, slice_index}
use Rattle.std.specs.Int.{bit_at}
use Rattle.cs_grammar.specs.declared.symbol.Symbol.{Symbol}
use Rattle.cs_grammar.specs.declared.symbol.Symbol.TheVariants.{Token, Nonterminal}
use Rattle.cs_grammar.specs.Grammar.{PlainGrammar}
use Rattle.cs_member.specs.declared.tables.item.Item.{Item}
use Rattle.cs_member.specs.declared.chart.now.Now.{Now}
use Rattle.cs_member.specs.declared.chart.now.Origins.{Origins}
use Rattle.cs_member.specs.declared.chart.now.Span.{Span}
use Rattle.cs_member.specs.Tables.Item.{Awaits, IsDone, IsEmpty, MayCome, over}
use Rattle.cs_member.specs.Tables.Sets.{Has}

-- the item stands here with this origin
abbrev pub StandsIn : List Origins → Item → ℕ → Type 0
StandsIn rows x j = (k : ℕ) × (o : Origins) × (slice_get rows k ≡ Some o) × (o.item ≡ x) × Has o.set.items j

-- a span of the nonterminal that begins there ends here
abbrev pub SpansIn : List Span → ℕ → ℕ → Type 0
SpansIn spans a j = (n : ℕ) × (s : Span) × (slice_get spans n ≡ Some s) × (s.nonterminal ≡ a) × (s.from ≡ j)

-- the bit of a nonterminal and a position; each 64 positions have words for so many nonterminals
abbrev pub HasEnd : ℕ → List ℕ → ℕ → ℕ → Type 0
HasEnd many ends a j = bit_at (slice_index ends (j / 64 * many + a)) (j % 64) ≡ 1

-- the bits of a nonterminal are spans of it
abbrev pub AreEnds : ℕ → List ℕ → List Span → Type 0
AreEnds many ends spans = (a j : ℕ) → a < many → HasEnd many ends a j → SpansIn spans a j

-- rows have room for positions alone
abbrev pub AreShort : List Origins → Type 0
AreShort rows = All (λ o. length o.set.items ≤ 1024) rows

-- the item awaits a symbol
abbrev pub IsHere : PlainGrammar → Item → Type 0
IsHere g x = (s : Symbol) × Awaits g x s

-- each of the items awaits a symbol
abbrev pub AreHere : PlainGrammar → List Origins → Type 0
AreHere g rows = All (λ o. IsHere g o.item) rows

-- a position that is being made
pub record IsNow (g : PlainGrammar) (now : Now) : Type 0 where
  pub ends : AreEnds (g.nonterminals + 1) now.ends.items now.spans.items
  pub short : AreShort now.origins.items
  pub here : AreHere g now.origins.items

-- spans of this nonterminal that have this cause, and begin at such positions, come behind the old ones
pub record Ends (left : ℕ) (cause : Option ℕ) (From : ℕ → Type 0) (old new : List Span) : Type 0 where
  pub more : List Span
  pub grown : new ≡ old ++ more
  pub are : All (λ s. (s.nonterminal ≡ left) × (s.cause ≡ cause) × From s.from) more
  pub found : (j : ℕ) → From j → SpansIn new left j

-- the item stands with these origins too
abbrev pub Stood : Item → (ℕ → Type 0) → List Origins → List Origins → Type 0
Stood item From old new = (x : Item) (j : ℕ) →
    (StandsIn new x j → StandsIn old x j ⊎ ((item ≡ x) × From j)) × (StandsIn old x j ⊎ ((item ≡ x) × From j) → StandsIn new x j)

-- what is kept where an item is found here with an origin
pub record IsKept (g : PlainGrammar) (ahead : Option ℕ) (now : Now) (x : Item) (j : ℕ) : Type 0 where
  pub token : (t : ℕ) → Awaits g x (Token t) → ahead ≡ Some t → StandsIn now.origins.items x j
  pub nonterminal : (a : ℕ) → Awaits g x (Nonterminal a) → MayCome g ahead a → StandsIn now.origins.items x j
  pub done : (a : ℕ) → IsDone g x a → SpansIn now.spans.items a j

-- the tokens that items await come next
abbrev pub AreNext : PlainGrammar → Option ℕ → Now → Type 0
AreNext g ahead now = (x : Item) (j t : ℕ) → StandsIn now.origins.items x j → Awaits g x (Token t) → ahead ≡ Some t

-- items are kept behind symbols that have empty trees, and the tokens that they await come next
pub record ArePassed (g : PlainGrammar) (ahead : Option ℕ) (now : Now) : Type 0 where
  pub behind : (x : Item) (j a : ℕ) → StandsIn now.origins.items x j → Awaits g x (Nonterminal a) → IsEmpty g a → IsKept g ahead now (over x) j
  pub next : AreNext g ahead now

-- the item is this one, or behind it and symbols that have empty trees
pub record IsPast (g : PlainGrammar) (first x : Item) : Type 0 where
  pub same : x.rule ≡ first.rule
  pub low : first.place ≤ x.place
  pub bare : (k : ℕ) → first.place ≤ k → k < x.place → (b : ℕ) × Awaits g (record { rule = first.rule; place = k }) (Nonterminal b) × IsEmpty g b

-- an item with origins is put
pub record IsPut (g : PlainGrammar) (ahead cause : Option ℕ) (first : Item) (From : ℕ → Type 0) (old new : Now) : Type 0 where
  pub kept : (j : ℕ) → From j → IsKept g ahead new first j
  pub passed : ArePassed g ahead old → ArePassed g ahead new
  pub stood : (x : Item) (j : ℕ) → StandsIn old.origins.items x j → StandsIn new.origins.items x j
  pub stand : (x : Item) (j : ℕ) → StandsIn new.origins.items x j → StandsIn old.origins.items x j ⊎ (IsPast g first x × From j)
  pub more : List Span
  pub grown : new.spans.items ≡ old.spans.items ++ more
  pub are : All (λ s. (s.cause ≡ cause) × From s.from × (x : Item) × IsPast g first x × IsDone g x s.nonterminal) more

-- one item is found, with origins
pub record IsStep (g : PlainGrammar) (ahead cause : Option ℕ) (item : Item) (From : ℕ → Type 0) (old new : Now) : Type 0 where
  pub kept : (j : ℕ) → From j → IsKept g ahead new item j
  pub next : AreNext g ahead old → AreNext g ahead new
  pub stood : (x : Item) (j : ℕ) → StandsIn old.origins.items x j → StandsIn new.origins.items x j
  pub stand : (x : Item) (j : ℕ) → StandsIn new.origins.items x j → StandsIn old.origins.items x j ⊎ ((item ≡ x) × From j)
  pub more : List Span
  pub grown : new.spans.items ≡ old.spans.items ++ more
  pub are : All (λ s. (s.cause ≡ cause) × From s.from × IsDone g item s.nonterminal) more

-- an item with origins is put, up to a place
pub record IsPutTo (g : PlainGrammar) (ahead cause : Option ℕ) (first : Item) (From : ℕ → Type 0) (to : ℕ) (old new : Now) : Type 0 where
  pub past : IsPast g first (record { rule = first.rule; place = to })
  pub kept : (j : ℕ) → first.place < to → From j → IsKept g ahead new first j
  pub behind : ArePassed g ahead old → (x : Item) (j a : ℕ) → StandsIn new.origins.items x j → Awaits g x (Nonterminal a) → IsEmpty g a
      → IsKept g ahead new (over x) j ⊎ ((over x ≡ record { rule = first.rule; place = to }) × From j)
  pub next : AreNext g ahead old → AreNext g ahead new
  pub stood : (x : Item) (j : ℕ) → StandsIn old.origins.items x j → StandsIn new.origins.items x j
  pub stand : (x : Item) (j : ℕ) → StandsIn new.origins.items x j → StandsIn old.origins.items x j ⊎ (IsPast g first x × From j)
  pub more : List Span
  pub grown : new.spans.items ≡ old.spans.items ++ more
  pub are : All (λ s. (s.cause ≡ cause) × From s.from × (x : Item) × IsPast g first x × IsDone g x s.nonterminal) more

-- items are put, each with origins
pub record ArePut (g : PlainGrammar) (ahead cause : Option ℕ) (Put : Item → ℕ → Type 0) (old new : Now) : Type 0 where
  pub kept : (x : Item) (j : ℕ) → Put x j → IsKept g ahead new x j
  pub passed : ArePassed g ahead old → ArePassed g ahead new
  pub stood : (x : Item) (j : ℕ) → StandsIn old.origins.items x j → StandsIn new.origins.items x j
  pub stand : (x : Item) (j : ℕ) → StandsIn new.origins.items x j → StandsIn old.origins.items x j ⊎ ((first : Item) × Put first j × IsPast g first x)
  pub more : List Span
  pub grown : new.spans.items ≡ old.spans.items ++ more
  pub are : All (λ s. (s.cause ≡ cause) × (first : Item) × (x : Item) × Put first s.from × IsPast g first x × IsDone g x s.nonterminal) more
