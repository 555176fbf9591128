-- Which item may come at which place of a yacc file.
use Rattle.std.specs.Prelude.{◌≡◌, ℕ, List, [], ◌∷◌, ◌++◌, Bool, true, false, Option, Some, None}
use Rattle.cs_yacc.specs.declared.items.directive.Directive.{Directive}
use Rattle.cs_yacc.specs.declared.items.directive.Directive.TheVariants.{Start, Union, Expect, Prec, Empty}
use Rattle.cs_yacc.specs.Items.Items.{Item, mark, prologue, directive, name, literal, number, tag, block, colon, semicolon, bar, comma, Placed, items_of}

pub data Place : Type 0 where
  declarations : Place
  start : Place
  union : Place
  expect : Place
  list : Place
  tagged : Place
  entry : Place
  counted : Place
  behind_comma : Place
  rules : Place
  left : Place
  body : Place
  named : Place
  prec : Place
  closed : Place
  done : Place

-- the place behind a directive that may come among the declarations; most begin a list
abbrev pub behind_directive : Directive → Option Place
behind_directive Start = Some start
behind_directive Union = Some union
behind_directive Expect = Some expect
behind_directive Prec = None
behind_directive Empty = None
behind_directive d = Some list

-- the place behind an item that may come among the declarations
abbrev pub in_declarations : Item → Option Place
in_declarations (directive d) = behind_directive d
in_declarations prologue = Some declarations
in_declarations semicolon = Some declarations
in_declarations mark = Some rules
in_declarations item = None

-- the place behind an item that may come behind an entry of a list: a symbol, or what may come among the declarations
abbrev pub in_entry : Item → Option Place
in_entry (name n) = Some entry
in_entry (literal b) = Some entry
in_entry item = in_declarations item

-- the place behind an item that may come in a body
abbrev pub in_body : Item → Option Place
in_body (name n) = Some named
in_body (literal b) = Some body
in_body block = Some body
in_body (directive Empty) = Some body
in_body (directive Prec) = Some prec
in_body bar = Some body
in_body semicolon = Some closed
in_body mark = Some done
in_body item = None

-- The table: the place behind the item, where it may come at the place.
abbrev pub next_place : Place → Item → Option Place
next_place declarations item = in_declarations item
next_place start (name n) = Some declarations
next_place union block = Some declarations
next_place expect number = Some declarations
next_place list tag = Some tagged
next_place list (name n) = Some entry
next_place list (literal b) = Some entry
next_place tagged (name n) = Some entry
next_place tagged (literal b) = Some entry
next_place entry number = Some counted
next_place entry comma = Some behind_comma
next_place entry item = in_entry item
next_place counted comma = Some behind_comma
next_place counted item = in_entry item
next_place behind_comma item = in_entry item
next_place rules (name n) = Some left
next_place left colon = Some body
next_place body item = in_body item
next_place named colon = Some body
next_place named item = in_body item
next_place prec (name n) = Some body
next_place prec (literal b) = Some body
next_place closed bar = Some body
next_place closed semicolon = Some closed
next_place closed (name n) = Some left
next_place closed mark = Some done
next_place place item = None

abbrev pub Row : Place → Item → Place → Type 0
Row place item next = next_place place item ≡ Some next

-- whether a file may end at the place
abbrev pub may_end : Place → Bool
may_end body = true
may_end named = true
may_end closed = true
may_end done = true
may_end place = false

abbrev pub MayEnd : Place → Type 0
MayEnd place = may_end place ≡ true

-- From the place the items lead to the last place: there are places on the way, and each step is a row of the table.
abbrev pub TakesTo : Place → List Item → Place → Type 0
TakesTo place [] last = place ≡ last
TakesTo place (item ∷ items) last = (next : Place) × Row place item next × TakesTo next items last

-- a file of these items is taken
abbrev pub IsTaken : List Item → Type 0
IsTaken items = (last : Place) × TakesTo declarations items last × MayEnd last

-- From the place, the table takes the items before the offset and not the item at the offset; or it takes all items to a
-- place where the file may not end, and the offset is the file's length.
pub data StuckFrom (place : Place) (length : ℕ) (ps : List Placed) (at : ℕ) : Type 0 where
  at_item : (front : List Placed) (p : Placed) (behind : List Placed) (last : Place) → ps ≡ front ++ p ∷ behind → TakesTo place (items_of front) last → ((next : Place) → ¬ Row last p.item next) → at ≡ p.at
      → StuckFrom place length ps at
  at_end : (last : Place) → TakesTo place (items_of ps) last → ¬ MayEnd last → at ≡ length → StuckFrom place length ps at

-- a file of these items and this length is refused there
abbrev pub IsStuck : ℕ → List Placed → ℕ → Type 0
IsStuck length ps at = StuckFrom declarations length ps at
