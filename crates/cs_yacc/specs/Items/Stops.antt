-- What reading of items answers: the items, or where it stops and why.
use Rattle.std.specs.Prelude.{ℕ, List, drop, Result, Ok, Err}
use Rattle.std.specs.Global.{Vec}
use Rattle.cs_yacc.specs.declared.items.item.Placed as held
use Rattle.cs_yacc.specs.declared.items.error.ItemsError.{ItemsError}
use Rattle.cs_yacc.specs.declared.items.error.ItemsError.TheVariants.{BadItem, Unended, UnknownDirective, Memory}
use Rattle.cs_yacc.specs.Items.Items.{Placed, Reads, StopsAt, IsOpen, BeginsUnknown, BeginsNeither}
use Rattle.cs_yacc.specs.Items.Views.{placed_all}

-- reading of items stops at the offset
abbrev pub StopsThere : List ℕ → ℕ → Type 0
StopsThere bytes at = (items : List Placed) × StopsAt bytes items at

-- Reading of items stops with this error. Want of memory stops nothing.
abbrev pub StopsFor : List ℕ → ItemsError → Type 0
StopsFor bytes (BadItem at) = StopsThere bytes at × BeginsNeither (drop at bytes)
StopsFor bytes (Unended at) = StopsThere bytes at × IsOpen (drop at bytes)
StopsFor bytes (UnknownDirective at) = StopsThere bytes at × BeginsUnknown (drop at bytes)
StopsFor bytes Memory = ⊥

-- the items of the bytes, or why reading of items stops; memory may run out
abbrev pub AnswersItems : List ℕ → Result (Vec held.Placed) ItemsError → Type 0
AnswersItems bytes (Ok v) = Reads bytes (placed_all v.items)
AnswersItems bytes (Err Memory) = Unit {0}
AnswersItems bytes (Err error) = StopsFor bytes error

-- the bytes are read into items
abbrev pub IsRead : List ℕ → Type 0
IsRead bytes = (items : List Placed) × Reads bytes items

-- reading of items stops
abbrev pub IsStopped : List ℕ → Type 0
IsStopped bytes = (error : ItemsError) × StopsFor bytes error
