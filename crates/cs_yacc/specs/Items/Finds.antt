-- What the steps of reading items answer.
use Rattle.std.specs.Prelude.{ℕ, List, drop, ◌<◌}
use Rattle.cs_yacc.specs.declared.items.item.Front as front
use Rattle.cs_yacc.specs.declared.items.item.Front.TheVariants as fronts
use Rattle.cs_yacc.specs.declared.items.items.Next as found
use Rattle.cs_yacc.specs.declared.items.items.Next.TheVariants as nexts
use Rattle.cs_yacc.specs.declared.items.error.ItemsError.{ItemsError}
use Rattle.cs_yacc.specs.declared.items.error.ItemsError.TheVariants.{BadItem, Unended, UnknownDirective}
use Rattle.cs_yacc.specs.Items.Items.{BeginsItem, BeginsNoItem, Follows, ReadingEnds, Stops, IsOpen, BeginsUnknown, BeginsNeither}
use Rattle.cs_yacc.specs.Items.Views.{item_of, placed_of}

-- what the code says of what stands at the front of a text
abbrev pub FindsFront : List ℕ → front.Front → Type 0
FindsFront text (fronts.Item i size) = BeginsItem text (item_of i) size
FindsFront text fronts.Open = BeginsNoItem text × IsOpen text
FindsFront text fronts.Unknown = BeginsNoItem text × BeginsUnknown text
FindsFront text fronts.Nothing = BeginsNoItem text × BeginsNeither text

-- reading stops there with this error
abbrev pub StopsWith : List ℕ → ℕ → ItemsError → Type 0
StopsWith bytes from (BadItem at) = Stops bytes from at × BeginsNeither (drop at bytes)
StopsWith bytes from (Unended at) = Stops bytes from at × IsOpen (drop at bytes)
StopsWith bytes from (UnknownDirective at) = Stops bytes from at × BeginsUnknown (drop at bytes)
StopsWith bytes from e = ⊥

-- what the code says of what stands behind an offset, where fewer than two marks stand before it
abbrev pub IsNext : List ℕ → ℕ → found.Next → Type 0
IsNext bytes from (nexts.Item p end) = Follows bytes from (placed_of p) end
IsNext bytes from nexts.End = (marks : ℕ) → marks < 2 → ReadingEnds bytes (record { at = from; marks = marks })
IsNext bytes from (nexts.Stop e) = StopsWith bytes from e
