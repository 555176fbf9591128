-- Where reading stops, as the code answers it.
use Rattle.std.proofs.Common.{ℕ, ◌<◌, List}
use Rattle.std.specs.Prelude.{Err}
use Rattle.cs_yacc.specs.declared.items.error.ItemsError.{ItemsError}
use Rattle.cs_yacc.specs.declared.items.error.ItemsError.TheVariants.{BadItem, Unended, UnknownDirective, Memory}
use Rattle.cs_yacc.specs.Items.Items.{Placed}
use Rattle.cs_yacc.specs.Items.Finds.{StopsWith}
use Rattle.cs_yacc.specs.Items.Stops.{AnswersItems, StopsFor}
use Rattle.cs_yacc.proofs.OnItems.Reading.{HasRead, read_to_stop}

pub stop_answers : (bytes : List ℕ) (items : List Placed) (from marks : ℕ) (e : ItemsError) → HasRead bytes items (record { at = from; marks = marks }) → marks < 2 → StopsWith bytes from e → AnswersItems bytes (Err e)
stop_answers bytes items from marks (BadItem at) h lt s = ((items, read_to_stop bytes items (record { at = from; marks = marks }) at h lt s.0), s.1)
stop_answers bytes items from marks (Unended at) h lt s = ((items, read_to_stop bytes items (record { at = from; marks = marks }) at h lt s.0), s.1)
stop_answers bytes items from marks (UnknownDirective at) h lt s = ((items, read_to_stop bytes items (record { at = from; marks = marks }) at h lt s.0), s.1)
stop_answers bytes items from marks Memory h lt s = absurd s

pub stops_for : (bytes : List ℕ) (items : List Placed) (from marks : ℕ) (e : ItemsError) → HasRead bytes items (record { at = from; marks = marks }) → marks < 2 → StopsWith bytes from e → StopsFor bytes e
stops_for bytes items from marks (BadItem at) h lt s = ((items, read_to_stop bytes items (record { at = from; marks = marks }) at h lt s.0), s.1)
stops_for bytes items from marks (Unended at) h lt s = ((items, read_to_stop bytes items (record { at = from; marks = marks }) at h lt s.0), s.1)
stops_for bytes items from marks (UnknownDirective at) h lt s = ((items, read_to_stop bytes items (record { at = from; marks = marks }) at h lt s.0), s.1)
stops_for bytes items from marks Memory h lt s = s
