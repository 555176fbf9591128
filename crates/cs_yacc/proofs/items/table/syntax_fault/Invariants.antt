use Rattle.std.proofs.Common.{◌≡◌, drop}
use Rattle.cs_yacc.specs.Items.Table.{declarations}
use Rattle.cs_yacc.specs.Items.Views.{placed_all}
use Rattle.cs_yacc.specs.Items.PlaceView.{place_of}
use Rattle.cs_yacc.proofs.OnItems.Stuck.{stuck_at}
use Rattle.cs_yacc.proofs.items.table.syntax_fault.Given as goal

abbrev pub invariant-loop-placed : goal.invariant-loop-placed
invariant-loop-placed l = stuck_at (place_of l.place) l.length (placed_all (drop l.placed-index l.items)) ≡ stuck_at declarations l.length (placed_all l.items)
