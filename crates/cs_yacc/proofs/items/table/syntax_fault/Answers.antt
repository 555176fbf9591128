-- The table stops at the item that may not come, or at the end where the list may not end.
use Rattle.std.proofs.Common.{sym, ◌∙◌}
use Rattle.cs_yacc.specs.declared.items.item.Item.TheVariants.{Mark}
use Rattle.cs_yacc.specs.Items.PlaceView.{place_of}
use Rattle.cs_yacc.proofs.OnItems.Stuck.{stuck_at_item, taken_at_end, stuck_at_end}
use Rattle.cs_yacc.proofs.items.table.syntax_fault.Goals as goal

pub returns-in-None-clause-stuck : goal.returns-in-None-clause-stuck
returns-in-None-clause-stuck c =
    stuck_at_item (place_of c.loop-placed.place) c.args.length c.args.items.now c.loop-placed.placed-index (record { at = 0; item = Mark }) c.loop-placed.invariant c.loop-placed-test.true c.in-None.ensures

pub returns-then-may_end-clause-taken : goal.returns-then-may_end-clause-taken
returns-then-may_end-clause-taken c = taken_at_end (place_of c.loop-placed.place) c.args.length c.args.items.now c.loop-placed.placed-index c.loop-placed.invariant c.loop-placed-test.false (sym c.if-may_end.true ∙ c.may_end.ensures)

pub returns-else-may_end-clause-stuck : goal.returns-else-may_end-clause-stuck
returns-else-may_end-clause-stuck c = stuck_at_end (place_of c.loop-placed.place) c.args.length c.args.items.now c.loop-placed.placed-index c.loop-placed.invariant c.loop-placed-test.false (sym c.if-may_end.false ∙ c.may_end.ensures)
