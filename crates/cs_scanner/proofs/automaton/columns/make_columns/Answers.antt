-- One byte more.
use Rattle.std.proofs.Common.{arith}
use Rattle.std.proofs.lemmas.List.{length_push}
use Rattle.cs_scanner.specs.Automaton.Programs.{values}
use Rattle.cs_scanner.specs.Automaton.Sets.{lists}
use Rattle.cs_scanner.proofs.OnAutomaton.Columning.{found_more, made_more, once_length}
use Rattle.cs_scanner.proofs.automaton.columns.make_columns.Goals as goal

pub loop-byte-preserved : goal.loop-byte-preserved
loop-byte-preserved c =
    let classes = values c.args.classes.now in
    let old = lists c.loop-byte.rows.keys in
    let new = lists c.add.new.sets.keys in
    let row = c.in_ok-row.row.items in
    let h = c.loop-byte.invariant in
    record {
      many = rw (c.in_ok-push.ensures.items, length_push) (omega (arith, h.many));
      few = omega (arith, h.few, once_length old new row c.in_ok-column.ensures.kept);
      found = found_more classes old new c.loop-byte.column_of.items c.push.new.self.items c.loop-byte.byte c.in_ok-column.column row h.many c.in_ok-push.ensures.items c.in_ok-column.ensures.kept c.in_ok-column.ensures.found c.in_ok-row.ensures.row h.found;
      some = made_more classes old new c.args.width c.loop-byte.byte row c.loop-byte-test.true c.in_ok-column.ensures.kept c.in_ok-row.ensures.long c.in_ok-row.ensures.row h.some;
    }
