-- One item more, where it may stand, and each takes a byte or more.
use Rattle.std.proofs.Common.{length, arith, ap}
use Rattle.std.proofs.lemmas.List.{map_push, length-drop}
use Rattle.cs_pattern_parts.specs.Items.Views.{item_of, placed_of}
use Rattle.cs_pattern.proofs.OnText.Readings.{has_read_more}
use Rattle.cs_pattern.proofs.text.reading.items.Goals as goal

pub loop-at-preserved : goal.loop-at-preserved
loop-at-preserved c =
    let n = rw c.in-Item.is at c.in_ok-item.ensures in
    record {
      so_far =
          rw (c.in_ok-push-in-Item.ensures.items, map_push placed_of)
          (has_read_more c.args.bytes.now _ c.loop-at.at c.loop-at.place (item_of c.in-Item.item) c.in-Item.size c.in-Item.next _ c.loop-at.invariant.so_far c.from_offset.ensures n.0 n.1 n.2
          (omega (arith, n.3, ap length c.from_offset.ensures, length-drop c.loop-at.at c.args.bytes.now, c.loop-at-test.true)) n.4);
      few = omega (arith, n.2, c.loop-at.invariant.few, c.in_ok-push-in-Item.ensures.len);
    }
