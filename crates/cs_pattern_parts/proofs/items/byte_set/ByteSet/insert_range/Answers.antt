-- One byte more of the range, beside the members that were there before.
use Rattle.std.proofs.Common.{arith}
use Rattle.std.proofs.lemmas.Bool.{le-leb}
use Rattle.cs_pattern_parts.specs.Items.Bits.{has_bit}
use Rattle.cs_pattern_parts.specs.Items.Members.{has}
use Rattle.cs_pattern_parts.proofs.OnItems.Picked.{picked_by_itself, range_none, range_more, range_all}
use Rattle.cs_pattern_parts.proofs.items.byte_set.ByteSet.insert_range.Goals as goal

pub loop-index-init : goal.loop-index-init
loop-index-init c = record {
  added = range_none c.args.first c.args.self.now (picked_by_itself (has_bit c.self.inside.words) 256 _ c.self.view_is);
  none = λ lt. omega arith;
}

pub loop-index-preserved : goal.loop-index-preserved
loop-index-preserved c = record {
  added = range_more c.args.first c.loop-index.index (has c.args.self.now) c.loop-index.self _ (le-leb c.args.first c.loop-index.index (omega arith)) c.loop-index.invariant.added c.insert.ensures;
  none = λ lt. omega arith;
}

pub returns : goal.returns
returns c = range_all c.args.first c.args.last c.loop-index.index (has c.args.self.now) c.loop-index.self (λ le. omega arith) c.loop-index.invariant.none c.loop-index.invariant.added
