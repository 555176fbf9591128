-- One chain more is counted, and its lines are put.
use Rattle.cs_manifest.proofs.OnOutput.Pieces.{nothing, spelled, then}
use Rattle.cs_chain_text.specs.Progress.{IsNamedEntry}
use Rattle.cs_manifest.proofs.OnOutput.Numbered.{at_place}
use Rattle.cs_chain_text.proofs.OnEntries.Counting.{counted_more, counted_none, lines_more, room_within}
use Rattle.cs_chain_text.proofs.entries.lines.put_entries.Goals as goal

pub loop-told-init : goal.loop-told-init
loop-told-init g c = record { lines = nothing _; counted = counted_none c.args.tally.now }

pub count-requires : goal.count-requires
count-requires g c = room_within c.args.entries.now c.loop-told.told-index c.args.tally.now c.loop-told.tally c.loop-told-test.true c.requires.few c.loop-told.invariant.counted

pub put_entry-requires : goal.put_entry-requires
put_entry-requires g c = at_place (IsNamedEntry c.args.file.now) c.args.entries.now c.loop-told.told-index c.told-item.result c.loop-told-test.true c.told-item.is c.requires.named

pub loop-told-preserved : goal.loop-told-preserved
loop-told-preserved g c =
    let i = c.loop-told.told-index in
    let es = c.args.entries.now in
    let e = c.told-item.result in
    let counted = counted_more es i e c.args.tally.now c.loop-told.tally c.count.new.self c.loop-told-test.true c.told-item.is c.loop-told.invariant.counted c.count.ensures in
    let lines = lines_more c.args.file.now c.args.tally.now.goals es i e c.count.new.self.goals c.loop-told-test.true c.told-item.is counted.goals in
    record { lines = spelled _ lines (then c.loop-told.invariant.lines c.put_entry.ensures); counted = counted }
