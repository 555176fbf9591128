-- One edit more is counted in its class, and its lines are put where it is outside.
use Rattle.std.proofs.Common.{ap, ◌∙◌}
use Rattle.cs_deep.proofs.OnWriting.Counting.{counted_more, counted_none, lines_more, room_within}
use Rattle.cs_deep.specs.Writing.Deep.{EditEntry}
use Rattle.cs_deep.specs.Writing.Lines.{IsNamedEntry}
use Rattle.cs_deep.specs.Writing.Tally.{with_class}
use Rattle.cs_manifest.proofs.OnOutput.Pieces.{nothing, spelled, then}
use Rattle.cs_manifest.proofs.OnOutput.Numbered.{at_place}
use Rattle.cs_deep.proofs.writing.lines.put_edits.Goals as goal

pub loop-judged-init : goal.loop-judged-init
loop-judged-init g c = record { lines = nothing _; counted = counted_none c.args.tally.now }

pub count-requires : goal.count-requires
count-requires g c = room_within c.args.edits.now c.loop-judged.judged-index c.args.tally.now c.loop-judged.tally c.loop-judged-test.true c.requires.few c.loop-judged.invariant.counted

pub put_judged-requires : goal.put_judged-requires
put_judged-requires g c = at_place (IsNamedEntry c.args.file.now) c.args.edits.now c.loop-judged.judged-index c.judged-item.result c.loop-judged-test.true c.judged-item.is c.requires.named

pub loop-judged-preserved : goal.loop-judged-preserved
loop-judged-preserved g c =
    let i = c.loop-judged.judged-index in
    let es = c.args.edits.now in
    let e = c.judged-item.result in
    let count = c.count.ensures ∙ ap (λ (x : EditEntry). with_class c.loop-judged.tally x.class) c.judged.view_is in
    let counted = counted_more es i e c.args.tally.now c.loop-judged.tally c.count.new.self c.loop-judged-test.true c.judged-item.is c.loop-judged.invariant.counted count in
    let lines = lines_more c.args.file.now c.args.base c.args.tally.now.deep es i e c.count.new.self.deep c.loop-judged-test.true c.judged-item.is counted.deep in
    record { lines = spelled _ lines (then c.loop-judged.invariant.lines c.put_judged.ensures); counted = counted }
