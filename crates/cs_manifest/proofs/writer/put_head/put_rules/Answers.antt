-- One rule's line more, by its number.
use Rattle.cs_manifest.proofs.OnOutput.Pieces.{nothing, numbered_more}
use Rattle.cs_manifest.specs.Manifest.Lines.{rule_line}
use Rattle.cs_manifest.proofs.writer.put_head.put_rules.Goals as goal

pub loop-place-init : goal.loop-place-init
loop-place-init g c = nothing _

pub loop-place-preserved : goal.loop-place-preserved
loop-place-preserved g c = numbered_more (rule_line c.args.file.now) c.args.rules.now c.loop-place.place c.index-rules-place.result c.loop-place-test.true c.index-rules-place.is c.loop-place.invariant c.put_rule_line.ensures
