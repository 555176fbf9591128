-- One nonterminal's tokens more; the nonterminal's number is that of the list's place.
use Rattle.std.proofs.Common.{ap, ◌∙◌, ℕ}
use Rattle.cs_manifest.proofs.OnOutput.Pieces.{nothing, numbered_more, spelled}
use Rattle.cs_manifest.specs.Manifest.SharedLines.{edge_line}
use Rattle.cs_manifest.proofs.writer.put_closed.put_edges.Goals as goal

pub loop-place-init : goal.loop-place-init
loop-place-init g c = nothing _

pub loop-place-preserved : goal.loop-place-preserved
loop-place-preserved g c =
    let line = spelled _ (ap (edge_line c.args.set.now c.args.file.now c.number_of.result) c.list.ensures ∙ ap (λ (number : ℕ). edge_line c.args.set.now c.args.file.now number c.index-edges-place.result) c.number_of.ensures) c.put_edge.ensures in
    numbered_more (edge_line c.args.set.now c.args.file.now) c.args.edges.now c.loop-place.place c.index-edges-place.result c.loop-place-test.true c.index-edges-place.is c.loop-place.invariant line
