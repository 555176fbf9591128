-- What is put of the rest stands behind what was put of the text, and it is no more than the rest has.
use Rattle.std.proofs.Common.{◌≡◌, ◌-◌, arith, drop, length, take}
use Rattle.std.proofs.lemmas.List.{length-drop, take_all}
use Rattle.cs_manifest.proofs.OnOutput.Runs.{more_bytes}
use Rattle.cs_manifest.proofs.OnOutput.Pieces.{nothing}
use Rattle.cs_manifest.proofs.output.names.put_runs.Goals as goal

pub loop-at-init : goal.loop-at-init
loop-at-init g c = (omega arith, nothing _)

pub loop-at-preserved : goal.loop-at-preserved
loop-at-preserved g c =
    let text = c.args.text.now in
    let at = c.loop-at.at in
    let rest : take (length text - at) (drop at text) ≡ drop at text = take_all (length text - at) (drop at text) (omega (arith, length-drop at text)) in (
      omega (arith, c.loop-at-test.true, rw rest at c.put_some-at.ensures.within, length-drop at text),
      more_bytes text at c.put_some-at.result c.loop-at.invariant.1 (rw rest at c.put_some-at.ensures.put),
    )
