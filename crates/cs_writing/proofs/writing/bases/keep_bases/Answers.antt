-- One entry more keeps its base, behind as many as stand before it.
use Rattle.std.proofs.Common.{◌+◌, ◌∙◌, arith, take}
use Rattle.std.proofs.lemmas.List.{length-map}
use Rattle.cs_writing.specs.Plan.Made.{entries_of, entry_of}
use Rattle.cs_writing.proofs.OnWriting.Batch.{before, one_made_more}
use Rattle.cs_writing.proofs.OnWriting.Kept.{its_tokens, keeps_none, keeps_step}
use Rattle.cs_writing.proofs.writing.bases.keep_bases.Goals as goal

pub loop-made-init : goal.loop-made-init
loop-made-init c = record { before = omega arith; kept = keeps_none c.args.number c.args.bases.now }

pub loop-made-preserved : goal.loop-made-preserved
loop-made-preserved c =
    let i = c.loop-made.made-index in
    let batch = c.args.batch.now in
    let made = c.made-item.result in
    let s = c.sentence.ensures in
    record {
      before = omega (arith, c.loop-made.invariant.before);
      kept = keeps_step c.args.number c.loop-made.before i (entries_of (take i batch)) (entries_of (take (i + 1) batch)) (entry_of made) c.args.bases.now c.loop-made.bases c.keep_base.new.bases
          (one_made_more entry_of batch i made c.loop-made-test.true c.made-item.is) (length-map (take i batch) entry_of ∙ before batch i made c.loop-made-test.true c.made-item.is) c.loop-made.invariant.before c.loop-made.invariant.kept
          (c.in_ok-keep_base.ensures (entry_of made) (its_tokens (entry_of made) c.sentence.result s.feasible s.tokens s.none));
    }
