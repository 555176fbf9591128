-- One spelling more is added, where its mark tells that it is used and it is no left side.
use Rattle.cs_yacc.specs.Reading.Meaning.{is_in_use}
use Rattle.cs_yacc.proofs.OnReading.Loops.{tokens_more}
use Rattle.cs_yacc.proofs.OnReading.Marks.{in_use_as_told}
use Rattle.cs_yacc.proofs.reading.gather.tokens.Goals as goal

pub loop-place-preserved : goal.loop-place-preserved
loop-place-preserved c =
    let items = c.as_slice-spelling-items.result.now in
    λ used tells.
    tokens_more (is_in_use used c.args.lefts.now) items c.loop-place.place _ _ _ _ _ (c.loop-place.invariant used tells) c.loop-place-test.true
    (in_use_as_told c.args.marks.now c.args.words.now items used c.args.lefts.now _ c.loop-place.place _ _ tells c.as_slice-spelling-items.ensures c.loop-place-test.true c.in_use.ensures) c.in_ok-add_some.ensures
