-- One piece more, and the spelling behind it.
use Rattle.std.proofs.Common.{◌++◌, List, ℕ, ap, ◌∙◌, arith}
use Rattle.std.proofs.lemmas.List.{length-map, take_all}
use Rattle.cs_spell.specs.Texts.Pieces.{followed, values}
use Rattle.cs_spell.proofs.OnTexts.Pieces.{follow_step, value_at}
use Rattle.cs_spell.proofs.texts.pieces.surround.Goals as goal

pub loop-i-preserved : goal.loop-i-preserved
loop-i-preserved c =
    let ps = c.args.pieces.now in
    let i = c.loop-i.i in
    let spelling = c.args.spelling.now in
    c.in_ok-extend_from_slice-3.ensures.items ∙ ap (λ (t : List ℕ). t ++ spelling) c.in_ok-extend_from_slice-2.ensures.items
    ∙ follow_step spelling (values ps) i c.loop-i.text.items _ (omega (arith, c.loop-i-test.true, length-map ps (λ b. b.now))) c.loop-i.invariant (value_at ps i _ c.loop-i-test.true)

pub returns : goal.returns
returns c =
    let ps = c.args.pieces.now in
    c.loop-i.invariant ∙ ap (λ t. c.args.spelling.now ++ followed c.args.spelling.now t) (take_all c.loop-i.i (values ps) (omega (arith, length-map ps (λ b. b.now))))
