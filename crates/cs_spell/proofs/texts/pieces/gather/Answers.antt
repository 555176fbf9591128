-- One lexeme more; the first token without one has tokens with lexemes in front of it.
use Rattle.std.proofs.Common.{List, ℕ, suc, sym, subst, arith, take, drop}
use Rattle.std.proofs.lemmas.List.{take_all}
use Rattle.cs_spell.specs.Texts.Pieces.{AreLexemesOf, values}
use Rattle.cs_spell.proofs.OnTexts.Pieces.{have_front, lexemes_more}
use Rattle.cs_texts.proofs.OnRendering.Pieces.{split_at}
use Rattle.cs_spell.proofs.texts.pieces.gather.Goals as goal

pub loop-i-init : goal.loop-i-init
loop-i-init c = rw c.new-pieces.ensures.items tt

pub loop-i-preserved : goal.loop-i-preserved
loop-i-preserved c =
    rw c.in_ok-push.ensures.items
    (lexemes_more c.args.lexemes.now c.args.tokens.now c.loop-i.pieces.items c.in-Some.lexeme c.loop-i.i c.loop-i-test.true (sym c.in-Some.ensures) c.loop-i.invariant)

pub returns-in_default : goal.returns-in_default
returns-in_default c = record {
  front = take c.loop-i.i c.args.tokens.now;
  behind = drop (suc c.loop-i.i) c.args.tokens.now;
  list = split_at c.args.tokens.now c.loop-i.i c.loop-i-test.true;
  front_has = have_front c.args.lexemes.now (take c.loop-i.i c.args.tokens.now) (values c.loop-i.pieces.items) c.loop-i.invariant;
  none = sym c.in_default.ensures;
}

pub returns : goal.returns
returns c =
    let P : List ℕ → Type 0 = λ t. AreLexemesOf c.args.lexemes.now t (values c.loop-i.pieces.items) in
    subst P (take_all c.loop-i.i c.args.tokens.now (omega arith)) c.loop-i.invariant
