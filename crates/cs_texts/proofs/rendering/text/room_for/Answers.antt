-- The tokens before have lexemes, so one that has none is the first, and at the end all have one.
use Rattle.std.proofs.Common.{arith, take, drop, suc, sym}
use Rattle.cs_texts.proofs.OnRendering.Pieces.{split_at, have_more, have_all}
use Rattle.cs_texts.proofs.rendering.text.room_for.Goals as goal

pub loop-i-preserved : goal.loop-i-preserved
loop-i-preserved c = have_more c.args.lexemes.now c.args.tokens.now c.loop-i.i c.loop-i-test.true c.loop-i.invariant (c.in-Some.lexeme.now, sym c.in-Some.ensures)

pub returns-in_default-clause-without : goal.returns-in_default-clause-without
returns-in_default-clause-without c = record {
  front = take c.loop-i.i c.args.tokens.now;
  behind = drop (suc c.loop-i.i) c.args.tokens.now;
  list = split_at c.args.tokens.now c.loop-i.i c.loop-i-test.true;
  front_has = c.loop-i.invariant;
  none = sym c.in_default.ensures;
}

pub returns-clause-have : goal.returns-clause-have
returns-clause-have c = have_all c.args.lexemes.now c.args.tokens.now c.loop-i.i (omega arith) c.loop-i.invariant
