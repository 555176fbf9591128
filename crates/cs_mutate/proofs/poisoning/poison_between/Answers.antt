-- Mark by mark, the pairs so far are adjacent, and the first that isn't is the poisoned one.
use Rattle.std.proofs.Common.{◌≡◌, true, refl, arith}
use Rattle.cs_mutate.proofs.Marks.{looked_more, poisoned_here, poisoned_last, sound_all}
use Rattle.cs_mutate.proofs.poisoning.poison_between.Goals as goal

pub returns-then-not-adjacent : goal.returns-then-not-adjacent
returns-then-not-adjacent c =
    poisoned_here c.args.pairs.now.grammar c.args.left c.args.right c.args.list.now c.loop-at.at 0 _ c.loop-at.last c.loop-at-test.true refl c.loop-at.invariant
    (λ adjacent. let yes : c.adjacent.result ≡ true = c.adjacent.ensures.1 adjacent in let no = c.if-not-adjacent.true in cc)

pub loop-at-preserved : goal.loop-at-preserved
loop-at-preserved c =
    let yes : c.adjacent.result ≡ true = let no = c.if-not-adjacent.false in cc in
    looked_more c.args.pairs.now.grammar c.args.left c.args.right c.args.list.now c.loop-at.at 0 _ c.loop-at.last c.loop-at-test.true refl
    (c.requires.tokens c.loop-at.at 0 c.loop-at-test.true)
    c.loop-at.invariant
    (c.adjacent.ensures.0 yes)

pub returns-then-adjacent : goal.returns-then-adjacent
returns-then-adjacent c =
    sound_all c.args.pairs.now.grammar c.args.left c.args.right c.args.list.now c.loop-at.at c.loop-at.last (omega (arith, c.loop-at-test.false)) c.loop-at.invariant
    (c.adjacent-2.ensures.0 c.if-adjacent.true)

pub returns-else-adjacent : goal.returns-else-adjacent
returns-else-adjacent c =
    poisoned_last c.args.pairs.now.grammar c.args.left c.args.right c.args.list.now c.loop-at.at c.loop-at.last (omega (arith, c.loop-at-test.false)) c.loop-at.invariant
    (λ adjacent. let yes : c.adjacent-2.result ≡ true = c.adjacent-2.ensures.1 adjacent in let no = c.if-adjacent.false in cc)
