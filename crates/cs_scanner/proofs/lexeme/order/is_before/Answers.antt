-- The first bytes that differ decide by their ranks; texts in which none differ don't come before each other.
use Rattle.std.proofs.Common.{arith}
use Rattle.cs_scanner.proofs.OnLexeme.Differing.{differs_at, same_if_taken, test_is_less, less_is_test}
use Rattle.cs_scanner.proofs.lexeme.order.is_before.Goals as goal

pub returns-then-text-i : goal.returns-then-text-i
returns-then-text-i c =
    let it = differs_at c.loop-i.i c.args.text.now c.args.other.now (omega arith) (omega arith) c.loop-i.invariant c.if-text-i.true in
    ((λ test. it.0 (omega (arith, test_is_less _ _ test))), (λ before. less_is_test c.rank.result c.rank-then-text-i.result (omega (arith, it.1 before))))

pub returns : goal.returns
returns c = ((λ never. absurd (cc)), (λ before. absurd (same_if_taken c.loop-i.i c.args.text.now c.args.other.now (omega arith) (omega arith) c.loop-i.invariant before)))
