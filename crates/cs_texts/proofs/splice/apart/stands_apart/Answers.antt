-- The lexeme has a first byte.
use Rattle.std.proofs.Common.{sym, rules}
use Rattle.cs_texts.proofs.OnSplice.Standing.{stand_apart}
use Rattle.cs_texts.proofs.splice.apart.stands_apart.Goals as goal

pub returns-then-is_taken_first : goal.returns-then-is_taken_first
returns-then-is_taken_first c = λ passed.
    stand_apart c.args.work.now c.args.token c.in-Some.lexeme.now (search rules) (sym c.in-Some.ensures) (c.is_taken_first.ensures c.if-is_taken_first.true) (c.is_passed_before.ensures passed)
