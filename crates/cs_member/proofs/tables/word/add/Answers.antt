-- A number's bit is at the quotient and the remainder by 64.
use Rattle.std.proofs.Common.{◌/◌, ◌%◌}
use Rattle.cs_member.proofs.tables.word.add.Goals as goal

pub returns-clause-has : goal.returns-clause-has
returns-clause-has c = λ n. c.in_ok-add_bits.ensures.has (n / 64) (n % 64)
