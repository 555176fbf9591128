-- Head and entries know what no line tells.
use Rattle.std.proofs.Common.{refl}
use Rattle.cs_check.proofs.checking.above.Above.new.Goals as goal

pub returns-clause-knows : goal.returns-clause-knows
returns-clause-knows c = record { part = refl; place = c.new.ensures c.args.yacc.now; entries = c.new-2.ensures }
