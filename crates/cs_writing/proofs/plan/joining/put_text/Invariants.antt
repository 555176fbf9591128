use Rattle.std.proofs.Common.{take}
use Rattle.cs_writing.specs.Mutants.Rows.{IsTextBeside}
use Rattle.cs_writing.proofs.plan.joining.put_text.Given as goal

abbrev pub invariant-loop-token : goal.invariant-loop-token
invariant-loop-token l = IsTextBeside l.work.lexemes.now l.work.separator.now l.side (take l.token-index l.tokens) l.out.items
