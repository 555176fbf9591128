use Rattle.std.proofs.Common.{take}
use Rattle.cs_member.specs.Chart.Chart.{OfRows}
use Rattle.cs_member.specs.Derivation.Back.{NoneLeads}
use Rattle.cs_member.proofs.derivation.back.find_row.Given as goal

abbrev pub invariant-loop-row : goal.invariant-loop-row
invariant-loop-row l = NoneLeads l.question.grammar.now l.sought (λ x. OfRows (take l.row-index l.rows) x l.from)
