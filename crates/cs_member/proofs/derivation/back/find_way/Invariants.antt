use Rattle.std.proofs.Common.{◌≡◌, ◌<◌, ℕ, take, Some}
use Rattle.std.specs.Prelude.{slice_get}
use Rattle.cs_member.specs.declared.chart.chart.Position.{Position}
use Rattle.cs_member.specs.Derivation.Back.{NoneLeads, OfChild}
use Rattle.cs_member.proofs.derivation.back.find_way.Given as goal

abbrev pub invariant-loop-number : goal.invariant-loop-number
invariant-loop-number l =
    (p : Position) (m : ℕ) → slice_get l.chart l.at ≡ Some p → m < l.number
    → NoneLeads l.question.grammar.now l.sought (OfChild l.question.tables.now l.question.tokens.now (take l.at l.chart) p.spans.items (Some m) l.from)
