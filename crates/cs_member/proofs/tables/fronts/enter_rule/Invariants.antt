use Rattle.cs_member.specs.Tables.Item.{IsFront}
use Rattle.cs_member.specs.Tables.Fronts.{AreEntered}
use Rattle.cs_member.proofs.OnTables.Entering.{Before}
use Rattle.cs_member.proofs.tables.fronts.enter_rule.Given as goal

abbrev pub invariant-loop-place : goal.invariant-loop-place
invariant-loop-place l = record {
  entered : AreEntered l.grammar (Before l.rule l.place) l.fronts;
  front : IsFront l.grammar l.left (record { rule = l.rule; place = l.place });
}
