use Rattle.cs_member.specs.Tables.Expecting.{AreDescents}
use Rattle.cs_member.proofs.tables.descents.descents_of.Given as goal

abbrev pub invariant-loop-nonterminal : goal.invariant-loop-nonterminal
invariant-loop-nonterminal l = AreDescents l.nonterminal l.corners l.descents.items
