use Rattle.std.proofs.Common.{take}
use Rattle.cs_member.specs.Derivation.Back.{NoneLeads, IsOfFronts}
use Rattle.cs_member.proofs.derivation.back.find_front.Given as goal

abbrev pub invariant-loop-front : goal.invariant-loop-front
invariant-loop-front l = NoneLeads l.question.grammar.now l.sought (IsOfFronts (take l.front-index l.fronts))
