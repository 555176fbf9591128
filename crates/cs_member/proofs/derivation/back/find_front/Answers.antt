-- One front more doesn't lead to what is sought, up to the last.
use Rattle.std.proofs.Common.{List, subst}
use Rattle.std.proofs.lemmas.List.{take_all}
use Rattle.cs_member.specs.declared.tables.fronts.Front.{Front}
use Rattle.cs_member.specs.Derivation.Back.{NoneLeads, IsOfFronts}
use Rattle.cs_member.proofs.OnDerivation.Backing.{fronts_lead_more}
use Rattle.cs_member.proofs.derivation.back.find_front.Goals as goal

pub loop-front-preserved : goal.loop-front-preserved
loop-front-preserved c =
    fronts_lead_more c.args.question.now.grammar.now c.args.sought c.args.fronts.now c.loop-front.front-index (record { left = 0; item = record { rule = 0; place = 0 } }) c.loop-front-test.true c.in_default.ensures c.loop-front.invariant

pub returns : goal.returns
returns c =
    subst (λ (l : List Front). NoneLeads c.args.question.now.grammar.now c.args.sought (IsOfFronts l)) (take_all c.loop-front.front-index c.args.fronts.now c.loop-front-test.false) c.loop-front.invariant
