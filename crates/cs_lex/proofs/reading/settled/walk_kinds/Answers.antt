-- One line more without a fault, and where it is a rule, its action has a kind.
use Rattle.std.proofs.Common.{ℕ, List, subst}
use Rattle.cs_lex.specs.Actions.Kinds.{IsKind}
use Rattle.cs_lex.specs.Actions.Views.{kind_of}
use Rattle.cs_lex.proofs.OnReading.KindWalks.{kinds_start, kinds_on, kinds_rule}
use Rattle.cs_lex.proofs.reading.settled.walk_kinds.Goals as goal

pub loop-at-init : goal.loop-at-init
loop-at-init c = record { walked = kinds_start c.args.bytes.now c.args.from; within = c.requires.within }

pub loop-at-preserved-in-Ok-Passed : goal.loop-at-preserved-in-Ok-Passed
loop-at-preserved-in-Ok-Passed c =
    let h = rw c.in-Ok-Passed.field-0-is at c.in-Ok-Passed.ensures in
    record { walked = kinds_on c.args.bytes.now c.args.from c.loop-at.at c.in-Ok-Passed.to c.loop-at.invariant.walked h.1.0 h.0; within = h.1.1 }

pub loop-at-preserved : goal.loop-at-preserved
loop-at-preserved c =
    let h = rw c.in-Ok-Rule.field-0-is at c.in-Ok-Rule.ensures in
    let kind = subst (λ (t : List ℕ). IsKind t (kind_of c.action_kind.result)) c.bytes_of.ensures c.action_kind.ensures in
    record {
      walked = kinds_rule c.args.bytes.now c.args.from c.loop-at.at c.in-Ok-Rule.to c.in-Ok-Rule.rule c.loop-at.invariant.walked h.0 (kind_of c.action_kind.result, kind);
      within = h.1.1;
    }
