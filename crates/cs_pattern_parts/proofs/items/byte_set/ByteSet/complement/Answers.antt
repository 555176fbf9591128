-- Byte by byte the others are those before that aren't members, and after 256 all.
use Rattle.std.proofs.Common.{arith, ◌∙◌, ap, sym}
use Rattle.std.specs.Prelude.{not}
use Rattle.cs_pattern_parts.specs.Items.Members.{has}
use Rattle.cs_pattern_parts.proofs.OnItems.Picked.{below_none, below_in, below_out, below_all}
use Rattle.cs_pattern_parts.proofs.items.byte_set.ByteSet.complement.Goals as goal
use Rattle.cs_pattern_parts.proofs.items.byte_set.ByteSet.complement.Goals.{then-not-contains, else-not-contains}

pub loop-index-init : goal.loop-index-init
loop-index-init c = c.new-others.ensures ∙ below_none (λ b. not (has c.args.self.now b))

pub loop-index-preserved : goal.loop-index-preserved
loop-index-preserved c =
    elim c.if-not-contains.branch [
      | then-not-contains w ↦ below_in (λ b. not (has c.args.self.now b)) c.loop-index.index c.loop-index.others c.if-not-contains.others (ap not (sym c.contains.ensures ∙ w.if-not-contains.true)) c.loop-index.invariant (w.others-is ∙ w.insert.ensures)
      | else-not-contains w ↦ w.others-is ∙ below_out (λ b. not (has c.args.self.now b)) c.loop-index.index c.loop-index.others (ap not (sym c.contains.ensures ∙ w.if-not-contains.false)) c.loop-index.invariant
    ]

pub returns : goal.returns
returns c = below_all (λ b. not (has c.args.self.now b)) c.loop-index.others c.loop-index.index (omega arith) c.loop-index.invariant
