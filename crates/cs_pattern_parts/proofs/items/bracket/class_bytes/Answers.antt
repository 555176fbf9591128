-- Byte by byte the set has those before that are in the class, and after 256 all.
use Rattle.std.proofs.Common.{arith, ◌∙◌, sym}
use Rattle.cs_pattern_parts.specs.Items.NamedClasses.{is_in_class}
use Rattle.cs_pattern_parts.proofs.OnItems.Picked.{below_none, below_in, below_out, below_all}
use Rattle.cs_pattern_parts.proofs.items.bracket.class_bytes.Goals as goal
use Rattle.cs_pattern_parts.proofs.items.bracket.class_bytes.Goals.{then-is_in_class, else-is_in_class}

pub loop-index-init : goal.loop-index-init
loop-index-init c = c.new-set.ensures ∙ below_none (is_in_class c.args.class)

pub loop-index-preserved : goal.loop-index-preserved
loop-index-preserved c =
    elim c.if-is_in_class.branch [
      | then-is_in_class w ↦ below_in (is_in_class c.args.class) c.loop-index.index c.loop-index.set c.if-is_in_class.set (sym c.is_in_class.ensures ∙ w.if-is_in_class.true) c.loop-index.invariant (w.set-is ∙ w.insert.ensures)
      | else-is_in_class w ↦ w.set-is ∙ below_out (is_in_class c.args.class) c.loop-index.index c.loop-index.set (sym c.is_in_class.ensures ∙ w.if-is_in_class.false) c.loop-index.invariant
    ]

pub returns : goal.returns
returns c = below_all (is_in_class c.args.class) c.loop-index.set c.loop-index.index (omega arith) c.loop-index.invariant
