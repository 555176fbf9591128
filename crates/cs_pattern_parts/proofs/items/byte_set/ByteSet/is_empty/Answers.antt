-- A set with a member isn't empty, and one in which no byte is picked is.
use Rattle.std.proofs.Common.{arith, refl, ◌∙◌, sym}
use Rattle.std.proofs.lemmas.Bool.{false≢true}
use Rattle.cs_pattern_parts.specs.Items.Bits.{has_bit}
use Rattle.cs_pattern_parts.proofs.OnItems.Picked.{some_is_no_none, picked_is_none}
use Rattle.cs_pattern_parts.proofs.items.byte_set.ByteSet.is_empty.Goals as goal

pub returns-then-contains : goal.returns-then-contains
returns-then-contains c = (λ t. absurd (false≢true t), λ e. absurd (some_is_no_none c.args.self.now c.loop-index.index (sym c.contains.ensures ∙ c.if-contains.true) e))

pub returns : goal.returns
returns c = (λ t. picked_is_none (has_bit c.self.inside.words) 256 _ c.self.view_is (λ m lt. c.loop-index.invariant m (omega arith)), λ e. refl)
