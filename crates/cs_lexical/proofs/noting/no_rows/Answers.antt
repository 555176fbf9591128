-- One row of zeros more, an entry shorter than the row before it.
use Rattle.std.proofs.Common.{rules, [], ◌∷◌}
use Rattle.std.proofs.lemmas.List.{map-append}
use Rattle.cs_lexical.specs.Least.{lists}
use Rattle.cs_lexical.proofs.Rows.{blank_more}
use Rattle.cs_lexical.proofs.noting.no_rows.Goals as goal

pub loop-place-preserved : goal.loop-place-preserved
loop-place-preserved c =
    rw (c.in_ok-push.ensures.items, map-append (λ v. v.items) c.loop-place.rows.items (c.in_ok-vec.field-0 ∷ []))
    (blank_more c.args.rules c.loop-place.place (lists c.loop-place.rows.items) c.in_ok-vec.field-0.items (c.in_ok-vec.ensures.items_if_clones_equal (λ y e. search rules)) c.loop-place.invariant)
