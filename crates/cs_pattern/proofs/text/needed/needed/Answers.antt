-- The last that waits uses only what stands before it in the order, so all that waits then stands lower.
use Rattle.std.proofs.Common.{◌≡◌, ℕ, [], List, ap, ◌∙◌, subst, arith}
use Rattle.std.proofs.lemmas.Bool.{false≢true}
use Rattle.cs_pattern.specs.Operations.Operations.{ops_of}
use Rattle.cs_pattern.specs.Text.Needed.{add_used}
use Rattle.cs_pattern.proofs.OnText.Knowing.{is_behind}
use Rattle.cs_pattern.proofs.OnText.Pending.{IsBehind, AreTaken, above, falls, none_there, one_last, taken_all, taken_start, taken_step}
use Rattle.cs_pattern.proofs.text.needed.needed.Goals as goal

pub loop-place-init : goal.loop-place-init
loop-place-init c = λ b a.
    let none = c.new-pending.ensures.empty in
    let empty = c.new-needed.ensures.items in
    let e = c.in_ok-add_used.ensures ∙ ap (λ (ks : List ℕ). add_used c.args.places.now ks (ops_of c.args.ops.now)) none in
    rw (e, empty) (taken_start (ops_of c.args.ops.now) c.args.bodies.now c.args.order.now c.args.places.now b a)

pub bounds-order-place : goal.bounds-order-place
bounds-order-place c =
    let o = c.requires.of in
    let b : IsBehind c.args.bodies.now c.args.order.now = is_behind o.0 c.args.bodies.now c.args.order.now o.1 in
    let t = subst (λ (ks : List ℕ). AreTaken (ops_of c.args.ops.now) c.args.bodies.now c.args.order.now c.args.places.now b c.requires.places c.loop-place.needed.items ks) c.in-Some.ensures.removal (c.loop-place.invariant b c.requires.places) in
    (t.wait c.in-Some.place (one_last c.pop_last.new.self.keys c.in-Some.place)).0

pub offset_bounds-order-place : goal.offset_bounds-order-place
offset_bounds-order-place c =
    let o = c.requires.of in
    let b : IsBehind c.args.bodies.now c.args.order.now = is_behind o.0 c.args.bodies.now c.args.order.now o.1 in
    let t = subst (λ (ks : List ℕ). AreTaken (ops_of c.args.ops.now) c.args.bodies.now c.args.order.now c.args.places.now b c.requires.places c.loop-place.needed.items ks) c.in-Some.ensures.removal (c.loop-place.invariant b c.requires.places) in
    let lt = (t.wait c.in-Some.place (one_last c.pop_last.new.self.keys c.in-Some.place)).0 in
    omega arith

pub loop-place-preserved : goal.loop-place-preserved
loop-place-preserved c = λ b a.
    let t = subst (λ (ks : List ℕ). AreTaken (ops_of c.args.ops.now) c.args.bodies.now c.args.order.now c.args.places.now b a c.loop-place.needed.items ks) c.in-Some.ensures.removal (c.loop-place.invariant b a) in
    rw (c.in_ok-add_behind.ensures, c.in_ok-push.ensures.items) (taken_step (ops_of c.args.ops.now) c.args.bodies.now c.args.order.now c.args.places.now b a c.loop-place.needed.items c.pop_last.new.self.keys c.in-Some.place t)

pub loop-place-smaller : goal.loop-place-smaller
loop-place-smaller c =
    let o = c.requires.of in
    let b : IsBehind c.args.bodies.now c.args.order.now = is_behind o.0 c.args.bodies.now c.args.order.now o.1 in
    let a = c.requires.places in
    let t = subst (λ (ks : List ℕ). AreTaken (ops_of c.args.ops.now) c.args.bodies.now c.args.order.now c.args.places.now b a c.loop-place.needed.items ks) c.in-Some.ensures.removal (c.loop-place.invariant b a) in
    let f = falls (ops_of c.args.ops.now) c.args.bodies.now c.args.order.now c.args.places.now b a c.loop-place.needed.items c.pop_last.new.self.keys c.in-Some.place t c.in-Some.ensures.all_below in
    omega (arith, f, ap above c.in_ok-add_behind.ensures, ap above c.in-Some.ensures.removal)

pub returns : goal.returns
returns c =
    let none : c.loop-place.pending.keys ≡ [] = none_there c.loop-place.pending.keys (λ lt. false≢true (c.in_default.ensures.variant.1 lt)) in
    let o = c.requires.of in
    let b : IsBehind c.args.bodies.now c.args.order.now = is_behind o.0 c.args.bodies.now c.args.order.now o.1 in
    taken_all (ops_of c.args.ops.now) c.args.bodies.now c.args.order.now c.args.places.now b c.requires.places c.loop-place.needed.items
    (subst (λ (ks : List ℕ). AreTaken (ops_of c.args.ops.now) c.args.bodies.now c.args.order.now c.args.places.now b c.requires.places c.loop-place.needed.items ks) none (c.loop-place.invariant b c.requires.places))
