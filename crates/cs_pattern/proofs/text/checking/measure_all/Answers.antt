-- What a definition uses stands before it in the order, so its measure is its tree's, as theirs are known.
use Rattle.std.proofs.Common.{◌≡◌, ◌<◌, ◌∙◌, List, length, get_or, take, drop, suc, refl, subst, arith}
use Rattle.std.specs.Prelude.{Some, Contains, slice_get}
use Rattle.std.proofs.Math.ListN.{length-set}
use Rattle.std.proofs.lemmas.Option.{slice_get_read}
use Rattle.cs_pattern.specs.declared.operations.measure.Measure.{Measure}
use Rattle.cs_pattern.specs.declared.operations.operations.Op as code
use Rattle.cs_pattern.specs.Operations.Operations.{ops_of}
use Rattle.cs_pattern.specs.Operations.Trees.{IsMeasureOf}
use Rattle.cs_pattern.proofs.OnText.Staged.{given_one, measured_set, split_index, taken_cases, all_measured}
use Rattle.cs_pattern.proofs.text.checking.measure_all.Goals as goal

pub loop-index-preserved : goal.loop-index-preserved
loop-index-preserved c =
    let k = c.loop-index.index-index in
    let x = get_or c.args.order.now k 0 in
    let known = c.loop-index.measures.items in
    let size = c.loop-index.invariant.count in
    let within : x < length c.args.bodies.now = c.requires k 0 (omega arith) in
    let is : slice_get c.args.bodies.now x ≡ Some c.index-bodies-index.result = slice_get_read c.args.bodies.now _ x c.index-bodies-index.result refl within c.index-bodies-index.is in
    let value : IsMeasureOf known (ops_of c.index-bodies-index.result.items) c.in_ok-measure.measure =
    subst (λ (ops : List code.Op). IsMeasureOf known (ops_of ops) c.in_ok-measure.measure) c.deref.ensures.value
    (subst (λ (ms : List Measure). IsMeasureOf ms (ops_of c.deref.result.now) c.in_ok-measure.measure) c.deref-in-loop-index.ensures.value c.in_ok-measure.ensures) in
    record {
      count = length-set known x c.in_ok-measure.measure ∙ size;
      each = λ ds operations o i h.
          measured_set ds known x c.in_ok-measure.measure (Contains (take k c.args.order.now)) (omega arith)
          (λ d tree at t. value tree (given_one ds known c.args.bodies.now c.args.order.now (take k c.args.order.now) (drop (suc k) c.args.order.now) x c.index-bodies-index.result d tree operations o (split_index c.args.order.now k (omega arith)) (c.loop-index.invariant.each ds operations o) is at t))
          (c.loop-index.invariant.each ds operations o) i (taken_cases c.args.order.now k i (omega arith) h);
    }

pub returns : goal.returns
returns c = λ ds operations o.
    all_measured ds c.loop-index.measures.items c.args.bodies.now c.args.order.now c.loop-index.index-index c.loop-index.invariant.count operations o (omega arith) (c.loop-index.invariant.each ds operations o)
