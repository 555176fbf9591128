-- Each step keeps the walk and leaves less work, and an empty path is its end.
use Rattle.std.proofs.Common.{◌≡◌, ◌<◌, ◌∙◌, [], List, arith, sym, subst, length}
use Rattle.std.proofs.lemmas.Bool.{false≢true}
use Rattle.std.proofs.lemmas.List.{nil_from_length, append-nil}
use Rattle.cs_graph.specs.declared.ordering.Open.{Open}
use Rattle.cs_graph.specs.Walk.{IsWalk, work}
use Rattle.cs_graph.proofs.ordering.finish.Goals as goal

pub step-requires-clause-walk : goal.step-requires-clause-walk
step-requires-clause-walk c =
    let w = c.loop-last.walk in
    let P : List Open → Type 0 = λ path. IsWalk c.args.graph.now w.ready.items w.seen.items path w.order.items in
    subst P c.in-Some.ensures.items c.loop-last.invariant.walk

pub returns : goal.returns
returns c =
    let w = c.loop-last.walk in
    let ok = c.loop-last.walk.path.ok in
    let empty : length c.loop-last.walk.path.items ≡ 0 = omega (arith, c.in_default.ensures.cases.0) in
    let none : c.loop-last.walk.path.items ≡ [] = nil_from_length c.loop-last.walk.path.items empty in
    let same : c.loop-last.walk.path.items ≡ c.pop.new.self.items = c.in_default.ensures.items ∙ append-nil c.pop.new.self.items in
    let P : List Open → Type 0 = λ path. IsWalk c.args.graph.now w.ready.items w.seen.items path w.order.items in
    record {
      end = λ _. record { walk = subst P same c.loop-last.invariant.walk; kept = c.loop-last.invariant.kept; none = sym same ∙ none };
      cycle = λ e. absurd (false≢true (sym e));
    }

pub loop-last-preserved : goal.loop-last-preserved
loop-last-preserved c =
    let s = c.in_ok-step.ensures.step c.if-not-branch.false in
    record { walk = s.walk; kept = λ i m. s.kept i (c.loop-last.invariant.kept i m) }

pub loop-last-smaller : goal.loop-last-smaller
loop-last-smaller c =
    let s = c.in_ok-step.ensures.step c.if-not-branch.false in
    let P : List Open → Type 0 = λ path. work c.args.graph.now c.step.new.walk.seen.items c.step.new.walk.path.items < work c.args.graph.now c.loop-last.walk.seen.items path in
    subst P (sym c.in-Some.ensures.items) s.less
