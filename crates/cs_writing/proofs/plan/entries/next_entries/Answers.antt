-- The goals are placed in the plan's format, and each is joined with its own text, until all are made.
use Rattle.std.proofs.Common.{List, Option, sym, subst, arith}
use Rattle.std.specs.Vec.Iter.{into_iter_items}
use Rattle.cs_choices.specs.declared.format.Format.{Format}
use Rattle.cs_writing.specs.declared.plan.placing.Placed.{Placed}
use Rattle.cs_writing.specs.declared.plan.plan.Means.{Means}
use Rattle.cs_writing.specs.Plan.Placing.{ArePlacedNext, AreRendered, AreTaken}
use Rattle.cs_writing.specs.Plan.Plans.{format_by, means_in}
use Rattle.cs_writing.proofs.OnPlan.Joining.{AreAllMade, are_next, as_many_made, empty, joining_all, joining_has, joining_more, joining_none}
use Rattle.cs_writing.proofs.OnPlan.Placings.{can_render, takes_placed}
use Rattle.cs_writing.proofs.OnPlan.Telling.{all_named}
use Rattle.cs_writing.proofs.plan.entries.next_entries.Given.{Over}
use Rattle.cs_writing.proofs.plan.entries.next_entries.Goals as goal
use Rattle.cs_writing.proofs.plan.entries.next_entries.Goals.{After-drop-rendered-2, In_ok-placed}

-- the goals were placed in the plan's format
placed_so : (g : Over) (c : In_ok-placed g) → ArePlacedNext (format_by c.args.plan.now.form) c.args.positives.now c.args.cases.now c.place_next.new.positives c.place_next.new.cases c.in_ok-placed.placed.items
placed_so g c =
    subst (λ (f : Format). ArePlacedNext f c.args.positives.now c.args.cases.now c.place_next.new.positives c.place_next.new.cases c.in_ok-placed.placed.items) c.format.ensures c.in_ok-placed.ensures.placed

pub render_placed-requires-clause-takes : goal.render_placed-requires-clause-takes
render_placed-requires-clause-takes g c κs within =
    let plan = c.args.plan.now in
    let of = c.args.positives.now.tables in
    let next = placed_so g (goal.at.render_placed-requires-clause-takes g c).In_ok-placed in
    let takes = takes_placed plan.yacc.now c.requires.plan.file of c.requires.positives.grammar c.requires.positives.measure (format_by plan.form) (means_in plan.form) (can_render plan.yacc.now plan.form c.requires.plan.form)
    c.args.cases.now c.place_next.new.cases next.goals c.in_ok-placed.placed.items next.are in
    subst (λ (m : Option Means). AreTaken m c.deref.result.now) (sym c.means.ensures) (subst (AreTaken (means_in plan.form)) (sym c.deref.ensures.value) takes)

pub loop-placed-init : goal.loop-placed-init
loop-placed-init g c =
    let plan = c.args.plan.now in
    let next = placed_so g (goal.at.loop-placed-init g c).In_ok-placed in
    let rendered = subst (λ (l : List Placed). AreRendered (means_in plan.form) l c.in_ok-rendered.rendered.items) c.deref.ensures.value
    (subst (λ (m : Option Means). AreRendered m c.deref.result.now c.in_ok-rendered.rendered.items) c.means.ensures c.in_ok-rendered.ensures) in
    joining_none plan c.args.positives.now.tables c.args.cases.now c.place_next.new.cases (into_iter_items c.into_iter-placed-iterator.result) next.goals c.in_ok-placed.placed.items c.into_iter-placed-iterator.ensures.into_iter_gives.0 next.are
    (into_iter_items c.into_iter-rendered.result) c.in_ok-rendered.rendered.items c.in_ok-entries.entries.items c.into_iter-rendered.ensures.rest c.in_ok-entries.ensures.items rendered

pub join-requires : goal.join-requires
join-requires g c =
    joining_has c.args.plan.now c.args.positives.now.tables c.args.cases.now c.place_next.new.cases (into_iter_items c.into_iter-placed-iterator.result) (into_iter_items c.loop-placed.placed-iterator) (into_iter_items c.loop-placed.rendered) c.loop-placed.entries.items c.loop-placed.invariant c.in-Some.placed (into_iter_items c.next.new.self) c.in-Some.ensures.steps.0

pub loop-placed-preserved : goal.loop-placed-preserved
loop-placed-preserved g c =
    joining_more c.args.plan.now c.args.positives.now.tables c.args.cases.now c.place_next.new.cases (into_iter_items c.into_iter-placed-iterator.result) (into_iter_items c.loop-placed.placed-iterator) (into_iter_items c.loop-placed.rendered) c.loop-placed.entries.items c.loop-placed.invariant c.in-Some.placed (into_iter_items c.next.new.self) c.join.result (into_iter_items c.join.new.rendered) c.push.new.self.items c.in-Some.ensures.steps.0 c.join.ensures.made c.join.ensures.left c.in_ok-push.ensures.items

-- something is made of all that were placed
all_made : (g : Over) (c : After-drop-rendered-2 g)
    → AreAllMade c.args.plan.now c.args.positives.now c.place_next.new.positives c.args.cases.now c.place_next.new.cases c.in_ok-placed.placed.items c.loop-placed.entries.items
all_made g c =
    let left = c.loop-placed.placed-iterator in
    let next = subst (λ (f : Format). ArePlacedNext f c.args.positives.now c.args.cases.now c.place_next.new.positives c.place_next.new.cases c.in_ok-placed.placed.items) c.format.ensures c.in_ok-placed.ensures.placed in
    let none = empty (into_iter_items left) left.rest.len left.rest.ok.0 c.in-None.ensures.steps.0 in
    record {
      next = next;
      made = joining_all c.args.plan.now c.args.positives.now.tables c.args.cases.now c.place_next.new.cases (into_iter_items c.into_iter-placed-iterator.result) next.goals c.in_ok-placed.placed.items
          c.into_iter-placed-iterator.ensures.into_iter_gives.0 next.are (into_iter_items left) (into_iter_items c.loop-placed.rendered) c.loop-placed.entries.items c.loop-placed.invariant none;
    }

pub returns-clause-entries : goal.returns-clause-entries
returns-clause-entries g c =
    are_next c.args.plan.now c.args.positives.now c.place_next.new.positives c.args.cases.now c.place_next.new.cases c.in_ok-placed.placed.items c.loop-placed.entries.items (all_made g c) c.in_ok-placed.ensures.some

pub returns-clause-named : goal.returns-clause-named
returns-clause-named g c =
    let all = all_made g c in
    all_named c.args.plan.now c.requires.plan.file c.args.positives.now.tables c.requires.positives.grammar c.args.cases.now c.place_next.new.cases all.next.goals c.loop-placed.entries.items all.made

pub returns-clause-few : goal.returns-clause-few
returns-clause-few g c =
    let many = as_many_made c.args.plan.now c.args.positives.now c.place_next.new.positives c.args.cases.now c.place_next.new.cases c.in_ok-placed.placed.items c.loop-placed.entries.items (all_made g c) in
    omega (arith, many, c.in_ok-placed.ensures.few)
