-- The span was found over its cause, so a way leads back over that, which is earlier.
use Rattle.std.proofs.Common.{◌≡◌, ℕ, Option, Some, take, sym, ◌∙◌, subst, arith, ◌+◌, ◌*◌, ◌^◌}
use Rattle.std.specs.Prelude.{slice_get}
use Rattle.std.proofs.lemmas.Option.{slice_get_within}
use Rattle.cs_member.specs.Derivation.Back.{IsChild, NoneLeads, OfChild}
use Rattle.cs_member.specs.declared.derivation.back.Sought.TheVariants.{End}
use Rattle.cs_member.proofs.OnDerivation.Backing.{cause_earlier, span_at, span_child, span_read, span_way}
use Rattle.cs_member.specs.Derivation.Writing.{IsAbove}
use Rattle.cs_member.proofs.OnDerivation.Spelling.{tree_taken}
use Rattle.cs_member.proofs.derivation.writing.take_tree.Goals as goal
use Rattle.cs_member.proofs.derivation.writing.take_tree.Goals.{After-index-span}

-- the position of the span, and the span
read : (c : After-index-span) → (slice_get c.args.chart.now c.args.at ≡ Some c.index-chart-at.result) × (slice_get c.index-chart-at.result.spans.items c.args.number ≡ Some c.index-span.result.now)
read c = span_read c.args.chart.now c.args.at c.args.number c.index-chart-at.result c.index-span.result.now c.requires.tree c.index-chart-at.is c.index-span.ensures

pub find_by-requires-clause-first : goal.find_by-requires-clause-first
find_by-requires-clause-first c =
    let q = c.args.question.now in
    let at = read (goal.at.find_by-requires-clause-first c).After-index-span in
    let fits = span_at q.grammar.now q.tables.now q.tokens.now c.args.chart.now c.rules-well_formed.ensures.well_formed c.requires.tables c.requires.chart c.args.at c.args.number c.index-chart-at.result c.index-span.result.now at.0 at.1 in
    let from = fits.from in
    omega arith

pub find_by-requires-clause-last : goal.find_by-requires-clause-last
find_by-requires-clause-last c =
    let child : IsChild c.args.chart.now c.args.at (Some c.args.number) = c.requires.tree in
    let inside = slice_get_within c.args.chart.now c.args.at child.0 child.1 in
    let long = c.requires.chart.long in
    omega arith

pub find_by-requires-clause-child : goal.find_by-requires-clause-child
find_by-requires-clause-child c =
    let q = c.args.question.now in
    let chart = c.args.chart.now in
    let at = read (goal.at.find_by-requires-clause-child c).After-index-span in
    subst (λ (o : Option ℕ). IsChild chart c.args.at o) (sym c.child_of-child.ensures)
    (span_child q.grammar.now q.tables.now q.tokens.now chart c.rules-well_formed.ensures.well_formed c.requires.tables c.requires.chart c.args.at c.args.number c.index-chart-at.result c.index-span.result.now at.0 at.1)

pub unreachable-requires : goal.unreachable-requires
unreachable-requires c =
    let q = c.args.question.now in
    let g = q.grammar.now in
    let chart = c.args.chart.now in
    let s = c.index-span.result.now in
    let here = c.index-chart-at.result in
    let at = read (goal.at.unreachable-requires c).After-index-span in
    span_way g q.tables.now q.tokens.now chart c.rules-well_formed.ensures.well_formed c.requires.tables c.requires.chart c.args.at c.args.number here s at.0 at.1
    (subst (λ (o : Option ℕ). NoneLeads g (End s.nonterminal) (OfChild q.tables.now q.tokens.now (take c.args.at chart) here.spans.items o s.from)) c.child_of-child.ensures (c.in-None.ensures here at.0))

pub returns : goal.returns
returns c =
    let q = c.args.question.now in
    let g = q.grammar.now in
    let chart = c.args.chart.now in
    let at = c.args.at in
    let s = c.index-span.result.now in
    let here = c.index-chart-at.result in
    let there = read (goal.at.returns c).After-index-span in
    let found = c.in-Some.ensures here there.0 in
    let limit : ℕ = 2000 + at * 2 ^ 66 + c.args.number in
    let above : IsAbove at c.child_of-child.result limit = record {
      positions = omega arith;
      children = λ m is. (let less = cause_earlier g q.tables.now q.tokens.now chart c.rules-well_formed.ensures.well_formed c.requires.tables c.requires.chart at c.args.number m here s there.0 there.1 (sym c.child_of-child.ensures ∙ is) in omega arith);
    } in
    tree_taken g q.tokens.now chart q.tables.now limit c.in-Some.back.found c.args.number at here s c.args.tasks.now.items c.leave_back.new.tasks.items there.0 there.1 found.1 (c.in_ok-leave_back-in-Some.ensures limit above)
