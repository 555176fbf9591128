-- Goal by goal, each placed among the cases as the goals before it left them, until none is left or there are 1,024.
use Rattle.std.proofs.Common.{◌≡◌, List, [], ◌∷◌, Option, length, length-append, refl, sym, ap, ◌∙◌, subst, arith}
use Rattle.cs_grammar.specs.Grammar.{PlainGrammar}
use Rattle.cs_grammar.specs.Weights.{Weighed}
use Rattle.cs_verdicts.specs.declared.positive.positive.Positive.{Positive}
use Rattle.cs_verdicts.specs.Positive.Positives.{GivesGoalOf, GivesNext, IsNext}
use Rattle.cs_writing.specs.declared.plan.placing.Placed.{Placed}
use Rattle.cs_writing.specs.Plan.Placing.{IsMetBy, IsPlacedAs}
use Rattle.cs_writing.proofs.OnPlan.Making.{met_by}
use Rattle.cs_writing.proofs.OnPlan.Placings.{next_left, placed_all, placed_next, placed_none, placed_none_left, same_left}
use Rattle.cs_writing.proofs.plan.placing.place_next.Goals as goal

pub loop-init : goal.loop-init
loop-init c = record {
  placed = placed_none c.args.format c.args.positives.now c.args.cases.now c.in_ok-goals.goals.items c.in_ok-goals.ensures.items;
  tables = refl;
  grammar = refl;
  many = ap length c.in_ok-goals.ensures.items;
}

-- no goal was left

pub returns-in_default-clause-placed : goal.returns-in_default-clause-placed
returns-in_default-clause-placed c =
    placed_all c.args.format c.args.positives.now c.args.cases.now c.loop.positives c.loop.cases c.loop.goals.items c.loop.invariant.placed c.next.new.self c.in_ok-positive.field-0 c.in_default.not-Some c.in_ok-positive.ensures.found

pub returns-in_default-clause-some : goal.returns-in_default-clause-some
returns-in_default-clause-some c =
    placed_none_left c.args.format c.args.positives.now c.args.cases.now c.loop.positives c.loop.cases c.loop.goals.items c.loop.invariant.placed c.next.new.self c.in_ok-positive.field-0 c.in_default.not-Some c.in_ok-positive.ensures.found

pub returns-in_default-clause-few : goal.returns-in_default-clause-few
returns-in_default-clause-few c = omega (arith, c.loop.invariant.many, c.loop-test.true)

pub returns-in_default-clause-tables : goal.returns-in_default-clause-tables
returns-in_default-clause-tables c = c.next.ensures.tables ∙ c.loop.invariant.tables

pub returns-in_default-clause-left : goal.returns-in_default-clause-left
returns-in_default-clause-left c = next_left c.args.positives.now c.loop.positives c.next.new.self c.in_ok-positive.field-0 (c.loop.invariant.placed.goals, c.loop.invariant.placed.split) c.in_ok-positive.ensures.found

-- memory ran out

pub returns-in_err-positive-clause-tables : goal.returns-in_err-positive-clause-tables
returns-in_err-positive-clause-tables c = c.next.ensures.tables ∙ c.loop.invariant.tables

pub returns-in_err-positive-clause-left : goal.returns-in_err-positive-clause-left
returns-in_err-positive-clause-left c = same_left c.args.positives.now c.loop.positives c.next.new.self (c.loop.invariant.placed.goals, c.loop.invariant.placed.split) c.in_err-positive.ensures.refused

pub returns-in_err-placed-clause-tables : goal.returns-in_err-placed-clause-tables
returns-in_err-placed-clause-tables c = c.next.ensures.tables ∙ c.loop.invariant.tables

pub returns-in_err-placed-clause-left : goal.returns-in_err-placed-clause-left
returns-in_err-placed-clause-left c = next_left c.args.positives.now c.loop.positives c.next.new.self c.in_ok-positive.field-0 (c.loop.invariant.placed.goals, c.loop.invariant.placed.split) c.in_ok-positive.ensures.found

pub returns-in_err-placed-clause-grammar : goal.returns-in_err-placed-clause-grammar
returns-in_err-placed-clause-grammar c = c.place.ensures.grammar ∙ c.loop.invariant.grammar

pub returns-in_err-push-clause-tables : goal.returns-in_err-push-clause-tables
returns-in_err-push-clause-tables c = c.next.ensures.tables ∙ c.loop.invariant.tables

pub returns-in_err-push-clause-left : goal.returns-in_err-push-clause-left
returns-in_err-push-clause-left c = next_left c.args.positives.now c.loop.positives c.next.new.self c.in_ok-positive.field-0 (c.loop.invariant.placed.goals, c.loop.invariant.placed.split) c.in_ok-positive.ensures.found

pub returns-in_err-push-clause-grammar : goal.returns-in_err-push-clause-grammar
returns-in_err-push-clause-grammar c = c.place.ensures.grammar ∙ c.loop.invariant.grammar

-- a goal more

pub place-requires-clause-met : goal.place-requires-clause-met
place-requires-clause-met c =
    let p = c.in-Some.positive in
    let next : IsNext c.loop.positives p c.next.new.self = subst (λ (f : Option Positive). GivesNext c.loop.positives f c.next.new.self) c.in-Some.is c.in_ok-positive.ensures.found in
    let same = ap (λ (v : Weighed). v.grammar) c.loop.invariant.tables ∙ c.requires.positives in
    subst (λ (g : PlainGrammar). IsMetBy g p.goal p.verdict) same (met_by c.loop.positives.tables.weights c.loop.positives.tables.grammar p.goal p.verdict next.verdict)

pub place-requires-clause-cases : goal.place-requires-clause-cases
place-requires-clause-cases c = c.loop.invariant.grammar ∙ c.requires.cases

pub loop-preserved : goal.loop-preserved
loop-preserved c =
    let old = c.args.positives.now in
    let positive = c.in-Some.positive in
    let goals = c.loop.goals.items in
    let placed = c.in_ok-placed.placed in
    let next : IsNext c.loop.positives positive c.next.new.self = subst (λ (f : Option Positive). GivesNext c.loop.positives f c.next.new.self) c.in-Some.is c.in_ok-positive.ensures.found in
    let of_grammar = subst (GivesGoalOf c.loop.positives.tables.grammar) c.in-Some.is c.in_ok-positive.ensures.goal in
    let is : IsPlacedAs old.tables.grammar c.args.format c.loop.cases positive c.place.new.cases placed = subst (λ (g : PlainGrammar). IsPlacedAs g c.args.format c.loop.cases positive c.place.new.cases placed) (sym c.requires.positives) c.in_ok-placed.ensures.placed in
    let grown = ap (λ (l : List Placed). length l) c.in_ok-push.ensures.items in
    record {
      placed = placed_next c.args.format old c.args.cases.now c.loop.positives c.loop.cases goals c.loop.invariant.placed positive placed c.next.new.self c.place.new.cases c.push.new.self.items c.loop.invariant.tables next of_grammar is c.in_ok-push.ensures.items;
      tables = c.next.ensures.tables ∙ c.loop.invariant.tables;
      grammar = c.place.ensures.grammar ∙ c.loop.invariant.grammar;
      many = omega (arith, grown, length-append goals (placed ∷ []), c.loop.invariant.many);
    }

-- as many as are taken at once

pub returns-clause-placed : goal.returns-clause-placed
returns-clause-placed c = c.loop.invariant.placed

pub returns-clause-some : goal.returns-clause-some
returns-clause-some c = λ none. let empty : length c.loop.goals.items ≡ 0 = ap length none in absurd (omega (arith, empty, c.loop.invariant.many, c.loop-test.false))

pub returns-clause-few : goal.returns-clause-few
returns-clause-few c = omega (arith, c.loop.invariant.many, c.loop.auto.counter-end)

pub returns-clause-tables : goal.returns-clause-tables
returns-clause-tables c = c.loop.invariant.tables

pub returns-clause-grammar : goal.returns-clause-grammar
returns-clause-grammar c = c.loop.invariant.grammar

pub returns-clause-left : goal.returns-clause-left
returns-clause-left c = (c.loop.invariant.placed.goals, c.loop.invariant.placed.split)
