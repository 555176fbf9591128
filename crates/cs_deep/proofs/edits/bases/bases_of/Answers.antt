-- Goal by goal, what was kept and what the goals that are left would give make up the bases.
use Rattle.std.proofs.Common.{◌+◌, ◌-◌, ◌^◌, ◌≤◌, length, refl, subst, sym, ap, ◌∙◌, arith, List}
use Rattle.std.specs.Prelude.{Option}
use Rattle.cs_goals.specs.declared.goal.Goal.{Goal}
use Rattle.cs_deep.specs.Edits.Bases.{KeepsPositive}
use Rattle.cs_deep.proofs.OnEdits.Keeping.{few_next, kept_all, kept_next, kept_none}
use Rattle.cs_grammar.specs.Grammar.{PlainGrammar}
use Rattle.cs_grammar.specs.Weights.{Weighed}
use Rattle.cs_io.specs.Faults.{greatest}
use Rattle.cs_verdicts.specs.Positive.Positives.{GivesNext, IsNext}
use Rattle.cs_verdicts.specs.declared.positive.positive.Positive.{Positive}
use Rattle.cs_writing.proofs.OnPlan.Making.{derived}
use Rattle.cs_writing.specs.Plan.Placing.{HasDerivation}
use Rattle.cs_deep.proofs.edits.bases.bases_of.Goals as goal
use Rattle.cs_deep.proofs.edits.bases.bases_of.Goals.{In-Some}

next_is : (c : In-Some) → IsNext c.goals.positives c.in-Some.positive c.next.new.self
next_is c = subst (λ (f : Option Positive). GivesNext c.goals.positives f c.next.new.self) c.in-Some.is c.in_ok-next.ensures.found

few : (c : In-Some) → c.goals.number + 1 ≤ greatest
few c =
    let more = few_next c.args.most c.args.positives.now c.goals.positives c.goals.number c.goals.bases c.goals.invariant.so_far c.goals.invariant.tables c.in-Some.positive c.next.new.self (next_is c) in
    omega (arith, more, c.requires.few)

pub goals-init : goal.goals-init
goals-init c = record { tables = refl; so_far = kept_none c.args.most c.args.positives.now c.new-bases.result c.new-bases.ensures }

pub goals-smaller : goal.goals-smaller
goals-smaller c =
    let next = next_is (goal.at.goals-smaller c).In-Some in
    omega (arith, ap (λ (l : List Goal). length l) next.goals)

pub returns-in-None : goal.returns-in-None
returns-in-None c =
    let found = subst (λ (f : Option Positive). GivesNext c.goals.positives f c.next.new.self) c.in-None.is c.in_ok-next.ensures.found in
    kept_all c.args.most c.args.positives.now c.goals.positives.goals c.goals.number c.goals.bases c.goals.invariant.so_far found.0

pub keep-requires-clause-has : goal.keep-requires-clause-has
keep-requires-clause-has c =
    let p = c.in-Some.positive in
    let next = next_is (goal.at.keep-requires-clause-has c).In-Some in
    let same = ap (λ (v : Weighed). v.grammar) c.goals.invariant.tables ∙ c.requires.grammar in
    subst (λ (g : PlainGrammar). HasDerivation g p.verdict) same (derived c.goals.positives.tables.weights c.goals.positives.tables.grammar p.goal p.verdict next.verdict)

pub keep-requires-clause-few : goal.keep-requires-clause-few
keep-requires-clause-few c = few (goal.at.keep-requires-clause-few c).In-Some

-- with a derivation that is dropped, and without
pub goals-preserved-in_ok-keep-in-Some : goal.goals-preserved-in_ok-keep-in-Some
goals-preserved-in_ok-keep-in-Some c =
    let p = c.in-Some.positive in
    let keeps = subst (λ (g : PlainGrammar). KeepsPositive g c.goals.number p c.goals.bases c.keep.new.bases) (sym c.requires.grammar) c.in_ok-keep-in-Some.ensures in
    record {
      tables = c.in_ok-next.ensures.tables ∙ c.goals.invariant.tables;
      so_far = kept_next c.args.most c.args.positives.now c.goals.positives c.goals.number c.goals.bases c.goals.invariant.so_far c.goals.invariant.tables p c.next.new.self c.keep.new.bases (next_is (goal.at.goals-preserved-in_ok-keep-in-Some c).In-Some) keeps;
    }

pub goals-preserved : goal.goals-preserved
goals-preserved c =
    let p = c.in-Some.positive in
    let keeps = subst (λ (g : PlainGrammar). KeepsPositive g c.goals.number p c.goals.bases c.keep.new.bases) (sym c.requires.grammar) c.in_ok-keep-in-Some.ensures in
    record {
      tables = c.in_ok-next.ensures.tables ∙ c.goals.invariant.tables;
      so_far = kept_next c.args.most c.args.positives.now c.goals.positives c.goals.number c.goals.bases c.goals.invariant.so_far c.goals.invariant.tables p c.next.new.self c.keep.new.bases (next_is (goal.at.goals-preserved c).In-Some) keeps;
    }

pub overflow_add-number : goal.overflow_add-number
overflow_add-number c =
    let small : c.goals.number + 1 ≤ 2 ^ 64 - 1 = few (goal.at.overflow_add-number c).In-Some in
    omega (arith, small)
