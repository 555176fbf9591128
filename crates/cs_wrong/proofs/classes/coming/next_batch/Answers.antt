-- Each slip that is taken stands last, until there are as many as are taken at once.
use Rattle.std.proofs.Common.{◌≡◌, List, [], ◌∷◌, length, length-append, subst, ap, arith}
use Rattle.std.specs.Prelude.{Option, Some}
use Rattle.cs_wrong.proofs.OnClasses.Taking.{none_given, none_taken, takes_last, takes_more, takes_none}
use Rattle.cs_wrong.specs.Classes.Coming.{TakesNext}
use Rattle.cs_wrong.specs.declared.classes.coming.Candidate.{Candidate}
use Rattle.cs_wrong.proofs.classes.coming.next_batch.Goals as goal

pub loop-init : goal.loop-init
loop-init c = record {
  takes = takes_none c.args.pairs.now c.args.coming.now c.new-batch.result.items c.new-batch.ensures.items;
  can = c.requires;
  many = ap (λ (l : List Candidate). length l) c.new-batch.ensures.items;
}

-- no slip was left
pub returns-in_default-clause-takes : goal.returns-in_default-clause-takes
returns-in_default-clause-takes c =
    let none = none_given c.args.pairs.now c.loop.coming c.next.new.self c.in_ok-candidate.field-0 c.in_default.not-Some c.in_ok-candidate.ensures.found in
    takes_last c.args.pairs.now c.args.coming.now c.loop.coming c.next.new.self c.loop.batch.items c.loop.invariant.takes none.1

pub returns-in_default-clause-some : goal.returns-in_default-clause-some
returns-in_default-clause-some c =
    let none = none_given c.args.pairs.now c.loop.coming c.next.new.self c.in_ok-candidate.field-0 c.in_default.not-Some c.in_ok-candidate.ensures.found in
    none_taken c.args.pairs.now c.args.coming.now c.loop.coming c.loop.batch.items c.loop.invariant.takes none.0

pub returns-in_default-clause-few : goal.returns-in_default-clause-few
returns-in_default-clause-few c = omega (arith, c.loop.invariant.many, c.loop-test.true)

pub loop-preserved : goal.loop-preserved
loop-preserved c =
    let candidate = c.in-Some.candidate in
    let next : TakesNext c.args.pairs.now c.loop.coming (Some candidate) c.next.new.self = subst (λ (f : Option Candidate). TakesNext c.args.pairs.now c.loop.coming f c.next.new.self) c.in-Some.is c.in_ok-candidate.ensures.found in
    let grown = ap (λ (l : List Candidate). length l) c.in_ok-push.ensures.items in
    record {
      takes = takes_more c.args.pairs.now c.args.coming.now c.loop.coming c.next.new.self c.loop.batch.items c.push.new.self.items candidate c.loop.invariant.takes next c.in_ok-push.ensures.items;
      can = c.in_ok-candidate.ensures.slips;
      many = omega (arith, grown, length-append c.loop.batch.items (candidate ∷ []), c.loop.invariant.many);
    }

-- as many as are taken at once
pub returns-clause-some : goal.returns-clause-some
returns-clause-some c = λ none. let empty : length c.loop.batch.items ≡ 0 = ap (λ (l : List Candidate). length l) none in absurd (omega (arith, empty, c.loop.invariant.many, c.loop-test.false))

pub returns-clause-few : goal.returns-clause-few
returns-clause-few c = omega (arith, c.loop.invariant.many, c.loop.auto.counter-end)
