-- Each candidate that is taken stands last, until no edit is left or as many as are taken at once.
use Rattle.std.proofs.Common.{◌≡◌, List, [], ◌∷◌, length, length-append, subst, ap, arith}
use Rattle.std.specs.Prelude.{Option, Some}
use Rattle.cs_deep.specs.Edits.Candidates.{TakesNext}
use Rattle.cs_deep.specs.declared.edits.candidates.Candidate.{Candidate}
use Rattle.cs_deep.proofs.OnEdits.Taking.{none_given, none_taken, takes_last, takes_more, takes_none}
use Rattle.cs_deep.proofs.edits.candidates.next_batch.Goals as goal

pub loop-init : goal.loop-init
loop-init c = record { takes = takes_none c.args.candidates.now c.new-batch.result.items c.new-batch.ensures.items; many = ap (λ (l : List Candidate). length l) c.new-batch.ensures.items }

-- no edit was left
pub returns-in_default-clause-takes : goal.returns-in_default-clause-takes
returns-in_default-clause-takes c =
    let none = none_given c.loop.candidates c.next.new.self c.in_ok-candidate.field-0 c.in_default.not-Some c.in_ok-candidate.ensures.found in
    takes_last c.args.candidates.now c.loop.candidates c.next.new.self c.loop.batch.items c.loop.invariant.takes none.0 none.1 c.in_ok-candidate.ensures.grammar c.in_ok-candidate.ensures.base

pub returns-in_default-clause-some : goal.returns-in_default-clause-some
returns-in_default-clause-some c =
    let none = none_given c.loop.candidates c.next.new.self c.in_ok-candidate.field-0 c.in_default.not-Some c.in_ok-candidate.ensures.found in
    none_taken c.args.candidates.now c.loop.candidates c.loop.batch.items c.loop.invariant.takes none.0

pub returns-in_default-clause-few : goal.returns-in_default-clause-few
returns-in_default-clause-few c = omega (arith, c.loop.invariant.many, c.loop-test.true)

pub loop-preserved : goal.loop-preserved
loop-preserved c =
    let candidate = c.in-Some.candidate in
    let next : TakesNext c.loop.candidates (Some candidate) c.next.new.self = subst (λ (f : Option Candidate). TakesNext c.loop.candidates f c.next.new.self) c.in-Some.is c.in_ok-candidate.ensures.found in
    let grown = ap (λ (l : List Candidate). length l) c.in_ok-push.ensures.items in
    record {
      takes = takes_more c.args.candidates.now c.loop.candidates c.next.new.self c.loop.batch.items c.push.new.self.items candidate c.loop.invariant.takes next
          c.in_ok-candidate.ensures.grammar c.in_ok-candidate.ensures.base c.in_ok-push.ensures.items;
      many = omega (arith, grown, length-append c.loop.batch.items (candidate ∷ []), c.loop.invariant.many);
    }

-- as many as are taken at once
pub returns-clause-some : goal.returns-clause-some
returns-clause-some c = λ none. let empty : length c.loop.batch.items ≡ 0 = ap (λ (l : List Candidate). length l) none in absurd (omega (arith, empty, c.loop.invariant.many, c.loop-test.false))

pub returns-clause-few : goal.returns-clause-few
returns-clause-few c = omega (arith, c.loop.invariant.many, c.loop.auto.counter-end)
