-- A negative that isn't kept is passed over, with the edits up to it.
use Rattle.std.proofs.Common.{Bool, ◌∙◌, subst, Option, arith}
use Rattle.cs_mutate.specs.declared.negative.Negative.{Negative}
use Rattle.cs_mutate.specs.Negatives.{FindsNext}
use Rattle.cs_mutate.specs.Keeping.{Tells, behind_if}
use Rattle.cs_mutate.proofs.Looking.{dropped_all, dropped_more, fewer_left, kept_behind, kept_in_search, next_in, none_in}
use Rattle.cs_mutate.proofs.kept.Keeper.next.Goals as goal

pub returns-then-branch-clause-found : goal.returns-then-branch-clause-found
returns-then-branch-clause-found c = λ before told.
    let inv = c.loop-negative.invariant in
    let old = c.args.search.now in
    let mid = c.loop-negative.search in
    let new = c.next.new.self in
    let n = c.in-Some.negative in
    let first = c.args.self.now.first in
    let found = subst (λ (f : Option Negative). FindsNext mid f new) c.in-Some.is c.in_ok-negative.ensures.found in
    let next = next_in old mid inv.grammar inv.base n new found in
    let kept = kept_in_search old new (c.next.ensures.grammar ∙ inv.grammar) (c.next.ensures.base ∙ inv.base) c.args.self.now c.loop-negative.self n c.in_ok-keeps.field-0 before inv.first c.in_ok-keeps.ensures.kept (inv.told before told) in
    kept_behind old.grammar old.base first before old.edits mid.edits new.edits n (inv.looked before told) next (kept.0 c.if-branch.true)

pub loop-negative-preserved : goal.loop-negative-preserved
loop-negative-preserved c =
    let inv = c.loop-negative.invariant in
    let old = c.args.search.now in
    let mid = c.loop-negative.search in
    let new = c.next.new.self in
    let n = c.in-Some.negative in
    let first = c.args.self.now.first in
    let found = subst (λ (f : Option Negative). FindsNext mid f new) c.in-Some.is c.in_ok-negative.ensures.found in
    let next = next_in old mid inv.grammar inv.base n new found in
    let grammar = c.next.ensures.grammar ∙ inv.grammar in
    let base = c.next.ensures.base ∙ inv.base in
    record {
      first = c.keeps.ensures.first ∙ inv.first;
      tokens = c.keeps.ensures.tokens ∙ inv.tokens;
      grammar = grammar;
      base = base;
      fewer = omega (arith, fewer_left mid new n found, inv.fewer);
      told = λ before told. subst (λ (b : Bool). Tells c.keeps.new.self (behind_if b before n)) c.if-branch.false (c.in_ok-keeps.ensures.told before (inv.told before told));
      looked = λ before told.
          let kept = kept_in_search old new grammar base c.args.self.now c.loop-negative.self n c.in_ok-keeps.field-0 before inv.first c.in_ok-keeps.ensures.kept (inv.told before told) in
          dropped_more old.grammar old.base first before old.edits mid.edits new.edits n (inv.looked before told) next (λ is. let a = kept.1 is in let b = c.if-branch.false in cc);
    }

pub returns-clause-found : goal.returns-clause-found
returns-clause-found c = λ before told.
    let inv = c.loop-negative.invariant in
    let old = c.args.search.now in
    let mid = c.loop-negative.search in
    let new = c.next.new.self in
    let found = subst (λ (f : Option Negative). FindsNext mid f new) c.in_default.is c.in_ok-negative.ensures.found in
    let none = none_in old mid inv.grammar inv.base new found in
    (dropped_all old.grammar old.base c.args.self.now.first before old.edits mid.edits (inv.looked before told) none.0, none.1)
