-- The first edit is marked exactly where it is the negative that stands ahead, and else that stays ahead.
use Rattle.std.proofs.Common.{ap, sym, ◌∙◌}
use Rattle.cs_mutate.specs.Negatives.{Search}
use Rattle.cs_deep.proofs.OnEdits.Taking.{looked_so, met_left, met_taken, no_edit, none_ahead, passed_left, passed_taken, refused_so}
use Rattle.cs_deep.proofs.edits.candidates.Candidates.next.Goals as goal

-- the second walk refused, and the first stands still
pub invariant_of-self : goal.invariant_of-self
invariant_of-self c =
    let s = c.self.inside in
    let e = c.in_err-found.ensures in
    refused_so s.edits s.ahead s.negatives c.find_ahead.new.negatives c.self.invariant e.grammar e.base e.refused

pub invariant_of-self-in_default : goal.invariant_of-self-in_default
invariant_of-self-in_default c =
    let s = c.self.inside in
    let e = c.in_ok-found.ensures in
    let left = no_edit c.next.result c.in_default.not-Some c.next.ensures.none in
    none_ahead s.edits c.in_ok-found.found c.find_ahead.new.negatives
    (looked_so s.edits s.ahead s.negatives c.in_ok-found.found c.find_ahead.new.negatives c.self.invariant e.found e.grammar e.base)
    c.next.new.self left.0 left.1

pub returns-in_default-clause-found : goal.returns-in_default-clause-found
returns-in_default-clause-found c =
    let left = no_edit c.next.result c.in_default.not-Some c.next.ensures.none in
    (sym (ap (λ (x : Search). x.edits) c.self.view_is) ∙ left.0, left.1)

pub returns-in_default-clause-grammar : goal.returns-in_default-clause-grammar
returns-in_default-clause-grammar c = c.in_ok-found.ensures.grammar ∙ ap (λ (x : Search). x.grammar) c.self.view_is

pub returns-in_default-clause-base : goal.returns-in_default-clause-base
returns-in_default-clause-base c = c.in_ok-found.ensures.base ∙ ap (λ (x : Search). x.base) c.self.view_is

-- the edit is the negative that stands ahead
pub invariant_of-self-then-is_at : goal.invariant_of-self-then-is_at
invariant_of-self-then-is_at c =
    let s = c.self.inside in
    let e = c.in_ok-found.ensures in
    let found = c.in_ok-found.found in
    let new = c.find_ahead.new.negatives in
    let has = looked_so s.edits s.ahead s.negatives found new c.self.invariant e.found e.grammar e.base in
    met_left s.edits found new has c.in-Some.edit c.next.new.self c.in-Some.ensures.some c.if-is_at.ensures

pub returns-then-is_at-clause-found : goal.returns-then-is_at-clause-found
returns-then-is_at-clause-found c =
    let s = c.self.inside in
    let e = c.in_ok-found.ensures in
    let found = c.in_ok-found.found in
    let new = c.find_ahead.new.negatives in
    let has = looked_so s.edits s.ahead s.negatives found new c.self.invariant e.found e.grammar e.base in
    let grammar = e.grammar ∙ ap (λ (x : Search). x.grammar) c.self.view_is in
    let base = e.base ∙ ap (λ (x : Search). x.base) c.self.view_is in
    met_taken s.edits found new has c.in-Some.edit c.next.new.self c.in-Some.ensures.some c.args.self.now (sym (ap (λ (x : Search). x.edits) c.self.view_is)) grammar base c.if-is_at.ensures

pub returns-then-is_at-clause-grammar : goal.returns-then-is_at-clause-grammar
returns-then-is_at-clause-grammar c = c.in_ok-found.ensures.grammar ∙ ap (λ (x : Search). x.grammar) c.self.view_is

pub returns-then-is_at-clause-base : goal.returns-then-is_at-clause-base
returns-then-is_at-clause-base c = c.in_ok-found.ensures.base ∙ ap (λ (x : Search). x.base) c.self.view_is

-- it isn't
pub invariant_of-self-else-is_at : goal.invariant_of-self-else-is_at
invariant_of-self-else-is_at c =
    let s = c.self.inside in
    let e = c.in_ok-found.ensures in
    let found = c.in_ok-found.found in
    let new = c.find_ahead.new.negatives in
    let has = looked_so s.edits s.ahead s.negatives found new c.self.invariant e.found e.grammar e.base in
    passed_left s.edits found new has c.in-Some.edit c.next.new.self c.in-Some.ensures.some c.if-is_at.ensures

pub returns-clause-found : goal.returns-clause-found
returns-clause-found c =
    let s = c.self.inside in
    let e = c.in_ok-found.ensures in
    let found = c.in_ok-found.found in
    let new = c.find_ahead.new.negatives in
    let has = looked_so s.edits s.ahead s.negatives found new c.self.invariant e.found e.grammar e.base in
    let grammar = e.grammar ∙ ap (λ (x : Search). x.grammar) c.self.view_is in
    let base = e.base ∙ ap (λ (x : Search). x.base) c.self.view_is in
    passed_taken s.edits found new has c.in-Some.edit c.next.new.self c.in-Some.ensures.some c.args.self.now (sym (ap (λ (x : Search). x.edits) c.self.view_is)) grammar base c.if-is_at.ensures

pub returns-clause-grammar : goal.returns-clause-grammar
returns-clause-grammar c = c.in_ok-found.ensures.grammar ∙ ap (λ (x : Search). x.grammar) c.self.view_is

pub returns-clause-base : goal.returns-clause-base
returns-clause-base c = c.in_ok-found.ensures.base ∙ ap (λ (x : Search). x.base) c.self.view_is
