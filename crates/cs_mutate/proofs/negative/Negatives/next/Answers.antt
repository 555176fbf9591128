-- The negative is that of an edit that fits the base, and the edits that are left fit it too.
use Rattle.std.proofs.Common.{List, subst}
use Rattle.std.specs.Prelude.{IfSome}
use Rattle.cs_goals.specs.Goal.{IsLeft}
use Rattle.cs_mutate.specs.declared.edit.Edit.{Edit}
use Rattle.cs_mutate.specs.Negatives.{Finds, FitsBase, Search}
use Rattle.cs_mutate.proofs.Behind.{left_found}
use Rattle.cs_mutate.proofs.Searching.{fits_left, fits_found}
use Rattle.cs_mutate.proofs.negative.Negatives.next.Goals as goal

pub next_touched-requires-clause-sound : goal.next_touched-requires-clause-sound
next_touched-requires-clause-sound c = c.self.invariant.known.0 c.if-self.true

pub invariant_of-self : goal.invariant_of-self
invariant_of-self c =
    let s = c.self.inside in
    let h = c.self.invariant in
    record {
      known = h.known;
      short = h.short;
      tokens = h.tokens;
      fits = fits_left s.pairs.now.grammar s.base.now s.edits c.next_touched.result c.next_touched.new.edits h.fits c.next_touched.ensures;
    }

pub returns-then-self-clause-found : goal.returns-then-self-clause-found
returns-then-self-clause-found c =
    subst (λ (t : Search). Finds t.grammar t.base t.edits c.next_touched.result c.next_touched.new.edits) c.self.view_is c.next_touched.ensures

pub returns-then-self-clause-fits : goal.returns-then-self-clause-fits
returns-then-self-clause-fits c =
    let s = c.self.inside in
    subst (λ (t : Search). IfSome c.next_touched.result (λ n. FitsBase t n.edit)) c.self.view_is
    (fits_found s.pairs.now.grammar s.base.now s.edits c.next_touched.result c.next_touched.new.edits c.self.invariant.fits c.next_touched.ensures)

pub invariant_of-self-2 : goal.invariant_of-self-2
invariant_of-self-2 c =
    let s = c.self.inside in
    let g = s.pairs.now.grammar in
    let w = s.base.now in
    let h = c.self.invariant in
    let found = subst (λ (l : List Edit). Finds g w l c.in_ok-found.found c.next_whole.new.edits) c.copied-edits.ensures c.in_ok-found.ensures in
    record {
      known = h.known;
      short = h.short;
      tokens = h.tokens;
      fits = fits_left g w s.edits c.in_ok-found.found c.next_whole.new.edits h.fits found;
    }

pub returns-clause-found : goal.returns-clause-found
returns-clause-found c =
    let s = c.self.inside in
    let g = s.pairs.now.grammar in
    let w = s.base.now in
    let found = subst (λ (l : List Edit). Finds g w l c.in_ok-found.found c.next_whole.new.edits) c.copied-edits.ensures c.in_ok-found.ensures in
    subst (λ (t : Search). Finds t.grammar t.base t.edits c.in_ok-found.found c.next_whole.new.edits) c.self.view_is found

pub returns-clause-fits : goal.returns-clause-fits
returns-clause-fits c =
    let s = c.self.inside in
    let g = s.pairs.now.grammar in
    let w = s.base.now in
    let found = subst (λ (l : List Edit). Finds g w l c.in_ok-found.found c.next_whole.new.edits) c.copied-edits.ensures c.in_ok-found.ensures in
    subst (λ (t : Search). IfSome c.in_ok-found.found (λ n. FitsBase t n.edit)) c.self.view_is
    (fits_found g w s.edits c.in_ok-found.found c.next_whole.new.edits c.self.invariant.fits found)

pub returns-then-self-clause-left : goal.returns-then-self-clause-left
returns-then-self-clause-left c =
    let s = c.self.inside in
    subst (λ (t : Search). IfSome c.next_touched.result (λ n. IsLeft t.grammar.tokens n.left)) c.self.view_is
    (left_found s.pairs.now.grammar s.base.now s.edits c.next_touched.result c.next_touched.new.edits c.self.invariant.tokens c.self.invariant.fits c.next_touched.ensures)

pub returns-clause-left : goal.returns-clause-left
returns-clause-left c =
    let s = c.self.inside in
    let g = s.pairs.now.grammar in
    let w = s.base.now in
    let found = subst (λ (l : List Edit). Finds g w l c.in_ok-found.found c.next_whole.new.edits) c.copied-edits.ensures c.in_ok-found.ensures in
    subst (λ (t : Search). IfSome c.in_ok-found.found (λ n. IsLeft t.grammar.tokens n.left)) c.self.view_is
    (left_found g w s.edits c.in_ok-found.found c.next_whole.new.edits c.self.invariant.tokens c.self.invariant.fits found)
