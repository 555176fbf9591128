-- Name by name, its marks are put behind the mark, and the other sets stay; a name of none ends it.
use Rattle.std.proofs.Common.{ℕ, List, refl, sym, ◌∙◌}
use Rattle.std.proofs.lemmas.Bool.{false≢true}
use Rattle.cs_lines.specs.Lines.Read.{names_in}
use Rattle.cs_closed.specs.Closed.Sets.{PlainSets}
use Rattle.cs_check.specs.Passing.Head.{mark_at, IsBehindName}
use Rattle.cs_check.specs.Checking.Claims.{AreSameButNext, IsWithBehind}
use Rattle.cs_check.proofs.OnChecking.Named.{taken_none, taken_all, taken_not, taken_more}
use Rattle.cs_check.proofs.OnChecking.Taking.{none_behind, more_behind}
use Rattle.cs_check.proofs.checking.marks.put_next.Goals as goal

same_none : (s : PlainSets) → AreSameButNext s s
same_none s = record { productive = refl; reachable = refl; empty = refl; first = refl; last = refl }

same_more : (old mid new : PlainSets) → AreSameButNext old mid → AreSameButNext mid new → AreSameButNext old new
same_more old mid new h k = record {
  productive = k.productive ∙ h.productive;
  reachable = k.reachable ∙ h.reachable;
  empty = k.empty ∙ h.empty;
  first = k.first ∙ h.first;
  last = k.last ∙ h.last;
}

pub loop-name-init : goal.loop-name-init
loop-name-init c = record {
  whole = c.requires.whole;
  same = same_none c.args.sets.now;
  taken =
      taken_none (IsBehindName c.args.file.now) (λ (taken : List (List ℕ)). IsWithBehind c.args.file.now taken (mark_at c.args.mark) c.args.sets.now c.args.sets.now) (names_in c.args.names)
      (none_behind c.args.file.now (mark_at c.args.mark) c.args.sets.now);
}

pub loop-name-preserved : goal.loop-name-preserved
loop-name-preserved c =
    let file = c.args.file.now in
    let old = c.args.sets.now in
    let mid = c.loop-name.sets in
    let new = c.put_behind.new.sets in
    let mark = mark_at c.args.mark in
    let name = c.in-Some.name.now in
    record {
      whole = c.put_behind.ensures.whole;
      same = same_more old mid new c.loop-name.invariant.same c.put_behind.ensures.same;
      taken =
          taken_more (IsBehindName file) (λ (taken : List (List ℕ)). IsWithBehind file taken mark old mid) (λ (taken : List (List ℕ)). IsWithBehind file taken mark old new)
          (names_in c.args.names) (names_in c.loop-name.rest) c.loop-name.invariant.taken name (names_in c.next.new.self) c.in-Some.ensures (c.put_behind.ensures.known.0 c.if-not-put_behind.false)
          (λ taken before. more_behind file mark old mid new taken name c.if-not-put_behind.ensures.put before);
    }

pub returns-then-not-put_behind-clause-known : goal.returns-then-not-put_behind-clause-known
returns-then-not-put_behind-clause-known c = (
  λ e. absurd cc,
  λ each. absurd (taken_not (IsBehindName c.args.file.now) (λ (taken : List (List ℕ)). IsWithBehind c.args.file.now taken (mark_at c.args.mark) c.args.sets.now c.loop-name.sets)
      (names_in c.args.names) (names_in c.loop-name.rest) c.loop-name.invariant.taken c.in-Some.name.now (names_in c.next.new.self) c.in-Some.ensures
      (λ known. false≢true (sym c.if-not-put_behind.true ∙ c.put_behind.ensures.known.1 known)) each),
)

pub returns-clause-known : goal.returns-clause-known
returns-clause-known c = (
  λ e. (taken_all (IsBehindName c.args.file.now) (λ (taken : List (List ℕ)). IsWithBehind c.args.file.now taken (mark_at c.args.mark) c.args.sets.now c.loop-name.sets)
      (names_in c.args.names) (names_in c.loop-name.rest) c.loop-name.invariant.taken c.in_default.ensures).0,
  λ h. refl,
)

pub returns-clause-put : goal.returns-clause-put
returns-clause-put c =
    (taken_all (IsBehindName c.args.file.now) (λ (taken : List (List ℕ)). IsWithBehind c.args.file.now taken (mark_at c.args.mark) c.args.sets.now c.loop-name.sets)
    (names_in c.args.names) (names_in c.loop-name.rest) c.loop-name.invariant.taken c.in_default.ensures).1
