-- What the rules of one pending nonterminal more begin with is marked, until none is pending.
use Rattle.std.proofs.Common.{◌≡◌, ℕ, ◌<◌, List, Some, length, refl, sym, subst, arith}
use Rattle.std.specs.Prelude.{All, slice_get}
use Rattle.std.proofs.lemmas.Option.{slice_get_read, slice_get_within}
use Rattle.cs_grammar.proofs.Measures.{All-at}
use Rattle.cs_member.specs.Tables.Expecting.{IsMarked}
use Rattle.cs_member.proofs.OnChart.Marking.{marks_none, marks_then, followed_one, descended}
use Rattle.cs_member.proofs.tables.descents.expect_corners.Goals as goal
use Rattle.cs_member.proofs.tables.descents.expect_corners.Goals.{After-index-corners-nonterminal, After-index-nonterminal}

pub loop-number-init : goal.loop-number-init
loop-number-init c = record {
  marked = c.requires.marked;
  marks = marks_none c.args.expected.now.items c.args.pending.now.items;
  followed = λ n a b list lt at at_list has. absurd (omega arith);
}

-- the next that is pending
at_number : (c : After-index-nonterminal) → slice_get c.loop-number.pending.items c.loop-number.number ≡ Some c.index-nonterminal.result.now
at_number c =
    let low = c.if-number-len.false in
    let size = c.len.ensures in
    slice_get_read _ _ c.loop-number.number c.index-nonterminal.result.now refl (omega arith) c.index-nonterminal.ensures

inside : (c : After-index-nonterminal) → c.index-nonterminal.result.now < length c.args.corners.now
inside c =
    let inv = c.loop-number.invariant in
    let lt = All-at (λ n. n < length c.loop-number.expected.items) c.loop-number.pending.items c.loop-number.number c.index-nonterminal.result.now inv.marked.within (at_number c) in
    let size = inv.marks.size in
    let many = c.requires.corners.size in
    omega arith

-- what its rules begin with
listed : (c : After-index-corners-nonterminal) → c.index-nonterminal.result.now < length c.args.corners.now → slice_get c.args.corners.now c.index-nonterminal.result.now ≡ Some c.index-corners-nonterminal.result
listed c lt = slice_get_read c.args.corners.now _ c.index-nonterminal.result.now c.index-corners-nonterminal.result refl lt c.index-corners-nonterminal.is

pub bounds-corners-nonterminal : goal.bounds-corners-nonterminal
bounds-corners-nonterminal c = inside (goal.at.bounds-corners-nonterminal c).After-index-nonterminal

pub expect_each-requires-clause-nonterminals : goal.expect_each-requires-clause-nonterminals
expect_each-requires-clause-nonterminals c =
    let at = goal.at.expect_each-requires-clause-nonterminals c in
    let at_list = listed at.After-index-corners-nonterminal (inside at.After-index-nonterminal) in
    subst (λ n. All (λ b. b < n) c.deref.result.now) (sym c.loop-number.invariant.marks.size)
    (subst (λ (l : List ℕ). All (λ b. b < length c.args.expected.now.items) l) (sym c.deref.ensures.value) (c.requires.corners.within c.index-nonterminal.result.now c.index-corners-nonterminal.result at_list))

pub loop-number-preserved : goal.loop-number-preserved
loop-number-preserved c =
    let was = goal.at.loop-number-preserved c in
    let pending = c.loop-number.pending.items in
    let i = c.loop-number.number in
    let a = c.index-nonterminal.result.now in
    let corners = c.args.corners.now in
    let list = c.index-corners-nonterminal.result in
    let inv = c.loop-number.invariant in
    let at = at_number was.After-index-nonterminal in
    let at_list = listed was.After-index-corners-nonterminal (inside was.After-index-nonterminal) in
    let said = c.in_ok-expect_each.ensures in
    record {
      marked = said.marked;
      marks = marks_then c.args.expected.now.items c.args.pending.now.items c.loop-number.expected.items pending c.expect_each.new.expected.items c.expect_each.new.pending.items inv.marks said.marks;
      followed = followed_one corners c.loop-number.expected.items c.expect_each.new.expected.items pending c.expect_each.new.pending.items i a list said.marks (slice_get_within pending i a at) at at_list
          (subst (λ (l : List ℕ). All (λ b. IsMarked c.expect_each.new.expected.items b) l) c.deref.ensures.value said.are_marked) inv.followed;
    }

pub returns-then-number-len-clause-closed : goal.returns-then-number-len-clause-closed
returns-then-number-len-clause-closed c =
    descended c.args.corners.now c.loop-number.expected.items c.loop-number.pending.items c.loop-number.number
    (let ge = c.if-number-len.true in let size = c.len.ensures in let long = c.loop-number.pending.ok.0 in omega arith) c.loop-number.invariant.marked c.loop-number.invariant.followed
