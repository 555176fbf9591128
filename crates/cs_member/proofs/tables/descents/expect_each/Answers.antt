-- One nonterminal more is marked, and those before it stay so.
use Rattle.std.proofs.Common.{subst, List, ℕ, arith}
use Rattle.std.specs.Prelude.{All}
use Rattle.std.proofs.lemmas.List.{take_all}
use Rattle.std.proofs.lemmas.List.Elements.{All-nil}
use Rattle.cs_member.specs.Tables.Expecting.{IsMarked}
use Rattle.cs_member.proofs.OnChart.Marking.{marks_none, marks_then, all_marked_more}
use Rattle.cs_member.proofs.tables.descents.expect_each.Goals as goal

pub loop-nonterminal-init : goal.loop-nonterminal-init
loop-nonterminal-init c = record {
  marked = c.requires.marked;
  marks = marks_none c.args.expected.now.items c.args.pending.now.items;
  are_marked = All-nil (λ a. IsMarked c.args.expected.now.items a);
}

pub loop-nonterminal-preserved : goal.loop-nonterminal-preserved
loop-nonterminal-preserved c =
    let said = c.in_ok-expect.ensures in
    let inv = c.loop-nonterminal.invariant in
    record {
      marked = said.marked;
      marks = marks_then c.args.expected.now.items c.args.pending.now.items c.loop-nonterminal.expected.items c.loop-nonterminal.pending.items c.expect.new.expected.items c.expect.new.pending.items inv.marks said.marks;
      are_marked = all_marked_more c.loop-nonterminal.expected.items c.expect.new.expected.items c.args.nonterminals.now c.loop-nonterminal.nonterminal-index _ c.loop-nonterminal-test.true said.marks.stays inv.are_marked said.is_marked;
    }

pub returns-clause-are_marked : goal.returns-clause-are_marked
returns-clause-are_marked c =
    subst (λ (l : List ℕ). All (λ a. IsMarked c.loop-nonterminal.expected.items a) l) (take_all c.loop-nonterminal.nonterminal-index c.args.nonterminals.now c.loop-nonterminal-test.false) c.loop-nonterminal.invariant.are_marked

pub expect-requires-clause-nonterminal : goal.expect-requires-clause-nonterminal
expect-requires-clause-nonterminal c =
    let low = c.requires.nonterminals c.loop-nonterminal.nonterminal-index 0 c.loop-nonterminal-test.true in
    let size = c.loop-nonterminal.invariant.marks.size in
    omega arith
