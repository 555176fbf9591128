use Rattle.std.proofs.Common.{take}
use Rattle.std.specs.Prelude.{All}
use Rattle.cs_member.specs.Tables.Expecting.{IsMarked, AreMarked, Marks}
use Rattle.cs_member.proofs.tables.descents.expect_each.Given as goal

abbrev pub invariant-loop-nonterminal : goal.invariant-loop-nonterminal
invariant-loop-nonterminal l = record {
  marked : AreMarked l.expected.items l.pending.items;
  marks : Marks l.fn.expected.items l.fn.pending.items l.expected.items l.pending.items;
  are_marked : All (λ a. IsMarked l.expected.items a) (take l.nonterminal-index l.nonterminals);
}
