use Rattle.std.proofs.Common.{◌≡◌, length}
use Rattle.std.specs.Prelude.{All}
use Rattle.cs_grammar.specs.Grammar.{IsNumberOf}
use Rattle.test_member.proofs.long.longest.Given as goal

abbrev pub invariant-loop : goal.invariant-loop
invariant-loop l = record {
  long : length l.list.items ≡ l.counter;
  tokens : All (IsNumberOf 2) l.list.items;
}
