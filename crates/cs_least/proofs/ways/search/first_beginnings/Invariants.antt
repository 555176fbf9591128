use Rattle.std.proofs.Common.{◌≡◌, length}
use Rattle.cs_least.specs.Ways.Search.{AreFirsts}
use Rattle.cs_least.proofs.OnWays.Beginnings.{IsEarlyBeginning}
use Rattle.cs_least.proofs.ways.search.first_beginnings.Given as goal

abbrev pub invariant-loop-origin : goal.invariant-loop-origin
invariant-loop-origin l = record {
  many : length l.known.items ≡ l.nodes;
  firsts : AreFirsts l.limit (IsEarlyBeginning l.limit l.sources l.origin) l.known.items;
}
