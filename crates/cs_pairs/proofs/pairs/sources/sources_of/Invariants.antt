use Rattle.std.proofs.Common.{◌+◌, ◌≤◌, length, reverse}
use Rattle.cs_pairs.specs.Pairs.Sources.{AreSourcesFrom}
use Rattle.cs_pairs.proofs.pairs.sources.sources_of.Given as goal

abbrev pub invariant-loop-place : goal.invariant-loop-place
invariant-loop-place l = record {
  sources : AreSourcesFrom l.kinds.weights l.kinds.grammar l.token (l.place + 1) 0 (reverse l.sources.places.items) (reverse l.sources.list.items);
  within : l.place ≤ length l.kinds.grammar.rules;
}
