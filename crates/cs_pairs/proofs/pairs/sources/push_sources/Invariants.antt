use Rattle.std.proofs.Common.{◌≡◌, ◌≤◌, drop, length, reverse}
use Rattle.cs_grammar.specs.Tree.{sizes}
use Rattle.cs_least.specs.Cost.Least.{IsCost}
use Rattle.cs_pairs.specs.declared.kinds.kind.TreeKind.TheVariants.{Begins}
use Rattle.cs_pairs.specs.Kinds.Kinds.{AreTreesOfKind}
use Rattle.cs_pairs.specs.Pairs.Sources.{AreSourcesFrom}
use Rattle.cs_pairs.proofs.pairs.sources.push_sources.Given as goal

abbrev pub invariant-loop-place : goal.invariant-loop-place
invariant-loop-place l = record {
  sources : AreSourcesFrom l.kinds.weights l.kinds.grammar l.token l.number l.place (reverse l.sources.places.items) (reverse l.sources.list.items);
  is_kind : l.sweep.kind ≡ Begins l.token;
  whole : IsCost l.kinds.weights.limit (AreTreesOfKind l.kinds.grammar (Begins l.token) (drop l.place l.right)) (sizes l.kinds.weights) l.sweep.whole;
  within : l.place ≤ length l.right;
}
