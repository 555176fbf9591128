use Rattle.cs_grammar.specs.declared.symbol.Mark.TheVariants.{Token}
use Rattle.cs_grammar.specs.Tree.{size}
use Rattle.cs_pairs.specs.Kinds.Filled.{IsFilled}
use Rattle.cs_pairs.specs.Pairs.Pairs.{HasPair}
use Rattle.cs_pairs.specs.Pairs.Meetings.{TellMeetings}
use Rattle.cs_pairs.proofs.pairs.follows.follows_of.Given as goal

abbrev pub invariant-loop-place : goal.invariant-loop-place
invariant-loop-place l = record {
  costs : IsFilled l.kinds.weights.limit (λ a. HasPair l.kinds.grammar (Token a) (Token l.second)) (size l.kinds.weights) l.place l.costs.items;
  meetings : TellMeetings l.kinds.weights l.kinds.grammar l.second l.place l.meetings.items;
}
