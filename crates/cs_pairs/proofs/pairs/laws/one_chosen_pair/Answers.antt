-- Two tokens have one chosen seam, and a pair with an end has one chosen tree of its kind.
use Rattle.cs_pairs.proofs.OnPairs.ChosenPairs.{one_pair}
use Rattle.cs_pairs.proofs.pairs.laws.one_chosen_pair.Goals as goal

pub returns : goal.returns
returns c = λ v a b t u ht hu. one_pair v.weights v.grammar a b t u ht hu
