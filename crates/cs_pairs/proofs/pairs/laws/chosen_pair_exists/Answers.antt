-- A tree of two tokens is cut where they meet, and one of a pair with an end is the start symbol's of a kind.
use Rattle.cs_pairs.proofs.OnPairs.ChosenPairs.{pair_exists, pair_has, pair_least}
use Rattle.cs_pairs.proofs.pairs.laws.chosen_pair_exists.Goals as goal

pub returns-clause-exists : goal.returns-clause-exists
returns-clause-exists c = λ v a b has. pair_exists v.weights v.grammar a b has.1.0 has.0.0 has.0.1 has.1.1

pub returns-clause-least : goal.returns-clause-least
returns-clause-least c = λ v a b u h. record { has_pair = pair_has v.weights v.grammar a b u h; least = λ t is. pair_least v.weights v.grammar a b t u is h }
