-- Trees are settled size by size, so there is a chosen one, and no tree of its kind is smaller.
use Rattle.cs_pairs.proofs.OnKinds.ChosenKinds.{IsTree-of_kind, of_kind_least}
use Rattle.cs_pairs.proofs.OnKinds.KindsSettled.{of_kind_exists}
use Rattle.cs_pairs.proofs.kinds.laws.chosen_of_kind_exists.Goals as goal

pub returns-clause-exists : goal.returns-clause-exists
returns-clause-exists c = λ v k x has. of_kind_exists v.weights v.grammar k x has.0 has.1

pub returns-clause-least : goal.returns-clause-least
returns-clause-least c = λ v k x u h. record { is_tree = IsTree-of_kind v.weights v.grammar u k x h; least = λ t is. of_kind_least v.weights v.grammar k x u t is h }
