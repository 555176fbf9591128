-- The first tree is that of the kind itself, or it stands before it and the rest of the list is alike.
use Rattle.cs_pairs.proofs.OnKinds.Flattened.{flat_of_kind}
use Rattle.cs_pairs.proofs.kinds.laws.flat_of_kind.Goals as goal

pub returns : goal.returns
returns c = λ v k x xs t f chosen. flat_of_kind v.weights v.grammar f xs t k x chosen
