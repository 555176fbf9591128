-- Place by place the table leads through branches, pieces and atoms to the end.
use Rattle.cs_pattern.proofs.OnText.HasDerivation as derivations
use Rattle.cs_pattern.proofs.text.laws.has_derivation.Goals as goal

pub returns : goal.returns
returns c = derivations.has_derivation
