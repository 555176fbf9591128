-- After each base at most so many have one operator and left mark, and there are four operators to each mark.
use Rattle.cs_manifest.proofs.OnManifest.Bases.{few_negatives_in}
use Rattle.cs_manifest.proofs.manifest.laws.few_negatives.Goals as goal

pub returns : goal.returns
returns c g choice lexemes bases most first tokens entries are = few_negatives_in g choice lexemes bases most first tokens entries are
