-- Lexemes, entries of goals and negatives of bases are each decided by those before, and decide the text.
use Rattle.cs_manifest.proofs.OnManifest.OneManifest.{one_manifest_by}
use Rattle.cs_manifest.proofs.manifest.laws.one_manifest.Goals as goal

pub returns : goal.returns
returns c = λ choice file. one_manifest_by choice file c.one_text.ensures
