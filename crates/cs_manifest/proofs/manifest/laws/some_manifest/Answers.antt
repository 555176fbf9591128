-- There are lexemes, by them the entries of all goals, by these the negatives, and by all of them the lines.
use Rattle.cs_manifest.proofs.OnManifest.SomeManifest.{some_manifest_by}
use Rattle.cs_manifest.proofs.OnManifest.Texts.{some_lexemes_by, some_rendering_by}
use Rattle.cs_manifest.proofs.manifest.laws.some_manifest.Goals as goal

pub returns : goal.returns
returns c = λ choice file.
    some_manifest_by choice file (some_rendering_by c.some_rendering.ensures) (some_lexemes_by c.some_list_of_lexemes.ensures choice.texts file.grammar.tokens)
