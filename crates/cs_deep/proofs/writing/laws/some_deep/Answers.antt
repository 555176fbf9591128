-- Neither lexemes nor a rendering can be wanting, so a text of the bases can't be either.
use Rattle.cs_deep.proofs.OnWriting.SomeDeep.{some_text_of}
use Rattle.cs_manifest.proofs.OnManifest.Texts.{some_lexemes_by, some_rendering_by}
use Rattle.cs_deep.proofs.writing.laws.some_deep.Goals as goal

pub returns : goal.returns
returns c = λ choice file.
    some_text_of choice file (some_rendering_by c.some_rendering.ensures) (some_lexemes_by c.some_list_of_lexemes.ensures choice.texts file.grammar.tokens)
