-- Each slip of a grammar has a class, by the chosen trees where there are any.
use Rattle.cs_manifest.proofs.OnManifest.Texts.{some_lexemes_by, some_rendering_by}
use Rattle.cs_wrong.proofs.OnWriting.SomeWrong.{some_text_of}
use Rattle.cs_wrong.proofs.writing.laws.some_wrong_text.Goals as goal

pub returns : goal.returns
returns c = λ file chosen texts weigh.
    some_text_of file texts weigh chosen (some_rendering_by c.some_rendering.ensures) (some_lexemes_by c.some_list_of_lexemes.ensures texts file.grammar.tokens)
