-- Neither lexemes nor a rendering can be wanting, so a text of the chains can't be either.
use Rattle.cs_manifest.proofs.OnManifest.Texts.{some_lexemes_by, some_rendering_by}
use Rattle.cs_chain_text.proofs.OnWriting.SomeText.{some_text_of}
use Rattle.cs_chain_text.proofs.writing.laws.some_chains_text.Goals as goal

pub returns : goal.returns
returns c = λ file texts weigh.
    some_text_of file texts weigh (some_rendering_by c.some_rendering.ensures) (some_lexemes_by c.some_list_of_lexemes.ensures texts file.grammar.tokens)
