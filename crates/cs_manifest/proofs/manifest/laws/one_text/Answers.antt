-- There is one list of lexemes and one rendering where there are texts, and neither where there are none.
use Rattle.cs_manifest.proofs.OnManifest.Texts.{text_is_one}
use Rattle.cs_manifest.proofs.manifest.laws.one_text.Goals as goal

pub returns : goal.returns
returns c = text_is_one c.one_list_of_lexemes.ensures c.one_rendering.ensures
