-- All tokens have lexemes or a first one has none, and the text scans to the tokens or differs from them.
use Rattle.cs_texts.proofs.OnRendering.SomeRendering.{rendering_some}
use Rattle.cs_texts.proofs.rendering.laws.some_rendering.Goals as goal

pub returns : goal.returns
returns c = λ s tokens lexemes separator none. rendering_some s (c.one_scan.ensures s) (c.some_scan.ensures s) lexemes separator tokens none
