-- Two renderings of the tokens are of one kind, and have the same text, token or count.
use Rattle.cs_texts.proofs.OnRendering.OneRendering.{rendering_one}
use Rattle.cs_texts.proofs.rendering.laws.one_rendering.Goals as goal

pub returns : goal.returns
returns c = λ s tokens lexemes separator x y p q. rendering_one s (c.some_scan.ensures s) lexemes separator tokens x y p q
