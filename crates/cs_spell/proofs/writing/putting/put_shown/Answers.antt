-- The way, the derivation, the yield and the rendered text, one behind the other.
use Rattle.std.proofs.Common.{ap}
use Rattle.cs_manifest.specs.Writer.Below.{derive_below, text_below}
use Rattle.cs_manifest.proofs.OnOutput.Pieces.{spelled, then}
use Rattle.cs_spell.proofs.writing.putting.put_shown.Goals as goal

pub returns : goal.returns
returns g c =
    let derive = spelled _ (ap derive_below c.rules.ensures) c.put_derivation.ensures in
    let text = spelled _ (ap (text_below c.args.file.now) c.parts.ensures) c.put_rendered.ensures in
    then (then (then c.put_way.ensures derive) c.put_yield.ensures) text
