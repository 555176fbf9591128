-- A text is read into one list of items, and that has one derivation.
use Rattle.std.proofs.Common.{◌∙◌, ap}
use Rattle.cs_pattern_parts.specs.Items.Items.{items_of}
use Rattle.cs_pattern.proofs.OnText.Readings.{one_reading}
use Rattle.cs_pattern.proofs.OnText.OneDerivation.{one_derivation}
use Rattle.cs_pattern.proofs.text.laws.one_pattern.Goals as goal

pub returns : goal.returns
returns c = λ bytes t u s r. one_derivation (items_of s.items) t u s.derived (ap items_of (one_reading bytes s.items r.items s.read r.read) ∙ r.derived)
