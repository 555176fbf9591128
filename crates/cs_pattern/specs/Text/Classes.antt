-- Definitions whose texts are bytes.
use Rattle.std.specs.Prelude.{List, All}
use Rattle.cs_pattern_parts.specs.Items.StandsFor.{AreBytes}
use Rattle.cs_pattern.specs.Operations.Definitions.{Definition}

-- the text of each definition is bytes
abbrev pub HaveByteTexts : List Definition → Type 0
HaveByteTexts ds = All (λ d. AreBytes d.text) ds
