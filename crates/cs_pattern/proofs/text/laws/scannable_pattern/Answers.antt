-- No class or either of such a text is empty, and a tree within the limits isn't nested deep.
use Rattle.cs_pattern.proofs.OnText.Within.{scannable}
use Rattle.cs_pattern.proofs.text.laws.scannable_pattern.Goals as goal

pub returns : goal.returns
returns c = λ ds text bytes pattern is. scannable ds text pattern bytes.0 bytes.1 is
