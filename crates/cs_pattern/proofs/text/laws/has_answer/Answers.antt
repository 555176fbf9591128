-- A text is read or stops, its names are defined or one isn't, and its tree is within the limits or beyond one.
use Rattle.cs_pattern.proofs.OnText.Existing as existing
use Rattle.cs_pattern.proofs.text.laws.has_answer.Goals as goal

pub returns : goal.returns
returns c = existing.has_answer
