-- Part by part: what a class matches is one of its bytes, and the rest puts such lists together.
use Rattle.cs_pattern_parts.proofs.OnTree.Matching.{bytes_matched}
use Rattle.cs_pattern_parts.proofs.tree.laws.bytes_alone.Goals as goal

pub returns : goal.returns
returns c = bytes_matched
