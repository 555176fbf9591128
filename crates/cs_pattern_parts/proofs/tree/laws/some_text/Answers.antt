-- A byte of each class, the first part of each either, and no part of a many.
use Rattle.cs_pattern_parts.proofs.OnTree.Matching.{matches_some}
use Rattle.cs_pattern_parts.proofs.tree.laws.some_text.Goals as goal

pub returns : goal.returns
returns c = matches_some
