-- One part with nothing behind it is the part, and so is one of one part; none and more stay as they are.
use Rattle.cs_pattern_parts.proofs.OnTree.Matching.{join_to, join_from, either_to, either_from}
use Rattle.cs_pattern_parts.proofs.tree.laws.alone.Goals as goal

pub returns-clause-join : goal.returns-clause-join
returns-clause-join c = λ rs word. (join_to rs word, join_from rs word)

pub returns-clause-either : goal.returns-clause-either
returns-clause-either c = λ rs word. (either_to rs word, either_from rs word)
