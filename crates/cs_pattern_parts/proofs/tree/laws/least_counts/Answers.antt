-- The least copies, and then any number.
use Rattle.cs_pattern_parts.proofs.OnTree.Matching.{least_to, least_from}
use Rattle.cs_pattern_parts.proofs.tree.laws.least_counts.Goals as goal

pub returns : goal.returns
returns c = λ r n word. (least_to n r word, λ t. least_from n r t.0 word t.1 t.2)
