-- The least copies, and then as many optional parts as are between.
use Rattle.cs_pattern_parts.proofs.OnTree.Matching.{between_to, between_from}
use Rattle.cs_pattern_parts.proofs.tree.laws.between_counts.Goals as goal

pub returns : goal.returns
returns c = λ r n m le word. (between_to n m r word le, λ t. between_from n m r t.0 word t.1 t.2)
