-- The part once, or the empty text.
use Rattle.cs_pattern_parts.proofs.OnTree.Matching.{optional_to, optional_from}
use Rattle.cs_pattern_parts.proofs.tree.laws.optional_counts.Goals as goal

pub returns : goal.returns
returns c = λ r word. (optional_to r word, λ t. optional_from r t.0 word t.1.1 t.2)
