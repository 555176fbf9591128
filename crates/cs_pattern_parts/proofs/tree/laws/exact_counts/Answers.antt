-- Copy by copy.
use Rattle.cs_pattern_parts.proofs.OnTree.Matching.{exactly_to, exactly_from}
use Rattle.cs_pattern_parts.proofs.tree.laws.exact_counts.Goals as goal

pub returns : goal.returns
returns c = λ r n word. (exactly_to n r word, exactly_from n r word)
