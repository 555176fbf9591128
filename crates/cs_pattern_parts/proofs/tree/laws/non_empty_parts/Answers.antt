-- Parts without a byte can be left out.
use Rattle.cs_pattern_parts.specs.Tree.Pattern.{Matches}
use Rattle.cs_pattern_parts.proofs.OnTree.Matching.{non_empty, any_parts}
use Rattle.cs_pattern_parts.proofs.tree.laws.non_empty_parts.Goals as goal

pub returns : goal.returns
returns c = λ r word. (non_empty (Matches r) word, any_parts (Matches r) word)
