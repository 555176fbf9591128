use Rattle.std.proofs.Common.{◌≡◌, ◌<◌, ℕ, List}
use Rattle.std.specs.Prelude.{Some, None, slice_get}
use Rattle.cs_pattern.specs.Text.Answers.{limit_of}
use Rattle.cs_pattern.specs.Text.Checking.{Each}
use Rattle.cs_pattern.specs.Operations.Definitions.{Definition}
use Rattle.cs_pattern.specs.Operations.Grammar.{Tree}
use Rattle.cs_pattern.specs.Text.Stages.{AreMeasures, HasTree}
use Rattle.cs_pattern.specs.Text.Substitution.{IsTreeOf}
use Rattle.cs_pattern.proofs.text.checking.check_limits.Given as goal

abbrev pub invariant-loop-index : goal.invariant-loop-index
invariant-loop-index l =
    (ds : List Definition) → AreMeasures ds l.measures → Each (HasTree ds) ds → (i : ℕ) (d : Definition) (tree : Tree) → i < l.index → slice_get ds i ≡ Some d → IsTreeOf ds d.text tree → limit_of tree ≡ None
