-- What the limits give of a text's pattern.
use Rattle.std.proofs.Common.{ℕ, ◌≤◌, List, sym, ap, subst, arith}
use Rattle.cs_pattern_parts.specs.Items.StandsFor.{AreBytes}
use Rattle.cs_pattern_parts.specs.Tree.Pattern.{Regex, leaves, nesting}
use Rattle.cs_pattern_parts.specs.Tree.Scannable.{HasNoEmptyEither, IsScannable}
use Rattle.cs_pattern.specs.Operations.Definitions.{Definition}
use Rattle.cs_pattern.proofs.OnOperations.Eithers.{no_empty_either}
use Rattle.cs_pattern.proofs.OnOperations.Nested.{tree_nested}
use Rattle.cs_pattern.specs.Text.Answers.{IsPatternOf}
use Rattle.cs_pattern.specs.Text.Classes.{HaveByteTexts}
use Rattle.cs_pattern.proofs.OnText.ClassBytes.{no_empty_class}
use Rattle.cs_pattern.proofs.OnText.Limited.{limit_depth, limit_leaves}

pub few_nested : (ds : List Definition) (text : List ℕ) (pattern : Regex) → IsPatternOf ds text pattern → nesting pattern ≤ 403
few_nested ds text pattern h = let n = ap nesting h.is in let d = limit_depth h.tree h.within in omega (arith, n, d, tree_nested h.tree)

pub scannable : (ds : List Definition) (text : List ℕ) (pattern : Regex) → AreBytes text → HaveByteTexts ds → IsPatternOf ds text pattern → IsScannable pattern
scannable ds text pattern bytes texts h =
    let n = ap nesting h.is in
    let d = limit_depth h.tree h.within in
    record {
      classes = no_empty_class ds text pattern bytes texts h;
      eithers = subst HasNoEmptyEither (sym h.is) (no_empty_either h.tree);
      nested = omega (arith, n, d, tree_nested h.tree);
    }

pub few_leaves : (ds : List Definition) (text : List ℕ) (pattern : Regex) → IsPatternOf ds text pattern → leaves pattern ≤ 8192
few_leaves ds text pattern h = let n = ap leaves h.is in omega (arith, n, limit_leaves h.tree h.within)
