-- The value of each variant of a pattern.
use Rattle.std.proofs.Common.{◌≡◌, ℕ, List, sym, ap, ◌∙◌}
use Rattle.std.specs.Global.{Box, Vec}
use Rattle.cs_pattern_parts.specs.declared.tree.pattern.Pattern.{Pattern}
use Rattle.cs_pattern_parts.specs.declared.tree.pattern.Pattern.TheVariants as variants
use Rattle.cs_pattern_parts.specs.declared.tree.pattern.Pattern.TheOpen.{Pattern-F}
use Rattle.cs_pattern_parts.specs.declared.tree.pattern.Pattern.TheFolds.{fold-roll-Pattern}
use Rattle.cs_pattern_parts.specs.Tree.Pattern.{Regex, Empty, Class, Join, Either, Many, parts_of, node_value, regex, regexes}

pub regex-Empty : regex variants.Empty ≡ Empty
regex-Empty = ap regex (sym variants.rolls-Empty) ∙ fold-roll-Pattern Regex node_value Pattern-F.Empty

pub regex-Join : (parts : Vec Pattern) → regex (variants.Join parts) ≡ Join (parts_of (regexes parts.items))
regex-Join parts = ap regex (sym (variants.rolls-Join parts)) ∙ fold-roll-Pattern Regex node_value (Pattern-F.Join parts)

pub regex-Either : (parts : Vec Pattern) → regex (variants.Either parts) ≡ Either (parts_of (regexes parts.items))
regex-Either parts = ap regex (sym (variants.rolls-Either parts)) ∙ fold-roll-Pattern Regex node_value (Pattern-F.Either parts)

pub regex-Class : (set : List ℕ) → regex (variants.Class set) ≡ Class set
regex-Class set = ap regex (sym (variants.rolls-Class set)) ∙ fold-roll-Pattern Regex node_value (Pattern-F.Class set)

pub regex-Many : (part : Box Pattern) → regex (variants.Many part) ≡ Many (regex part.value)
regex-Many part = ap regex (sym (variants.rolls-Many part)) ∙ fold-roll-Pattern Regex node_value (Pattern-F.Many part)
