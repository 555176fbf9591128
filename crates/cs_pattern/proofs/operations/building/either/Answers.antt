-- Where there isn't one part alone, the parts stay an either.
use Rattle.std.proofs.Common.{◌≡◌, ◌∙◌, arith}
use Rattle.cs_pattern_parts.specs.Tree.Pattern.{Either}
use Rattle.cs_pattern.proofs.OnOperations.Stacks.{several_parts}
use Rattle.cs_pattern.proofs.operations.building.either.Goals as goal

pub returns-else-len-eq1 : goal.returns-else-len-eq1
returns-else-len-eq1 c = c.one_of_several.ensures ∙ several_parts Either c.args.parts.items (λ f. c.if-len-eq1.false (let e : c.len.result ≡ 1 = omega arith in e))
