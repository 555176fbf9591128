-- Where there isn't one part alone, the parts stay a join.
use Rattle.std.proofs.Common.{◌≡◌, ◌∙◌, arith}
use Rattle.cs_pattern_parts.specs.Tree.Pattern.{Join}
use Rattle.cs_pattern.proofs.OnOperations.Stacks.{several_parts}
use Rattle.cs_pattern.proofs.operations.building.join.Goals as goal

pub returns-else-len-eq1 : goal.returns-else-len-eq1
returns-else-len-eq1 c = c.several_joined.ensures ∙ several_parts Join c.args.parts.items (λ f. c.if-len-eq1.false (let e : c.len.result ≡ 1 = omega arith in e))
