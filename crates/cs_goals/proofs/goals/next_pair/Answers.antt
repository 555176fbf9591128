-- The next token behind the left mark, or the end mark as the last; past the last left mark no pair is left.
use Rattle.std.proofs.Common.{◌+◌, ◌∷◌, sym, ap, ◌∙◌, arith}
use Rattle.cs_grammar.specs.declared.symbol.Mark.{Mark}
use Rattle.cs_grammar.specs.declared.symbol.Mark.TheVariants.{Token, End}
use Rattle.cs_goals.specs.declared.goal.Goal.TheVariants.{Pair}
use Rattle.cs_goals.specs.Rest.{pairs_left}
use Rattle.cs_goals.proofs.Remaining.{pairs_left_more, pairs_left_last, pairs_left_past}
use Rattle.cs_goals.proofs.goals.next_pair.Goals as goal

pub returns-then-tokens-given-clause-goal : goal.returns-then-tokens-given-clause-goal
returns-then-tokens-given-clause-goal c =
    let none = pairs_left_past c.args.grammar.now.tokens c.args.given.now.left c.args.given.now.right (omega (arith, c.tokens-tokens.ensures)) in
    (none, none)

pub returns-then-given-tokens-clause-goal : goal.returns-then-given-tokens-clause-goal
returns-then-given-tokens-clause-goal c =
    let tokens = c.args.grammar.now.tokens in
    let a = c.args.given.now.left in
    let b = c.args.given.now.right in
    pairs_left_more tokens a b (omega (arith, c.tokens-tokens.ensures)) (omega (arith, c.tokens-tokens.ensures))
    ∙ ap (λ (m : Mark). Pair m (Token (b + 1)) ∷ pairs_left tokens a (b + 1)) (sym c.left_mark-left.ensures)

pub returns-else-given-tokens-clause-goal : goal.returns-else-given-tokens-clause-goal
returns-else-given-tokens-clause-goal c =
    let tokens = c.args.grammar.now.tokens in
    let a = c.args.given.now.left in
    let b = c.args.given.now.right in
    pairs_left_last tokens a b (omega (arith, c.tokens-tokens.ensures)) (omega (arith, c.tokens-tokens.ensures, c.requires))
    ∙ ap (λ (m : Mark). Pair m End ∷ pairs_left tokens (a + 1) 0) (sym c.left_mark-left.ensures)
