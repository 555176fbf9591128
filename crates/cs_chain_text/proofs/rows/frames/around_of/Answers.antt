-- A frame with a least size has the tokens around its node; of any other nothing is asked.
use Rattle.std.proofs.Common.{List, ℕ, subst}
use Rattle.cs_grammar.specs.Grammar.{PlainGrammar}
use Rattle.cs_chain_text.specs.Rows.Around.{AreTokensAround}
use Rattle.cs_chain_text.proofs.OnRows.Parts.{found_as}
use Rattle.cs_chain_text.proofs.rows.frames.around_of.Goals as goal

pub returns-in-Least : goal.returns-in-Least
returns-in-Least c =
    let frame = c.args.frame.now in
    let g = c.args.embeds.now.grammar in
    found_as _ _
    (λ a h n e.
    subst (λ (l : List ℕ). AreTokensAround g frame.before l a.left a.first.items a.last.items) c.rules-in-Least.ensures
    (subst (λ (l : List ℕ). AreTokensAround g l c.rules-in-Least.result.now a.left a.first.items a.last.items) c.rules.ensures
    (subst (λ (x : PlainGrammar). AreTokensAround x c.rules.result.now c.rules-in-Least.result.now a.left a.first.items a.last.items) c.grammar.ensures h)))
    c.tokens_around.result c.tokens_around.ensures

pub returns-in_default : goal.returns-in_default
returns-in_default c = λ n e. absurd (c.in_default.not-Least n e)
