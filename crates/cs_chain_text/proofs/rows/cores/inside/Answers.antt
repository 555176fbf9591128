-- A core with a least size has the tokens of its code; of any other nothing is asked.
use Rattle.std.proofs.Common.{List, ℕ, subst}
use Rattle.cs_grammar.specs.Grammar.{PlainGrammar}
use Rattle.cs_chain_text.specs.Rows.Around.{AreTokensIn}
use Rattle.cs_chain_text.proofs.OnRows.Parts.{found_as}
use Rattle.cs_chain_text.proofs.rows.cores.inside.Goals as goal

pub returns-in-Least : goal.returns-in-Least
returns-in-Least c =
    let left = c.args.left in
    found_as _ _
    (λ a h n e.
    subst (λ (l : List ℕ). AreTokensIn c.args.costs.now.grammar left l a.items) c.rules.ensures
    (subst (λ (x : PlainGrammar). AreTokensIn x left c.rules.result.now a.items) c.grammar.ensures h))
    c.tokens_in.result c.tokens_in.ensures

pub returns-in_default : goal.returns-in_default
returns-in_default c = λ n e. absurd (c.in_default.not-Least n e)
