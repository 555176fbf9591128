-- No edit is taken yet, and the walk over the negatives has the same edits in front of it.
use Rattle.std.proofs.Common.{ap, ◌∙◌}
use Rattle.cs_deep.proofs.OnEdits.Taking.{begun, begun_is}
use Rattle.cs_grammar.specs.Grammar.{PlainGrammar}
use Rattle.cs_deep.proofs.edits.candidates.Candidates.new.Goals as goal

pub invariant_of-result : goal.invariant_of-result
invariant_of-result c =
    let many = c.tokens.ensures ∙ ap (λ (g : PlainGrammar). g.tokens) c.grammar.ensures in
    begun c.args.pairs.now.grammar c.args.base.now c.args.operators c.tokens.result c.new.result c.new-2.result c.new-2.ensures c.new.ensures many

pub returns : goal.returns
returns c =
    let many = c.tokens.ensures ∙ ap (λ (g : PlainGrammar). g.tokens) c.grammar.ensures in
    begun_is c.args.pairs.now.grammar c.args.base.now c.args.operators c.tokens.result c.new.result c.new-2.result c.new-2.ensures c.new.ensures many
