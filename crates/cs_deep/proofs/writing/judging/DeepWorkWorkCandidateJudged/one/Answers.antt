-- The tokens of an edited list are those of the grammar, and each of them has a lexeme.
use Rattle.std.proofs.Common.{List, ℕ, sym, subst, ◌∙◌}
use Rattle.std.specs.Prelude.{All}
use Rattle.cs_grammar.specs.Grammar.{IsNumberOf}
use Rattle.cs_deep.proofs.OnWriting.Judged.{lexemes_by, tokens_by}
use Rattle.cs_deep.proofs.writing.judging.DeepWorkWorkCandidateJudged.one.Goals as goal

pub accepts-requires-clause-tokens : goal.accepts-requires-clause-tokens
accepts-requires-clause-tokens c =
    let work = c.args.self.now in
    subst (λ (l : List ℕ). All (IsNumberOf work.recognizer.now.tokens) l) (sym (c.deref.ensures.value ∙ c.in_ok-tokens.ensures)) (tokens_by work c.args.item.now c.requires)

pub render-requires-clause-tokens : goal.render-requires-clause-tokens
render-requires-clause-tokens c = lexemes_by c.args.self.now c.args.item.now c.deref-2.result.now c.requires (c.deref-2.ensures.value ∙ c.in_ok-tokens.ensures)
