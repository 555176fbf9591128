-- The base is sound where it has no poisoned pair, and its edits fit it.
use Rattle.std.proofs.Common.{◌≡◌, length, ap, ◌∙◌, subst}
use Rattle.std.specs.List.{All}
use Rattle.cs_grammar.specs.Grammar.{PlainGrammar}
use Rattle.cs_grammar.specs.Sentence.{framed}
use Rattle.cs_mutate.specs.Edit.{Fits}
use Rattle.cs_mutate.specs.Edits.{edits}
use Rattle.cs_mutate.proofs.Searching.{edits_fit, known_sound, sound_known}
use Rattle.cs_mutate.proofs.negative.Negatives.new.Goals as goal

pub invariant_of-result : goal.invariant_of-result
invariant_of-result c =
    let w = c.args.base.now in
    let many : c.tokens.result ≡ c.args.pairs.now.grammar.tokens = c.tokens.ensures ∙ ap (λ (g : PlainGrammar). g.tokens) c.grammar.ensures in
    let fits = subst (λ t. All (Fits (length w) t) (edits c.tokens.result w c.args.operators)) many (edits_fit c.tokens.result w c.args.operators) in
    record {
      known = (
        known_sound c.args.pairs.now.grammar (framed w) c.poison.result c.is_none.result c.poison.ensures.first c.is_none.ensures,
        sound_known c.args.pairs.now.grammar (framed w) c.poison.result c.is_none.result c.poison.ensures.first c.is_none.ensures,
      );
      short = c.requires.short;
      tokens = c.requires.tokens;
      fits = rw c.new.ensures fits;
    }
