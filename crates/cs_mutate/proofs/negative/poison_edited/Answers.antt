-- The result of an edit has tokens of the grammar, and is read between the begin and the end mark.
use Rattle.std.proofs.Common.{List, ℕ, sym, ◌∙◌, subst}
use Rattle.std.specs.List.{All}
use Rattle.std.specs.Prelude.{MatchOption}
use Rattle.cs_grammar.specs.Grammar.{IsNumberOf}
use Rattle.cs_grammar.specs.Sentence.{framed}
use Rattle.cs_mutate.specs.Poison.{HasNoPoison, IsFirstPoisoned}
use Rattle.cs_mutate.proofs.Searching.{edited_tokens}
use Rattle.cs_mutate.proofs.negative.poison_edited.Goals as goal

pub poison_between-requires-clause-tokens : goal.poison_between-requires-clause-tokens
poison_between-requires-clause-tokens c =
    let g = c.args.pairs.now.grammar in
    subst (λ (l : List ℕ). All (IsNumberOf g.tokens) l) (sym (c.deref.ensures.value ∙ c.in_ok-list.ensures))
    (edited_tokens g.tokens c.args.base.now c.requires.tokens c.args.edit.now c.requires.fits)

pub returns : goal.returns
returns c =
    let g = c.args.pairs.now.grammar in
    subst (λ (l : List ℕ). MatchOption c.poison_between.result (HasNoPoison g (framed l)) (λ first. IsFirstPoisoned g (framed l) first.at first.left first.right))
    (c.deref.ensures.value ∙ c.in_ok-list.ensures) c.poison_between.ensures
