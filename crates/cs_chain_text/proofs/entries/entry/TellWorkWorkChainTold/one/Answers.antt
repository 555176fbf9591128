-- The verdict has a derivation, so its tokens can be told, and they are few enough for a text.
use Rattle.std.proofs.Common.{List, ℕ, refl, sym, subst}
use Rattle.std.specs.Prelude.{IfSome, option_map}
use Rattle.cs_grammar.specs.Grammar.{IsGrammar, PlainGrammar}
use Rattle.cs_manifest.specs.Manifest.Manifest.{AreTokensOf, IsTextOf}
use Rattle.cs_texts.specs.Rendering.Rendering.{rendering}
use Rattle.cs_texts.specs.Work.Renders.{TakesTokens}
use Rattle.cs_chain_text.specs.Progress.{HasDerivation, lexemes_by, texts_by}
use Rattle.cs_chain_text.specs.Entries.Text.{as_goal}
use Rattle.cs_chain_text.proofs.OnEntries.Telling.{can_render, derived, few_tokens}
use Rattle.cs_chain_text.proofs.entries.entry.TellWorkWorkChainTold.one.Goals as goal

pub tokens_of-requires : goal.tokens_of-requires
tokens_of-requires c =
    let v = c.args.self.now.embeds.now in
    subst (λ (h : PlainGrammar). HasDerivation h c.in_ok-verdict.verdict) (sym c.grammar-grammar.ensures)
    (derived v.weights v.grammar c.args.item.now c.in_ok-verdict.verdict c.in_ok-verdict.ensures)

pub text_of-requires : goal.text_of-requires
text_of-requires c =
    let v = c.args.self.now.embeds.now in
    let work = c.args.self.now.work in
    let verdict = c.in_ok-verdict.verdict in
    let tokens = c.in_ok-tokens.tokens.items in
    let are = subst (λ (h : PlainGrammar). AreTokensOf h (as_goal verdict) tokens) c.grammar-grammar.ensures c.in_ok-tokens.ensures in
    let grammar = subst IsGrammar c.grammar-grammar.ensures c.rules-well_formed.ensures.well_formed in
    let few = few_tokens v.weights c.requires.0.measure v.grammar c.args.item.now verdict tokens c.in_ok-verdict.ensures are in
    subst (λ (ts : List ℕ). IfSome work (λ r. TakesTokens r.now ts)) (sym c.deref.ensures.value)
    (can_render v.grammar grammar work (as_goal verdict) tokens c.requires.0.lexemes are few)

pub returns : goal.returns
returns c =
    let work = c.args.self.now.work in
    let verdict = c.in_ok-verdict.verdict in
    record {
      is_of = refl;
      verdict = c.in_ok-verdict.ensures;
      tokens = subst (λ (h : PlainGrammar). AreTokensOf h (as_goal verdict) c.in_ok-tokens.tokens.items) c.grammar-grammar.ensures c.in_ok-tokens.ensures;
      text = subst (λ (ts : List ℕ). IsTextOf (texts_by work) (lexemes_by work) (as_goal verdict) ts (option_map rendering c.in_ok-rendered.rendered)) c.deref.ensures.value c.in_ok-rendered.ensures;
    }
