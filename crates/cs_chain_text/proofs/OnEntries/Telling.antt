-- What is told of a chain: its derivation is one of the grammar, its tokens are few, and all of them have names.
use Rattle.std.proofs.Common.{◌≡◌, ◌≤◌, ℕ, List, [], ◌∷◌, ◌++◌, length, refl, sym, ap, ◌∙◌, subst, arith, Option, None, Some}
use Rattle.std.specs.Prelude.{All}
use Rattle.std.specs.Borrow.{Bor}
use Rattle.std.specs.Prelude.{IfSome}
use Rattle.std.specs.List.{AllZip}
use Rattle.std.proofs.lemmas.List.Elements.{All-cons, All-nil}
use Rattle.cs_grammar.specs.declared.symbol.Symbol.TheVariants.{Nonterminal}
use Rattle.cs_grammar.specs.Grammar.{IsGrammar, IsNumberOf, PlainGrammar}
use Rattle.cs_grammar.specs.Tree.{Tree, size, yield}
use Rattle.cs_grammar.specs.Weights.{IsMeasure, Measure, Weighed}
use Rattle.cs_grammar.proofs.Measures.{length-yield, IsNumberOf-IsYield}
use Rattle.cs_grammar.proofs.OneTree.{one_tree}
use Rattle.cs_texts.specs.Rendering.Rendering.{Rendering}
use Rattle.cs_texts.specs.Work.Renders.{TakesTokens}
use Rattle.cs_texts.specs.declared.rendering.render_work.RenderWork.{RenderWork}
use Rattle.cs_yacc.specs.Reading.File.{File, IsFile}
use Rattle.cs_verdicts.specs.declared.positive.verdict.Verdict.{Verdict}
use Rattle.cs_verdicts.specs.declared.positive.verdict.Verdict.TheVariants as goals
use Rattle.cs_manifest.proofs.OnManifest.Rendered.{named_rendered}
use Rattle.cs_manifest.specs.Manifest.Manifest.{AreTokensOf, IsTextOf, Texts}
use Rattle.cs_manifest.specs.Manifest.Named.{AreNamedRenderings}
use Rattle.cs_manifest.specs.Output.Names.{AreNamedTokens}
use Rattle.cs_chain.specs.declared.chains.chain.Chain.{Chain}
use Rattle.cs_chain.specs.declared.judging.verdict.ChainVerdict.{ChainVerdict}
use Rattle.cs_chain.specs.declared.judging.verdict.ChainVerdict.TheVariants.{Feasible, Infeasible, Large}
use Rattle.cs_chain.specs.Judging.Verdict.{IsVerdict}
use Rattle.cs_chain.proofs.OnJudging.Chosen.{chosen_least, chosen_met}
use Rattle.cs_chain_text.specs.Entries.Text.{ChainEntry, IsEntryOf, as_goal}
use Rattle.cs_chain_text.specs.Progress.{HasDerivation, IsNamedEntry}

-- where a verdict has a derivation, it is one of the grammar
pub derived : (w : Measure) (g : PlainGrammar) (chain : Chain) (verdict : ChainVerdict) → IsVerdict w g chain verdict → HasDerivation g verdict
derived w g chain (Feasible n derivation) h = (h.2.0, (chosen_met w g chain h.2.0 h.2.1).0, h.2.2)
derived w g chain Infeasible h = tt
derived w g chain Large h = tt

-- the tokens of a verdict are few
module _ (w : Measure) (is : IsMeasure w) where
  pub few_tokens : (g : PlainGrammar) (chain : Chain) (verdict : ChainVerdict) (tokens : List ℕ) → IsVerdict w g chain verdict → AreTokensOf g (as_goal verdict) tokens → length tokens ≤ 1000000
  few_tokens g chain (Feasible n derivation) tokens h y =
      let chosen = h.2.0 in
      let least = h.1 in
      let start = Nonterminal g.start in
      let codes = ap (λ (l : List ℕ). l ++ []) (sym y.code ∙ h.2.2) in
      let same = (one_tree g y.tree chosen start start [] [] refl y.is_tree (chosen_met w g chain chosen h.2.1).0 codes).0 in
      let long : length tokens ≡ length (yield chosen) = ap length y.yield ∙ ap (λ (t : Tree). length (yield t)) same in
      let met = least.reached in
      omega (arith, long, length-yield w is chosen, chosen_least w g chain met.0 chosen met.1 h.2.1, met.2, h.0, is.limit.1)
  few_tokens g chain Infeasible tokens h y = let none : length tokens ≡ 0 = ap length y in omega (arith, none)
  few_tokens g chain Large tokens h y = let none : length tokens ≡ 0 = ap length y in omega (arith, none)

-- the tokens of a verdict are of the grammar
numbered : (g : PlainGrammar) → IsGrammar g → (verdict : Verdict) (tokens : List ℕ) → AreTokensOf g verdict tokens → All (IsNumberOf g.tokens) tokens
numbered g is (goals.Feasible size derivation) tokens h = IsNumberOf-IsYield g is derivation tokens h
numbered g is goals.Infeasible tokens h = subst (All (IsNumberOf g.tokens)) (sym h) (All-nil (IsNumberOf g.tokens))
numbered g is goals.Large tokens h = subst (All (IsNumberOf g.tokens)) (sym h) (All-nil (IsNumberOf g.tokens))

-- so they can be rendered, where texts are
pub can_render : (g : PlainGrammar) → IsGrammar g → (work : Option (Bor RenderWork)) (verdict : Verdict) (tokens : List ℕ) → IfSome work (λ r. length r.now.lexemes.now ≡ g.tokens)
    → AreTokensOf g verdict tokens → length tokens ≤ 1000000 → IfSome work (λ r. TakesTokens r.now tokens)
can_render g is None verdict tokens lexemes are few = tt
can_render g is (Some work) verdict tokens lexemes are few = record {
  tokens_of = subst (λ (n : ℕ). All (IsNumberOf n) tokens) (sym lexemes) (numbered g is verdict tokens are);
  few = omega arith;
}

-- and have names
named_tokens : (file : File) → IsFile file → (g : PlainGrammar) (verdict : Verdict) (tokens : List ℕ) → g ≡ file.grammar → AreTokensOf g verdict tokens → AreNamedTokens file tokens
named_tokens file is g verdict tokens same h =
    subst (λ (n : ℕ). All (IsNumberOf n) tokens) (sym is.tokens) (numbered file.grammar is.grammar verdict tokens (subst (λ (x : PlainGrammar). AreTokensOf x verdict tokens) same h))

-- the numbers of an entry's tokens are of the file
module _ (file : File) (is : IsFile file) (texts : Option Texts) (lexemes : Option (List (Option (List ℕ)))) (of : Weighed) (same : of.grammar ≡ file.grammar) where
  named_text : (verdict : Verdict) (tokens : List ℕ) (rendered : Option Rendering) → AreNamedTokens file tokens → IsTextOf texts lexemes verdict tokens rendered → AreNamedRenderings file rendered
  named_text (goals.Feasible n derivation) tokens rendered named h = named_rendered file tokens named texts lexemes rendered h
  named_text goals.Infeasible tokens rendered named h = subst (AreNamedRenderings file) (sym h) tt
  named_text goals.Large tokens rendered named h = subst (AreNamedRenderings file) (sym h) tt

  named_entry : (chain : Chain) (e : ChainEntry) → IsEntryOf of texts lexemes chain e → IsNamedEntry file e
  named_entry chain e h =
      let named = named_tokens file is of.grammar (as_goal e.verdict) e.tokens same h.tokens in
      record { tokens = named; text = named_text (as_goal e.verdict) e.tokens e.rendered named h.text }

  pub named_entries : (list : List Chain) (entries : List ChainEntry) → AllZip (IsEntryOf of texts lexemes) list entries → All (IsNamedEntry file) entries
  named_entries [] [] zip = All-nil (IsNamedEntry file)
  named_entries [] (e ∷ es) zip = absurd zip
  named_entries (c ∷ cs) [] zip = absurd zip
  named_entries (c ∷ cs) (e ∷ es) zip = All-cons (IsNamedEntry file) e es (named_entry c e zip.0) (named_entries cs es zip.1)
