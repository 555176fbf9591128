-- What comes of the tokens of a verdict: they are few, and what they are rendered to has names.
use Rattle.std.proofs.Common.{◌≡◌, ℕ, ◌≤◌, Bool, true, false, List, [], ◌∷◌, ◌++◌, length, refl, sym, ap, ◌∙◌, subst, Option, None, Some, arith}
use Rattle.std.specs.Prelude.{All}
use Rattle.std.specs.List.{Contains}
use Rattle.std.proofs.lemmas.List.Elements.{All-contains, Contains-append_left, Contains-append_right, Contains-push}
use Rattle.cs_grammar.specs.Grammar.{PlainGrammar}
use Rattle.cs_grammar.specs.Leftmost.{IsYield}
use Rattle.cs_grammar.specs.Tree.{Tree, yield}
use Rattle.cs_grammar.specs.Weights.{IsMeasure, Measure}
use Rattle.cs_grammar.specs.declared.symbol.Symbol.TheVariants.{Nonterminal}
use Rattle.cs_grammar.proofs.Measures.{length-yield}
use Rattle.cs_grammar.proofs.OneTree.{one_tree}
use Rattle.cs_goals.specs.declared.goal.Goal.{Goal}
use Rattle.cs_manifest.specs.Output.Names.{AreNamedTokens, IsNamedToken}
use Rattle.cs_manifest.specs.Manifest.Manifest.{IsRenderedBy, IsRenderedIf, Texts}
use Rattle.cs_manifest.specs.Manifest.Named.{AreNamedRenderings, IsNamedRendering}
use Rattle.cs_verdicts.specs.declared.positive.verdict.Verdict.TheVariants.{Feasible}
use Rattle.cs_verdicts.specs.Positive.Verdict.{IsVerdict}
use Rattle.cs_verdicts.proofs.OnPositive.Verdicts.{chosen_met, chosen_least_of}
use Rattle.cs_texts.specs.Rendering.Rendering.{IsRendered, Rendering, Text, NoLexeme, Differs}
use Rattle.cs_scanner.specs.Scan.Scan.{Scanning}
use Rattle.cs_yacc.specs.Reading.File.{File}

-- the tokens of a verdict are few
module _ (w : Measure) (is : IsMeasure w) where
  pub few_tokens : (g : PlainGrammar) (goal : Goal) (n : ℕ) (derivation tokens : List ℕ) → IsVerdict w g goal (Feasible n derivation) → IsYield g derivation tokens → length tokens ≤ 1000000
  few_tokens g goal n derivation tokens h y =
      let chosen = h.2.0 in
      let least = h.1 in
      let start = Nonterminal g.start in
      let codes = ap (λ (l : List ℕ). l ++ []) (sym y.code ∙ h.2.2) in
      let same = (one_tree g y.tree chosen start start [] [] refl y.is_tree (chosen_met w g goal chosen h.2.1).0 codes).0 in
      let long : length tokens ≡ length (yield chosen) = ap length y.yield ∙ ap (λ (t : Tree). length (yield t)) same in
      let met = least.reached in
      omega (arith, long, length-yield w is chosen, chosen_least_of w g goal met.0 chosen met.1 h.2.1, met.2, h.0, is.limit.1)

-- what comes of named tokens has a name, where it is one of them
module _ (file : File) (tokens : List ℕ) (are : AreNamedTokens file tokens) where
  pub named_rendering : (s : Scanning) (lexemes : List (Option (List ℕ))) (separator : List ℕ) (r : Rendering) → IsRendered s lexemes separator tokens r → IsNamedRendering file r
  named_rendering s lexemes separator (Text text) h = tt
  named_rendering s lexemes separator (NoLexeme token) h =
      let here : Contains (token ∷ h.behind) token = Contains-append_left (token ∷ []) h.behind token (Contains-push [] token) in
      All-contains (IsNamedToken file) (h.front ++ token ∷ h.behind) token (subst (All (IsNamedToken file)) h.list are) (Contains-append_right h.front (token ∷ h.behind) token here)
  named_rendering s lexemes separator (Differs after) h = tt

  pub none_named : (rendered : Option Rendering) → rendered ≡ None → AreNamedRenderings file rendered
  none_named rendered h = subst (AreNamedRenderings file) (sym h) tt

  pub named_rendered : (texts : Option Texts) (lexemes : Option (List (Option (List ℕ)))) (rendered : Option Rendering) → IsRenderedBy texts lexemes tokens rendered → AreNamedRenderings file rendered
  named_rendered (Some texts) (Some lexemes) (Some r) h = named_rendering texts.scanning lexemes texts.separator r h
  named_rendered (Some texts) (Some lexemes) None h = absurd h
  named_rendered (Some texts) None rendered h = none_named rendered h
  named_rendered None lexemes rendered h = none_named rendered h

  pub named_if : (texts : Option Texts) (lexemes : Option (List (Option (List ℕ)))) (so : Bool) (rendered : Option Rendering) → IsRenderedIf so texts lexemes tokens rendered → AreNamedRenderings file rendered
  named_if texts lexemes true rendered h = named_rendered texts lexemes rendered h
  named_if texts lexemes false rendered h = none_named rendered h
