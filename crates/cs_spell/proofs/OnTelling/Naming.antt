-- What is told has names in the file, and tokens of derivations are few.
use Rattle.std.proofs.Common.{◌≡◌, ℕ, zero, suc, ◌<◌, ◌≤◌, List, [], ◌∷◌, ◌++◌, length, Option, None, Some, refl, sym, ap, subst, arith, get_or}
use Rattle.std.specs.Prelude.{All, Contains, slice_get}
use Rattle.std.proofs.lemmas.List.{length-map}
use Rattle.std.proofs.lemmas.List.Elements.{All-contains, All-nil, Contains-append_left, Contains-append_right, Contains-push}
use Rattle.std.proofs.lemmas.Option.{get_or_from_slice_get, slice_get-get_or, slice_get_within}
use Rattle.cs_grammar.specs.Grammar.{IsGrammar, IsNumberOf, IsRuleOf, IsSymbol, PlainGrammar, Production}
use Rattle.cs_grammar.specs.Tree.{size}
use Rattle.cs_grammar.specs.Weights.{IsMeasure, Measure, Weighed}
use Rattle.cs_grammar.specs.declared.symbol.Symbol.TheVariants.{Token}
use Rattle.cs_grammar.proofs.Measures.{IsNumberOf-IsYield}
use Rattle.cs_goals.specs.declared.goal.Goal.{Goal}
use Rattle.cs_goals.specs.declared.goal.Goal.TheVariants.{Rule}
use Rattle.cs_manifest.specs.Manifest.Manifest.{AreTokensOf}
use Rattle.cs_manifest.specs.Manifest.Named.{IsNamedRendering}
use Rattle.cs_manifest.specs.Output.Names.{AreNamedTokens, IsNamedToken}
use Rattle.cs_pattern_parts.specs.declared.kind.Kind.{Kind}
use Rattle.cs_pattern_parts.specs.declared.kind.Kind.TheVariants as kinds
use Rattle.cs_scanner.specs.Scan.Scan.{Scanning}
use Rattle.cs_spell.specs.Telling.Chosen.{AreRuleVerdicts, IsWanted, RuleVerdict}
use Rattle.cs_spell.specs.Telling.Seen.{all_told, told_of}
use Rattle.cs_spell.specs.Telling.Spelling.{AreTold, IsShowing, IsTold, IsToldBy, IsToldIf, IsToldOf, Making}
use Rattle.cs_spell.specs.Telling.Telling.{AreFewTokens, IsNamedShowing, IsNamedTold, IsNamedWay}
use Rattle.cs_spell.specs.Texts.Texts.{IsRenderedWith, IsWayOf}
use Rattle.cs_spell.specs.Telling.Told as spec
use Rattle.cs_spell.specs.declared.telling.told.Told.{Told}
use Rattle.cs_spell.specs.declared.texts.way.Way.{Way}
use Rattle.cs_manifest.proofs.OnManifest.Rendered.{few_tokens}
use Rattle.cs_texts.specs.Rendering.Rendering.{Rendering, Text, NoLexeme, Differs}
use Rattle.cs_verdicts.specs.declared.positive.verdict.Verdict.{Verdict}
use Rattle.cs_verdicts.specs.declared.positive.verdict.Verdict.TheVariants.{Feasible, Infeasible, Large}
use Rattle.cs_verdicts.specs.Positive.Verdict.{IsVerdict}
use Rattle.cs_yacc.specs.Reading.File.{File}

-- ---- the tokens of derivations

module _ (w : Measure) (is : IsMeasure w) where
  few_of : (g : PlainGrammar) → IsGrammar g → (goal : Goal) (verdict : Verdict) (tokens : List ℕ) → IsVerdict w g goal verdict → AreTokensOf g verdict tokens → All (IsNumberOf g.tokens) tokens × (length tokens ≤ 1000000)
  few_of g well goal (Feasible n derivation) tokens h y = (IsNumberOf-IsYield g well derivation tokens y, few_tokens w is g goal n derivation tokens h y)
  few_of g well goal Infeasible tokens h y = (subst (All (IsNumberOf g.tokens)) (sym y) (All-nil (IsNumberOf g.tokens)), omega (arith, ap length y))
  few_of g well goal Large tokens h y = (subst (All (IsNumberOf g.tokens)) (sym y) (All-nil (IsNumberOf g.tokens)), omega (arith, ap length y))

pub few_judged : (v : Weighed) → IsMeasure v.weights → IsGrammar v.grammar → (judged : List RuleVerdict) → AreRuleVerdicts v judged → AreFewTokens v.grammar.tokens judged
few_judged v is well judged are k j at =
    let it = are.each k j at in
    few_of v.weights is v.grammar well (Rule (suc k)) j.verdict j.tokens it.verdict it.tokens

-- ---- names

-- what all are, the one at a place is
All-at : {A : Type 0} (P : A → Type 0) (xs : List A) (k : ℕ) (x : A) → All P xs → slice_get xs k ≡ Some x → P x
All-at P xs k x all at = subst P (get_or_from_slice_get xs k x x at) (all k x (slice_get_within xs k x at))

module _ (file : File) (names : length file.token_names ≡ file.grammar.tokens) where
  named_tokens : (tokens : List ℕ) → All (IsNumberOf file.grammar.tokens) tokens → AreNamedTokens file tokens
  named_tokens tokens are = subst (λ (n : ℕ). All (IsNumberOf n) tokens) (sym names) are

  named_rendering : (s : Scanning) (lexemes : List (Option (List ℕ))) (separator : List ℕ) (way : Way) (rule : ℕ) (spelling tokens : List ℕ) → AreNamedTokens file tokens → (r : Rendering) → IsRenderedWith s lexemes separator way rule spelling tokens r → IsNamedRendering file r
  named_rendering s lexemes separator way rule spelling tokens are (Text text) h = tt
  named_rendering s lexemes separator way rule spelling tokens are (NoLexeme token) h =
      let here : Contains (token ∷ h.behind) token = Contains-append_left (token ∷ []) h.behind token (Contains-push [] token) in
      All-contains (IsNamedToken file) (h.front ++ token ∷ h.behind) token (subst (All (IsNamedToken file)) h.list are) (Contains-append_right h.front (token ∷ h.behind) token here)
  named_rendering s lexemes separator way rule spelling tokens are (Differs after) h = tt

  named_way : (wanted : Option ℕ) (rule : Production) → All (IsSymbol file.grammar.tokens file.grammar.nonterminals) rule.right → IsWanted wanted rule → (tokens : List ℕ) (way : Way) → IsWayOf wanted tokens way → IsNamedWay file way
  named_way None rule symbols has tokens way h = subst (IsNamedWay file) (sym h) tt
  named_way (Some t) rule symbols has tokens way h =
      let number = All-contains (IsSymbol file.grammar.tokens file.grammar.nonterminals) rule.right (Token t) symbols has in
      subst (IsNamedWay file) (sym h.1) (subst (λ (n : ℕ). IsNumberOf n t) (sym names) number)

module _ (m : Making) (well : IsGrammar m.file.grammar) (names : length m.file.token_names ≡ m.file.grammar.tokens) (few : AreFewTokens m.file.grammar.tokens m.judged) where
  named_showing : (wanted : Option ℕ) (rule : ℕ) (spelling : List ℕ) (s : spec.Showing) → IsShowing m wanted rule spelling s → IsNamedShowing m.file s
  named_showing wanted rule spelling s h =
      let chosen = h.chosen.is.0 in
      let all = few h.place (record { verdict = Feasible s.size s.derivation; tokens = s.tokens }) chosen.at in
      let tokens = named_tokens m.file names s.tokens all.0 in
      let symbols = (All-at (IsRuleOf m.file.grammar.tokens m.file.grammar.nonterminals) m.file.grammar.rules h.place chosen.rule well.rules chosen.at_rule).right in
      record {
        way = named_way m.file names wanted chosen.rule symbols chosen.is_wanted s.tokens s.way h.way;
        tokens = tokens;
        rendering = named_rendering m.file names m.scanning m.lexemes m.separator s.way rule spelling s.tokens tokens s.rendering h.text;
      }

  named_of : (wanted : Option ℕ) (rule : ℕ) (spelling : List ℕ) (told : spec.Told) → IsToldOf m wanted rule spelling told → IsNamedTold m.file told
  named_of wanted rule spelling spec.Shadowed h = tt
  named_of wanted rule spelling spec.Foreign h = tt
  named_of wanted rule spelling spec.Literal h = tt
  named_of wanted rule spelling spec.Infeasible h = tt
  named_of wanted rule spelling spec.Large h = tt
  named_of wanted rule spelling (spec.Shown s) h = named_showing wanted rule spelling s h

  named_by : (kind : Kind) (rule : ℕ) (spelling : List ℕ) (told : spec.Told) → IsToldBy m kind rule spelling told → IsNamedTold m.file told
  named_by kinds.Foreign rule spelling told h = subst (IsNamedTold m.file) (sym h) tt
  named_by kinds.OwnByte rule spelling told h = subst (IsNamedTold m.file) (sym h) tt
  named_by (kinds.Token token) rule spelling told h = named_of (Some token) rule spelling told h
  named_by kinds.Skip rule spelling told h = named_of None rule spelling told h

  named_if : (kind : Kind) (rule : ℕ) (spelling : Option (List ℕ)) (told : spec.Told) → IsToldIf m kind rule spelling told → IsNamedTold m.file told
  named_if kind rule None told h = subst (IsNamedTold m.file) (sym h) tt
  named_if kind rule (Some spelling) told h = named_by kind rule spelling told h

  named_told : (k : ℕ) (kind : Kind) (told : spec.Told) → IsTold m (suc k) kind told → IsNamedTold m.file told
  named_told k kind told h = named_if kind (suc k) h.spelling told h.is

  mapped_at : (told : List Told) (i : ℕ) (d : Told) → i < length told → slice_get (all_told told) i ≡ Some (told_of (get_or told i d))
  mapped_at [] i d less = absurd (omega (arith, less))
  mapped_at (x ∷ told) zero d less = refl
  mapped_at (x ∷ told) (suc i) d less = mapped_at told i d (omega (arith, less))

  pub named_all : (told : List Told) → AreTold m (all_told told) → All (λ (one : Told). IsNamedTold m.file (told_of one)) told
  named_all told h i d less =
      let its = get_or m.scanning.kinds i kinds.Skip in
      let kind = slice_get-get_or m.scanning.kinds i kinds.Skip (omega (arith, less, h.all, length-map told told_of)) in
      named_told i its (told_of (get_or told i d)) (h.each i its (told_of (get_or told i d)) kind (mapped_at told i d less))
