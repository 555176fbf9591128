-- What is told of each rule.
use Rattle.std.proofs.Common.{◌≡◌, ℕ, suc, ◌+◌, ◌<◌, ◌≤◌, true, List, [], ◌∷◌, ◌++◌, Option, None, Some, inl, inr, refl, sym, ap, ◌∙◌, subst, arith, length, get_or}
use Rattle.std.specs.Prelude.{slice_get}
use Rattle.std.proofs.lemmas.List.{length-map, map-append}
use Rattle.cs_lexical.specs.Least.{LeastTexts, rules_of, win_in}
use Rattle.cs_lexical.specs.Winning.{IsLeastIfAny, Wins}
use Rattle.cs_manifest.specs.Manifest.Lines.{is_feasible}
use Rattle.cs_pattern_parts.specs.declared.kind.Kind.{Kind}
use Rattle.cs_scanner.specs.Automaton.Machine.{patterns_of}
use Rattle.cs_scanner.specs.Scan.Compared.{scanning}
use Rattle.cs_scanner.proofs.OnLexeme.Lists.{at_pushed}
use Rattle.cs_spell.specs.Telling.Chosen.{IsChosen, RuleVerdict}
use Rattle.cs_spell.specs.Telling.Seen.{all_told, making_of, told_of}
use Rattle.cs_spell.specs.Telling.Spelling.{IsTold, IsToldOf}
use Rattle.cs_spell.specs.Telling.Telling.{AreTextsFor, IsChoiceOf, Tells, TellsBy}
use Rattle.cs_spell.specs.Texts.Texts.{IsRenderedWith, IsWayOf}
use Rattle.cs_spell.specs.Telling.Told as spec
use Rattle.cs_spell.specs.declared.telling.telling.Tools.{Tools}
use Rattle.cs_spell.specs.declared.telling.told.Told.{Told}
use Rattle.cs_spell.specs.declared.telling.told.Told.TheVariants as told
use Rattle.cs_spell.specs.declared.texts.way.Way.{Way}
use Rattle.cs_spell.proofs.OnTelling.Choosing.{at_index}
use Rattle.cs_texts.specs.Rendering.Rendering.{Rendering}
use Rattle.cs_verdicts.specs.declared.positive.verdict.Verdict.{Verdict}
use Rattle.cs_verdicts.specs.declared.positive.verdict.Verdict.TheVariants.{Feasible, Infeasible, Large}

-- ---- a rule that was chosen

pub feasible_is : (v : Verdict) → is_feasible v ≡ true → (n : ℕ) × (d : List ℕ) × (v ≡ Feasible n d)
feasible_is (Feasible n d) e = (n, d, refl)
feasible_is Infeasible e = absurd cc
feasible_is Large e = absurd cc

module _ (t : Tools) (wanted : Option ℕ) (place : ℕ) (chosen : IsChoiceOf t wanted place) (x : RuleVerdict) (is : x ≡ get_or t.judged.now place x) where
  pub shown_of : (rule number size : ℕ) (spelling derivation tokens : List ℕ) (way : Way) (r : Rendering) → x.verdict ≡ Feasible size derivation → tokens ≡ x.tokens → number ≡ place + 1 → IsWayOf wanted tokens way
      → IsRenderedWith (scanning t.work.now.scanner.now) t.work.now.lexemes.now t.work.now.separator.now way rule spelling tokens r
      → IsToldOf (making_of t) wanted rule spelling (spec.Shown (record { way = way; rule = number; size = size; derivation = derivation; tokens = tokens; rendering = r }))
  shown_of rule number size spelling derivation tokens way r verdict same is_number stands text =
      let e = at_index t.judged.now place x chosen.0 is in
      let eta : x ≡ record { verdict = Feasible size derivation; tokens = tokens } =
      ap (λ (v : Verdict). record { verdict = v; tokens = x.tokens }) verdict ∙ ap (λ (ts : List ℕ). record { verdict = Feasible size derivation; tokens = ts }) (sym same)
      in
      record {
        place = place;
        number = omega (arith, is_number);
        chosen = subst (λ (j : RuleVerdict). IsChosen t.file.now.grammar t.judged.now wanted place j) (e ∙ eta) chosen.1;
        way = stands;
        text = text;
      }

-- ---- what a rule wins

module _ (t : Tools) (lexical : LeastTexts) (least : AreTextsFor t lexical) (rule : ℕ) (first : 0 < rule) (last : rule ≤ rules_of lexical) where
  least_at : IsLeastIfAny (Wins (patterns_of t.work.now.scanner.now.automaton.now) rule) (win_in lexical rule)
  least_at = let all = least.rules in least.wins rule (first, omega (arith, last, all))

  pub tells_some : (kind : Kind) (spelling : List ℕ) (x : Told) → Some spelling ≡ win_in lexical rule → TellsBy t kind rule spelling x → Tells t rule kind x
  tells_some kind spelling x e h = record { spelling = Some spelling; least = subst (IsLeastIfAny (Wins (patterns_of t.work.now.scanner.now.automaton.now) rule)) (sym e) least_at; is = h }

  pub tells_none : (kind : Kind) → None ≡ win_in lexical rule → Tells t rule kind told.Shadowed
  tells_none kind e = record { spelling = None; least = subst (IsLeastIfAny (Wins (patterns_of t.work.now.scanner.now.automaton.now) rule)) (sym e) least_at; is = refl }

-- ---- one rule more

module _ (t : Tools) where
  abbrev AreEach : List Told → Type 0
  AreEach list = (k : ℕ) (kind : Kind) (y : spec.Told) → slice_get t.work.now.scanner.now.kinds.now k ≡ Some kind → slice_get (all_told list) k ≡ Some y → IsTold (making_of t) (suc k) kind y

  pub tell_more : (list : List Told) (x : Told) (kind : Kind) (place number : ℕ) → length list ≡ place → slice_get t.work.now.scanner.now.kinds.now place ≡ Some kind → number ≡ place + 1 → Tells t number kind x → AreEach list → AreEach (list ++ x ∷ [])
  tell_more list x kind place number all at is_number tells each k other y here there =
      let moved : slice_get (all_told list ++ told_of x ∷ []) k ≡ Some y = subst (λ (l : List spec.Told). slice_get l k ≡ Some y) (map-append told_of list (x ∷ [])) there in
      elim (at_pushed (all_told list) (told_of x) y k moved) [
        | inl old ↦ each k other y here old
        | inr new ↦
            let e : k ≡ place = omega (arith, new.0, length-map list told_of, all) in
            let at_k : slice_get t.work.now.scanner.now.kinds.now k ≡ Some kind = subst (λ (n : ℕ). slice_get t.work.now.scanner.now.kinds.now n ≡ Some kind) (sym e) at in
            let same : kind ≡ other = cc in
            let last : number ≡ suc k = omega (arith, is_number, e) in
            subst (IsTold (making_of t) (suc k) other) (sym new.1) (subst (λ (q : Kind). IsTold (making_of t) (suc k) q (told_of x)) same (subst (λ (n : ℕ). IsTold (making_of t) n kind (told_of x)) last tells))
      ]
