-- No file is without a text of spellings.
use Rattle.std.proofs.Common.{◌≡◌, ℕ, zero, suc, ◌+◌, ◌<◌, List, [], ◌∷◌, length, Option, None, Some, refl, ap, subst, arith, get_or, inl, inr}
use Rattle.std.specs.Prelude.{slice_get}
use Rattle.std.proofs.lemmas.Option.{slice_get-get_or}
use Rattle.cs_choices.specs.declared.weigh.Weigh.{Weigh}
use Rattle.cs_goals.specs.Goal.{IsGoal}
use Rattle.cs_goals.specs.declared.goal.Goal.TheVariants.{Rule}
use Rattle.cs_grammar.specs.Grammar.{PlainGrammar}
use Rattle.cs_grammar.specs.Leftmost.{IsYield}
use Rattle.cs_grammar.specs.Tree.{yield}
use Rattle.cs_grammar.specs.Weights.{Weighed}
use Rattle.cs_io.specs.Asked.{IsNotWithout}
use Rattle.cs_lexical.specs.Winning.{Wins}
use Rattle.cs_lexical.proofs.LawProofs.{some_entry}
use Rattle.cs_manifest.specs.Manifest.Manifest.{Texts}
use Rattle.cs_manifest.proofs.OnManifest.SomeManifest.{some_verdict}
use Rattle.cs_pattern_parts.specs.declared.kind.Kind.{Kind}
use Rattle.cs_pattern_parts.specs.declared.kind.Kind.TheVariants as kinds
use Rattle.cs_scanner.specs.Scan.Scan.{Scanning, in_common}
use Rattle.cs_scanner.proofs.OnLexeme.LawProofs as lexeme_laws
use Rattle.cs_scanner.proofs.OnScan.OneMatch.{runs_one}
use Rattle.cs_scanner.proofs.OnScan.SomeScan.{runs_some}
use Rattle.cs_spell.specs.Telling.Chosen.{AreRuleVerdicts, IsChosen, IsRuleVerdict, RuleVerdict}
use Rattle.cs_spell.specs.Telling.Choosing.{IsBestBelow, IsCandidateAt, IsChoice, verdict_at}
use Rattle.cs_spell.specs.Telling.Lines.{spell_text}
use Rattle.cs_spell.specs.Telling.Spelling.{AreTold, IsSpelling, IsTold, IsToldBy, IsToldIf, IsToldOf, Making, making_with, weighed_by}
use Rattle.cs_spell.specs.Texts.Texts.{IsFirstPlace, IsRenderedWith, IsSpelledText, IsWayOf, spelled}
use Rattle.cs_spell.specs.Telling.Told.{Told, Shadowed, Foreign, Literal, Infeasible, Large, Shown}
use Rattle.cs_spell.specs.declared.texts.way.Way.{Way}
use Rattle.cs_spell.specs.declared.texts.way.Way.TheVariants.{Gives, Skips}
use Rattle.cs_spell.proofs.OnTelling.Choosing.{best_all, best_first, best_new, best_none, best_old, best_skip}
use Rattle.cs_spell.proofs.OnTelling.Judging.{goal_at}
use Rattle.cs_spell.proofs.OnTelling.Showing.{feasible_is}
use Rattle.cs_texts.specs.Rendering.Rendering.{Text, NoLexeme, Differs}
use Rattle.cs_texts.proofs.OnRendering.SomeRendering.{all_or_first}
use Rattle.cs_verdicts.specs.declared.positive.verdict.Verdict.{Verdict}
use Rattle.cs_verdicts.specs.declared.positive.verdict.Verdict.TheVariants as verdicts
use Rattle.cs_verdicts.specs.Positive.Verdict.{IsVerdict}
use Rattle.cs_verdicts.proofs.OnPositive.Verdicts.{chosen_met}
use Rattle.cs_yacc.specs.Reading.File.{File}

-- ---- lists of so many entries, each of a kind by its place

record HasEach {A : Type 0} (n : ℕ) (R : ℕ → A → Type 0) (list : List A) : Type 0 where
  pub all : length list ≡ n
  pub each : (k : ℕ) (x : A) → slice_get list k ≡ Some x → R k x

one_more : {A : Type 0} (R : ℕ → A → Type 0) (y : A) (list : List A) → R 0 y → ((k : ℕ) (x : A) → slice_get list k ≡ Some x → R (suc k) x) → (k : ℕ) (x : A) → slice_get (y ∷ list) k ≡ Some x → R k x
one_more R y list is each zero x at = let e : y ≡ x = cc in subst (R 0) e is
one_more R y list is each (suc k) x at = each k x at

-- where no place is without an entry, no list is without all of them
some_list : {A : Type 0} (n : ℕ) (R : ℕ → A → Type 0) → ((k : ℕ) → k < n → IsNotWithout (R k)) → IsNotWithout (HasEach n R)
some_list zero R each none = none [] (record { all = refl; each = λ k x at. absurd cc })
some_list {A} (suc n) R each none =
    each 0 (omega arith)
    (λ (y : A) is. some_list n (λ k. R (suc k)) (λ k less. each (suc k) (omega (arith, less)))
    (λ (list : List A) are. none (y ∷ list) (record { all = omega (arith, are.all); each = one_more R y list is are.each })))

-- ---- verdicts

module _ (v : Weighed) where
  some_rule_verdict : (rule : ℕ) → IsGoal v.grammar (Rule rule) → IsNotWithout (IsRuleVerdict v rule)
  some_rule_verdict rule is none = some_verdict v (Rule rule) is with_tokens
    where
      with_tokens : (verdict : Verdict) → IsVerdict v.weights v.grammar (Rule rule) verdict → ⊥
      with_tokens verdicts.Infeasible h = none (record { verdict = verdicts.Infeasible; tokens = [] }) (record { verdict = h; tokens = refl })
      with_tokens verdicts.Large h = none (record { verdict = verdicts.Large; tokens = [] }) (record { verdict = h; tokens = refl })
      with_tokens (verdicts.Feasible n derivation) h =
          let t = h.2.0 in
          let met = chosen_met v.weights v.grammar (Rule rule) t h.2.1 in
          let yields : IsYield v.grammar derivation (yield t) = record { tree = t; is_tree = met.0; code = h.2.2; yield = refl } in
          none (record { verdict = verdicts.Feasible n derivation; tokens = yield t }) (record { verdict = h; tokens = yields })

  some_judged : IsNotWithout (AreRuleVerdicts v)
  some_judged none =
      some_list (length v.grammar.rules) (λ k. IsRuleVerdict v (suc k)) (λ k less. some_rule_verdict (suc k) (goal_at v.grammar k (suc k) less (omega arith)))
      (λ judged are. none judged (record { all = are.all; each = are.each }))

-- ---- the chosen rule

module _ (g : PlainGrammar) (judged : List RuleVerdict) (wanted : Option ℕ) where
  some_best : (limit : ℕ) → IsNotWithout (IsBestBelow g judged wanted limit)
  some_best zero none = none None (best_none g judged wanted)
  some_best (suc limit) none = some_best limit (λ best so_far. next best so_far (λ is. with_candidate best so_far is))
    where
      e : limit + 1 ≡ suc limit
      e = omega arith

      none_after : (best : Option ℕ) → IsBestBelow g judged wanted (limit + 1) best → ⊥
      none_after best is = none best (subst (λ (n : ℕ). IsBestBelow g judged wanted n best) e is)

      next : (best : Option ℕ) → IsBestBelow g judged wanted limit best → (IsCandidateAt g judged wanted limit → ⊥) → ⊥
      next best so_far lacks = none_after best (best_skip g judged wanted limit best so_far lacks)

      with_candidate : (best : Option ℕ) → IsBestBelow g judged wanted limit best → IsCandidateAt g judged wanted limit → ⊥
      with_candidate None so_far is = none_after (Some limit) (best_first g judged wanted limit so_far is)
      with_candidate (Some k) so_far is =
          none_after (Some k) (best_old g judged wanted limit k so_far (λ better. none_after (Some limit) (best_new g judged wanted limit k so_far is better)))

  some_choice : IsNotWithout (IsChoice g judged wanted)
  some_choice none = some_best (length judged) (λ best is. none best (best_all g judged wanted (length judged) best (omega arith) (omega arith) is))

-- ---- how the spelling stands

some_place : (tokens : List ℕ) (t : ℕ) → IsNotWithout (IsFirstPlace tokens t)
some_place [] t none = none 0 (record { within = omega arith; at = λ less. absurd (omega (arith, less)); first = λ k less at. absurd (omega (arith, less)) })
some_place (x ∷ tokens) t none = some_place tokens t (λ place is. none (suc place) (record {
  within = omega (arith, is.within);
  at = λ less. is.at (omega (arith, less));
  first = λ k less at. others place is.first k less at;
}))
  where
    not_first : x ≡ t → ⊥
    not_first e = none 0 (record { within = omega arith; at = λ less. ap Some e; first = λ k less at. absurd (omega (arith, less)) })

    others : (place : ℕ) → ((k : ℕ) → k < place → slice_get tokens k ≡ Some t → ⊥) → (k : ℕ) → k < suc place → slice_get (x ∷ tokens) k ≡ Some t → ⊥
    others place first zero less at = not_first (cc)
    others place first (suc k) less at = first k (omega (arith, less)) at

some_way : (wanted : Option ℕ) (tokens : List ℕ) → IsNotWithout (IsWayOf wanted tokens)
some_way None tokens none = none Skips refl
some_way (Some t) tokens none = some_place tokens t (λ place is. none (Gives t place) (place, refl, is))

-- ---- texts

module _ (s : Scanning) (lexemes : List (Option (List ℕ))) (separator : List ℕ) (way : Way) (rule : ℕ) (spelling tokens : List ℕ) where
  by_text : (text : List ℕ) → IsSpelledText lexemes separator way spelling tokens text → IsNotWithout (IsRenderedWith s lexemes separator way rule spelling tokens)
  by_text text is none = runs_some s text (λ given whole runs.
      none (Differs (in_common tokens given)) (
        text,
        is,
        (λ shows. none (Text text) (is, shows)),
        (λ other covers also. ap (in_common tokens) (runs_one s runs other covers also).0),
      ))

  some_rendered : IsNotWithout (IsRenderedWith s lexemes separator way rule spelling tokens)
  some_rendered none = elim (all_or_first lexemes tokens) [
    | inl all ↦ by_text (spelled way separator spelling all.0) (record { texts = all.0; each = all.1; is = refl }) none
    | inr first ↦ none (NoLexeme first.0) first.1
  ]

-- ---- what is told

module _ (m : Making) where
  some_told_of : (wanted : Option ℕ) (rule : ℕ) (spelling : List ℕ) → IsNotWithout (IsToldOf m wanted rule spelling)
  some_told_of wanted rule spelling none = some_choice m.file.grammar m.judged wanted by_choice
    where
      shown : (place : ℕ) (j : RuleVerdict) → IsChosen m.file.grammar m.judged wanted place j → ⊥
      shown place j chosen =
          let f = feasible_is j.verdict chosen.is.1 in
          let e : j ≡ record { verdict = verdicts.Feasible f.0 f.1; tokens = j.tokens } = ap (λ (v : Verdict). record { verdict = v; tokens = j.tokens }) f.2 in
          some_way wanted j.tokens
          (λ way stands. some_rendered m.scanning m.lexemes m.separator way rule spelling j.tokens
          (λ r is. none (Shown (record { way = way; rule = suc place; size = f.0; derivation = f.1; tokens = j.tokens; rendering = r })) (record {
            place = place;
            number = refl;
            chosen = subst (λ (k : RuleVerdict). IsChosen m.file.grammar m.judged wanted place k) e chosen;
            way = stands;
            text = is;
          })))

      by_choice : (choice : Option ℕ) → IsChoice m.file.grammar m.judged wanted choice → ⊥
      by_choice None lacks = none Infeasible (lacks, (λ large. none Large (lacks, large)))
      by_choice (Some place) chosen = shown place (verdict_at m.judged place) chosen.1

  some_told_by : (kind : Kind) (rule : ℕ) (spelling : List ℕ) → IsNotWithout (IsToldBy m kind rule spelling)
  some_told_by kinds.Foreign rule spelling none = none Foreign refl
  some_told_by kinds.OwnByte rule spelling none = none Literal refl
  some_told_by (kinds.Token token) rule spelling none = some_told_of (Some token) rule spelling none
  some_told_by kinds.Skip rule spelling none = some_told_of None rule spelling none

  some_told_if : (kind : Kind) (rule : ℕ) (spelling : Option (List ℕ)) → IsNotWithout (IsToldIf m kind rule spelling)
  some_told_if kind rule None none = none Shadowed refl
  some_told_if kind rule (Some spelling) none = some_told_by kind rule spelling none

  some_told : (rule : ℕ) (kind : Kind) → IsNotWithout (IsTold m rule kind)
  some_told rule kind none =
      some_entry (Wins m.scanning.patterns rule)
      (λ spelling least. some_told_if kind rule spelling (λ told is. none told (record { spelling = spelling; least = least; is = is })))

  some_all : IsNotWithout (AreTold m)
  some_all none =
      some_list (length m.scanning.kinds) (λ k (t : Told). (kind : Kind) → slice_get m.scanning.kinds k ≡ Some kind → IsTold m (suc k) kind t) one_at
      (λ told are. none told (record { all = are.all; each = λ k kind t here there. are.each k t there kind here }))
    where
      one_at : (k : ℕ) → k < length m.scanning.kinds → IsNotWithout (λ (t : Told). (kind : Kind) → slice_get m.scanning.kinds k ≡ Some kind → IsTold m (suc k) kind t)
      one_at k less lacks =
          let its = get_or m.scanning.kinds k kinds.Skip in
          let at = slice_get-get_or m.scanning.kinds k kinds.Skip less in
          some_told (suc k) its (λ t is. lacks t (λ kind here. let e : its ≡ kind = cc in subst (λ (x : Kind). IsTold m (suc k) x t) e is))

pub some_spelling_by : (file : File) (texts : Texts) (weigh : Weigh) → IsNotWithout (IsSpelling file texts weigh)
some_spelling_by file texts weigh none =
    lexeme_laws.some_list texts.scanning file.grammar.tokens
    (λ lexemes are_lexemes. some_judged (weighed_by weigh file lexemes)
    (λ judged are_judged. some_all (making_with file texts lexemes judged)
    (λ told are_told. none (spell_text file told) (record {
      lexemes = lexemes;
      judged = judged;
      told = told;
      are_lexemes = are_lexemes;
      are_judged = are_judged;
      are_told = are_told;
      lines = refl;
    }))))
