-- Each base is the sentence of a feasible goal, whose case yields it.
use Rattle.std.proofs.Common.{◌≡◌, ℕ, zero, suc, ◌+◌, ◌-◌, Bool, true, false, List, [], ◌∷◌, ◌++◌, Option, Some, map, take, not, refl, sym, ap, ◌∙◌, subst, append_assoc, append-nil, arith}
use Rattle.std.specs.Prelude.{slice_get, cond, option_map, bytes_eq}
use Rattle.std.specs.List.{AllByRecursion, AllZip, filter, enumerate_from}
use Rattle.std.proofs.lemmas.Option.{slice_get-map, same_Some}
use Rattle.cs_grammar.specs.Leftmost.{IsYield}
use Rattle.cs_goals.specs.declared.goal.Goal.{Goal}
use Rattle.cs_mutate.specs.declared.negative.Negative.{Negative}
use Rattle.cs_verdicts.specs.declared.positive.verdict.Verdict.{Verdict}
use Rattle.cs_verdicts.specs.declared.positive.verdict.Verdict.TheVariants as verdict
use Rattle.cs_verdicts.specs.declared.cases.cases.Named.{Named}
use Rattle.cs_verdicts.specs.Positive.Verdict.{IsVerdict}
use Rattle.cs_verdicts.specs.Cases.Cases.{PlainCases, no_cases}
use Rattle.cs_manifest.specs.declared.manifest.verdict.SharedVerdict.{SharedVerdict}
use Rattle.cs_manifest.specs.declared.manifest.verdict.SharedVerdict.TheVariants as shared
use Rattle.cs_manifest.specs.Manifest.Lines as put
use Rattle.cs_manifest.specs.Manifest.Manifest.{AreNegativesOf, AreShared, AreTokensOf, BaseEntry, BasesOf, GoalEntry, IsSharedVerdict, LexemeList, SharedEntry, Texts, bases, distinct, most_bases, negatives_of, yields}
use Rattle.cs_manifest.proofs.OnManifest.Rendered.{few_tokens}
use Rattle.cs_lines.specs.Lines.Line.{Feasible}
use Rattle.cs_check.specs.Passing.Entries.{IsNumbered as IsEntry}
use Rattle.cs_accord.specs.Suite.{verdict_of}
use Rattle.cs_accord.proofs.OnSuite.Entries.{fresh_codes, same_codes, own_numbered}
use Rattle.cs_accord.proofs.OnSuite.Measures.{is_measure}
use Rattle.cs_accord.proofs.OnSuite.Negatives.{IsBaseGoal, IsKnownBase}
use Rattle.cs_accord.proofs.OnSuite.Setting.{Setting, Body, IsBody, IsKnownEntry, measure, words_told}
use Rattle.cs_accord.proofs.OnSuite.Telling.{still_numbered}

-- ---- cases that come later leave those before them

abbrev Grows : PlainCases → PlainCases → Type 0
Grows old new = (more : List (List ℕ)) × (new.codes ≡ old.codes ++ more)

grows : (old new : PlainCases) (goal : Goal) (v : Verdict) (sv : SharedVerdict) → IsSharedVerdict old goal v new sv → Grows old new
grows old new goal (verdict.Feasible m derivation) sv h = at h.0.fresh refl
  where
    at : (so : Bool) → h.0.fresh ≡ so → Grows old new
    at true is = (derivation ∷ [], fresh_codes h.2 is)
    at false is = ([], same_codes h.2 is ∙ sym (append-nil old.codes))
grows old new goal verdict.Infeasible sv h = ([], ap (λ (c : PlainCases). c.codes) h.1 ∙ sym (append-nil old.codes))
grows old new goal verdict.Large sv h = ([], ap (λ (c : PlainCases). c.codes) h.1 ∙ sym (append-nil old.codes))

-- a feasible entry names the case of its derivation
abbrev IsCased : List (List ℕ) → GoalEntry → SharedEntry → Type 0
IsCased codes e s =
    (m : ℕ) (derivation : List ℕ) → e.verdict ≡ verdict.Feasible m derivation
    → (name : Named) × (s.verdict ≡ shared.Feasible m name) × IsEntry codes name.case derivation

cased : (old new : PlainCases) (goal : Goal) (v : Verdict) (sv : SharedVerdict) → IsSharedVerdict old goal v new sv → (m : ℕ) (derivation : List ℕ) → v ≡ verdict.Feasible m derivation
    → (name : Named) × (sv ≡ shared.Feasible m name) × IsEntry new.codes name.case derivation
cased old new goal v sv h m derivation is =
    let here = subst (λ (x : Verdict). IsSharedVerdict old goal x new sv) is h in
    (here.0, here.1, own_numbered here.2)

record AreCased (old new : PlainCases) (entries : List GoalEntry) (list : List SharedEntry) : Type 0 where
  grown : Grows old new
  each : AllZip (IsCased new.codes) entries list

all_cased : (texts : Option Texts) (lexemes : Option LexemeList) (old : PlainCases) (entries : List GoalEntry) (new : PlainCases) (list : List SharedEntry) → AreShared texts lexemes old entries new list → AreCased old new entries list
all_cased texts lexemes old [] new list h = record {
  grown = ([], ap (λ (c : PlainCases). c.codes) h.1 ∙ sym (append-nil old.codes));
  each = subst (λ (l : List SharedEntry). AllZip (IsCased new.codes) [] l) (sym h.0) tt;
}
all_cased texts lexemes old (e ∷ entries) new list h =
    let mid = h.0 in
    let s = h.1 in
    let first = grows old mid e.goal e.verdict s.verdict h.4.verdict in
    let rest = all_cased texts lexemes mid entries new h.2 h.5 in
    let here : IsCased new.codes e s = λ m derivation is.
    let own = cased old mid e.goal e.verdict s.verdict h.4.verdict m derivation is in
    (own.0, own.1, subst (λ (c : List (List ℕ)). IsEntry c own.0.case derivation) (sym rest.grown.1) (still_numbered mid.codes rest.grown.0 own.0.case derivation own.2)) in
    record {
      grown = (first.0 ++ rest.grown.0, rest.grown.1 ∙ ap (λ (c : List (List ℕ)). c ++ rest.grown.0) first.1 ∙ append_assoc old.codes first.0 rest.grown.0);
      each = subst (λ (l : List SharedEntry). AllZip (IsCased new.codes) (e ∷ entries) l) (sym h.3) (here, rest.each);
    }

-- ---- entries by number

zip_get : {A B : Type 0} (R : A → B → Type 0) (xs : List A) (ys : List B) (k : ℕ) (x : A) → AllZip R xs ys → slice_get xs k ≡ Some x → (y : B) × (slice_get ys k ≡ Some y) × R x y
zip_get R [] ys k x zip at = absurd cc
zip_get R (a ∷ xs) [] k x zip at = absurd zip
zip_get R (a ∷ xs) (y ∷ ys) zero x zip at = (y, refl, subst (λ z. R z y) (same_Some a x at) zip.0)
zip_get R (a ∷ xs) (y ∷ ys) (suc k) x zip at = zip_get R xs ys k x zip.1 at

all_get : {A : Type 0} (P : A → Type 0) (xs : List A) (k : ℕ) (x : A) → AllByRecursion P xs → slice_get xs k ≡ Some x → P x
all_get P [] k x all at = absurd cc
all_get P (y ∷ xs) zero x all at = subst P (same_Some y x at) all.0
all_get P (y ∷ xs) (suc k) x all at = all_get P xs k x all.1 at

feasible_is : (v : Verdict) → put.is_feasible v ≡ true → (m : ℕ) × (derivation : List ℕ) × (v ≡ verdict.Feasible m derivation)
feasible_is (verdict.Feasible m derivation) e = (m, derivation, refl)
feasible_is verdict.Infeasible e = absurd cc
feasible_is verdict.Large e = absurd cc

-- ---- the lists by which bases are chosen

module _ {A : Type 0} (P : A → Type 0) where
  all_filter : (test : A → Bool) (xs : List A) → AllByRecursion P xs → AllByRecursion P (filter test xs)
  all_filter test [] all = tt
  all_filter test (x ∷ xs) all = at (test x) (all_filter test xs all.1)
    where
      at : (b : Bool) → AllByRecursion P (filter test xs) → AllByRecursion P (cond b (x ∷ filter test xs) (filter test xs))
      at true rest = (all.0, rest)
      at false rest = rest

  all_take : (n : ℕ) (xs : List A) → AllByRecursion P xs → AllByRecursion P (take n xs)
  all_take zero xs all = tt
  all_take (suc n) [] all = tt
  all_take (suc n) (x ∷ xs) all = (all.0, all_take n xs all.1)

all_distinct : (P : ℕ × List ℕ → Type 0) (xs : List (ℕ × List ℕ)) → AllByRecursion P xs → AllByRecursion P (distinct xs)
all_distinct P [] all = tt
all_distinct P (x ∷ xs) all = (all.0, all_filter P (λ y. not (bytes_eq y.1 x.1)) (distinct xs) (all_distinct P xs all.1))

module _ {A : Type 0} (Q : ℕ × A → Type 0) where
  all_enumerated : (n : ℕ) (xs : List A) → ((i : ℕ) (x : A) → slice_get xs i ≡ Some x → Q (n + i, x)) → AllByRecursion Q (enumerate_from n xs)
  all_enumerated n [] each = tt
  all_enumerated n (x ∷ xs) each =
      let here : n + 0 ≡ n = omega arith in (
        subst (λ k. Q (k, x)) here (each 0 x refl),
        all_enumerated (n + 1) xs (λ i y at. let next : n + suc i ≡ n + 1 + i = omega arith in subst (λ k. Q (k, y)) next (each (suc i) y at)),
      )

module _ {A B : Type 0} (P : B → Type 0) (Q : A → Type 0) (f : A → B) (test : A → Bool) (each : (x : A) → Q x → test x ≡ true → P (f x)) where
  all_chosen : (xs : List A) → AllByRecursion Q xs → AllByRecursion P (map f (filter test xs))
  all_chosen [] all = tt
  all_chosen (x ∷ xs) all = at (test x) refl (all_chosen xs all.1)
    where
      at : (b : Bool) → test x ≡ b → AllByRecursion P (map f (filter test xs)) → AllByRecursion P (map f (cond b (x ∷ filter test xs) (filter test xs)))
      at true is rest = (each x all.0 is, rest)
      at false is rest = rest

module _ (s : Setting) (b : Body) (body : IsBody s b) where
  abbrev IsGoalOf : ℕ × List ℕ → Type 0
  IsGoalOf x = IsBaseGoal s.file.grammar (words_told b.list) b.cases.codes x.0 x.1

  base_at : (i : ℕ) (e : GoalEntry) → slice_get b.entries i ≡ Some e → put.is_feasible e.verdict ≡ true → IsGoalOf (1 + i, e.tokens)
  base_at i e at feasible =
      let v = feasible_is e.verdict feasible in
      let each = (all_cased (Some s.texts) (Some s.lexemes) (no_cases s.file.grammar) b.entries b.cases b.list body.shared).each in
      let partner = zip_get (IsCased b.cases.codes) b.entries b.list i e each at in
      let name = partner.2 v.0 v.1 v.2 in
      let known = all_get (IsKnownEntry s) b.entries i e body.known at in
      let back : i ≡ 1 + i - 1 = omega arith in
      let yield_is : IsYield s.file.grammar v.1 e.tokens = subst (λ (x : Verdict). AreTokensOf s.file.grammar x e.tokens) v.2 known.tokens in
      record {
        size = v.0;
        case = name.0.case;
        first = name.0.first;
        rules = v.1;
        verdict = (
          omega arith,
          subst (λ k. slice_get (words_told b.list) k ≡ Some (Feasible v.0 name.0.case name.0.first)) back
              (slice_get-map (λ (x : SharedEntry). verdict_of x.verdict) b.list i ∙ ap (option_map (λ (x : SharedEntry). verdict_of x.verdict)) partner.1 ∙ ap (λ (x : SharedVerdict). Some (verdict_of x)) name.1),
        );
        derived = name.2;
        yields = yield_is;
        short =
            few_tokens (measure s) (is_measure s.choice.weigh s.file.grammar.tokens s.lexemes) s.file.grammar e.goal v.0 v.1 e.tokens
            (subst (λ (x : Verdict). IsVerdict (measure s) s.file.grammar e.goal x) v.2 known.verdict) yield_is;
      }

  goals_known : AllByRecursion IsGoalOf (bases (most_bases s.choice) b.entries)
  goals_known =
      let Q = λ (p : ℕ × GoalEntry). put.is_feasible p.1.verdict ≡ true → IsGoalOf (p.0, p.1.tokens) in
      all_take IsGoalOf (most_bases s.choice) (distinct (yields b.entries))
      (all_distinct IsGoalOf (yields b.entries)
      (all_chosen IsGoalOf Q (λ (p : ℕ × GoalEntry). (p.0, p.1.tokens)) (λ (p : ℕ × GoalEntry). put.is_feasible p.1.verdict) (λ p known is. known is) (enumerate_from 1 b.entries)
      (all_enumerated Q 1 b.entries base_at)))

  bases_from : (before : List Negative) (list : List (ℕ × List ℕ)) → AllByRecursion IsGoalOf list → (mutants : List BaseEntry) → BasesOf s.file.grammar s.choice (Some s.lexemes) before list mutants
      → AllByRecursion (IsKnownBase s (words_told b.list) b.cases.codes) mutants
  bases_from before [] all mutants h = subst (AllByRecursion (IsKnownBase s (words_told b.list) b.cases.codes)) (sym h) tt
  bases_from before (base ∷ list) all mutants h =
      let first = h.0 in
      let is = h.3 in
      subst (AllByRecursion (IsKnownBase s (words_told b.list) b.cases.codes)) (sym h.2) (
        record {
          of = subst (λ (k : ℕ). IsGoalOf (k, first.tokens)) (sym is.goal) (subst (λ (w : List ℕ). IsGoalOf (base.0, w)) (sym is.tokens) all.0);
          before = before;
          made = subst (λ (w : List ℕ). AreNegativesOf s.file.grammar s.choice (Some s.lexemes) before w first.negatives) (sym is.tokens) is.negatives;
        },
        bases_from (before ++ negatives_of first.negatives) list all.1 h.1 h.4,
      )

  -- the bases are known by their goals
  pub bases_known : AllByRecursion (IsKnownBase s (words_told b.list) b.cases.codes) b.mutants
  bases_known = bases_from [] (bases (most_bases s.choice) b.entries) goals_known b.mutants body.bases_are
