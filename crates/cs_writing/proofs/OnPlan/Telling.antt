-- What is made of goals, as the layer above tells it: their entries, and their cases.
use Rattle.std.proofs.Common.{◌≡◌, ℕ, ◌+◌, Bool, true, false, cond, List, [], ◌∷◌, Option, None, Some, length, length-append, refl, sym, ap, ◌∙◌, subst, arith}
use Rattle.std.specs.Prelude.{All, IsSomeAnd}
use Rattle.std.specs.List.{AllZip}
use Rattle.std.proofs.lemmas.List.Sums.{sum_by-cons}
use Rattle.cs_grammar.specs.Weights.{Weighed}
use Rattle.cs_goals.specs.declared.goal.Goal.{Goal}
use Rattle.cs_verdicts.specs.declared.cases.cases.Named.{Named}
use Rattle.cs_verdicts.specs.Cases.Cases.{PlainCases, with_case}
use Rattle.cs_manifest.specs.declared.manifest.verdict.SharedVerdict.{SharedVerdict}
use Rattle.cs_choices.specs.declared.format.Format.{Format}
use Rattle.cs_choices.specs.declared.format.Format.TheVariants.{One, Two}
use Rattle.cs_manifest.specs.Manifest.Lines.{is_feasible}
use Rattle.cs_manifest.specs.Manifest.Manifest.{IsEntryOf, IsRenderedIf, IsSharedVerdict, IsTextOf, Texts, is_new, texts_at}
use Rattle.cs_verdicts.specs.declared.positive.verdict.Verdict.{Verdict}
use Rattle.cs_verdicts.specs.declared.positive.verdict.Verdict.TheVariants.{Feasible, Infeasible, Large}
use Rattle.cs_texts.specs.Rendering.Rendering.{Rendering}
use Rattle.cs_yacc.specs.Reading.File.{IsFile}
use Rattle.cs_writing.specs.declared.plan.plan.Plan.{Plan}
use Rattle.cs_writing.specs.Plan.Entries.{AreMade, IsMade, IsMadeIn, IsSharedIn}
use Rattle.cs_writing.specs.Plan.Made.{IsNamedMade, MadeEntry, entries_of, entry_of, has_new_case, is_asked, new_cases, own_text}
use Rattle.cs_writing.specs.Plan.Plans.{IsEntryIn, format_by, lexemes_in, texts_in}
use Rattle.cs_writing.proofs.OnPlan.Making.{named_made}
use Rattle.cs_writing.proofs.OnPlan.Steps.{steps_all, steps_zip}

-- ---- entries

full_text : (texts : Option Texts) (lexemes : Option (List (Option (List ℕ)))) (verdict : Verdict) (tokens : List ℕ) (rendered : Option Rendering) → IsRenderedIf (is_feasible verdict) texts lexemes tokens rendered → IsTextOf texts lexemes verdict tokens rendered
full_text texts lexemes (Feasible n derivation) tokens rendered is = is
full_text texts lexemes Infeasible tokens rendered is = is
full_text texts lexemes Large tokens rendered is = is

no_text : (lexemes : Option (List (Option (List ℕ)))) (verdict : Verdict) (tokens : List ℕ) → IsTextOf None lexemes verdict tokens None
no_text lexemes (Feasible n derivation) tokens = refl
no_text lexemes Infeasible tokens = refl
no_text lexemes Large tokens = refl

own_none : (old new : PlainCases) (goal : Goal) (verdict : Verdict) (shared : Option SharedVerdict) (rendered : Option Rendering) → IsSomeAnd shared (IsSharedVerdict old goal verdict new) → own_text shared rendered ≡ None
own_none old new goal verdict None rendered is = absurd is
own_none old new goal verdict (Some s) rendered is = refl

-- in the first format goals have their texts, and in the second none
text_of : (format : Format) (texts : Option Texts) (lexemes : Option (List (Option (List ℕ)))) (old new : PlainCases) (goal : Goal) (m : MadeEntry) → IsSharedIn format old goal m.verdict new m.shared
    → IsRenderedIf (is_asked m.verdict m.shared) texts lexemes m.tokens m.rendered → IsTextOf (texts_at format texts) lexemes m.verdict m.tokens (own_text m.shared m.rendered)
text_of One texts lexemes old new goal m shared text =
    let asked = subst (λ (s : Option SharedVerdict). IsRenderedIf (is_asked m.verdict s) texts lexemes m.tokens m.rendered) shared.0 text in
    subst (λ (s : Option SharedVerdict). IsTextOf texts lexemes m.verdict m.tokens (own_text s m.rendered)) (sym shared.0) (full_text texts lexemes m.verdict m.tokens m.rendered asked)
text_of Two texts lexemes old new goal m shared text =
    subst (IsTextOf None lexemes m.verdict m.tokens) (sym (own_none old new goal m.verdict m.shared m.rendered shared)) (no_text lexemes m.verdict m.tokens)

is_entry : (format : Format) (texts : Option Texts) (lexemes : Option (List (Option (List ℕ)))) (of : Weighed) (old : PlainCases) (goal : Goal) (new : PlainCases) (m : MadeEntry) → IsMade format texts lexemes of old goal new m → IsEntryOf of (texts_at format texts) lexemes goal (entry_of m)
is_entry format texts lexemes of old goal new m is = record {
  is_of = is.is_of;
  verdict = is.verdict;
  tokens = is.tokens;
  text = text_of format texts lexemes old new goal m is.shared is.text;
}

pub are_entries : (plan : Plan) (of : Weighed) (old new : PlainCases) (goals : List Goal) (list : List MadeEntry) → AreMade plan of old goals new list → AllZip (IsEntryIn plan of) goals (entries_of list)
are_entries plan of old new goals list are =
    steps_zip (IsMadeIn plan of) entry_of (IsEntryIn plan of) (is_entry (format_by plan.form) (texts_in plan) (lexemes_in plan) of) old new goals list are

-- their tokens have names
pub all_named : (plan : Plan) → IsFile plan.yacc.now → (of : Weighed) → of.grammar ≡ plan.yacc.now.grammar → (old new : PlainCases) (goals : List Goal) (list : List MadeEntry) → AreMade plan of old goals new list → All (IsNamedMade plan.yacc.now) list
all_named plan is of same old new goals list are =
    steps_all (IsMadeIn plan of) (IsNamedMade plan.yacc.now) (named_made plan.yacc.now is (format_by plan.form) (texts_in plan) (lexemes_in plan) of same) old new goals list are

-- ---- cases

-- there is one case more where it is new
abbrev Grows : PlainCases → PlainCases → Bool → Type 0
Grows old new fresh = length new.codes ≡ length old.codes + cond fresh 1 0

grown : (old : PlainCases) (code : List ℕ) (fresh : Bool) → Grows old (cond fresh (with_case old code) old) fresh
grown old code true = length-append old.codes (code ∷ [])
grown old code false = omega arith

verdict_grows : (old new : PlainCases) (goal : Goal) (verdict : Verdict) (s : SharedVerdict) → IsSharedVerdict old goal verdict new s → Grows old new (is_new s)
verdict_grows old new goal (Feasible size derivation) s is =
    let named : Named = is.0 in
    subst (λ (v : SharedVerdict). Grows old new (is_new v)) (sym is.1) (subst (λ (c : PlainCases). Grows old c named.fresh) (sym is.2.cases) (grown old derivation named.fresh))
verdict_grows old new goal Infeasible s is =
    subst (λ (v : SharedVerdict). Grows old new (is_new v)) (sym is.0) (subst (λ (c : PlainCases). Grows old c false) (sym is.1) (grown old [] false))
verdict_grows old new goal Large s is =
    subst (λ (v : SharedVerdict). Grows old new (is_new v)) (sym is.0) (subst (λ (c : PlainCases). Grows old c false) (sym is.1) (grown old [] false))

some_grows : (old new : PlainCases) (goal : Goal) (verdict : Verdict) (shared : Option SharedVerdict) → IsSomeAnd shared (IsSharedVerdict old goal verdict new) → Grows old new (has_new_case shared)
some_grows old new goal verdict None is = absurd is
some_grows old new goal verdict (Some s) is = verdict_grows old new goal verdict s is

shared_grows : (format : Format) (old new : PlainCases) (goal : Goal) (verdict : Verdict) (shared : Option SharedVerdict) → IsSharedIn format old goal verdict new shared → Grows old new (has_new_case shared)
shared_grows One old new goal verdict shared is =
    subst (λ (s : Option SharedVerdict). Grows old new (has_new_case s)) (sym is.0) (subst (λ (c : PlainCases). Grows old c false) (sym is.1) (grown old [] false))
shared_grows Two old new goal verdict shared is = some_grows old new goal verdict shared is

-- there are as many codes more as cases are new
pub cases_grow : (plan : Plan) (of : Weighed) (old new : PlainCases) (goals : List Goal) (list : List MadeEntry) → AreMade plan of old goals new list → length new.codes ≡ length old.codes + new_cases list
cases_grow plan of old new [] list are =
    let none : new_cases list ≡ 0 = ap new_cases are.0 in
    let same : length new.codes ≡ length old.codes = ap (λ (c : PlainCases). length c.codes) are.1 in
    omega (arith, none, same)
cases_grow plan of old new (goal ∷ rest) list are =
    let first = shared_grows (format_by plan.form) old are.0 goal are.1.verdict are.1.shared are.4.shared in
    let all : new_cases list ≡ cond (has_new_case are.1.shared) 1 0 + new_cases are.2 =
    ap new_cases are.3 ∙ sum_by-cons (λ (m : MadeEntry). cond (has_new_case m.shared) 1 0) are.1 are.2 in
    omega (arith, cases_grow plan of are.0 new rest are.2 are.5, first, all)
