-- What the end line counts is what the lines above tell.
use Rattle.std.proofs.Common.{◌≡◌, ℕ, suc, ◌+◌, Bool, List, [], ◌∷◌, Option, Some, map, length, refl, sym, ap, ◌∙◌, subst, cond}
use Rattle.std.specs.Prelude.{count_by, sum_by}
use Rattle.std.specs.List.{AllZip}
use Rattle.std.proofs.lemmas.List.{length-map}
use Rattle.std.proofs.lemmas.List.Sums.{sum_by-cons}
use Rattle.cs_goals.specs.declared.goal.Goal.{Goal}
use Rattle.cs_verdicts.specs.declared.positive.verdict.Verdict.{Verdict}
use Rattle.cs_verdicts.specs.declared.positive.verdict.Verdict.TheVariants as verdict
use Rattle.cs_verdicts.specs.Cases.Cases.{PlainCases, no_cases}
use Rattle.cs_manifest.specs.declared.manifest.verdict.SharedVerdict.{SharedVerdict}
use Rattle.cs_manifest.specs.Manifest.Lines as put
use Rattle.cs_manifest.specs.Manifest.Manifest.{AreShared, BaseEntry, GoalEntry, IsSharedVerdict, LexemeList, SharedEntry, Texts}
use Rattle.cs_lines.specs.Lines.Line.{VerdictWords, Counts, Line}
use Rattle.cs_check.specs.Passing.Above.{case_sizes, verdicts, edits, is_feasible, is_infeasible, is_large}
use Rattle.cs_check.specs.Passing.Faults.{counted}
use Rattle.cs_accord.specs.Suite.{verdict_of}
use Rattle.cs_accord.proofs.OnSuite.Setting.{Setting, Body, IsBody, counts_in, words_told}

-- a verdict and its words are alike
record IsAlikeVerdict (v : Verdict) (sv : SharedVerdict) : Type 0 where
  feasible : put.is_feasible v ≡ is_feasible (verdict_of sv)
  infeasible : put.is_infeasible v ≡ is_infeasible (verdict_of sv)
  large : put.is_large v ≡ is_large (verdict_of sv)

abbrev IsAlike : GoalEntry → SharedEntry → Type 0
IsAlike e s = IsAlikeVerdict e.verdict s.verdict

alike : (old new : PlainCases) (goal : Goal) (v : Verdict) (sv : SharedVerdict) → IsSharedVerdict old goal v new sv → IsAlikeVerdict v sv
alike old new goal (verdict.Feasible m derivation) sv h = subst (IsAlikeVerdict (verdict.Feasible m derivation)) (sym h.1) (record { feasible = refl; infeasible = refl; large = refl })
alike old new goal verdict.Infeasible sv h = subst (IsAlikeVerdict verdict.Infeasible) (sym h.0) (record { feasible = refl; infeasible = refl; large = refl })
alike old new goal verdict.Large sv h = subst (IsAlikeVerdict verdict.Large) (sym h.0) (record { feasible = refl; infeasible = refl; large = refl })

all_alike : (texts : Option Texts) (lexemes : Option LexemeList) (old : PlainCases) (entries : List GoalEntry) (new : PlainCases) (list : List SharedEntry) → AreShared texts lexemes old entries new list → AllZip IsAlike entries list
all_alike texts lexemes old [] new list h = subst (λ (l : List SharedEntry). AllZip IsAlike [] l) (sym h.0) tt
all_alike texts lexemes old (e ∷ entries) new list h =
    subst (λ (l : List SharedEntry). AllZip IsAlike (e ∷ entries) l) (sym h.3) (alike old h.0 e.goal e.verdict h.1.verdict h.4.verdict, all_alike texts lexemes h.0 entries new h.2 h.5)

module _ (one : GoalEntry → Bool) (other : VerdictWords → Bool) (same : (e : GoalEntry) (s : SharedEntry) → IsAlike e s → one e ≡ other (verdict_of s.verdict)) where
  same_count : (entries : List GoalEntry) (list : List SharedEntry) → AllZip IsAlike entries list → count_by one entries ≡ count_by other (map (λ (s : SharedEntry). verdict_of s.verdict) list)
  same_count [] [] zip = refl
  same_count [] (s ∷ list) zip = absurd zip
  same_count (e ∷ entries) [] zip = absurd zip
  same_count (e ∷ entries) (s ∷ list) zip =
      sum_by-cons (λ (x : GoalEntry). cond (one x) 1 0) e entries
      ∙ ap (λ (b : Bool). cond b 1 0 + count_by one entries) (same e s zip.0)
      ∙ ap (λ n. cond (other (verdict_of s.verdict)) 1 0 + n) (same_count entries list zip.1)
      ∙ sym (sum_by-cons (λ (x : VerdictWords). cond (other x) 1 0) (verdict_of s.verdict) (map (λ (x : SharedEntry). verdict_of x.verdict) list))

same_length : (entries : List GoalEntry) (list : List SharedEntry) → AllZip IsAlike entries list → length entries ≡ length list
same_length [] [] zip = refl
same_length [] (s ∷ list) zip = absurd zip
same_length (e ∷ entries) [] zip = absurd zip
same_length (e ∷ entries) (s ∷ list) zip = ap (λ n. suc n) (same_length entries list zip.1)

-- counts as they stand in the end line
abbrev counts : ℕ → ℕ → ℕ → ℕ → ℕ → ℕ → Counts
counts g f i l n c = record { goals = g; feasible = f; infeasible = i; large = l; negatives = n; cases = c }

-- what the lines tell is as many as the suite holds
pub record AreTold (b : Body) (above : List Line) : Type 0 where
  pub words : verdicts above ≡ words_told b.list
  pub edits_are : length (edits above) ≡ sum_by (λ (x : BaseEntry). length x.negatives) b.mutants
  pub cases_are : length (case_sizes above) ≡ length b.cases.codes

pub totals : {s : Setting} (b : Body) (above : List Line) → IsBody s b → AreTold b above → counts_in b ≡ counted above
totals {s} b above body t =
    let zip = all_alike (Some s.texts) (Some s.lexemes) (no_cases s.file.grammar) b.entries b.cases b.list body.shared in
    let told = ap (λ (l : List VerdictWords). length l) (sym t.words) in
    let many = length (verdicts above) in
    let goals_are : length b.entries ≡ many = same_length b.entries b.list zip ∙ sym (length-map b.list (λ (s : SharedEntry). verdict_of s.verdict)) ∙ told in
    let same = λ (one : GoalEntry → Bool) (other : VerdictWords → Bool) (alike_is : (e : GoalEntry) (sh : SharedEntry) → IsAlike e sh → one e ≡ other (verdict_of sh.verdict)).
    same_count one other alike_is b.entries b.list zip ∙ ap (λ (l : List VerdictWords). count_by other l) (sym t.words) in
    let f = same (λ e. put.is_feasible e.verdict) is_feasible (λ e sh a. a.feasible) in
    let i = same (λ e. put.is_infeasible e.verdict) is_infeasible (λ e sh a. a.infeasible) in
    let l = same (λ e. put.is_large e.verdict) is_large (λ e sh a. a.large) in
    let c = counts_in b in
    ap (λ x. counts x c.feasible c.infeasible c.large c.negatives c.cases) goals_are
    ∙ ap (λ x. counts many x c.infeasible c.large c.negatives c.cases) f
    ∙ ap (λ x. counts many (count_by is_feasible (verdicts above)) x c.large c.negatives c.cases) i
    ∙ ap (λ x. counts many (count_by is_feasible (verdicts above)) (count_by is_infeasible (verdicts above)) x c.negatives c.cases) l
    ∙ ap (λ x. counts many (count_by is_feasible (verdicts above)) (count_by is_infeasible (verdicts above)) (count_by is_large (verdicts above)) x c.cases) (sym t.edits_are)
    ∙ ap (λ x. counts many (count_by is_feasible (verdicts above)) (count_by is_infeasible (verdicts above)) (count_by is_large (verdicts above)) (length (edits above)) x) (sym t.cases_are)
