-- A goal names one case and one first case, and the text of a new case is one.
use Rattle.std.proofs.Common.{◌≡◌, ℕ, Bool, List, [], ◌∷◌, sym, ap, ◌∙◌, subst, Option}
use Rattle.cs_goals.specs.declared.goal.Goal.{Goal}
use Rattle.cs_verdicts.specs.declared.cases.cases.Named.{Named}
use Rattle.cs_verdicts.specs.Cases.Cases.{PlainCases}
use Rattle.cs_verdicts.proofs.OnCases.Lowest.{one_placing}
use Rattle.cs_verdicts.specs.declared.positive.verdict.Verdict.{Verdict}
use Rattle.cs_verdicts.specs.declared.positive.verdict.Verdict.TheVariants.{Feasible, Infeasible, Large}
use Rattle.cs_texts.specs.Rendering.Rendering.{Rendering}
use Rattle.cs_manifest.specs.declared.manifest.verdict.SharedVerdict.{SharedVerdict}
use Rattle.cs_manifest.specs.declared.manifest.verdict.SharedVerdict.TheVariants as shared
use Rattle.cs_manifest.specs.Manifest.Manifest.{AreShared, GoalEntry, IsRenderedIf, IsShared, IsSharedVerdict, SharedEntry, Texts, is_new}

one_verdict : (old new other : PlainCases) (goal : Goal) (verdict : Verdict) (a b : SharedVerdict) → IsSharedVerdict old goal verdict new a → IsSharedVerdict old goal verdict other b → (new ≡ other) × (a ≡ b)
one_verdict old new other goal (Feasible size derivation) a b p q =
    let same = one_placing old goal derivation new other p.0 q.0 p.2 q.2 in
    (same.0, p.1 ∙ ap (λ (n : Named). shared.Feasible size n) same.1 ∙ sym q.1)
one_verdict old new other goal Infeasible a b p q = (p.1 ∙ sym q.1, p.0 ∙ sym q.0)
one_verdict old new other goal Large a b p q = (p.1 ∙ sym q.1, p.0 ∙ sym q.0)

module _ (texts : Option Texts) (lexemes : Option (List (Option (List ℕ))))
    (one : (so : Bool) (tokens : List ℕ) (a b : Option Rendering) → IsRenderedIf so texts lexemes tokens a → IsRenderedIf so texts lexemes tokens b → a ≡ b) where
  one_entry : (old new other : PlainCases) (entry : GoalEntry) (a b : SharedEntry) → IsShared texts lexemes old entry new a → IsShared texts lexemes old entry other b → (new ≡ other) × (a ≡ b)
  one_entry old new other entry a b p q =
      let same = one_verdict old new other entry.goal entry.verdict a.verdict b.verdict p.verdict q.verdict in
      let moved = subst (λ (v : SharedVerdict). IsRenderedIf (is_new v) texts lexemes entry.tokens b.rendered) (sym same.1) q.text in
      let rendered : a.rendered ≡ b.rendered = one (is_new a.verdict) entry.tokens a.rendered b.rendered p.text moved in (
        same.0,
        ap (λ (e : GoalEntry). record { entry = e; verdict = a.verdict; rendered = a.rendered }) (p.is_of ∙ sym q.is_of)
            ∙ ap (λ (v : SharedVerdict). record { entry = b.entry; verdict = v; rendered = a.rendered }) same.1
            ∙ ap (λ (r : Option Rendering). record { entry = b.entry; verdict = b.verdict; rendered = r }) rendered,
      )

  pub one_list_of_shared : (old new other : PlainCases) (entries : List GoalEntry) (a b : List SharedEntry) → AreShared texts lexemes old entries new a → AreShared texts lexemes old entries other b → (new ≡ other) × (a ≡ b)
  one_list_of_shared old new other [] a b p q = (p.1 ∙ sym q.1, p.0 ∙ sym q.0)
  one_list_of_shared old new other (entry ∷ rest) a b p q =
      let first = one_entry old p.0 q.0 entry p.1 q.1 p.4 q.4 in
      let moved = subst (λ (c : PlainCases). AreShared texts lexemes c rest other q.2) (sym first.0) q.5 in
      let others = one_list_of_shared p.0 new other rest p.2 q.2 p.5 moved in (
        others.0,
        p.3 ∙ ap (λ (s : SharedEntry). s ∷ p.2) first.1 ∙ ap (λ (l : List SharedEntry). q.1 ∷ l) others.1 ∙ sym q.3,
      )
