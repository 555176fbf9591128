-- No grammar is without its closed sets, and no goal without what it names.
use Rattle.std.proofs.Common.{◌≡◌, ◌<◌, ◌≤◌, ◌⊎◌, ℕ, zero, suc, ◌+◌, ◌-◌, Bool, true, false, cond, List, [], ◌∷◌, ◌++◌, length, length-append, inl, inr, refl, sym, ap, ◌∙◌, subst, arith, Option, None, Some}
use Rattle.std.specs.Prelude.{◌↔◌, IsTrue, slice_get}
use Rattle.std.specs.List.{AllZip}
use Rattle.std.proofs.Math.Seq.{get_or-append_seam}
use Rattle.std.proofs.lemmas.Bool.{cases_lt}
use Rattle.std.proofs.lemmas.Option.{get_or_from_slice_get, slice_get-get_or, slice_get_within}
use Rattle.cs_grammar.specs.declared.symbol.Mark.TheVariants.{Begin, Token}
use Rattle.cs_grammar.specs.Grammar.{PlainGrammar}
use Rattle.cs_grammar.specs.Weights.{Weighed}
use Rattle.cs_goals.specs.declared.goal.Goal.{Goal}
use Rattle.cs_goals.specs.Goals.{right_marks}
use Rattle.cs_goals.specs.Meets.{IsMeeting}
use Rattle.cs_verdicts.specs.declared.cases.cases.Named.{Named}
use Rattle.cs_verdicts.specs.Cases.Cases.{IsLowest, IsNew, IsPlaced, PlainCases, with_case}
use Rattle.cs_verdicts.specs.declared.positive.verdict.Verdict.{Verdict}
use Rattle.cs_verdicts.specs.declared.positive.verdict.Verdict.TheVariants.{Feasible, Infeasible, Large}
use Rattle.cs_verdicts.specs.Positive.Verdict.{IsVerdict}
use Rattle.cs_verdicts.proofs.OnPositive.Verdicts.{chosen_met}
use Rattle.cs_manifest.specs.declared.manifest.verdict.SharedVerdict.{SharedVerdict}
use Rattle.cs_manifest.specs.declared.manifest.verdict.SharedVerdict.TheVariants as shared
use Rattle.cs_verdicts.specs.Closed.Closed.{AreClosedSets, AreEdges, AreNext, AreThose, HasContext, HasTree, IsAdjacent, IsFirstOf, IsLastOf, YieldsNothing, numbers}
use Rattle.cs_manifest.specs.Manifest.Manifest.{AreShared, GoalEntry, IsEntryOf, IsRenderedBy, IsRenderedIf, IsShared, IsSharedVerdict, SharedEntry, Texts, is_new}
use Rattle.cs_io.specs.Asked.{IsNotWithout}
use Rattle.cs_manifest.proofs.OnManifest.Zips.{some_zip}

-- ---- closed sets

some_those : {A : Type 0} (IsSo : A → Type 0) (xs : List A) → IsNotWithout (AreThose IsSo xs)
some_those IsSo [] none = none [] refl
some_those IsSo (x ∷ xs) none =
    some_those IsSo xs (λ rest are. none rest (inr ((λ so. none (x ∷ rest) (inl (so, (rest, refl, are)))), are)))

module _ (g : PlainGrammar) where
  some_edges : (IsEdge : ℕ → ℕ → Type 0) → IsNotWithout (AreEdges g IsEdge)
  some_edges IsEdge = some_zip (numbers g.nonterminals) (λ n among. some_those (IsEdge n) (numbers g.tokens))

  some_nexts : IsNotWithout (AllZip (λ (t : ℕ). AreNext g (Token t)) (numbers g.tokens))
  some_nexts = some_zip (numbers g.tokens) (λ t among. some_those (IsAdjacent g (Token t)) (right_marks g.tokens))

  -- the sets of nonterminals, with those of tokens and marks
  with_sets : (productive reachable empty : List ℕ) → AreThose (HasTree g) (numbers g.nonterminals) productive
      → AreThose (HasContext g) (numbers g.nonterminals) reachable → AreThose (YieldsNothing g) (numbers g.nonterminals) empty → IsNotWithout (AreClosedSets g)
  with_sets productive reachable empty p q r none =
      some_edges (IsFirstOf g) (λ first first_are. some_edges (IsLastOf g) (λ last last_are. some_those (IsAdjacent g Begin) (right_marks g.tokens) (λ begin begin_are. some_nexts (λ next next_are.
      none (record { productive = productive; reachable = reachable; empty = empty; first = first; last = last; begin = begin; next = next })
      (record { productive = p; reachable = q; empty = r; first = first_are; last = last_are; begin = begin_are; next = next_are })))))

  pub some_closed : IsNotWithout (AreClosedSets g)
  some_closed none =
      some_those (HasTree g) (numbers g.nonterminals) (λ productive p. some_those (HasContext g) (numbers g.nonterminals) (λ reachable q.
      some_those (YieldsNothing g) (numbers g.nonterminals) (λ empty r. with_sets productive reachable empty p q r none)))

-- ---- cases

module _ (IsOne : List ℕ → Type 0) (codes : List (List ℕ)) where
  -- none of the codes before a place is of the kind, or the lowest that is is known
  abbrev pub Looked : ℕ → Type 0
  Looked n = ((k : ℕ) (other : List ℕ) → k < n → slice_get codes k ≡ Some other → IsOne other → ⊥) ⊎ ((n : ℕ) × IsLowest IsOne codes n)

  looked : (n : ℕ) → (Looked n → ⊥) → ⊥
  looked zero none = none (inl (λ k other below at is. absurd (omega (arith, below))))
  looked (suc n) none = looked n at_last
    where
      at_last : Looked n → ⊥
      at_last (inr found) = none (inr found)
      at_last (inl before) = none (inl (λ k other below at is. at_place k other at is below (cases_lt k n)))
        where
          at_place : (k : ℕ) (other : List ℕ) → slice_get codes k ≡ Some other → IsOne other → k < suc n → (k < n) ⊎ (n ≤ k) → ⊥
          at_place k other at is below (inl less) = before k other less at is
          at_place k other at is below (inr more) =
              let there : k ≡ k + 1 - 1 = omega arith in
              none (inr (
                k + 1,
                record {
                  code = other;
                  above_zero = omega arith;
                  at = subst (λ (j : ℕ). slice_get codes j ≡ Some other) there at;
                  is_one = is;
                  lowest = λ j code earlier. before j code (omega (arith, earlier, below, more));
                },
              ))

  some_lowest : (k : ℕ) (code : List ℕ) → slice_get codes k ≡ Some code → IsOne code → IsNotWithout (IsLowest IsOne codes)
  some_lowest k code at is none = looked (suc k) at_end
    where
      at_end : Looked (suc k) → ⊥
      at_end (inl before) = before k code (omega arith) at is
      at_end (inr found) = none found.0 found.1

module _ (old : PlainCases) (goal : Goal) (code : List ℕ) (meets : IsMeeting old.grammar goal code) where
  -- what is told where the code stands there among the cases then
  some_named : (new : PlainCases) (k : ℕ) → slice_get new.codes k ≡ Some code → IsMeeting new.grammar goal code → (fresh : Bool) → (IsTrue fresh ↔ IsNew old code)
      → new ≡ cond fresh (with_case old code) old → IsNotWithout (λ (p : PlainCases × Named). IsPlaced old goal code p.0 p.1)
  some_named new k at met fresh is_fresh is_new none =
      some_lowest (λ other. other ≡ code) new.codes k code at refl
      (λ case own. some_lowest (IsMeeting new.grammar goal) new.codes k code at met
      (λ first is_first. none (new, record { case = case; first = first; fresh = fresh }) (record { fresh = is_fresh; cases = is_new; own = own; first = is_first })))

  pub some_placed : IsNotWithout (λ (p : PlainCases × Named). IsPlaced old goal code p.0 p.1)
  some_placed none = at_known known
    where
      -- it isn't so that the code neither is new nor has a place
      at_known : ((IsNew old code ⊎ ((k : ℕ) × (slice_get old.codes k ≡ Some code)) → ⊥) → ⊥) → ⊥
      at_known k = k at_case
        where
          at_case : IsNew old code ⊎ ((k : ℕ) × (slice_get old.codes k ≡ Some code)) → ⊥
          at_case (inl is_new) =
              let within : length old.codes < length (old.codes ++ code ∷ []) = omega (arith, length-append old.codes (code ∷ [])) in
              let there : slice_get (old.codes ++ code ∷ []) (length old.codes) ≡ Some code =
              slice_get-get_or (old.codes ++ code ∷ []) (length old.codes) code within ∙ ap (λ (x : List ℕ). Some x) (get_or-append_seam old.codes code [] code) in
              some_named (with_case old code) (length old.codes) there meets true (λ t. is_new, λ n. refl) refl none
          at_case (inr (k, at)) =
              some_named old k at meets false
              (λ (t : false ≡ true). absurd (cc), λ (n : IsNew old code). absurd (n (k, slice_get_within old.codes k code at, get_or_from_slice_get old.codes k code _ at)))
              refl none

      known : (IsNew old code ⊎ ((k : ℕ) × (slice_get old.codes k ≡ Some code)) → ⊥) → ⊥
      known neither = neither (inl (λ among. neither (inr (among.0, slice_get-get_or old.codes among.0 code among.1 ∙ ap (λ (x : List ℕ). Some x) among.2))))

module _ (of : Weighed) where
  some_verdict : (old : PlainCases) (goal : Goal) (verdict : Verdict) → old.grammar ≡ of.grammar → IsVerdict of.weights of.grammar goal verdict
      → IsNotWithout (λ (p : PlainCases × SharedVerdict). IsSharedVerdict old goal verdict p.0 p.1)
  some_verdict old goal Infeasible same v none = none (old, shared.Infeasible) (refl, refl)
  some_verdict old goal Large same v none = none (old, shared.Large) (refl, refl)
  some_verdict old goal (Feasible size derivation) same v none =
      let t = v.2.0 in
      let met = chosen_met of.weights of.grammar goal t v.2.1 in
      let meets : IsMeeting of.grammar goal derivation = record { tree = t; is_tree = met.0; code = v.2.2; meets = met.1 } in
      some_placed old goal derivation (subst (λ (g : PlainGrammar). IsMeeting g goal derivation) (sym same) meets)
      (λ p is. none (p.0, shared.Feasible size p.1) (p.1, refl, is))

  -- the grammar stays
  same_grammar : (old new : PlainCases) (goal : Goal) (verdict : Verdict) (s : SharedVerdict) → IsSharedVerdict old goal verdict new s → new.grammar ≡ old.grammar
  same_grammar old new goal (Feasible size derivation) s is = ap (λ (c : PlainCases). c.grammar) is.2.cases ∙ at_test is.0.fresh
    where
      at_test : (b : Bool) → (cond b (with_case old derivation) old).grammar ≡ old.grammar
      at_test true = refl
      at_test false = refl
  same_grammar old new goal Infeasible s is = ap (λ (c : PlainCases). c.grammar) is.1
  same_grammar old new goal Large s is = ap (λ (c : PlainCases). c.grammar) is.1

  module _ (texts own : Option Texts) (lexemes : Option (List (Option (List ℕ))))
      (some_rendering : (tokens : List ℕ) → IsNotWithout (IsRenderedBy texts lexemes tokens)) where
    some_rendered_if : (so : Bool) (tokens : List ℕ) → IsNotWithout (IsRenderedIf so texts lexemes tokens)
    some_rendered_if true tokens none = some_rendering tokens none
    some_rendered_if false tokens none = none None refl

    -- where a goal has a verdict in the second format, it has an entry
    some_entry : (old new : PlainCases) (e : GoalEntry) (verdict : SharedVerdict) → IsSharedVerdict old e.goal e.verdict new verdict → IsNotWithout (IsShared texts lexemes old e new)
    some_entry old new e verdict is none =
        some_rendered_if (is_new verdict) e.tokens
        (λ rendered text. none (record { entry = e; verdict = verdict; rendered = rendered }) (record { is_of = refl; verdict = is; text = text }))

    pub some_shared : (old : PlainCases) (goals : List Goal) (entries : List GoalEntry) → old.grammar ≡ of.grammar → AllZip (IsEntryOf of own lexemes) goals entries
        → IsNotWithout (λ (p : PlainCases × List SharedEntry). AreShared texts lexemes old entries p.0 p.1)
    some_shared old [] [] same each none = none (old, []) (refl, refl)
    some_shared old [] (e ∷ entries) same each none = absurd each
    some_shared old (goal ∷ goals) [] same each none = absurd each
    some_shared old (goal ∷ goals) (e ∷ entries) same each none =
        let verdict = subst (λ (x : Goal). IsVerdict of.weights of.grammar x e.verdict) (sym each.0.is_of) each.0.verdict in
        some_verdict old e.goal e.verdict same verdict
        (λ p is. some_entry old p.0 e p.1 is
        (λ first is_first. some_shared p.0 goals entries (same_grammar old p.0 e.goal e.verdict p.1 is ∙ same) each.1
        (λ q are. none (q.0, first ∷ q.1) (p.0, first, q.1, refl, is_first, are))))
