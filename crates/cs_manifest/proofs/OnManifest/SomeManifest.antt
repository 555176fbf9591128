-- No file is without a manifest by a choice, where it isn't so that tokens have no lexemes and no rendering.
use Rattle.std.proofs.Common.{◌≡◌, ◌<◌, ◌≤◌, ◌⊎◌, ℕ, zero, suc, ◌+◌, List, [], ◌∷◌, ◌++◌, length, inl, inr, refl, sym, ◌∙◌, subst, arith, Option, None, Some}
use Rattle.std.specs.Prelude.{slice_get}
use Rattle.std.specs.List.{AllZip}
use Rattle.std.proofs.lemmas.Bool.{cases_lt}
use Rattle.std.proofs.lemmas.Option.{slice_get_within}
use Rattle.cs_grammar.specs.Grammar.{PlainGrammar}
use Rattle.cs_grammar.specs.Leftmost.{IsYield}
use Rattle.cs_grammar.specs.Sentence.{framed}
use Rattle.cs_grammar.specs.Tree.{Tree, code, yield, size}
use Rattle.cs_grammar.specs.Weights.{Weighed}
use Rattle.cs_grammar.specs.declared.symbol.Mark.{Mark}
use Rattle.cs_goals.specs.declared.goal.Goal.{Goal}
use Rattle.cs_goals.specs.Goal.{IsGoal}
use Rattle.cs_goals.specs.Goals.{goals}
use Rattle.cs_goals.proofs.Members.{Contains-from_Among}
use Rattle.cs_goals.proofs.Once.{all}
use Rattle.cs_mutate.specs.declared.edit.Edit.{Edit}
use Rattle.cs_mutate.specs.declared.negative.Negative.{Negative}
use Rattle.cs_mutate.specs.Edit.{edited}
use Rattle.cs_mutate.specs.Edits.{edits}
use Rattle.cs_mutate.specs.Negatives.{AreNegatives}
use Rattle.cs_mutate.specs.Poison.{HasNoPoison, IsFirstPoisoned, IsPair}
use Rattle.cs_mutate.proofs.Marks.{one_pair}
use Rattle.cs_mutate.proofs.KeptLists.{some_kept}
use Rattle.cs_verdicts.specs.Closed.Closed.{IsAdjacent}
use Rattle.cs_verdicts.specs.declared.positive.verdict.Verdict.{Verdict}
use Rattle.cs_verdicts.specs.declared.positive.verdict.Verdict.TheVariants.{Feasible, Infeasible, Large}
use Rattle.cs_verdicts.specs.Positive.Verdict.{IsVerdict, IsChosenOf, IsMet}
use Rattle.cs_verdicts.proofs.OnPositive.Verdicts.{chosen_exists_of, chosen_least_of, chosen_met}
use Rattle.cs_yacc.specs.Reading.File.{File}
use Rattle.cs_choices.specs.declared.format.Format.{Format}
use Rattle.cs_choices.specs.declared.format.Format.TheVariants.{One, Two}
use Rattle.cs_manifest.specs.Manifest.Manifest.{AreLexemesBy, BaseEntry, BasesOf, Choice, GoalEntry, IsBaseOf, IsEntryOf, IsManifest, IsNegativeOf, IsRenderedBy, IsTextIn, Texts, bases, goal_texts, manifest_text, most_bases, negatives_of, shared_text, weighed_by}
use Rattle.cs_io.specs.Asked.{IsNotWithout}
use Rattle.cs_verdicts.specs.Cases.Cases.{no_cases}
use Rattle.cs_manifest.proofs.OnManifest.SomeShared.{some_closed, some_shared}
use Rattle.cs_manifest.proofs.OnManifest.Zips.{some_zip}

module _ (of : Weighed) where
  -- The goal has no verdict: then no tree meets it, since the chosen one of those that do would give one; and that is a verdict.
  pub some_verdict : (goal : Goal) → IsGoal of.grammar goal → IsNotWithout (IsVerdict of.weights of.grammar goal)
  some_verdict goal is none = none Infeasible from_tree
    where
      at_size : (u : Tree) → IsChosenOf of.weights of.grammar goal u → (of.weights.limit < size of.weights u) ⊎ (size of.weights u ≤ of.weights.limit) → ⊥
      at_size u chosen (inl large) = none Large (
        u,
        chosen_met of.weights of.grammar goal u chosen,
        (λ v met. let least = chosen_least_of of.weights of.grammar goal v u met chosen in omega arith),
      )
      at_size u chosen (inr small) = none (Feasible (size of.weights u) (code u)) (
        small,
        record {
          reached = (u, chosen_met of.weights of.grammar goal u chosen, refl);
          least = λ v met. chosen_least_of of.weights of.grammar goal v u met chosen;
        },
        (u, chosen, refl),
      )

      from_tree : (t : Tree) → IsMet of.grammar goal t → ⊥
      from_tree t met =
          let u = chosen_exists_of of.weights of.grammar goal t is met in
          at_size u.0 u.1 (cases_lt of.weights.limit (size of.weights u.0))

  module _ (texts : Option Texts) (lexemes : Option (List (Option (List ℕ))))
      (some_rendering : (tokens : List ℕ) → IsNotWithout (IsRenderedBy texts lexemes tokens)) where
    some_entry : (goal : Goal) → IsGoal of.grammar goal → IsNotWithout (IsEntryOf of texts lexemes goal)
    some_entry goal is none = some_verdict goal is with_tokens
      where
        with_tokens : (verdict : Verdict) → IsVerdict of.weights of.grammar goal verdict → ⊥
        with_tokens Infeasible v = none (record { goal = goal; verdict = Infeasible; tokens = []; rendered = None }) (record { is_of = refl; verdict = v; tokens = refl; text = refl })
        with_tokens Large v = none (record { goal = goal; verdict = Large; tokens = []; rendered = None }) (record { is_of = refl; verdict = v; tokens = refl; text = refl })
        with_tokens (Feasible n derivation) v =
            let t = v.2.0 in
            let met = chosen_met of.weights of.grammar goal t v.2.1 in
            let yields : IsYield of.grammar derivation (yield t) = record { tree = t; is_tree = met.0; code = v.2.2; yield = refl } in
            some_rendering (yield t)
            (λ rendered is. none (record { goal = goal; verdict = Feasible n derivation; tokens = yield t; rendered = rendered }) (record { is_of = refl; verdict = v; tokens = yields; text = is }))

    pub some_entries : (choice : Choice) → IsNotWithout (AllZip (IsEntryOf of texts lexemes) (goals of.grammar choice.criteria))
    some_entries choice =
        some_zip (goals of.grammar choice.criteria)
        (λ goal among. some_entry goal ((all of.grammar choice.criteria goal).0 (Contains-from_Among goal (goals of.grammar choice.criteria) among)).1)

-- ---- negatives

module _ (g : PlainGrammar) (marks : List Mark) where
  -- the first so many pairs are adjacent, or the first that isn't is known
  abbrev Looked : ℕ → Type 0
  Looked k =
      ((j : ℕ) (a b : Mark) → j < k → IsPair marks j a b → IsAdjacent g a b)
      ⊎ ((at : ℕ) × (a : Mark) × (b : Mark) × IsFirstPoisoned g marks at a b)

  looked : (k : ℕ) → (Looked k → ⊥) → ⊥
  looked zero none = none (inl (λ j a b below pair. absurd (omega (arith, below))))
  looked (suc k) none = looked k at_last
    where
      more : ((j : ℕ) (a b : Mark) → j < k → IsPair marks j a b → IsAdjacent g a b) → ((a b : Mark) → IsPair marks k a b → IsAdjacent g a b) → (j : ℕ) (a b : Mark) → j < suc k → IsPair marks j a b → IsAdjacent g a b
      more before last j a b below pair = at_place (cases_lt j k)
        where
          at_place : (j < k) ⊎ (k ≤ j) → IsAdjacent g a b
          at_place (inl less) = before j a b less pair
          at_place (inr same) = last a b (subst (λ (n : ℕ). IsPair marks n a b) (omega (arith, same, below)) pair)

      at_right : ((j : ℕ) (a b : Mark) → j < k → IsPair marks j a b → IsAdjacent g a b) → (a : Mark) → slice_get marks k ≡ Some a → (right : Option Mark) → slice_get marks (k + 1) ≡ right → ⊥
      at_right before a left None right = none (inl (more before (λ x y pair. absurd (let e = sym right ∙ pair.right in cc))))
      at_right before a left (Some b) right = none (inr (
        k,
        a,
        b,
        record {
          pair = record { left = left; right = right };
          poisoned = λ adjacent. none (inl (more before (λ x y pair.
              let same = one_pair marks k a b x y left right pair in
              subst (λ (m : Mark). IsAdjacent g m y) same.0 (subst (IsAdjacent g a) same.1 adjacent))));
          earlier = before;
        },
      ))

      at_left : ((j : ℕ) (a b : Mark) → j < k → IsPair marks j a b → IsAdjacent g a b) → (left : Option Mark) → slice_get marks k ≡ left → ⊥
      at_left before None left = none (inl (more before (λ x y pair. absurd (let e = sym left ∙ pair.left in cc))))
      at_left before (Some a) left = at_right before a left (slice_get marks (k + 1)) refl

      at_last : Looked k → ⊥
      at_last (inr found) = none (inr found)
      at_last (inl before) = at_left before (slice_get marks k) refl

  -- each pair is adjacent, or the first that isn't is known: it isn't so that neither is
  pub poisoned_or_not : (HasNoPoison g marks ⊎ ((at : ℕ) × (a : Mark) × (b : Mark) × IsFirstPoisoned g marks at a b) → ⊥) → ⊥
  poisoned_or_not none = looked (length marks) whole
    where
      whole : Looked (length marks) → ⊥
      whole (inl before) = none (inl (λ at a b pair. before at a b (slice_get_within marks at a pair.left) pair))
      whole (inr found) = none (inr found)

module _ (g : PlainGrammar) (choice : Choice) (lexemes : Option (List (Option (List ℕ))))
    (some_rendering : (tokens : List ℕ) → IsNotWithout (IsRenderedBy choice.texts lexemes tokens)) where
  some_negatives : (base : List ℕ) (es : List Edit) → IsNotWithout (AreNegatives g base es)
  some_negatives base [] none = none [] refl
  some_negatives base (e ∷ es) none = poisoned_or_not g (framed (edited base e)) (at_edit (some_negatives base es))
    where
      at_edit : IsNotWithout (AreNegatives g base es) → HasNoPoison g (framed (edited base e)) ⊎ ((at : ℕ) × (a : Mark) × (b : Mark) × IsFirstPoisoned g (framed (edited base e)) at a b) → ⊥
      at_edit others (inl harmless) = others (λ ns are. none ns (inl (harmless, are)))
      at_edit others (inr found) =
          let n : Negative = record { edit = e; left = found.1; right = found.2; at = found.0 } in
          others (λ ns are. none (n ∷ ns) (inr (n, ns, refl, refl, found.3, are)))

  some_negative : (base : List ℕ) (negative : Negative) → IsNotWithout (IsNegativeOf choice.texts lexemes base negative)
  some_negative base negative none =
      some_rendering (edited base negative.edit) (λ rendered is. none (record { negative = negative; rendered = rendered }) (record { is_of = refl; text = is }))

  some_base : (before : List Negative) (base : ℕ × List ℕ) → IsNotWithout (IsBaseOf g choice lexemes before base)
  some_base before base none =
      some_negatives base.1 (edits g.tokens base.1 choice.operators)
      (λ ns are. some_kept g base.1 choice.first before ns
      (λ kept are_kept. some_zip kept (λ n among. some_negative base.1 n)
      (λ entries each. none (record { goal = base.0; tokens = base.1; negatives = entries })
      (record { goal = refl; tokens = refl; negatives = record { negatives = ns; kept = kept; all = are; are_kept = are_kept; each = each } }))))

  pub some_bases : (before : List Negative) (list : List (ℕ × List ℕ)) → IsNotWithout (BasesOf g choice lexemes before list)
  some_bases before [] none = none [] refl
  some_bases before (base ∷ list) none =
      some_base before base
      (λ first is. some_bases (before ++ negatives_of first.negatives) list
      (λ rest others. none (first ∷ rest) (first, rest, refl, is, others)))

-- no format is without a text of these
module _ (of : Weighed) (choice : Choice) (file : File) (lexemes : Option (List (Option (List ℕ)))) (entries : List GoalEntry) (mutants : List BaseEntry)
    (some_rendering : (tokens : List ℕ) → IsNotWithout (IsRenderedBy choice.texts lexemes tokens)) where
  some_text_in : (list : List Goal) → of.grammar ≡ file.grammar → AllZip (IsEntryOf of (goal_texts choice) lexemes) list entries → (format : Format) → IsNotWithout (IsTextIn format choice file lexemes entries mutants)
  some_text_in list same each One none = none (manifest_text file lexemes entries mutants) refl
  some_text_in list same each Two none =
      some_closed file.grammar
      (λ closed are_closed. some_shared of choice.texts (goal_texts choice) lexemes some_rendering (no_cases file.grammar) list entries (sym same) each
      (λ p are_shared. none (shared_text file choice.weigh lexemes closed entries p.1 (length p.0.codes) mutants)
      (record { closed = closed; cases = p.0; list = p.1; are_closed = are_closed; are_shared = are_shared; lines = refl })))

module _ (choice : Choice) (file : File)
    (some_rendering : (texts : Option Texts) (lexemes : Option (List (Option (List ℕ)))) (tokens : List ℕ) → IsNotWithout (IsRenderedBy texts lexemes tokens))
    (some_lexemes : IsNotWithout (AreLexemesBy choice.texts file.grammar.tokens)) where
  pub some_manifest_by : IsNotWithout (IsManifest choice file)
  some_manifest_by none =
      some_lexemes
      (λ lexemes are. some_entries (weighed_by choice file lexemes) (goal_texts choice) lexemes (some_rendering (goal_texts choice) lexemes) choice
      (λ entries each. some_bases file.grammar choice lexemes (some_rendering choice.texts lexemes) [] (bases (most_bases choice) entries)
      (λ mutants of. some_text_in (weighed_by choice file lexemes) choice file lexemes entries mutants (some_rendering choice.texts lexemes) (goals file.grammar choice.criteria) refl each choice.format
      (λ text lines. none text
      (record { lexemes = lexemes; entries = entries; mutants = mutants; are_lexemes = are; verdicts = each; negatives = of; lines = lines })))))
