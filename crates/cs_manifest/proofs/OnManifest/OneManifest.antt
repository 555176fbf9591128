-- A file has at most one manifest by a choice, where the lexemes and the rendering of tokens are one.
use Rattle.std.proofs.Common.{◌≡◌, length, ℕ, Bool, true, false, List, [], ◌∷◌, ◌++◌, sym, ap, ◌∙◌, subst, Ok, Option}
use Rattle.std.specs.List.{AllZip}
use Rattle.cs_grammar.specs.Grammar.{PlainGrammar}
use Rattle.cs_grammar.specs.Weights.{Weighed}
use Rattle.cs_grammar.proofs.OneOutcome.{one_outcome}
use Rattle.cs_goals.specs.declared.goal.Goal.{Goal}
use Rattle.cs_goals.specs.Goals.{goals}
use Rattle.cs_mutate.specs.declared.negative.Negative.{Negative}
use Rattle.cs_mutate.specs.Edit.{edited}
use Rattle.cs_mutate.specs.Edits.{edits}
use Rattle.cs_mutate.specs.Kept.{AreKept}
use Rattle.cs_mutate.proofs.Listed.{one_list}
use Rattle.cs_mutate.proofs.KeptLists.{one_kept}
use Rattle.cs_verdicts.specs.declared.positive.verdict.Verdict.{Verdict}
use Rattle.cs_verdicts.specs.declared.positive.verdict.Verdict.TheVariants.{Feasible, Infeasible, Large}
use Rattle.cs_verdicts.proofs.OnPositive.Verdicts.{one_verdict_of}
use Rattle.cs_texts.specs.Rendering.Rendering.{Rendering}
use Rattle.cs_yacc.specs.Reading.File.{File}
use Rattle.cs_choices.specs.declared.format.Format.{Format}
use Rattle.cs_choices.specs.declared.format.Format.TheVariants.{One, Two}
use Rattle.cs_verdicts.specs.Cases.Cases.{PlainCases, no_cases}
use Rattle.cs_verdicts.specs.Closed.Closed.{ClosedSets}
use Rattle.cs_manifest.specs.Manifest.Manifest.{AreNegativesOf, AreTokensOf, BaseEntry, BasesOf, Choice, GoalEntry, HasOneText, IsBaseOf, IsEntryOf, IsManifest, IsNegativeOf, IsRenderedIf, IsTextIn, IsTextOf, NegativeEntry, SharedEntry, Texts, bases, goal_texts, most_bases, negatives_of, shared_text, weighed_by}
use Rattle.cs_verdicts.proofs.OnClosed.OneClosed.{one_closed}
use Rattle.cs_manifest.proofs.OnManifest.OneShared.{one_list_of_shared}
pub use Rattle.cs_verdicts.proofs.OnClosed.Zips.{one_zip}

module _ (texts : Option Texts) (one : HasOneText texts) (lexemes : Option (List (Option (List ℕ)))) where
  pub one_rendered_if : (so : Bool) (tokens : List ℕ) (a b : Option Rendering) → IsRenderedIf so texts lexemes tokens a → IsRenderedIf so texts lexemes tokens b → a ≡ b
  one_rendered_if true tokens a b ha hb = one.rendered lexemes tokens a b ha hb
  one_rendered_if false tokens a b ha hb = ha ∙ sym hb

  module _ (of : Weighed) where
    one_list_of_tokens : (verdict : Verdict) (a b : List ℕ) → AreTokensOf of.grammar verdict a → AreTokensOf of.grammar verdict b → a ≡ b
    one_list_of_tokens (Feasible n derivation) a b ha hb = let e = one_outcome of.grammar derivation (Ok a) (Ok b) ha hb in cc
    one_list_of_tokens Infeasible a b ha hb = ha ∙ sym hb
    one_list_of_tokens Large a b ha hb = ha ∙ sym hb

    one_text : (verdict : Verdict) (tokens : List ℕ) (a b : Option Rendering) → IsTextOf texts lexemes verdict tokens a → IsTextOf texts lexemes verdict tokens b → a ≡ b
    one_text (Feasible n derivation) tokens a b ha hb = one.rendered lexemes tokens a b ha hb
    one_text Infeasible tokens a b ha hb = ha ∙ sym hb
    one_text Large tokens a b ha hb = ha ∙ sym hb

    pub one_entry : (goal : Goal) (a b : GoalEntry) → IsEntryOf of texts lexemes goal a → IsEntryOf of texts lexemes goal b → a ≡ b
    one_entry goal a b ha hb =
        let goals : a.goal ≡ b.goal = ha.is_of ∙ sym hb.is_of in
        let verdicts : a.verdict ≡ b.verdict = one_verdict_of of.weights of.grammar goal a.verdict b.verdict ha.verdict hb.verdict in
        let moved = subst (λ (v : Verdict). AreTokensOf of.grammar v b.tokens) (sym verdicts) hb.tokens in
        let tokens : a.tokens ≡ b.tokens = one_list_of_tokens a.verdict a.tokens b.tokens ha.tokens moved in
        let moved_text = subst (λ (v : Verdict). IsTextOf texts lexemes v b.tokens b.rendered) (sym verdicts) hb.text in
        let moved_twice = subst (λ (ts : List ℕ). IsTextOf texts lexemes a.verdict ts b.rendered) (sym tokens) moved_text in
        let rendered : a.rendered ≡ b.rendered = one_text a.verdict a.tokens a.rendered b.rendered ha.text moved_twice in
        ap (λ (x : Goal). record { goal = x; verdict = a.verdict; tokens = a.tokens; rendered = a.rendered }) goals
        ∙ ap (λ (v : Verdict). record { goal = b.goal; verdict = v; tokens = a.tokens; rendered = a.rendered }) verdicts
        ∙ ap (λ (ts : List ℕ). record { goal = b.goal; verdict = b.verdict; tokens = ts; rendered = a.rendered }) tokens
        ∙ ap (λ (r : Option Rendering). record { goal = b.goal; verdict = b.verdict; tokens = b.tokens; rendered = r }) rendered

module _ (choice : Choice) (one : HasOneText choice.texts) (lexemes : Option (List (Option (List ℕ)))) where
  module _ (g : PlainGrammar) where
    one_negative : (base : List ℕ) (negative : Negative) (a b : NegativeEntry) → IsNegativeOf choice.texts lexemes base negative a → IsNegativeOf choice.texts lexemes base negative b → a ≡ b
    one_negative base negative a b ha hb =
        let rendered = one.rendered lexemes (edited base negative.edit) a.rendered b.rendered ha.text hb.text in
        ap (λ (n : Negative). record { negative = n; rendered = a.rendered }) (ha.is_of ∙ sym hb.is_of)
        ∙ ap (λ (r : Option Rendering). record { negative = b.negative; rendered = r }) rendered

    one_list_of_negatives : (before : List Negative) (base : List ℕ) (a b : List NegativeEntry) → AreNegativesOf g choice lexemes before base a → AreNegativesOf g choice lexemes before base b → a ≡ b
    one_list_of_negatives before base a b ha hb =
        let all = one_list g base (edits g.tokens base choice.operators) ha.negatives hb.negatives ha.all hb.all in
        let same = one_kept g base choice.first before ha.negatives ha.kept hb.kept ha.are_kept (subst (λ (ns : List Negative). AreKept g base choice.first before ns hb.kept) (sym all) hb.are_kept) in
        one_zip (one_negative base) ha.kept a b ha.each (subst (λ (ns : List Negative). AllZip (IsNegativeOf choice.texts lexemes base) ns b) (sym same) hb.each)

    pub one_base : (before : List Negative) (base : ℕ × List ℕ) (a b : BaseEntry) → IsBaseOf g choice lexemes before base a → IsBaseOf g choice lexemes before base b → a ≡ b
    one_base before base a b ha hb =
        ap (λ (n : ℕ). record { goal = n; tokens = a.tokens; negatives = a.negatives }) (ha.goal ∙ sym hb.goal)
        ∙ ap (λ (ts : List ℕ). record { goal = b.goal; tokens = ts; negatives = a.negatives }) (ha.tokens ∙ sym hb.tokens)
        ∙ ap (λ (ns : List NegativeEntry). record { goal = b.goal; tokens = b.tokens; negatives = ns }) (one_list_of_negatives before base.1 a.negatives b.negatives ha.negatives hb.negatives)

    pub one_list_of_bases : (before : List Negative) (list : List (ℕ × List ℕ)) (a b : List BaseEntry) → BasesOf g choice lexemes before list a → BasesOf g choice lexemes before list b → a ≡ b
    one_list_of_bases before [] a b ha hb = ha ∙ sym hb
    one_list_of_bases before (base ∷ list) a b ha hb =
        let first = one_base before base ha.0 hb.0 ha.3 hb.3 in
        let others = subst (λ (e : BaseEntry). BasesOf g choice lexemes (before ++ negatives_of e.negatives) list hb.1) (sym first) hb.4 in
        ha.2 ∙ ap (λ (e : BaseEntry). e ∷ ha.1) first ∙ ap (λ (l : List BaseEntry). hb.0 ∷ l) (one_list_of_bases (before ++ negatives_of ha.0.negatives) list ha.1 hb.1 ha.4 others) ∙ sym hb.2

-- a format has one text of these
module _ (choice : Choice) (one : HasOneText choice.texts) (file : File) (lexemes : Option (List (Option (List ℕ)))) (entries : List GoalEntry) (mutants : List BaseEntry) where
  one_text_in : (format : Format) (text other : List ℕ) → IsTextIn format choice file lexemes entries mutants text → IsTextIn format choice file lexemes entries mutants other → text ≡ other
  one_text_in One text other a b = a ∙ sym b
  one_text_in Two text other a b =
      let weigh = choice.weigh in
      let closed = one_closed file.grammar a.closed b.closed a.are_closed b.are_closed in
      let same = one_list_of_shared choice.texts lexemes (one_rendered_if choice.texts one lexemes) (no_cases file.grammar) a.cases b.cases entries a.list b.list a.are_shared b.are_shared in
      a.lines ∙ ap (λ (c : ClosedSets). shared_text file weigh lexemes c entries a.list (length a.cases.codes) mutants) closed
      ∙ ap (λ (c : PlainCases). shared_text file weigh lexemes b.closed entries a.list (length c.codes) mutants) same.0
      ∙ ap (λ (l : List SharedEntry). shared_text file weigh lexemes b.closed entries l (length b.cases.codes) mutants) same.1 ∙ sym b.lines

module _ (choice : Choice) (file : File) (one : (texts : Option Texts) → HasOneText texts) where
  pub one_manifest_by : (text other : List ℕ) → IsManifest choice file text → IsManifest choice file other → text ≡ other
  one_manifest_by text other a b =
      let own = goal_texts choice in
      let of = weighed_by choice file a.lexemes in
      let lexemes : a.lexemes ≡ b.lexemes = (one choice.texts).lexemes file.grammar.tokens a.lexemes b.lexemes a.are_lexemes b.are_lexemes in
      let verdicts = subst (λ (l : Option (List (Option (List ℕ)))). AllZip (IsEntryOf (weighed_by choice file l) own l) (goals file.grammar choice.criteria) b.entries) (sym lexemes) b.verdicts in
      let entries : a.entries ≡ b.entries = one_zip (one_entry own (one own) a.lexemes of) (goals file.grammar choice.criteria) a.entries b.entries a.verdicts verdicts in
      let moved = subst (λ (l : Option (List (Option (List ℕ)))). BasesOf file.grammar choice l [] (bases (most_bases choice) b.entries) b.mutants) (sym lexemes) b.negatives in
      let negatives = subst (λ (es : List GoalEntry). BasesOf file.grammar choice a.lexemes [] (bases (most_bases choice) es) b.mutants) (sym entries) moved in
      let mutants : a.mutants ≡ b.mutants = one_list_of_bases choice (one choice.texts) a.lexemes file.grammar [] (bases (most_bases choice) a.entries) a.mutants b.mutants a.negatives negatives in
      let lines = subst (λ (l : Option (List (Option (List ℕ)))). IsTextIn choice.format choice file l b.entries b.mutants other) (sym lexemes) b.lines in
      let lines_of = subst (λ (es : List GoalEntry). IsTextIn choice.format choice file a.lexemes es b.mutants other) (sym entries) lines in
      one_text_in choice (one choice.texts) file a.lexemes a.entries a.mutants choice.format text other a.lines
      (subst (λ (bs : List BaseEntry). IsTextIn choice.format choice file a.lexemes a.entries bs other) (sym mutants) lines_of)
