-- The bases of goals, one after another.
use Rattle.std.proofs.Common.{◌≡◌, ◌↔◌, Bool, ℕ, ◌+◌, ◌≤◌, List, [], ◌∷◌, ◌++◌, append_assoc, length, length-append, refl, sym, ap, ◌∙◌, subst, arith, None}
use Rattle.std.specs.Prelude.{IsTrue}
use Rattle.std.proofs.lemmas.List.{append-nil}
use Rattle.cs_manifest.proofs.OnManifest.Zips.{length_zip, zip_both}
use Rattle.cs_deep.specs.Edits.Bases.{GivesBases, KeepsPositive, entry_with}
use Rattle.cs_goals.specs.declared.goal.Goal.{Goal}
use Rattle.cs_grammar.specs.Grammar.{PlainGrammar}
use Rattle.cs_grammar.specs.Leftmost.{IsYield}
use Rattle.cs_grammar.specs.Weights.{Weighed}
use Rattle.cs_manifest.specs.Manifest.Lines.{is_feasible}
use Rattle.cs_manifest.specs.Manifest.Manifest.{AreTokensOf, EntriesOf, GoalEntry, IsEntryOf, IsTextOf}
use Rattle.cs_verdicts.specs.Positive.Positives.{IsNext, ToJudge}
use Rattle.cs_verdicts.specs.Positive.Verdict.{IsVerdictIn}
use Rattle.cs_verdicts.specs.declared.positive.positive.Positive.{Positive}
use Rattle.cs_verdicts.specs.declared.positive.verdict.Verdict.{Verdict}
use Rattle.cs_verdicts.specs.declared.positive.verdict.Verdict.TheVariants.{Feasible, Infeasible, Large}
use Rattle.cs_writing.proofs.OnWriting.Kept.{keeps_one, keeps_other, kept_more, none_kept}
use Rattle.cs_writing.specs.Bases.Bases.{IsFree, PlainBases, bases_of, no_bases, offered}

-- the bases of the first goals were kept, and these are left
pub record KeptSoFar (most : ℕ) (all : ToJudge) (left : List Goal) (number : ℕ) (kept : PlainBases) : Type 0 where
  pub done : List Goal
  pub entries : List GoalEntry
  pub split : all.goals ≡ done ++ left
  pub are : EntriesOf all.tables None None done entries
  pub number_is : number ≡ length entries
  pub kept_of : kept ≡ bases_of most entries

pub kept_none : (most : ℕ) (all : ToJudge) (kept : PlainBases) → kept ≡ no_bases most → KeptSoFar most all all.goals 0 kept
kept_none most all kept is = record { done = []; entries = []; split = refl; are = tt; number_is = refl; kept_of = none_kept most kept is }

no_text : (verdict : Verdict) (tokens : List ℕ) → IsTextOf None None verdict tokens None
no_text (Feasible size derivation) tokens = refl
no_text Infeasible tokens = refl
no_text Large tokens = refl

module _ (most : ℕ) (all old : ToJudge) (number : ℕ) (kept : PlainBases) (far : KeptSoFar most all old.goals number kept) (same : old.tables ≡ all.tables) where
  pub kept_next : (p : Positive) (new : ToJudge) (after : PlainBases) → IsNext old p new → KeepsPositive all.tables.grammar number p kept after → KeptSoFar most all new.goals (number + 1) after
  kept_next p new after next keeps =
      let entry = entry_with p keeps.tokens in
      let R = IsEntryOf all.tables None None in
      let here : R p.goal entry = record {
        is_of = refl;
        verdict = subst (λ (of : Weighed). IsVerdictIn of p.goal p.verdict) same next.verdict;
        tokens = keeps.are;
        text = no_text p.verdict keeps.tokens;
      } in
      record {
        done = far.done ++ p.goal ∷ [];
        entries = far.entries ++ entry ∷ [];
        split = far.split ∙ ap (λ (l : List Goal). far.done ++ l) next.goals ∙ sym (append_assoc far.done (p.goal ∷ []) new.goals);
        are = zip_both R far.done (p.goal ∷ []) far.entries (entry ∷ []) far.are (here, tt);
        number_is = omega (arith, far.number_is, length-append far.entries (entry ∷ []));
        kept_of = kept_more most number far.entries (entry ∷ []) kept after (sym far.number_is) far.kept_of keeps.keeps;
      }

  pub few_next : (p : Positive) (new : ToJudge) → IsNext old p new → number + 1 ≤ length all.goals
  few_next p new next =
      let whole = ap (λ (l : List Goal). length l) (far.split ∙ ap (λ (l : List Goal). far.done ++ l) next.goals) in
      omega (arith, far.number_is, length_zip (IsEntryOf all.tables None None) far.done far.entries far.are, whole, length-append far.done (p.goal ∷ new.goals))

pub kept_all : (most : ℕ) (all : ToJudge) (left : List Goal) (number : ℕ) (kept : PlainBases) → KeptSoFar most all left number kept → left ≡ [] → GivesBases most all kept
kept_all most all left number kept far none =
    let whole : all.goals ≡ far.done = far.split ∙ ap (λ (l : List Goal). far.done ++ l) none ∙ append-nil far.done in
    record {
      entries = far.entries;
      are = subst (λ (l : List Goal). EntriesOf all.tables None None l far.entries) (sym whole) far.are;
      kept_of = far.kept_of;
    }

-- ---- one goal

-- a feasible goal's tokens were offered
pub keeps_feasible : (g : PlainGrammar) (before : ℕ) (p : Positive) (n : ℕ) (derivation tokens : List ℕ) (taken : Bool) (old new : PlainBases) → p.verdict ≡ Feasible n derivation → IsYield g derivation tokens
    → IsTrue taken ↔ IsFree old tokens → new ≡ offered old (before + 1) tokens taken → KeepsPositive g before p old new
keeps_feasible g before p n derivation tokens taken old new is yield free left = record {
  tokens = tokens;
  are = subst (λ (v : Verdict). AreTokensOf g v tokens) (sym is) yield;
  keeps = keeps_one before (entry_with p tokens) tokens taken old new (ap is_feasible is) refl free left;
}

-- another goal has none
pub keeps_infeasible : (g : PlainGrammar) (before : ℕ) (p : Positive) (kept : PlainBases) → p.verdict ≡ Infeasible → KeepsPositive g before p kept kept
keeps_infeasible g before p kept is = record {
  tokens = [];
  are = subst (λ (v : Verdict). AreTokensOf g v []) (sym is) refl;
  keeps = keeps_other before (entry_with p []) kept (ap is_feasible is);
}

pub keeps_large : (g : PlainGrammar) (before : ℕ) (p : Positive) (kept : PlainBases) → p.verdict ≡ Large → KeepsPositive g before p kept kept
keeps_large g before p kept is = record {
  tokens = [];
  are = subst (λ (v : Verdict). AreTokensOf g v []) (sym is) refl;
  keeps = keeps_other before (entry_with p []) kept (ap is_feasible is);
}
