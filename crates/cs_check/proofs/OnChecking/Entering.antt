-- What the steps find out of lines behind the head is their judgement.
use Rattle.std.proofs.Common.{ℕ, Bool, true, false, List, [], ◌∷◌, ◌++◌, Option, Some, None, refl, ◌↔◌}
use Rattle.std.specs.Prelude.{IsTrue, if◌then◌else◌}
use Rattle.std.proofs.lemmas.Bool.{false≢true}
use Rattle.cs_check.specs.declared.passing.fault.ClaimFault.{ClaimFault}
use Rattle.cs_check.specs.declared.passing.fault.ClaimFault.TheVariants.{Form, Derive, Size, Yield, Scan, Goal, Infeasible, Base, Edit, Pair, Totals}
use Rattle.cs_check.specs.declared.checking.entries.Entries.{Entries}
use Rattle.cs_lines.specs.Words.Edits.{EditWords}
use Rattle.cs_lines.specs.Lines.Line.{GoalWords, VerdictWords, Counts, Line, CaseLine, DeriveLine, TokensLine, TextLine, NoLexemeLine, NoScanLine, GoalLine, BaseLine, NegativeLine, EndLine}
use Rattle.cs_check.specs.Passing.Faults.{Checked, Has}
use Rattle.cs_check.specs.Checking.Told.{AreEntries, IsDerivationJudged}
use Rattle.cs_check.specs.Checking.Verdicts.{IsGoalJudged, IsEndJudged}
use Rattle.cs_check.specs.Checking.Negatives.{IsBaseJudged, IsNegativeJudged}
use Rattle.cs_check.specs.Checking.Running.{IsEntryJudged}
use Rattle.cs_check.proofs.OnChecking.Kinds.{right_case, right_derive, wrong_derive_derive, wrong_derive_size, right_tokens, wrong_tokens_yield, right_text, wrong_text_scan, right_no_lexeme, right_no_scan, right_goal, wrong_goal_goal, wrong_goal_infeasible, right_base, wrong_base_goal, wrong_base_base, right_negative, wrong_negative_base, wrong_negative_edit, wrong_negative_pair, right_end, wrong_end_goal, wrong_end_totals}

module _ (c : Checked) (above : List Line) (new : Entries) where
  pub case_judged : (n size : ℕ) → Has c Form above (CaseLine n size) → AreEntries c.file (above ++ CaseLine n size ∷ []) new → IsEntryJudged c above (CaseLine n size) new None
  case_judged n size form t = (right_case c above n size form, t)

  pub derivation_judged : (rules : List ℕ) → Has c Form above (DeriveLine rules) → (o : Option ClaimFault) → IsDerivationJudged c.file above rules new o → IsEntryJudged c above (DeriveLine rules) new o
  derivation_judged rules form None h = (right_derive c above rules form h.0 h.1, h.2)
  derivation_judged rules form (Some Derive) h = wrong_derive_derive c above rules form h
  derivation_judged rules form (Some Size) h = wrong_derive_size c above rules form h.0 h.1
  derivation_judged rules form (Some f) h = absurd h

  pub tokens_judged : (names : List (List ℕ)) → Has c Form above (TokensLine names) → (so : Bool) → IsTrue so ↔ Has c Yield above (TokensLine names) → AreEntries c.file (above ++ TokensLine names ∷ []) new → IsEntryJudged c above (TokensLine names) new (if so then None else Some Yield)
  tokens_judged names form true tells t = (right_tokens c above names form (tells.0 refl), t)
  tokens_judged names form false tells t = wrong_tokens_yield c above names form (λ h. false≢true (tells.1 h))

  pub text_judged : (text : List ℕ) → Has c Form above (TextLine text) → (so : Bool) → IsTrue so ↔ Has c Scan above (TextLine text) → AreEntries c.file (above ++ TextLine text ∷ []) new → IsEntryJudged c above (TextLine text) new (if so then None else Some Scan)
  text_judged text form true tells t = (right_text c above text form (tells.0 refl), t)
  text_judged text form false tells t = wrong_text_scan c above text form (λ h. false≢true (tells.1 h))

  pub no_lexeme_judged : (name : List ℕ) → Has c Form above (NoLexemeLine name) → AreEntries c.file (above ++ NoLexemeLine name ∷ []) new → IsEntryJudged c above (NoLexemeLine name) new None
  no_lexeme_judged name form t = (right_no_lexeme c above name form, t)

  pub no_scan_judged : (after : ℕ) → Has c Form above (NoScanLine after) → AreEntries c.file (above ++ NoScanLine after ∷ []) new → IsEntryJudged c above (NoScanLine after) new None
  no_scan_judged after form t = (right_no_scan c above after form, t)

  pub goal_judged : (n : ℕ) (words : GoalWords) (verdict : VerdictWords) → Has c Form above (GoalLine n words verdict) → (o : Option ClaimFault) → IsGoalJudged c.file above n words verdict new o → IsEntryJudged c above (GoalLine n words verdict) new o
  goal_judged n words verdict form None h = (right_goal c above n words verdict form h.0 h.1, h.2)
  goal_judged n words verdict form (Some Goal) h = wrong_goal_goal c above n words verdict form h
  goal_judged n words verdict form (Some Infeasible) h = wrong_goal_infeasible c above n words verdict form h.0 h.1
  goal_judged n words verdict form (Some f) h = absurd h

  pub base_judged : (n goal : ℕ) → Has c Form above (BaseLine n goal) → (o : Option ClaimFault) → IsBaseJudged c.file above (BaseLine n goal) new o → IsEntryJudged c above (BaseLine n goal) new o
  base_judged n goal form None h = (right_base c above n goal form h.0 h.1, h.2)
  base_judged n goal form (Some Goal) h = wrong_base_goal c above n goal form h
  base_judged n goal form (Some Base) h = wrong_base_base c above n goal form h.0 h.1
  base_judged n goal form (Some f) h = absurd h

  pub negative_judged : (n base : ℕ) (edit : EditWords) (left right : List ℕ) (at : ℕ) → Has c Form above (NegativeLine n base edit left right at) → (o : Option ClaimFault) → IsNegativeJudged c.file above (NegativeLine n base edit left right at) new o → IsEntryJudged c above (NegativeLine n base edit left right at) new o
  negative_judged n base edit left right at form None h = (right_negative c above n base edit left right at form h.0 h.1 h.2, h.3)
  negative_judged n base edit left right at form (Some Base) h = wrong_negative_base c above n base edit left right at form h
  negative_judged n base edit left right at form (Some Edit) h = wrong_negative_edit c above n base edit left right at form h.0 h.1
  negative_judged n base edit left right at form (Some Pair) h = wrong_negative_pair c above n base edit left right at form h.0 h.1 h.2
  negative_judged n base edit left right at form (Some f) h = absurd h

  pub end_judged : (counts : Counts) → Has c Form above (EndLine counts) → (o : Option ClaimFault) → IsEndJudged c.file above counts new o → IsEntryJudged c above (EndLine counts) new o
  end_judged counts form None h = (right_end c above counts form h.0 h.1, h.2)
  end_judged counts form (Some Goal) h = wrong_end_goal c above counts form h
  end_judged counts form (Some Totals) h = wrong_end_totals c above counts form h.0 h.1
  end_judged counts form (Some f) h = absurd h
