-- A line behind the head, by what the code is told of it.
use Rattle.std.proofs.Common.{ℕ, ◌+◌, ◌<◌, Bool, List, Option, Some, None, length, subst, inr, ◌↔◌}
use Rattle.std.specs.Prelude.{IsTrue, IfOk, Result, if◌then◌else◌}
use Rattle.std.specs.List.{Contains}
use Rattle.std.proofs.lemmas.Result.{IfOk-weaker}
use Rattle.cs_yacc.specs.Reading.File.{File}
use Rattle.cs_scanner.specs.Scan.Scan.{Scanning}
use Rattle.cs_closed.specs.Closed.Sets.{PlainSets}
use Rattle.cs_lines.specs.declared.lines.line.Line.TheVariants as lines
use Rattle.cs_lines.specs.declared.lines.line.Counts as held_counts
use Rattle.cs_lines.specs.declared.lines.line.GoalWords as held_goals
use Rattle.cs_lines.specs.declared.lines.line.Verdict as held_verdicts
use Rattle.cs_lines.specs.declared.lines.names.Names.{Names}
use Rattle.cs_lines.specs.declared.lines.numbers.Numbers.{Numbers}
use Rattle.cs_lines.specs.declared.lines.quoted.Quoted.{Quoted}
use Rattle.cs_lines.specs.Lines.Line.{Line, CaseLine, DeriveLine, TokensLine, TextLine, NoLexemeLine, NoScanLine, GoalLine, BaseLine, NegativeLine, EndLine}
use Rattle.cs_lines.specs.Lines.Read.{Tells, IsText, names_in, numbers_in}
use Rattle.cs_check.specs.declared.passing.fault.ClaimFault.{ClaimFault}
use Rattle.cs_check.specs.declared.passing.fault.ClaimFault.TheVariants.{Yield, Scan}
use Rattle.cs_check.specs.declared.checking.head.Head.{Head}
use Rattle.cs_check.specs.declared.checking.entries.Entries.{Entries}
use Rattle.cs_check.specs.declared.checking.negatives.Negative.{Negative}
use Rattle.cs_check.specs.Passing.Places.{text_part, last_part, next_parts, IsBehindHead}
use Rattle.cs_check.specs.Passing.Faults.{HasTokens, HasScan}
use Rattle.cs_check.specs.Checking.Excluded.{AreSetsIn}
use Rattle.cs_check.specs.Checking.Told.{AreEntries, checked_by, IsDerivationJudged, TakesCase, TellsTokens, JudgesDerivation}
use Rattle.cs_check.specs.Checking.Head.{HasEnded}
use Rattle.cs_check.specs.Checking.Verdicts.{IsGoalJudged, JudgesGoal, JudgesEnd}
use Rattle.cs_check.specs.Checking.Negatives.{IsBaseJudged, IsNegativeJudged, JudgesBase, JudgesNegative}
use Rattle.cs_check.specs.Checking.Running.{IsShort, IsEntryJudged}
use Rattle.cs_check.proofs.OnChecking.Quiet.{tokens_taken, text_taken, no_lexeme_taken, no_scan_taken}
use Rattle.cs_check.proofs.OnChecking.Entering.{case_judged, derivation_judged, tokens_judged, text_judged, no_lexeme_judged, no_scan_judged, goal_judged, base_judged, negative_judged, end_judged}

module _ (file : File) (scanning : Scanning) (above : List Line) (old : Entries) (t : AreEntries file above old) (few : length above + 1 < 4294967296) where
  -- ---- the lines of a case

  pub case_arm : (new : Entries) (n s : ℕ) (l : Line) → Tells (lines.Case n s) l → IsBehindHead file.grammar above l → TakesCase old s new → IsEntryJudged (checked_by file scanning) above l new None
  case_arm new n s (CaseLine number size) tells h takes =
      case_judged (checked_by file scanning) above new number size (inr h) (takes file above number size t h.part tells.1 few)
  case_arm new n s l tells h takes = absurd tells

  pub derive_arm : {E : Type 0} (head : Head) → HasEnded file above head → (new : Entries) (numbers : Numbers) (l : Line) → Tells (lines.Derive numbers) l → IsBehindHead file.grammar above l → (result : Result (Option ClaimFault) E) → JudgesDerivation old head.numbers.items (numbers_in numbers) new result → IfOk result (IsEntryJudged (checked_by file scanning) above l new)
  derive_arm head ended new numbers (DeriveLine rules) tells h result judges =
      let m = ended.measured in
      IfOk-weaker result (IsDerivationJudged file above rules new) (IsEntryJudged (checked_by file scanning) above (DeriveLine rules) new)
      (derivation_judged (checked_by file scanning) above new rules (inr h))
      (subst (λ (r : List ℕ). IfOk result (IsDerivationJudged file above r new)) tells (judges file above m.0 t h.part few m.1 m.2 m.3))
  derive_arm head ended new numbers l tells h result judges = absurd tells

  pub tokens_arm : (named : Names) (l : Line) → Tells (lines.Tokens named) l → IsBehindHead file.grammar above l → (so : Bool) → TellsTokens file old (names_in named) so → IsEntryJudged (checked_by file scanning) above l old (if so then None else Some Yield)
  tokens_arm named (TokensLine names) tells h so is =
      tokens_judged (checked_by file scanning) above old names (inr h) so
      (subst (λ (n : List (List ℕ)). IsTrue so ↔ HasTokens file above (TokensLine n)) tells (is above t h.part))
      (tokens_taken file above old t few names h.part)
  tokens_arm named l tells h so is = absurd tells

  pub text_arm : (quoted : Quoted) (l : Line) → Tells (lines.Text quoted) l → IsShort (lines.Text quoted) → IsBehindHead file.grammar above l → (so : Bool) → ((f : File) (ls : List Line) (text : List ℕ) → AreEntries f ls old → Contains (next_parts (last_part ls)) (text_part (last_part ls)) → IsText quoted text → length text < 4294967296 → IsTrue so ↔ HasScan (checked_by f scanning) ls (TextLine text)) → IsEntryJudged (checked_by file scanning) above l old (if so then None else Some Scan)
  text_arm quoted (TextLine text) tells short h so is =
      text_judged (checked_by file scanning) above old text (inr h) so (is file above text t h.part tells (short text tells))
      (text_taken file above old t few text h.part)
  text_arm quoted l tells short h so is = absurd tells

  pub no_text_arm : (l : Line) → Tells lines.NoText l → IsBehindHead file.grammar above l → IsEntryJudged (checked_by file scanning) above l old None
  no_text_arm (NoLexemeLine name) tells h =
      no_lexeme_judged (checked_by file scanning) above old name (inr h) (no_lexeme_taken file above old t few name h.part)
  no_text_arm (NoScanLine after) tells h =
      no_scan_judged (checked_by file scanning) above old after (inr h) (no_scan_taken file above old t few after h.part)
  no_text_arm l tells h = absurd tells

  -- ---- goals and the end

  pub goal_arm : {E : Type 0} (sets : Option PlainSets) → AreSetsIn file above sets → (new : Entries) (n : ℕ) (goal : held_goals.GoalWords) (verdict : held_verdicts.Verdict) (l : Line) → Tells (lines.Goal n goal verdict) l → IsBehindHead file.grammar above l → (result : Result (Option ClaimFault) E) → JudgesGoal file sets old goal verdict new result → IfOk result (IsEntryJudged (checked_by file scanning) above l new)
  goal_arm sets in_lines new n goal verdict (GoalLine number words v) tells h result judges =
      IfOk-weaker result (IsGoalJudged file above number words v new) (IsEntryJudged (checked_by file scanning) above (GoalLine number words v) new)
      (goal_judged (checked_by file scanning) above new number words v (inr h))
      (judges above number words v t in_lines h.part few tells.1 tells.2)
  goal_arm sets in_lines new n goal verdict l tells h result judges = absurd tells

  pub end_arm : (told : held_counts.Counts) (l : Line) → Tells (lines.End told) l → IsBehindHead file.grammar above l → (result : Option ClaimFault) → JudgesEnd old told result → IsEntryJudged (checked_by file scanning) above l old result
  end_arm told (EndLine counts) tells h result judges =
      end_judged (checked_by file scanning) above old counts (inr h) result (judges file above counts t h.part few tells)
  end_arm told l tells h result judges = absurd tells

  -- ---- bases and negatives

  pub base_arm : {E : Type 0} (new : Entries) (n g : ℕ) (l : Line) → Tells (lines.Base n g) l → IsBehindHead file.grammar above l → (result : Result (Option ClaimFault) E) → JudgesBase old g new result → IfOk result (IsEntryJudged (checked_by file scanning) above l new)
  base_arm new n g (BaseLine number goal) tells h result judges =
      IfOk-weaker result (IsBaseJudged file above (BaseLine number goal) new) (IsEntryJudged (checked_by file scanning) above (BaseLine number goal) new)
      (base_judged (checked_by file scanning) above new number goal (inr h))
      (judges file above number goal t h.part few tells.1)
  base_arm new n g l tells h result judges = absurd tells

  -- by what is handed on of it
  pub negative_arm : {E : Type 0} (sets : Option PlainSets) → AreSetsIn file above sets → (new : Entries) (n : ℕ) (told : Negative) (l : Line) → Tells (lines.Negative n told.base told.edit told.left told.right told.at) l → IsBehindHead file.grammar above l → (result : Result (Option ClaimFault) E) → JudgesNegative file sets old told new result → IfOk result (IsEntryJudged (checked_by file scanning) above l new)
  negative_arm sets in_lines new n told (NegativeLine number base edit left right at) tells h result judges =
      let l : Line = NegativeLine number base edit left right at in
      IfOk-weaker result (IsNegativeJudged file above l new) (IsEntryJudged (checked_by file scanning) above l new)
      (negative_judged (checked_by file scanning) above new number base edit left right at (inr h))
      (subst (λ (x : List ℕ). IfOk result (IsNegativeJudged file above (NegativeLine number base edit left x at) new)) tells.4
      (subst (λ (x : List ℕ). IfOk result (IsNegativeJudged file above (NegativeLine number base edit x told.right.now at) new)) tells.3
      (judges above number base edit at t in_lines h.part few tells.1 tells.2 tells.5)))
  negative_arm sets in_lines new n told l tells h result judges = absurd tells
