-- Running numbers.
use Rattle.std.proofs.Common.{◌≡◌, ℕ, ◌+◌, ◌<◌, ◌↔◌, List, length, arith, eq-eqb}
use Rattle.std.specs.Prelude.{◌==◌, IsTrue, Option}
use Rattle.std.proofs.lemmas.Bool.{eqb-true}
use Rattle.std.specs.List.{filter_map}
use Rattle.std.specs.Borrow.{Bor}
use Rattle.cs_yacc.specs.Reading.File.{File}
use Rattle.cs_lines.specs.declared.lines.line.EditWords as held_edits
use Rattle.cs_lines.specs.declared.lines.line.GoalWords as held_goals
use Rattle.cs_lines.specs.declared.lines.line.Verdict as held_verdicts
use Rattle.cs_lines.specs.declared.lines.line.Line.TheVariants as told_lines
use Rattle.cs_lines.specs.Words.Edits.{EditWords}
use Rattle.cs_lines.specs.Lines.Line.{GoalWords, Line, Opening, Weighing, TokenLine, RuleLine, LexemeLine, SetLine, RowLine, CaseLine, DeriveLine, TokensLine, TextLine, NoLexemeLine, NoScanLine, GoalLine, BaseLine, NegativeLine, EndLine}
use Rattle.cs_lines.specs.Lines.Numbers.{IsRead}
use Rattle.cs_lines.specs.Lines.Read.{Tells}
use Rattle.cs_check.specs.declared.checking.entries.Entries.{Entries}
use Rattle.cs_check.specs.Passing.Above.{size_in, goal_in, base_in, edit_in}
use Rattle.cs_check.specs.Passing.Places.{IsNumbered}
use Rattle.cs_check.specs.Checking.Told.{AreEntries}
use Rattle.cs_check.proofs.OnChecking.Told.{few_told}

-- a number that is read is the next one of its kind
next_number : (X : Type 0) (in_line : Line → Option X) (lines : List Line) (number read count next : ℕ) → length lines < 4294967296 → IsRead number read → count ≡ length (filter_map in_line lines) → (count < 4294967296 → next ≡ count + 1) → IsTrue (read == next) ↔ (number ≡ length (filter_map in_line lines) + 1)
next_number X in_line lines number read count next few is counts more =
    let told = few_told in_line lines in
    let next_is = more (omega arith) in (
      λ e. let same = eqb-true read next e in omega arith,
      λ h. eq-eqb read next (omega arith),
    )

module _ (file : File) (lines : List Line) (e : Entries) (t : AreEntries file lines e) (n k : ℕ) where
  pub case_numbered : (s : ℕ) → (e.counts.cases < 4294967296 → k ≡ e.counts.cases + 1) → (l : Line) → Tells (told_lines.Case n s) l → IsTrue (n == k) ↔ IsNumbered lines l
  case_numbered s more Opening h = absurd h
  case_numbered s more (Weighing weigh) h = absurd h
  case_numbered s more (TokenLine number name) h = absurd h
  case_numbered s more (RuleLine number left right) h = absurd h
  case_numbered s more (LexemeLine name text) h = absurd h
  case_numbered s more (SetLine kind names) h = absurd h
  case_numbered s more (RowLine kind name names) h = absurd h
  case_numbered s more (CaseLine number size) h = next_number ℕ size_in lines number n (e.counts.cases) k t.few h.0 t.counts.cases more
  case_numbered s more (DeriveLine rules) h = absurd h
  case_numbered s more (TokensLine names) h = absurd h
  case_numbered s more (TextLine text) h = absurd h
  case_numbered s more (NoLexemeLine name) h = absurd h
  case_numbered s more (NoScanLine after) h = absurd h
  case_numbered s more (GoalLine number goal verdict) h = absurd h
  case_numbered s more (BaseLine number goal) h = absurd h
  case_numbered s more (NegativeLine number base edit left right at) h = absurd h
  case_numbered s more (EndLine counts) h = absurd h

  pub goal_numbered : (g : held_goals.GoalWords) (v : held_verdicts.Verdict) → (e.counts.goals < 4294967296 → k ≡ e.counts.goals + 1) → (l : Line) → Tells (told_lines.Goal n g v) l → IsTrue (n == k) ↔ IsNumbered lines l
  goal_numbered g v more Opening h = absurd h
  goal_numbered g v more (Weighing weigh) h = absurd h
  goal_numbered g v more (TokenLine number name) h = absurd h
  goal_numbered g v more (RuleLine number left right) h = absurd h
  goal_numbered g v more (LexemeLine name text) h = absurd h
  goal_numbered g v more (SetLine kind names) h = absurd h
  goal_numbered g v more (RowLine kind name names) h = absurd h
  goal_numbered g v more (CaseLine number size) h = absurd h
  goal_numbered g v more (DeriveLine rules) h = absurd h
  goal_numbered g v more (TokensLine names) h = absurd h
  goal_numbered g v more (TextLine text) h = absurd h
  goal_numbered g v more (NoLexemeLine name) h = absurd h
  goal_numbered g v more (NoScanLine after) h = absurd h
  goal_numbered g v more (GoalLine number goal verdict) h = next_number GoalWords goal_in lines number n (e.counts.goals) k t.few h.0 t.counts.goals more
  goal_numbered g v more (BaseLine number goal) h = absurd h
  goal_numbered g v more (NegativeLine number base edit left right at) h = absurd h
  goal_numbered g v more (EndLine counts) h = absurd h

  pub base_numbered : (g : ℕ) → (e.bases < 4294967296 → k ≡ e.bases + 1) → (l : Line) → Tells (told_lines.Base n g) l → IsTrue (n == k) ↔ IsNumbered lines l
  base_numbered g more Opening h = absurd h
  base_numbered g more (Weighing weigh) h = absurd h
  base_numbered g more (TokenLine number name) h = absurd h
  base_numbered g more (RuleLine number left right) h = absurd h
  base_numbered g more (LexemeLine name text) h = absurd h
  base_numbered g more (SetLine kind names) h = absurd h
  base_numbered g more (RowLine kind name names) h = absurd h
  base_numbered g more (CaseLine number size) h = absurd h
  base_numbered g more (DeriveLine rules) h = absurd h
  base_numbered g more (TokensLine names) h = absurd h
  base_numbered g more (TextLine text) h = absurd h
  base_numbered g more (NoLexemeLine name) h = absurd h
  base_numbered g more (NoScanLine after) h = absurd h
  base_numbered g more (GoalLine number goal verdict) h = absurd h
  base_numbered g more (BaseLine number goal) h = next_number ℕ base_in lines number n (e.bases) k t.few h.0 t.bases more
  base_numbered g more (NegativeLine number base edit left right at) h = absurd h
  base_numbered g more (EndLine counts) h = absurd h

  pub negative_numbered : (b : ℕ) (d : held_edits.EditWords) (left_name right_name : Bor (List ℕ)) (i : ℕ) → (e.counts.negatives < 4294967296 → k ≡ e.counts.negatives + 1) → (l : Line) → Tells (told_lines.Negative n b d left_name right_name i) l → IsTrue (n == k) ↔ IsNumbered lines l
  negative_numbered b d left_name right_name i more Opening h = absurd h
  negative_numbered b d left_name right_name i more (Weighing weigh) h = absurd h
  negative_numbered b d left_name right_name i more (TokenLine number name) h = absurd h
  negative_numbered b d left_name right_name i more (RuleLine number left right) h = absurd h
  negative_numbered b d left_name right_name i more (LexemeLine name text) h = absurd h
  negative_numbered b d left_name right_name i more (SetLine kind names) h = absurd h
  negative_numbered b d left_name right_name i more (RowLine kind name names) h = absurd h
  negative_numbered b d left_name right_name i more (CaseLine number size) h = absurd h
  negative_numbered b d left_name right_name i more (DeriveLine rules) h = absurd h
  negative_numbered b d left_name right_name i more (TokensLine names) h = absurd h
  negative_numbered b d left_name right_name i more (TextLine text) h = absurd h
  negative_numbered b d left_name right_name i more (NoLexemeLine name) h = absurd h
  negative_numbered b d left_name right_name i more (NoScanLine after) h = absurd h
  negative_numbered b d left_name right_name i more (GoalLine number goal verdict) h = absurd h
  negative_numbered b d left_name right_name i more (BaseLine number goal) h = absurd h
  negative_numbered b d left_name right_name i more (NegativeLine number base edit left right at) h = next_number EditWords edit_in lines number n (e.counts.negatives) k t.few h.0 t.counts.negatives more
  negative_numbered b d left_name right_name i more (EndLine counts) h = absurd h
