-- The lines of a suite lack each fault, from the first to the last.
use Rattle.std.proofs.Common.{◌≡◌, ◌+◌, List, [], ◌∷◌, ◌++◌, length, refl, ap, ◌∙◌, subst, arith}
use Rattle.cs_closed.proofs.OnClosed.Exact.{exact_closed}
use Rattle.cs_goals.specs.declared.goal.Goal.{Goal}
use Rattle.cs_verdicts.specs.Cases.Cases.{no_cases}
use Rattle.cs_manifest.proofs.OnManifest.Zips.{length_zip}
use Rattle.cs_lines.specs.Lines.Line.{Line, EndLine, Productive, Reachable, Empty}
use Rattle.cs_check.specs.Passing.Goals.{AreFinished}
use Rattle.cs_check.specs.Passing.Head.{tables, whole_head}
use Rattle.cs_check.specs.Passing.Places.{last_part}
use Rattle.cs_accord.specs.Suite.{numbered, table_lines, set_line, row_lines, head_lines, entry_lines, base_lines, suite_lines}
use Rattle.cs_accord.proofs.OnSuite.Above.{IsAbove, IsBehind, behind_both}
use Rattle.cs_accord.proofs.OnSuite.BaseGoals.{bases_known}
use Rattle.cs_accord.proofs.OnSuite.Bases.{all_negatives, bases_fine, end_fine}
use Rattle.cs_accord.proofs.OnSuite.Claims.{claimed_exact}
use Rattle.cs_accord.proofs.OnSuite.Due.{AreDue, all_due, words_in}
use Rattle.cs_accord.proofs.OnSuite.Entries.{sized_many}
use Rattle.cs_accord.proofs.OnSuite.Fine.{AreFine}
use Rattle.cs_accord.proofs.OnSuite.Goals.{Progress, IsProgress, content_of, head_starts, through, with_all}
use Rattle.cs_accord.proofs.OnSuite.Head.{head_zip, tables_zip, head_tells_none}
use Rattle.cs_accord.proofs.OnSuite.HeadLines.{IsHeadLine, IsHead, head_fine, head_within}
use Rattle.cs_accord.proofs.OnSuite.HeadTold.{head_below, head_told}
use Rattle.cs_accord.proofs.OnSuite.Setting.{Setting, IsSetting, Body, IsBody, by, counts_in, told_measure}
use Rattle.cs_accord.proofs.OnSuite.Telling.{in_head, of_end}
use Rattle.cs_accord.proofs.OnSuite.Totals.{totals}

module _ {s : Setting} (is : IsSetting s) where
  abbrev Head : List Line
  Head = head_lines s.file s.choice.weigh s.lexemes s.closed

  -- no goal is told yet
  abbrev Nothing : Progress
  Nothing = record { cases = no_cases s.file.grammar; goals = []; words = [] }

  head_above : IsAbove s Head (content_of Nothing in_head [])
  head_above = record { below = head_below s is; told = head_tells_none is }

  head_is_fine : AreFine (by s) [] Head
  head_is_fine =
      let zip = head_zip is in
      let as_many = length_zip (IsHeadLine s.file) (whole_head s.file.grammar) Head zip in
      let front = table_lines s.file s.choice.weigh s.lexemes in
      let front_many = length_zip (IsHeadLine s.file) (tables s.file.grammar) front (tables_zip is) in
      let set = set_line Productive s.file s.closed.productive in
      let rest = set_line Reachable s.file s.closed.reachable ∷ set_line Empty s.file s.closed.empty ∷ row_lines s.file s.closed in
      let known : IsHead (by s) Head = record {
        within = λ pre l post e. head_within s.file.grammar front set rest pre (l ∷ post) front_many as_many refl e;
        all = as_many;
        closed = λ sets claimed. exact_closed s.file.grammar sets (claimed_exact s.file is.named s.closed is.closed Head (head_told s is) sets claimed);
      } in
      head_fine known zip

  head_progress : IsProgress s Head Nothing
  head_progress = record { shown = in_head; starts = head_starts; sizes = []; told = head_above; sized = tt; of = refl }

  module _ (b : Body) (body : IsBody s b) where
    abbrev Lines : List Line
    Lines = suite_lines s.file s.choice.weigh s.lexemes s.closed b.entries b.list (length b.cases.codes) b.mutants

    -- all lines lack each fault, and the last is the end line
    pub whole_fine : AreFine (by s) [] Lines × (last_part Lines ≡ last_part of_end)
    whole_fine =
        let all = all_due s.file s.choice.criteria in
        let due = subst (λ (gs : List Goal). AreDue s.file [] gs × AreFinished s.file.grammar (words_in s.file gs)) body.goals_are all in
        let goal_lines = numbered 1 (entry_lines s.file) b.list in
        let goals_done = through is b.entries body.known head_progress due.0 b.cases b.list body.shared in
        let progress = goals_done.progress in
        let start : IsBehind s [] Head (content_of Nothing in_head []) = record { fine = head_is_fine; told = head_above } in
        let done = with_all s Nothing b.cases b.entries b.list in
        let after : IsBehind s Head goal_lines (content_of done progress.shown progress.sizes) = record { fine = goals_done.fine; told = progress.told } in
        let one = behind_both Head goal_lines start after in
        let mutant_lines = base_lines s.file 0 0 b.mutants in
        let mutants_done = bases_fine is b.mutants (bases_known s b body) progress.told progress.starts.base progress.starts.end due.1 in
        let two = behind_both (Head ++ goal_lines) mutant_lines one mutants_done.behind in
        let told = two.told.told in
        let as_many = sized_many s.file.grammar (told_measure s) progress.sizes b.cases.codes progress.sized in
        let nothing_more : 0 + all_negatives b.mutants ≡ all_negatives b.mutants = omega arith in
        let count = totals b (Head ++ goal_lines ++ mutant_lines) body (record {
          words = told.words_are;
          edits_are = ap (λ l. length l) told.edits_are ∙ mutants_done.many_edits ∙ nothing_more;
          cases_are = ap (λ l. length l) told.sizes_are ∙ as_many;
        }) in
        let last = end_fine two.told mutants_done.end due.1 (counts_in b) count in
        let whole = behind_both (Head ++ goal_lines ++ mutant_lines) (EndLine (counts_in b) ∷ []) two last in
        (whole.fine, whole.told.told.part_is)
