-- A suite of the second format passes.
use Rattle.std.proofs.Common.{◌≡◌, ℕ, List, [], ◌∷◌, Option, None, Some, length, refl, sym, ap, ◌∙◌, subst, inl, inr}
use Rattle.std.specs.List.{AllByRecursion}
use Rattle.cs_choices.specs.declared.format.Format.{Format}
use Rattle.cs_goals.specs.declared.goal.Goal.{Goal}
use Rattle.cs_goals.specs.Goal.{IsGoal}
use Rattle.cs_goals.specs.Goals.{goals}
use Rattle.cs_goals.proofs.Members.{Among, Contains-from_Among}
use Rattle.cs_goals.proofs.Once.{all}
use Rattle.cs_verdicts.specs.Positive.Verdict.{IsVerdict}
use Rattle.cs_verdicts.specs.Cases.Cases.{no_cases}
use Rattle.cs_yacc.specs.Reading.File.{File}
use Rattle.cs_manifest.specs.Manifest.Manifest.{AreLexemesBy, AreShared, BaseEntry, BasesOf, Choice, EntriesOf, GoalEntry, IsSharedText, IsTextIn, LexemeList, Texts, bases, goal_texts, most_bases, weighed_by}
use Rattle.cs_check.specs.Passing.Passing.{Passes}
use Rattle.cs_accord.specs.Accord.{IsSuiteBy, SuitesPass, checked}
use Rattle.cs_accord.specs.Named.{IsNamedFile}
use Rattle.cs_accord.specs.Suite.{suite_lines}
use Rattle.cs_accord.proofs.OnSuite.Fine.{passes}
use Rattle.cs_accord.proofs.OnSuite.Setting.{Setting, IsSetting, Body, IsBody, IsKnownEntry, goals_of, measure}
use Rattle.cs_accord.proofs.OnSuite.Whole.{whole_fine}
use Rattle.cs_accord.proofs.OnSuite.WritingBases.{whole_written}

-- the entries of goals are of these, and known
entries_known : (s : Setting) (gs : List Goal) (entries : List GoalEntry) → ((goal : Goal) → Among goal gs → IsGoal s.file.grammar goal)
    → EntriesOf (weighed_by s.choice s.file (Some s.lexemes)) (goal_texts s.choice) (Some s.lexemes) gs entries → (gs ≡ goals_of entries) × AllByRecursion (IsKnownEntry s) entries
entries_known s [] [] each zip = (refl, tt)
entries_known s [] (e ∷ entries) each zip = absurd zip
entries_known s (goal ∷ gs) [] each zip = absurd zip
entries_known s (goal ∷ gs) (e ∷ entries) each zip =
    let is = zip.0 in
    let rest = entries_known s gs entries (λ other among. each other (inr among)) zip.1 in
    let verdict = subst (λ (x : Goal). IsVerdict (measure s) s.file.grammar x e.verdict) (sym is.is_of) is.verdict in (
      ap (λ (x : Goal). x ∷ gs) (sym is.is_of) ∙ ap (λ (xs : List Goal). e.goal ∷ xs) rest.0,
      (record { is_goal = subst (IsGoal s.file.grammar) (sym is.is_of) (each goal (inl refl)); verdict = verdict; tokens = is.tokens }, rest.1),
    )

module _ {texts : Texts} {choice : Choice} {file : File} (named : IsNamedFile file) (by : IsSuiteBy texts choice) where
  of_parts : (lexemes : Option LexemeList) {entries : List GoalEntry} {mutants : List BaseEntry} {text : List ℕ} → AreLexemesBy (Some texts) file.grammar.tokens lexemes
      → EntriesOf (weighed_by choice file lexemes) (goal_texts choice) lexemes (goals file.grammar choice.criteria) entries
      → BasesOf file.grammar choice lexemes [] (bases (most_bases choice) entries) mutants → IsSharedText choice file lexemes entries mutants text → Passes (checked file texts) text
  of_parts None are verdicts negatives lines = absurd are
  of_parts (Some lexemes) {entries} {mutants} {text} are verdicts negatives lines =
      let s : Setting = record { file = file; choice = choice; texts = texts; lexemes = lexemes; closed = lines.closed } in
      let is : IsSetting s = record { named = named; texts_are = by.texts_are; separator = by.separator; lexemes = are; closed = lines.are_closed } in
      let gs = goals file.grammar choice.criteria in
      let b : Body = record { entries = entries; cases = lines.cases; list = lines.list; mutants = mutants } in
      let known = entries_known s gs entries (λ goal among. ((all file.grammar choice.criteria goal).0 (Contains-from_Among goal gs among)).1) verdicts in
      let body : IsBody s b = record {
        goals_are = known.0;
        known = known.1;
        shared = subst (λ (o : Option Texts). AreShared o (Some lexemes) (no_cases file.grammar) entries lines.cases lines.list) by.texts_are lines.are_shared;
        bases_are = negatives;
      } in
      let written = whole_written is b body in
      let fine = whole_fine is b body in
      passes (checked file texts) (suite_lines file choice.weigh lexemes lines.closed entries lines.list (length lines.cases.codes) mutants) text written.are fine.0 fine.1 (lines.lines ∙ written.is)

pub suite_passes : (file : File) → IsNamedFile file → SuitesPass file
suite_passes file named texts choice text by m =
    of_parts named by m.lexemes
    (subst (λ (o : Option Texts). AreLexemesBy o file.grammar.tokens m.lexemes) by.texts_are m.are_lexemes) m.verdicts m.negatives
    (subst (λ (f : Format). IsTextIn f choice file m.lexemes m.entries m.mutants text) by.format m.lines)
