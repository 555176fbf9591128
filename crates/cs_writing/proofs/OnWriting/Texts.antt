-- From the entries and bases of a plan to its manifest, and back; the manifest written part by part.
use Rattle.std.proofs.Common.{◌≡◌, ℕ, ◌+◌, ◌-◌, ◌^◌, List, [], ◌++◌, length, length-append, min, refl, sym, ap, ◌∙◌, subst, Option, None, Some, arith}
use Rattle.std.specs.Prelude.{count_by, option_map}
use Rattle.cs_grammar.specs.Grammar.{PlainGrammar}
use Rattle.cs_grammar.specs.Weights.{Measure, Weighed, weighed}
use Rattle.cs_goals.specs.Goals.{goals}
use Rattle.cs_writing.specs.Bases.Bases.{PlainBases}
use Rattle.cs_verdicts.specs.Cases.Cases.{PlainCases, no_cases}
use Rattle.cs_verdicts.specs.Closed.Closed.{ClosedSets}
use Rattle.cs_verdicts.proofs.OnClosed.OneClosed.{one_closed}
use Rattle.cs_io.specs.declared.sink.Sink as Sink
use Rattle.cs_manifest.specs.Manifest.ByWork.{texts_of}
use Rattle.cs_manifest.specs.Output.Putting.{shown}
use Rattle.cs_io.specs.Lines.{IsCutShort, IsWritten}
use Rattle.cs_manifest.proofs.OnOutput.Written.{written_then, written_cut, cut_longer}
use Rattle.cs_manifest.specs.declared.manifest.counts.Counts.{Counts}
use Rattle.cs_choices.specs.declared.format.Format.TheVariants.{One}
use Rattle.cs_manifest.specs.Manifest.Counts.{behind_end, counts_of_head, end_of}
use Rattle.cs_manifest.specs.declared.manifest.head.Head.{Head}
use Rattle.cs_manifest.specs.Manifest.Head.{Sharing, yacc_of, head_of, lexemes_of, head_with, first_cases, sharing_of}
use Rattle.cs_manifest.specs.Manifest.Lines.{end_words, is_feasible, is_infeasible, is_large}
use Rattle.cs_manifest.specs.Manifest.Manifest.{AreLexemesBy, BaseEntry, BasesOf, EntriesOf, GoalEntry, HasOneText, IsTextIn, Texts, base_entry_lines, bases, end_line_with, goal_texts, most_bases, shared_text, weighed_by}
use Rattle.cs_manifest.specs.Writer.Progress.{begun}
use Rattle.cs_manifest.proofs.OnManifest.OneManifest.{one_manifest_by}
use Rattle.cs_yacc.specs.Reading.File.{File}
use Rattle.cs_writing.specs.declared.plan.plan.Plan.{Plan}
use Rattle.cs_writing.specs.declared.plan.plan.PlanForm.{PlanForm}
use Rattle.cs_writing.specs.declared.plan.plan.PlanForm.TheVariants.{Rules, Suite, Shared}
use Rattle.cs_writing.specs.Plan.Plans.{IsFormOf, IsPlan, IsPlanned, choice_in, format_by, lexemes_in, means_in, measure_in, sharing_by, sharing_in, texts_in}
use Rattle.cs_io.specs.declared.halt.Halt.{Halt}
use Rattle.cs_io.specs.declared.halt.Halt.TheVariants.{Failed}
use Rattle.cs_writing.specs.Writing.Mutants.{negatives_in}
use Rattle.cs_writing.specs.Writing.Writing.{CountsOfAll}
use Rattle.cs_writing.specs.Writing.Written.{AreGoals, AreLinesOf, IsFresh, lines_from, shared_lines_from}
use Rattle.cs_io.specs.Stops.{HasSomeText, HasText, IsStopped}
use Rattle.cs_writing.proofs.OnWriting.Parts.{HasBases, HasEntries, HasSomeBases, HasSomeEntries}
use Rattle.cs_io.proofs.Stops.{stopped_by_cut, stopped_longer, stopped_behind}
use Rattle.cs_writing.proofs.OnWriting.Told.{one_goals}

-- nothing was counted behind the head but its bytes
pub fresh_behind : (plan : Plan) (h : Head) → sharing_of h ≡ sharing_in plan → IsFresh plan (begun h).counts
fresh_behind plan h sharing =
    ap (λ (s : Option Sharing). record (counts_of_head (head_of h)) { cases = first_cases s }) sharing

-- goals of the plan's grammar, measured as it says
pub weighed_so : (plan : Plan) (of : Weighed) → of.grammar ≡ plan.yacc.now.grammar → of.weights ≡ measure_in plan → of ≡ weighed_by (choice_in plan) plan.yacc.now (lexemes_in plan)
weighed_so plan of grammar weights = ap (λ (g : PlainGrammar). weighed g of.weights) grammar ∙ ap (λ (w : Measure). weighed plan.yacc.now.grammar w) weights

lexemes_by : (file : File) (form : PlanForm) → IsFormOf file form
    → AreLexemesBy (option_map (λ m. texts_of m.work.now) (means_in form)) file.grammar.tokens (option_map (λ m. m.work.now.lexemes.now) (means_in form))
lexemes_by file Rules is = refl
lexemes_by file (Suite means) is = is.texts
lexemes_by file (Shared means closed) is = is.0.texts

-- how many cases the end tells of
abbrev cases_by : PlanForm → PlainCases → Option ℕ
cases_by Rules cases = None
cases_by (Suite means) cases = None
cases_by (Shared means closed) cases = Some (length cases.codes)

-- so many were counted
cases_counted : (form : PlanForm) (cases : PlainCases) → option_map (λ n. n + length cases.codes) (first_cases (sharing_by form)) ≡ cases_by form cases
cases_counted Rules cases = refl
cases_counted (Suite means) cases = refl
cases_counted (Shared means closed) cases = let e : 0 + length cases.codes ≡ length cases.codes = omega arith in ap (λ (n : ℕ). Some n) e

-- the first format tells of none
no_cases_by : (form : PlanForm) (cases : PlainCases) → format_by form ≡ One → cases_by form cases ≡ None
no_cases_by Rules cases first = refl
no_cases_by (Suite means) cases first = refl
no_cases_by (Shared means closed) cases first = absurd cc

-- ---- the text in a format

module _ (plan : Plan) where
  abbrev file : File
  file = plan.yacc.now

  abbrev none : PlainCases
  none = no_cases file.grammar

  abbrev body_of : List BaseEntry → List ℕ
  body_of mutants = base_entry_lines file 0 0 mutants

  -- the lines of the head
  abbrev pub head_in : List ℕ
  head_in = head_with file (lexemes_in plan) (sharing_in plan)

  -- the text of these entries and bases, part by part
  abbrev text_by : List GoalEntry → PlainCases → List ℕ → List BaseEntry → List ℕ
  text_by entries cases lines mutants = ((head_in ++ lines) ++ body_of mutants) ++ end_line_with (cases_by plan.form cases) entries mutants

-- the text of entries and bases in the plan's form, and back
module _ (plan : Plan) (entries : List GoalEntry) (mutants : List BaseEntry) where
  -- the same plan in another form
  abbrev in_form : PlanForm → Plan
  in_form form = record plan { form = form }

  abbrev IsText : PlanForm → List ℕ → Type 0
  IsText form text = IsTextIn (format_by form) (choice_in (in_form form)) plan.yacc.now (lexemes_in (in_form form)) entries mutants text

  text_in : (form : PlanForm) → IsFormOf plan.yacc.now form → (cases : PlainCases) (lines : List ℕ) → AreLinesOf (format_by form) (in_form form) 1 (none plan) entries cases lines
      → IsText form (text_by (in_form form) entries cases lines mutants)
  text_in Rules sets cases lines told = ap (λ (l : List ℕ). text_by (in_form Rules) entries cases l mutants) told.0
  text_in (Suite means) sets cases lines told = ap (λ (l : List ℕ). text_by (in_form (Suite means)) entries cases l mutants) told.0
  text_in (Shared means closed) sets cases lines told = record {
    closed = closed.now;
    cases = cases;
    list = told.list;
    are_closed = sets.1;
    are_shared = told.are;
    lines = ap (λ (l : List ℕ). text_by (in_form (Shared means closed)) entries cases l mutants) told.whole;
  }

  record IsTextBy (form : PlanForm) (text : List ℕ) : Type 0 where
    pub cases : PlainCases
    pub lines : List ℕ
    pub told : AreLinesOf (format_by form) (in_form form) 1 (none plan) entries cases lines
    pub whole : text ≡ text_by (in_form form) entries cases lines mutants

  text_from : (form : PlanForm) → IsFormOf plan.yacc.now form → (text : List ℕ) → IsText form text → IsTextBy form text
  text_from Rules sets text is = record { cases = none plan; lines = lines_from plan.yacc.now 1 entries; told = (refl, refl); whole = is }
  text_from (Suite means) sets text is = record { cases = none plan; lines = lines_from plan.yacc.now 1 entries; told = (refl, refl); whole = is }
  text_from (Shared means closed) sets text is =
      let plan_in = in_form (Shared means closed) in
      record {
        cases = is.cases;
        lines = shared_lines_from plan.yacc.now 1 is.list;
        told = record { list = is.list; are = is.are_shared; whole = refl };
        whole = is.lines ∙ ap (λ (c : ClosedSets). shared_text plan.yacc.now means.weigh (lexemes_in plan_in) c entries is.list (length is.cases.codes) mutants)
            (one_closed plan.yacc.now.grammar is.closed closed.now is.are_closed sets.1);
      }

-- ---- the manifest of a plan

module _ (plan : Plan) (of : Weighed) (one : (texts : Option Texts) → HasOneText texts) (is : IsPlan plan) (weighs : of ≡ weighed_by (choice_in plan) plan.yacc.now (lexemes_in plan)) where
  abbrev head : List ℕ
  head = head_in plan

  -- the entries of these bases
  abbrev AreOf : List (ℕ × List ℕ) → List BaseEntry → Type 0
  AreOf list mutants = BasesOf plan.yacc.now.grammar (choice_in plan) (lexemes_in plan) [] list mutants

  abbrev bases_in : List GoalEntry → List (ℕ × List ℕ)
  bases_in entries = bases (most_bases (choice_in plan)) entries

  -- its last line
  abbrev last_of : List GoalEntry → PlainCases → List BaseEntry → List ℕ
  last_of entries cases mutants = end_line_with (cases_by plan.form cases) entries mutants

  abbrev text_of : List GoalEntry → PlainCases → List ℕ → List BaseEntry → List ℕ
  text_of entries cases lines mutants = text_by plan entries cases lines mutants

  head_is : (h : Head) → yacc_of h ≡ plan.yacc.now → lexemes_of h ≡ lexemes_in plan → sharing_of h ≡ sharing_in plan → head_of h ≡ head
  head_is h same lexemes sharing =
      ap (λ (s : Option Sharing). head_with (yacc_of h) (lexemes_of h) s) sharing ∙ ap (λ (f : File). head_with f (lexemes_of h) (sharing_in plan)) same
      ∙ ap (λ (l : Option (List (Option (List ℕ)))). head_with plan.yacc.now l (sharing_in plan)) lexemes

  -- the bytes of the head are counted
  pub head_counted : (h : Head) → yacc_of h ≡ plan.yacc.now → lexemes_of h ≡ lexemes_in plan → sharing_of h ≡ sharing_in plan → (begun h).counts.bytes ≡ shown (length head)
  head_counted h same lexemes sharing = ap (λ (l : List ℕ). shown (length l)) (head_is h same lexemes sharing)

  lexemes_are : AreLexemesBy (texts_in plan) plan.yacc.now.grammar.tokens (lexemes_in plan)
  lexemes_are = lexemes_by plan.yacc.now plan.form is.form

  abbrev By : Weighed → Option (List (Option (List ℕ))) → List GoalEntry → Type 0
  By v lexemes entries = EntriesOf v (goal_texts (choice_in plan)) lexemes (goals v.grammar plan.criteria) entries

  planned : (entries : List GoalEntry) (cases : PlainCases) (lines : List ℕ) (mutants : List BaseEntry) → AreGoals plan of entries cases lines → AreOf (bases_in entries) mutants
      → IsPlanned plan (text_of entries cases lines mutants)
  planned entries cases lines mutants are of_bases = record {
    lexemes = lexemes_in plan;
    entries = entries;
    mutants = mutants;
    are_lexemes = lexemes_are;
    verdicts = subst (λ (v : Weighed). By v (lexemes_in plan) entries) weighs are.all;
    negatives = of_bases;
    lines = text_in plan entries mutants plan.form is.form cases lines are.told;
  }

  -- each manifest of the plan is one of its entries and bases
  record HasParts (text : List ℕ) : Type 0 where
    pub entries : List GoalEntry
    pub cases : PlainCases
    pub lines : List ℕ
    pub mutants : List BaseEntry
    pub are : AreGoals plan of entries cases lines
    pub of_bases : AreOf (bases_in entries) mutants
    pub whole : text ≡ text_of entries cases lines mutants

  planned_parts : (text : List ℕ) → IsPlanned plan text → HasParts text
  planned_parts text a =
      let choice = choice_in plan in
      let lexemes = (one (texts_in plan)).lexemes plan.yacc.now.grammar.tokens a.lexemes (lexemes_in plan) a.are_lexemes lexemes_are in
      let moved = subst (λ (l : Option (List (Option (List ℕ)))). By (weighed_by choice plan.yacc.now l) l a.entries) lexemes a.verdicts in
      let lines = subst (λ (l : Option (List (Option (List ℕ)))). IsTextIn (format_by plan.form) choice plan.yacc.now l a.entries a.mutants text) lexemes a.lines in
      let found = text_from plan a.entries a.mutants plan.form is.form text lines in
      record {
        entries = a.entries;
        cases = found.cases;
        lines = found.lines;
        mutants = a.mutants;
        are = record { all = subst (λ (v : Weighed). By v (lexemes_in plan) a.entries) (sym weighs) moved; told = found.told };
        of_bases = subst (λ (l : Option (List (Option (List ℕ)))). BasesOf plan.yacc.now.grammar choice l [] (bases_in a.entries) a.mutants) lexemes a.negatives;
        whole = found.whole;
      }

  -- the bases that were kept are those of the entries
  module _ {S : Type 0} {g : Sink.Ghosts S} (before mid after : Counts) (begun inner new : S) (kept : PlainBases) (fresh : IsFresh plan before) (first_bytes : before.bytes ≡ shown (length head))
      (goals_of : HasEntries g plan of begun inner before mid kept) (mutants : HasBases g plan kept.list inner new mid after) where
    abbrev entries : List GoalEntry
    entries = goals_of.entries

    kept_list : kept.list ≡ bases_in entries
    kept_list = ap (λ (b : PlainBases). b.list) goals_of.kept_are

    all_of : AreOf (bases_in entries) mutants.mutants
    all_of = subst (λ (l : List (ℕ × List ℕ)). AreOf l mutants.mutants) kept_list mutants.all

    abbrev whole : List ℕ
    whole = text_of entries goals_of.cases goals_of.lines mutants.mutants

    is_whole : IsPlanned plan whole
    is_whole = planned entries goals_of.cases goals_of.lines mutants.mutants goals_of.are all_of

    text_is : (text : List ℕ) → IsPlanned plan text → text ≡ whole
    text_is text is_text = one_manifest_by (choice_in plan) plan.yacc.now one text whole is_text is_whole

    -- the end of the counts
    pub cases_are : mid.cases ≡ cases_by plan.form goals_of.cases
    cases_are =
        goals_of.counted.cases ∙ ap (λ (c : Counts). option_map (λ n. n + length goals_of.cases.codes) c.cases) fresh
        ∙ cases_counted plan.form goals_of.cases

    end_is : end_of after ≡ last_of entries goals_of.cases mutants.mutants
    end_is =
        let many = negatives_in mutants.mutants in
        let some = count_by (λ (e : GoalEntry). is_feasible e.verdict) entries in
        let others = count_by (λ (e : GoalEntry). is_infeasible e.verdict) entries in
        let last = count_by (λ (e : GoalEntry). is_large e.verdict) entries in
        let goals_are : mid.goals ≡ length entries = goals_of.counted.goals ∙ ap (λ (c : Counts). c.goals + length entries) fresh ∙ omega arith in
        let feasible : mid.feasible ≡ some = goals_of.counted.feasible ∙ ap (λ (c : Counts). c.feasible + some) fresh ∙ omega arith in
        let infeasible : mid.infeasible ≡ others = goals_of.counted.infeasible ∙ ap (λ (c : Counts). c.infeasible + others) fresh ∙ omega arith in
        let large : mid.large ≡ last = goals_of.counted.large ∙ ap (λ (c : Counts). c.large + last) fresh ∙ omega arith in
        let negatives : mid.negatives + many ≡ many = ap (λ (n : ℕ). n + many) (goals_of.counted.negatives ∙ ap (λ (c : Counts). c.negatives) fresh) ∙ omega arith in
        ap end_of mutants.counted.same
        ∙ ap (λ (n : ℕ). end_words n mid.feasible mid.infeasible mid.large (mid.negatives + many) mid.cases) goals_are
        ∙ ap (λ (n : ℕ). end_words (length entries) n mid.infeasible mid.large (mid.negatives + many) mid.cases) feasible
        ∙ ap (λ (n : ℕ). end_words (length entries) some n mid.large (mid.negatives + many) mid.cases) infeasible
        ∙ ap (λ (n : ℕ). end_words (length entries) some others n (mid.negatives + many) mid.cases) large
        ∙ ap (λ (n : ℕ). end_words (length entries) some others last n mid.cases) negatives
        ∙ ap (λ (k : Option ℕ). end_words (length entries) some others last many k) cases_are

    -- the counts of a manifest whose head, entries and bases were written
    pub counts_are : CountsOfAll (IsPlanned plan) (behind_end after)
    counts_are text is_text =
        let end = end_of after in
        let body = goals_of.lines in
        let behind = body_of plan mutants.mutants in
        let split : text ≡ ((head ++ body) ++ behind) ++ end =
        text_is text is_text ∙ ap (λ (l : List ℕ). ((head ++ body) ++ behind) ++ l) (sym end_is) in
        record {
          before = (head ++ body) ++ behind;
          line = split;
          bytes =
              four (2 ^ 128 - 1) (length head) (length body) (length behind) (length end) before.bytes mid.bytes after.bytes first_bytes goals_of.counted.bytes mutants.counted.bytes
              ∙ ap shown (sym (ap length split ∙ length-append ((head ++ body) ++ behind) end
              ∙ ap (λ (k : ℕ). k + length end) (length-append (head ++ body) behind ∙ ap (λ (k : ℕ). k + length behind) (length-append head body))));
        }
      where
        four : (m h b x e p q r : ℕ) → p ≡ min h m → min q m ≡ min (p + b) m → min r m ≡ min (q + x) m → min (r + e) m ≡ min (((h + b) + x) + e) m
        four m h b x e p q r first second third = omega (arith, first, second, third)

    -- no cases are counted in the first format
    pub no_cases_are : format_by plan.form ≡ One → (behind_end after).cases ≡ None
    no_cases_are first = ap (λ (c : Counts). c.cases) mutants.counted.same ∙ cases_are ∙ no_cases_by plan.form goals_of.cases first

    -- the head, the entries, the bases and the end
    pub whole_text : (old last : S) → IsWritten g head old begun → IsWritten g (end_of after) new last → HasText g (IsPlanned plan) old last
    whole_text old last first end = record {
      text = whole;
      is = is_whole;
      written = written_then (written_then (written_then first goals_of.written) mutants.written) (subst (λ (l : List ℕ). IsWritten g l new last) end_is end);
    }

    -- the end was cut short
    pub end_cut : (old last : S) → IsWritten g head old begun → IsCutShort g (end_of after) new last → HasSomeText g (IsPlanned plan) old last Failed
    end_cut old last first cut text is_text =
        let end = subst (λ (l : List ℕ). IsCutShort g l new last) end_is cut in
        let stopped = written_cut (written_then (written_then first goals_of.written) mutants.written) end in
        subst (λ (l : List ℕ). IsStopped g l old last Failed) (sym (text_is text is_text)) (stopped_by_cut stopped)

  module _ {S : Type 0} {g : Sink.Ghosts S} where
    -- the head was written
    pub head_written : (h : Head) → yacc_of h ≡ plan.yacc.now → lexemes_of h ≡ lexemes_in plan → sharing_of h ≡ sharing_in plan → (old new : S) → IsWritten g (head_of h) old new → IsWritten g head old new
    head_written h same lexemes sharing old new written = subst (λ (l : List ℕ). IsWritten g l old new) (head_is h same lexemes sharing) written

    -- the head was cut short
    pub head_cut : (h : Head) → yacc_of h ≡ plan.yacc.now → lexemes_of h ≡ lexemes_in plan → sharing_of h ≡ sharing_in plan → (old new : S) → IsCutShort g (head_of h) old new
        → HasSomeText g (IsPlanned plan) old new Failed
    head_cut h same lexemes sharing old new cut_head text is_text =
        let cut = subst (λ (l : List ℕ). IsCutShort g l old new) (head_is h same lexemes sharing) cut_head in
        let found = planned_parts text is_text in
        let longer = cut_longer (last_of found.entries found.cases found.mutants) (cut_longer (body_of plan found.mutants) (cut_longer found.lines cut)) in
        subst (λ (l : List ℕ). IsStopped g l old new Failed) (sym found.whole) (stopped_by_cut longer)

    -- the writing of the entries stopped
    pub entries_stop : (halt : Halt) (old begun new : S) → IsWritten g head old begun → HasSomeEntries g plan of begun new halt → HasSomeText g (IsPlanned plan) old new halt
    entries_stop halt old begun new first stops text is_text =
        let found = planned_parts text is_text in
        let stopped = stopped_longer (last_of found.entries found.cases found.mutants)
        (stopped_longer (body_of plan found.mutants) (stopped_behind first (stops found.entries found.cases found.lines found.are))) in
        subst (λ (l : List ℕ). IsStopped g l old new halt) (sym found.whole) stopped

    -- the writing of the bases stopped; whichever the entries are, they are those that were written
    pub bases_stop : (halt : Halt) (before after : Counts) (old begun mid new : S) (kept : PlainBases) → IsWritten g head old begun → HasEntries g plan of begun mid before after kept
        → HasSomeBases g plan kept.list mid new halt → HasSomeText g (IsPlanned plan) old new halt
    bases_stop halt before after old begun mid new kept first goals_of stops text is_text =
        let found = planned_parts text is_text in
        let same = one_goals plan one of found.entries goals_of.entries found.cases goals_of.cases found.lines goals_of.lines found.are goals_of.are in
        let list : bases_in found.entries ≡ kept.list = ap bases_in same.entries_are ∙ sym (ap (λ (b : PlainBases). b.list) goals_of.kept_are) in
        let stopped = stops found.mutants (subst (λ (l : List (ℕ × List ℕ)). AreOf l found.mutants) list found.of_bases) in
        let whole = stopped_longer (last_of found.entries found.cases found.mutants) (stopped_behind (written_then first goals_of.written) stopped) in
        let lines : text ≡ ((head ++ goals_of.lines) ++ body_of plan found.mutants) ++ last_of found.entries found.cases found.mutants =
        found.whole ∙ ap (λ (l : List ℕ). ((head ++ l) ++ body_of plan found.mutants) ++ last_of found.entries found.cases found.mutants) same.lines_are in
        subst (λ (l : List ℕ). IsStopped g l old new halt) (sym lines) whole
