-- The entries of the first goals, written batch by batch.
use Rattle.std.proofs.Common.{◌≡◌, ℕ, ◌+◌, ◌<◌, ◌≤◌, List, [], ◌++◌, length, length-append, refl, sym, ap, ◌∙◌, subst, Option, None, Some, arith, append_assoc, append-nil}
use Rattle.std.specs.Prelude.{IfSome}
use Rattle.std.specs.List.{AllZip}
use Rattle.std.proofs.lemmas.List.{length-map}
use Rattle.cs_writing.specs.Bases.Bases.{PlainBases, bases_of}
use Rattle.cs_verdicts.specs.Cases.Cases.{PlainCases, no_cases}
use Rattle.cs_io.specs.declared.sink.Sink as Sink
use Rattle.cs_grammar.specs.Grammar.{IsGrammar}
use Rattle.cs_grammar.specs.Weights.{Weighed}
use Rattle.cs_goals.specs.declared.goal.Goal.{Goal}
use Rattle.cs_goals.specs.Goals.{goals}
use Rattle.cs_io.specs.Lines.{IsCutShort, IsWritten}
use Rattle.cs_manifest.proofs.OnOutput.Written.{written_none, written_then, written_cut, cut_longer}
use Rattle.cs_manifest.specs.declared.manifest.counts.Counts.{Counts}
use Rattle.cs_manifest.specs.Manifest.Head.{Sharing, first_cases}
use Rattle.cs_manifest.specs.Manifest.Manifest.{GoalEntry, HasOneText, Texts, most_bases}
use Rattle.cs_manifest.specs.Writer.Progress.{Progress}
use Rattle.cs_verdicts.specs.Positive.Positives.{ToJudge}
use Rattle.cs_writing.specs.declared.plan.plan.Plan.{Plan}
use Rattle.cs_writing.specs.Plan.Entries.{AreNext}
use Rattle.cs_writing.specs.Plan.Made.{MadeEntry, entries_of, entry_of}
use Rattle.cs_writing.specs.Plan.Plans.{IsEntryIn, choice_in, format_by, sharing_in}
use Rattle.cs_writing.proofs.OnPlan.Telling.{are_entries}
use Rattle.cs_io.specs.declared.halt.Halt.TheVariants.{Failed, Memory}
use Rattle.cs_writing.specs.Writing.Mutants.{Keeps}
use Rattle.cs_writing.specs.Writing.Written.{AreCounted, AreEntriesIn, AreGoals, AreLinesIn, AreWithin, CountsGoals, HasNumbers, IsFresh, IsReady, TellsGoals}
use Rattle.cs_io.specs.Stops.{IsStopped}
use Rattle.cs_writing.proofs.OnWriting.Counted.{goals_none, goals_then, within_more}
use Rattle.cs_writing.proofs.OnWriting.Few.{few_goals}
use Rattle.cs_writing.proofs.OnWriting.Kept.{kept_more}
use Rattle.cs_manifest.proofs.OnManifest.Zips.{length_zip, zip_both}
use Rattle.cs_writing.proofs.OnWriting.Ones.{nothing_in, zip_front}
use Rattle.cs_writing.proofs.OnWriting.Parts.{HasEntries, HasSomeEntries}
use Rattle.cs_io.proofs.Stops.{stopped_by_memory, stopped_by_cut}
use Rattle.cs_writing.proofs.OnWriting.Told.{lines_both, lines_none, one_goals, one_in, one_list, told_front}

-- the entries of the first goals, where these are left
pub record FirstEntries (plan : Plan) (of : Weighed) (left : List Goal) (entries : List GoalEntry) : Type 0 where
  pub done : List Goal
  pub each : AllZip (IsEntryIn plan of) done entries
  pub whole : goals of.grammar plan.criteria ≡ done ++ left

-- These are the entries of the first goals that were left, and those behind them are left; there are some, unless none was left.
pub record ComeNext (plan : Plan) (old : ToJudge) (entries : List GoalEntry) (new : ToJudge) : Type 0 where
  pub goals : List Goal
  pub split : old.goals ≡ goals ++ new.goals
  pub each : AllZip (IsEntryIn plan old.tables) goals entries
  pub some : entries ≡ [] → old.goals ≡ []

-- as many entries
pub entries_length : (list : List MadeEntry) → length (entries_of list) ≡ length list
entries_length list = length-map list entry_of

-- those of what is made come so
pub come_next : {plan : Plan} {old new : ToJudge} {before after : PlainCases} {list : List MadeEntry} → AreNext plan old before list new after → ComeNext plan old (entries_of list) new
come_next {plan} {old} {new} {before} {after} {list} next = record {
  goals = next.goals;
  split = next.split;
  each = are_entries plan old.tables before after next.goals list next.each;
  some = λ none. next.some (nothing_in list (let nothing : length (entries_of list) ≡ 0 = ap length none in omega (arith, nothing, entries_length list)));
}

-- These entries come next, behind so many and behind these cases, and have these lines.
pub record IsBatch (plan : Plan) (number : ℕ) (left : ToJudge) (cases : PlainCases) (made : List GoalEntry) (new : ToJudge) (more : PlainCases) (lines : List ℕ) : Type 0 where
  pub next : ComeNext plan left made new
  pub told : AreLinesIn plan (number + 1) cases made more lines

-- where something came, fewer are left
pub fewer_left : {plan : Plan} {old new : ToJudge} {made : List GoalEntry} → ComeNext plan old made new → 0 < length made → length new.goals < length old.goals
fewer_left {plan} {old} {new} {made} next some =
    omega (arith, some, length_zip (IsEntryIn plan old.tables) next.goals made next.each, ap length next.split, length-append next.goals new.goals)

module _ (plan : Plan) (of : Weighed) where
  first_more : (old new : ToJudge) (entries made : List GoalEntry) → old.tables ≡ of → ComeNext plan old made new → FirstEntries plan of old.goals entries → FirstEntries plan of new.goals (entries ++ made)
  first_more old new entries made tables next first = record {
    done = first.done ++ next.goals;
    each = zip_both (IsEntryIn plan of) first.done next.goals entries made first.each (subst (λ (t : Weighed). AllZip (IsEntryIn plan t) next.goals made) tables next.each);
    whole = first.whole ∙ ap (λ (gs : List Goal). first.done ++ gs) next.split ∙ sym (append_assoc first.done next.goals new.goals);
  }

  first_all : (left : List Goal) (entries : List GoalEntry) → left ≡ [] → FirstEntries plan of left entries → AreEntriesIn plan of entries
  first_all left entries none first =
      let whole : goals of.grammar plan.criteria ≡ first.done = first.whole ∙ ap (λ (gs : List Goal). first.done ++ gs) none ∙ append-nil first.done in
      subst (λ (gs : List Goal). AllZip (IsEntryIn plan of) gs entries) (sym whole) first.each

  -- there are few of them
  first_few : (left : List Goal) (entries : List GoalEntry) → IsGrammar of.grammar → FirstEntries plan of left entries → length entries ≤ 10000000000
  first_few left entries is first =
      let all = few_goals of.grammar is plan.criteria in
      let whole : length (goals of.grammar plan.criteria) ≡ length (first.done ++ left) = ap length first.whole in
      omega (arith, all, whole, length-append first.done left, length_zip (IsEntryIn plan of) first.done entries first.each)

  -- whichever the entries of all goals are, their lines begin with the lines of these
  first_lines : (one : (texts : Option Texts) → HasOneText texts) (left : List Goal) (entries others : List GoalEntry) (cases other : PlainCases) (lines whole : List ℕ) → FirstEntries plan of left entries
      → AreLinesIn plan 1 (no_cases plan.yacc.now.grammar) entries cases lines → AreGoals plan of others other whole → (more : List ℕ) × (whole ≡ lines ++ more)
  first_lines one left entries others cases other lines whole first told are =
      let none = no_cases plan.yacc.now.grammar in
      let found = zip_front (one_in plan one of) first.done left entries others first.each (subst (λ (gs : List Goal). AllZip (IsEntryIn plan of) gs others) first.whole are.all) in
      told_front plan one (format_by plan.form) 1 none cases other entries found.0 lines whole told (subst (λ (es : List GoalEntry). AreLinesIn plan 1 none es other whole) found.1 are.told)

-- ---- what was written

module _ {S : Type 0} (g : Sink.Ghosts S) (plan : Plan) (of : Weighed) where
  -- The lines of the first entries, so many, were written behind the head and counted; these are their cases and their bases.
  pub record SoFar (left : List Goal) (number : ℕ) (cases : PlainCases) (kept : PlainBases) (before after : Counts) (old now : S) : Type 0 where
    pub entries : List GoalEntry
    pub lines : List ℕ
    pub first : FirstEntries plan of left entries
    pub many : length entries ≡ number
    pub few : length cases.codes ≤ length entries
    pub told : AreLinesIn plan 1 (no_cases plan.yacc.now.grammar) entries cases lines
    pub counted : AreCounted entries (length cases.codes) lines before after
    pub written : IsWritten g lines old now
    pub kept_are : kept ≡ bases_of (most_bases (choice_in plan)) entries

-- behind the head no count is above 0
cases_few : (sharing : Option Sharing) → IfSome (first_cases sharing) (λ n. n ≤ 0)
cases_few None = tt
cases_few (Some sharing) = omega arith

fresh_few : (plan : Plan) (counts : Counts) → IsFresh plan counts → AreWithin 0 counts
fresh_few plan counts fresh = subst (AreWithin 0) (sym fresh) (record {
  goals = omega arith;
  feasible = omega arith;
  infeasible = omega arith;
  large = omega arith;
  cases = cases_few (sharing_in plan);
})

module _ {S : Type 0} {g : Sink.Ghosts S} {plan : Plan} {of : Weighed} where
  pub so_far_none : (left : List Goal) (kept : PlainBases) (counts : Counts) (s : S) → left ≡ goals of.grammar plan.criteria → kept ≡ bases_of (most_bases (choice_in plan)) []
      → SoFar g plan of left 0 (no_cases plan.yacc.now.grammar) kept counts counts s s
  so_far_none left kept counts s all none = record {
    entries = [];
    lines = [];
    first = record { done = []; each = tt; whole = sym all };
    many = refl;
    few = omega arith;
    told = lines_none plan (format_by plan.form) 1 (no_cases plan.yacc.now.grammar);
    counted = goals_none counts;
    written = written_none s;
    kept_are = none;
  }

  -- nothing came
  pub so_far_all : {left new : ToJudge} {made : List GoalEntry} {number : ℕ} {cases : PlainCases} {kept : PlainBases} {before after : Counts} {old now : S} → length made ≡ 0 → ComeNext plan left made new
      → SoFar g plan of left.goals number cases kept before after old now → HasEntries g plan of old now before after kept
  so_far_all {left} {new} {made} {number} {cases} empty next so_far = record {
    entries = so_far.entries;
    cases = cases;
    lines = so_far.lines;
    are = record { all = first_all plan of left.goals so_far.entries (next.some (nothing_in made empty)) so_far.first; told = so_far.told };
    counted = so_far.counted;
    written = so_far.written;
    kept_are = so_far.kept_are;
  }

  module _ {left : List Goal} {number : ℕ} {cases : PlainCases} {kept : PlainBases} {before counts : Counts} {old mid : S}
      (so_far : SoFar g plan of left number cases kept before counts old mid) where
    -- no count is above the number of goals
    pub so_far_within : IsFresh plan before → AreWithin number counts
    so_far_within fresh =
        within_more 0 number (length cases.codes) so_far.entries so_far.lines before counts (omega (arith, so_far.many)) so_far.few (fresh_few plan before fresh) so_far.counted

    -- memory ran out behind the first entries
    pub memory_behind : (one : (texts : Option Texts) → HasOneText texts) → HasSomeEntries g plan of old mid Memory
    memory_behind one others other whole are =
        let found = first_lines plan of one left so_far.entries others cases other so_far.lines whole so_far.first so_far.told are in
        subst (λ (l : List ℕ). IsStopped g l old mid Memory) (sym found.1) (stopped_by_memory so_far.written found.0)

  -- behind a batch
  module _ {left : ToJudge} {number : ℕ} {cases : PlainCases} {kept : PlainBases} {before counts : Counts} {old mid : S}
      (tables : left.tables ≡ of) (so_far : SoFar g plan of left.goals number cases kept before counts old mid) where
    -- numbers don't end
    so_far_few : {made : List GoalEntry} {new : ToJudge} → IsGrammar of.grammar → ComeNext plan left made new → number + length made ≤ 10000000000
    so_far_few {made} {new} is next =
        omega (
          arith,
          first_few plan of new.goals (so_far.entries ++ made) is (first_more plan of left new so_far.entries made tables next so_far.first),
          so_far.many,
          length-append so_far.entries made,
        )

    module _ {made : List GoalEntry} {new : ToJudge} {more : PlainCases} {lines : List ℕ} (batch : IsBatch plan number left cases made new more lines) where
      told_more : AreLinesIn plan 1 (no_cases plan.yacc.now.grammar) (so_far.entries ++ made) more (so_far.lines ++ lines)
      told_more =
          let e : number + 1 ≡ 1 + length so_far.entries = omega (arith, so_far.many) in
          lines_both plan (format_by plan.form) 1 (no_cases plan.yacc.now.grammar) cases more so_far.entries made so_far.lines lines so_far.told
          (subst (λ (n : ℕ). AreLinesIn plan n cases made more lines) e batch.told)

      pub so_far_more : {fresh next : ℕ} {after : Counts} {next_kept : PlainBases} {now : S} → length more.codes ≡ length cases.codes + fresh → fresh ≤ length made → next ≡ number + length made → IsWritten g lines mid now
          → AreCounted made fresh lines counts after → Keeps number made kept next_kept → SoFar g plan of new.goals next more next_kept before after old now
      so_far_more {fresh} {next} {after} {next_kept} {now} grown few next_is written counted keeps = record {
        entries = so_far.entries ++ made;
        lines = so_far.lines ++ lines;
        first = first_more plan of left new so_far.entries made tables batch.next so_far.first;
        many = omega (arith, next_is, so_far.many, length-append so_far.entries made);
        few = omega (arith, grown, few, so_far.few, length-append so_far.entries made);
        told = told_more;
        counted = goals_then so_far.entries made (length more.codes) (length cases.codes) fresh so_far.lines lines before counts after grown so_far.counted counted;
        written = written_then so_far.written written;
        kept_are = kept_more (most_bases (choice_in plan)) number so_far.entries made kept next_kept so_far.many so_far.kept_are keeps;
      }

      -- a write failed within it
      pub failed_within : {now : S} → (one : (texts : Option Texts) → HasOneText texts) → IsCutShort g lines mid now → HasSomeEntries g plan of old now Failed
      failed_within {now} one cut others other whole are =
          let first = first_more plan of left new so_far.entries made tables batch.next so_far.first in
          let found = first_lines plan of one new.goals (so_far.entries ++ made) others more other (so_far.lines ++ lines) whole first told_more are in
          subst (λ (l : List ℕ). IsStopped g l old now Failed) (sym found.1) (stopped_by_cut (cut_longer found.0 (written_cut so_far.written cut)))

-- numbers and counts don't end
pub numbers_left : {S : Type 0} {g : Sink.Ghosts S} {plan : Plan} {given left new : ToJudge} {manifest : Progress} {made : List GoalEntry} {number many : ℕ} {cases : PlainCases} {kept : PlainBases}
    {counts : Counts} {old mid : S} → IsReady plan given manifest → left.tables ≡ given.tables → SoFar g plan given.tables left.goals number cases kept manifest.counts counts old mid
    → ComeNext plan left made new → many ≡ length made → HasNumbers number many counts
numbers_left ready tables so_far next same =
    let grammar = subst IsGrammar (sym ready.grammar.grammar) ready.plan_is.file.grammar in
    record { within = so_far_within so_far ready.fresh; few = omega (arith, so_far_few tables so_far grammar next, same) }

-- ---- whichever the entries are

module _ {S : Type 0} {g : Sink.Ghosts S} (plan : Plan) (left : ToJudge) (one : (texts : Option Texts) → HasOneText texts) {old new : S} (before after : Progress) (kept : PlainBases)
    (has : HasEntries g plan left.tables old new before.counts after.counts kept) where
  goals_counted : CountsGoals plan left before after
  goals_counted entries cases lines are =
      let same = one_goals plan one left.tables has.entries entries has.cases cases has.lines lines has.are are in
      subst (λ (es : List GoalEntry). AreCounted es (length cases.codes) lines before.counts after.counts) same.entries_are
      (subst (λ (c : PlainCases). AreCounted has.entries (length c.codes) lines before.counts after.counts) same.cases_are
      (subst (λ (l : List ℕ). AreCounted has.entries (length has.cases.codes) l before.counts after.counts) same.lines_are has.counted))

  -- they were counted, and these are their bases
  pub goals_told : after.file ≡ plan.yacc.now → TellsGoals plan left before after kept
  goals_told file = record {
    file = file;
    counted = goals_counted;
    bases = λ entries are. has.kept_are ∙ ap (λ (es : List GoalEntry). bases_of (most_bases (choice_in plan)) es) (one_list plan one left.tables has.entries entries has.are.all are);
  }
