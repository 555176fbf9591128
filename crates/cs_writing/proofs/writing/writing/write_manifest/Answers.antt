-- The head, the entries, the bases and the end, and where their writing stops.
use Rattle.std.proofs.Common.{◌≡◌, length, subst, sym, ap, ◌∙◌}
use Rattle.cs_io.specs.Lines.{IsWritten}
use Rattle.std.proofs.lemmas.Result.{err_from_is_err_and}
use Rattle.cs_manifest.specs.Output.Putting.{shown}
use Rattle.cs_manifest.specs.declared.manifest.counts.Counts.{Counts}
use Rattle.cs_manifest.specs.Manifest.Manifest.{most_bases, weighed_by}
use Rattle.cs_manifest.specs.Writer.Progress.{Progress}
use Rattle.cs_writing.specs.Plan.Plans.{IsOfPlan, IsPlanned, choice_in, lexemes_in}
use Rattle.cs_writing.specs.declared.plan.plan.Plan.{Plan}
use Rattle.cs_verdicts.specs.Positive.Positives.{ToJudge}
use Rattle.cs_writing.specs.Writing.Writing.{CountsOfAll}
use Rattle.cs_writing.specs.Writing.Written.{IsFresh}
use Rattle.cs_writing.proofs.OnWriting.Kept.{editable_bases, few_bases}
use Rattle.cs_writing.proofs.OnWriting.Parts.{HasBases, HasEntries, has_bases, has_entries, some_bases, some_entries}
use Rattle.cs_writing.proofs.OnWriting.Texts.{bases_stop, counts_are, end_cut, entries_stop, fresh_behind, head_counted, head_cut, head_in, head_written, no_cases_are, weighed_so, whole_text}
use Rattle.cs_writing.proofs.writing.writing.write_manifest.Given.{Over}
use Rattle.cs_writing.proofs.writing.writing.write_manifest.Goals as goal
use Rattle.cs_writing.proofs.writing.writing.write_manifest.Goals.{In_ok-bases, In_ok-manifest, In_ok-write_bases}

-- the goals are weighed as the plan says
weighed_as : (plan : Plan) (left : ToJudge) → IsOfPlan plan left → left.tables ≡ weighed_by (choice_in plan) plan.yacc.now (lexemes_in plan)
weighed_as plan left is = weighed_so plan left.tables is.grammar is.weights

-- the head was written
first : (g : Over) (c : In_ok-manifest g) → IsWritten g.S.Sink (head_in c.args.plan.now) c.args.sink.now c.begin.new.sink
first g c =
    let plan = c.args.plan.now in
    let weighs = weighed_as plan c.args.positives c.requires.grammar in
    let h = c.head.result in
    let is = c.head.ensures in
    head_written plan c.args.positives.tables c.one_text.ensures c.requires.plan weighs h is.file is.lexemes is.sharing c.args.sink.now c.begin.new.sink c.in_ok-manifest.ensures.lines

-- nothing else was counted
fresh : (g : Over) (c : In_ok-manifest g) → IsFresh c.args.plan.now c.in_ok-manifest.manifest.counts
fresh g c =
    let plan = c.args.plan.now in
    subst (λ (k : Counts). IsFresh plan k) (sym (ap (λ (q : Progress). q.counts) c.in_ok-manifest.ensures.value)) (fresh_behind plan c.head.result c.head.ensures.sharing)

bytes : (g : Over) (c : In_ok-manifest g) → c.in_ok-manifest.manifest.counts.bytes ≡ shown (length (head_in c.args.plan.now))
bytes g c =
    let plan = c.args.plan.now in
    let weighs = weighed_as plan c.args.positives c.requires.grammar in
    let is = c.head.ensures in
    ap (λ (q : Progress). q.counts.bytes) c.in_ok-manifest.ensures.value ∙ head_counted plan c.args.positives.tables c.one_text.ensures c.requires.plan weighs c.head.result is.file is.lexemes is.sharing

-- the entries were written
goals_of : (g : Over) (c : In_ok-bases g)
    → HasEntries g.S.Sink c.args.plan.now c.args.positives.tables c.begin.new.sink c.write_goals.new.sink c.in_ok-manifest.manifest.counts c.write_goals.new.manifest.counts c.in_ok-bases.bases
goals_of g c =
    let b = c.in_ok-bases.ensures in
    has_entries c.args.plan.now c.args.positives c.in_ok-manifest.manifest c.write_goals.new.manifest c.in_ok-bases.bases b.text b.told.counted b.told.bases

-- the bases were written
mutants : (g : Over) (c : In_ok-write_bases g)
    → HasBases g.S.Sink c.args.plan.now c.in_ok-bases.bases.list c.write_goals.new.sink c.write_bases.new.sink c.write_goals.new.manifest.counts c.write_bases.new.manifest.counts
mutants g c =
    let m = c.in_ok-write_bases.ensures in
    has_bases c.args.plan.now c.in_ok-bases.bases c.write_goals.new.manifest c.write_bases.new.manifest m.text m.counted

pub returns-in_err-manifest-clause-text : goal.returns-in_err-manifest-clause-text
returns-in_err-manifest-clause-text g c =
    let p = err_from_is_err_and c.from_residual.result c.from_residual.ensures.1 in
    let plan = c.args.plan.now in
    let of = c.args.positives.tables in
    let one = c.one_text.ensures in
    let weighs = weighed_as plan c.args.positives c.requires.grammar in
    let h = c.head.result in
    let is = c.head.ensures in
    rw (p.1, p.2) (head_cut plan of one c.requires.plan weighs h is.file is.lexemes is.sharing c.args.sink.now c.begin.new.sink c.in_err-manifest.ensures.lines)

pub returns-in_err-bases-clause-text : goal.returns-in_err-bases-clause-text
returns-in_err-bases-clause-text g c =
    let p = err_from_is_err_and c.from_residual-in_err-bases.result c.from_residual-in_err-bases.ensures.1 in
    let at = goal.at.returns-in_err-bases-clause-text g c in
    let plan = c.args.plan.now in
    let halt = c.in_err-bases.field-0.0 in
    rw (p.1, p.2) (entries_stop plan c.args.positives.tables c.one_text.ensures c.requires.plan (weighed_as plan c.args.positives c.requires.grammar) halt c.args.sink.now c.begin.new.sink c.write_goals.new.sink (first g at.In_ok-manifest)
    (some_entries plan c.args.positives c.begin.new.sink c.write_goals.new.sink halt c.in_err-bases.ensures.text))

pub write_bases-requires-clause-bases : goal.write_bases-requires-clause-bases
write_bases-requires-clause-bases g c =
    let plan = c.args.plan.now in
    let is = c.in_ok-bases.ensures.text.is in
    let measure = c.requires.grammar.measure in
    editable_bases plan c.requires.plan.file c.args.positives.tables c.requires.grammar.grammar measure (most_bases (choice_in plan)) is.entries c.in_ok-bases.bases
    is.are.all (c.in_ok-bases.ensures.told.bases is.entries is.are.all)

pub write_bases-requires-clause-few : goal.write_bases-requires-clause-few
write_bases-requires-clause-few g c =
    let is = c.in_ok-bases.ensures.text.is in
    few_bases (most_bases (choice_in c.args.plan.now)) is.entries c.in_ok-bases.bases (c.in_ok-bases.ensures.told.bases is.entries is.are.all)

pub write_bases-requires-clause-fresh : goal.write_bases-requires-clause-fresh
write_bases-requires-clause-fresh g c =
    let text = c.in_ok-bases.ensures.text in
    let is = text.is in
    (c.in_ok-bases.ensures.told.counted is.entries is.cases text.text is.are).negatives ∙ ap (λ (q : Progress). q.counts.negatives) c.in_ok-manifest.ensures.value

pub returns-in_err-write_bases-clause-text : goal.returns-in_err-write_bases-clause-text
returns-in_err-write_bases-clause-text g c =
    let p = err_from_is_err_and c.from_residual-in_err-write_bases.result c.from_residual-in_err-write_bases.ensures.1 in
    let at = goal.at.returns-in_err-write_bases-clause-text g c in
    let plan = c.args.plan.now in
    let halt = c.in_err-write_bases.field-0.0 in
    rw (p.1, p.2) (bases_stop plan c.args.positives.tables c.one_text.ensures c.requires.plan (weighed_as plan c.args.positives c.requires.grammar) halt c.in_ok-manifest.manifest.counts c.write_goals.new.manifest.counts
    c.args.sink.now c.begin.new.sink c.write_goals.new.sink c.write_bases.new.sink c.in_ok-bases.bases (first g at.In_ok-manifest) (goals_of g at.In_ok-bases)
    (some_bases plan c.in_ok-bases.bases c.write_goals.new.sink c.write_bases.new.sink halt c.in_err-write_bases.ensures.text))

pub returns-in_err-finish-clause-text : goal.returns-in_err-finish-clause-text
returns-in_err-finish-clause-text g c =
    let p = err_from_is_err_and c.from_residual-in_err-finish.result c.from_residual-in_err-finish.ensures.1 in
    let at = goal.at.returns-in_err-finish-clause-text g c in
    let plan = c.args.plan.now in
    let of = c.args.positives.tables in
    let one = c.one_text.ensures in
    let weighs = weighed_as plan c.args.positives c.requires.grammar in
    rw (p.1, p.2) (end_cut plan of one c.requires.plan weighs c.in_ok-manifest.manifest.counts c.write_goals.new.manifest.counts c.write_bases.new.manifest.counts c.begin.new.sink c.write_goals.new.sink c.write_bases.new.sink
    c.in_ok-bases.bases (fresh g at.In_ok-manifest) (bytes g at.In_ok-manifest) (goals_of g at.In_ok-bases) (mutants g at.In_ok-write_bases) c.args.sink.now c.finish.new.sink (first g at.In_ok-manifest) c.in_err-finish.ensures.lines)

pub returns-clause-text : goal.returns-clause-text
returns-clause-text g c =
    let at = goal.at.returns-clause-text g c in
    let plan = c.args.plan.now in
    let of = c.args.positives.tables in
    let one = c.one_text.ensures in
    let weighs = weighed_as plan c.args.positives c.requires.grammar in
    whole_text plan of one c.requires.plan weighs c.in_ok-manifest.manifest.counts c.write_goals.new.manifest.counts c.write_bases.new.manifest.counts c.begin.new.sink c.write_goals.new.sink c.write_bases.new.sink
    c.in_ok-bases.bases (fresh g at.In_ok-manifest) (bytes g at.In_ok-manifest) (goals_of g at.In_ok-bases) (mutants g at.In_ok-write_bases) c.args.sink.now c.finish.new.sink (first g at.In_ok-manifest) c.in_ok-finish.ensures.lines

pub returns-clause-counts : goal.returns-clause-counts
returns-clause-counts g c =
    let at = goal.at.returns-clause-counts g c in
    let plan = c.args.plan.now in
    let of = c.args.positives.tables in
    let one = c.one_text.ensures in
    let weighs = weighed_as plan c.args.positives c.requires.grammar in
    let are = counts_are plan of one c.requires.plan weighs c.in_ok-manifest.manifest.counts c.write_goals.new.manifest.counts c.write_bases.new.manifest.counts c.begin.new.sink c.write_goals.new.sink c.write_bases.new.sink
    c.in_ok-bases.bases (fresh g at.In_ok-manifest) (bytes g at.In_ok-manifest) (goals_of g at.In_ok-bases) (mutants g at.In_ok-write_bases) in
    subst (λ (k : Counts). CountsOfAll (IsPlanned plan) k) (sym c.in_ok-finish.ensures.counts) are

pub returns-clause-first : goal.returns-clause-first
returns-clause-first g c = λ none.
    let at = goal.at.returns-clause-first g c in
    let plan = c.args.plan.now in
    let of = c.args.positives.tables in
    let one = c.one_text.ensures in
    let weighs = weighed_as plan c.args.positives c.requires.grammar in
    ap (λ (k : Counts). k.cases) c.in_ok-finish.ensures.counts ∙ no_cases_are plan of one c.requires.plan weighs c.in_ok-manifest.manifest.counts c.write_goals.new.manifest.counts c.write_bases.new.manifest.counts c.begin.new.sink c.write_goals.new.sink c.write_bases.new.sink
    c.in_ok-bases.bases (fresh g at.In_ok-manifest) (bytes g at.In_ok-manifest) (goals_of g at.In_ok-bases) (mutants g at.In_ok-write_bases) none
