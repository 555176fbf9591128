-- Base by base, its line and behind it its negatives, numbered on from those before, and where their writing stops.
use Rattle.std.proofs.Common.{rules, ◌≡◌, ◌+◌, ◌≤◌, List, ℕ, refl, subst, sym, ap, ◌∙◌, arith}
use Rattle.std.proofs.lemmas.Result.{err_from_is_err_and}
use Rattle.cs_io.specs.Lines.{IsWritten}
use Rattle.cs_grammar.proofs.Measures.{All-at}
use Rattle.cs_manifest.specs.Manifest.Lines.{base_line}
use Rattle.cs_manifest.specs.Manifest.Manifest.{kept_in}
use Rattle.cs_manifest.specs.Writer.Progress.{Progress}
use Rattle.cs_manifest.specs.declared.manifest.counts.Counts.{Counts}
use Rattle.cs_writing.specs.Mutants.Makers.{CanRender}
use Rattle.cs_writing.proofs.OnMutants.Taking.{takes_base}
use Rattle.cs_writing.specs.Plan.Plans.{texts_in}
use Rattle.cs_texts.specs.Work.Renders.{TakesTokens}
use Rattle.cs_texts.specs.declared.rendering.render_work.RenderWork.{RenderWork}
use Rattle.cs_io.specs.declared.halt.Halt.TheVariants.{Failed, Memory}
use Rattle.cs_mutate.specs.Negatives.{Search}
use Rattle.cs_writing.specs.Writing.Mutants.{IsEditable, negatives_in}
use Rattle.cs_writing.proofs.OnWriting.Batch.{StandsAt, stands_at}
use Rattle.cs_writing.proofs.OnWriting.Mutated.{base_cut, base_memory, base_stops, bases_all, bases_counted, bases_more, bases_none, without_bases}
use Rattle.cs_writing.proofs.OnWriting.OneBase.{one_base_stops, one_base_written}
use Rattle.cs_writing.proofs.OnWriting.Parts.{bases_text_stop}
use Rattle.cs_writing.proofs.OnWriting.Searches.{can_render, few_searched, tokens_are}
use Rattle.cs_writing.proofs.OnWriting.Tallies.{counted_base}
use Rattle.cs_writing.proofs.writing.mutants.write_each.Given.{Over}
use Rattle.cs_writing.proofs.writing.mutants.write_each.Goals as goal
use Rattle.cs_writing.proofs.writing.mutants.write_each.Goals.{After-get-goal, In_ok-entry}

-- ---- the base of an iteration

abbrev base_of : (g : Over) (c : After-get-goal g) → ℕ × List ℕ
base_of g c = (c.get-goal.result.0, c.get-goal.result.1.now)

stands : (g : Over) (c : After-get-goal g) → StandsAt c.args.bases.now.list c.loop-index.index (base_of g c)
stands g c = stands_at c.args.bases.now.list c.loop-index.index (base_of g c) c.get-goal.ensures

editable : (g : Over) (c : After-get-goal g) → IsEditable c.args.plan.now.yacc.now.grammar.tokens (base_of g c)
editable g c = All-at (IsEditable c.args.plan.now.yacc.now.grammar.tokens) c.args.bases.now.list c.loop-index.index (base_of g c) c.requires.bases c.get-goal.ensures

-- its line was written
first : (g : Over) (c : In_ok-entry g) → IsWritten g.S.Sink (base_line (c.loop-index.index + 1) c.get-goal.result.0) c.loop-index.sink c.entry.new.sink
first g c = c.in_ok-entry.ensures.lines

file_is : (g : Over) (c : In_ok-entry g) → c.entry.new.self.file ≡ c.args.plan.now.yacc.now
file_is g c = ap (λ (q : Progress). q.file) c.in_ok-entry.ensures.value ∙ c.loop-index.invariant.file ∙ c.requires.file

-- so many negatives stand before its own
many : (g : Over) (c : In_ok-entry g) → c.entry.new.self.counts.negatives ≡ negatives_in c.loop-index.invariant.so_far.mutants
many g c =
    ap (λ (q : Progress). q.counts.negatives) c.in_ok-entry.ensures.value ∙ ap (λ (k : Counts). k.negatives) c.loop-index.invariant.so_far.counted.same ∙ omega (arith, c.requires.fresh)

-- ---- answers

pub loop-index-init : goal.loop-index-init
loop-index-init g c = record {
  file = refl;
  number = c.new-number.ensures ∙ sym c.requires.fresh;
  first = (c.requires.begun c.in-Some.means (sym c.means.ensures ∙ c.in-Some.is)).first;
  tokens = (c.requires.begun c.in-Some.means (sym c.means.ensures ∙ c.in-Some.is)).tokens;
  so_far = bases_none g.S.Sink c.args.plan.now c.args.bases.now.list c.args.keeper.now c.args.manifest.now.counts c.args.sink.now (c.requires.begun c.in-Some.means (sym c.means.ensures ∙ c.in-Some.is)).told;
}

-- memory ran out before the next base
pub returns-in_err-maker-clause-text : goal.returns-in_err-maker-clause-text
returns-in_err-maker-clause-text g c =
    let p = err_from_is_err_and c.from_residual.result c.from_residual.ensures.1 in
    let at = (goal.at.returns-in_err-maker-clause-text g c).After-get-goal in
    let plan = c.args.plan.now in
    let stopped = base_memory plan (c.one_text.ensures (texts_in plan)) c.args.bases.now.list c.loop-index.index (base_of g at) (stands g at).within (stands g at).is
    c.loop-index.keeper c.args.sink.now c.loop-index.sink c.args.manifest.now.counts c.loop-index.manifest.counts c.loop-index.invariant.so_far in
    rw (p.1, p.2) (bases_text_stop plan c.args.bases.now c.args.sink.now c.loop-index.sink Memory stopped)

pub new-requires-clause-base : goal.new-requires-clause-base
new-requires-clause-base g c =
    let at = (goal.at.new-requires-clause-base g c).After-get-goal in
    let plan = c.args.plan.now in
    let base = base_of g at in
    let editable = editable g at in
    let can = can_render plan c.requires.plan c.in-Some.means (sym c.means.ensures ∙ c.in-Some.is) in
    let names = c.requires.plan.file.tokens in
    let takes = takes_base c.in-Some.means.work.now plan.yacc.now.grammar.tokens base.1 (subst (λ (n : ℕ). CanRender c.in-Some.means.work.now n) names can) editable.short editable.tokens_of in
    subst (λ (w : RenderWork). TakesTokens w base.1) (sym (c.requires.begun c.in-Some.means (sym c.means.ensures ∙ c.in-Some.is)).tools_are.work_is) takes

pub new-requires-clause-short : goal.new-requires-clause-short
new-requires-clause-short g c = (editable g (goal.at.new-requires-clause-short g c).After-get-goal).short

pub returns-in_err-entry-clause-text : goal.returns-in_err-entry-clause-text
returns-in_err-entry-clause-text g c =
    let p = err_from_is_err_and c.from_residual-in_err-entry.result c.from_residual-in_err-entry.ensures.1 in
    let at = (goal.at.returns-in_err-entry-clause-text g c).After-get-goal in
    let plan = c.args.plan.now in
    let i = c.loop-index.index in
    let stopped = base_cut plan (c.one_text.ensures (texts_in plan)) c.args.bases.now.list i (base_of g at) (stands g at).within (stands g at).is
    c.loop-index.keeper c.args.sink.now c.loop-index.sink c.args.manifest.now.counts c.loop-index.manifest.counts c.loop-index.invariant.so_far c.entry.new.sink c.in_err-entry.ensures.lines in
    rw (p.1, p.2) (bases_text_stop plan c.args.bases.now c.args.sink.now c.entry.new.sink Failed stopped)

pub new-search-requires-clause-short : goal.new-search-requires-clause-short
new-search-requires-clause-short g c = (editable g (goal.at.new-search-requires-clause-short g c).After-get-goal).short

pub new-search-requires-clause-tokens : goal.new-search-requires-clause-tokens
new-search-requires-clause-tokens g c =
    let at = (goal.at.new-search-requires-clause-tokens g c).After-get-goal in
    tokens_are c.args.plan.now c.requires.plan c.in-Some.means (sym c.means.ensures ∙ c.in-Some.is) (base_of g at) (editable g at)

pub write_negatives-requires-clause-keeper : goal.write_negatives-requires-clause-keeper
write_negatives-requires-clause-keeper g c =
    c.loop-index.invariant.tokens ∙ sym (ap (λ (s : Search). s.grammar.tokens) c.new-search.ensures)

pub write_negatives-requires-clause-few : goal.write_negatives-requires-clause-few
write_negatives-requires-clause-few g c =
    let at = goal.at.write_negatives-requires-clause-few g c in
    let so_far = c.loop-index.invariant.so_far in
    let base = base_of g at.After-get-goal in
    let few = few_searched c.args.plan.now c.requires.plan c.in-Some.means (sym c.means.ensures ∙ c.in-Some.is) base c.new-search.result c.new-search.ensures (editable g at.After-get-goal) in
    let small : c.loop-index.index ≤ 4294967295 = search rules in
    omega (arith, few, many g at.In_ok-entry, c.loop-index.invariant.number, so_far.few, small, ap (λ (q : Progress). q.counts.negatives) c.in_ok-entry.ensures.value)

pub returns-in_err-write_negatives-clause-text : goal.returns-in_err-write_negatives-clause-text
returns-in_err-write_negatives-clause-text g c =
    let p = err_from_is_err_and c.from_residual-in_err-write_negatives.result c.from_residual-in_err-write_negatives.ensures.1 in
    let at = goal.at.returns-in_err-write_negatives-clause-text g c in
    let plan = c.args.plan.now in
    let i = c.loop-index.index in
    let base = base_of g at.After-get-goal in
    let so_far = c.loop-index.invariant.so_far in
    let halt = c.in_err-write_negatives.field-0.0 in
    let stops = one_base_stops plan c.requires.plan c.in-Some.means (sym c.means.ensures ∙ c.in-Some.is) (i + 1) base c.new-search.result c.new-search.ensures
    c.args.tools.now (c.requires.begun c.in-Some.means (sym c.means.ensures ∙ c.in-Some.is)).tools_are c.in_ok-maker.maker c.in_ok-maker.ensures c.entry.new.self (negatives_in so_far.mutants) (file_is g at.In_ok-entry) (many g at.In_ok-entry)
    c.loop-index.keeper c.loop-index.invariant.first (kept_in so_far.mutants) so_far.told
    c.entry.new.sink c.write_negatives.new.sink halt (c.in_err-write_negatives.ensures.text (kept_in so_far.mutants) so_far.told) in
    let stopped = base_stops plan (c.one_text.ensures (texts_in plan)) c.args.bases.now.list i base (stands g at.After-get-goal).within (stands g at.After-get-goal).is
    c.loop-index.keeper c.args.sink.now c.loop-index.sink c.args.manifest.now.counts c.loop-index.manifest.counts so_far c.entry.new.sink c.write_negatives.new.sink halt (first g at.In_ok-entry) stops in
    rw (p.1, p.2) (bases_text_stop plan c.args.bases.now c.args.sink.now c.write_negatives.new.sink halt stopped)

pub loop-index-preserved : goal.loop-index-preserved
loop-index-preserved g c =
    let at = goal.at.loop-index-preserved g c in
    let e = c.in_ok-entry.ensures in
    let plan = c.args.plan.now in
    let i = c.loop-index.index in
    let base = base_of g at.After-get-goal in
    let so_far = c.loop-index.invariant.so_far in
    let more = c.in_ok-write_negatives.ensures in
    let has = one_base_written plan c.requires.plan c.in-Some.means (sym c.means.ensures ∙ c.in-Some.is) (i + 1) base c.new-search.result c.new-search.ensures
    c.args.tools.now (c.requires.begun c.in-Some.means (sym c.means.ensures ∙ c.in-Some.is)).tools_are c.in_ok-maker.maker c.in_ok-maker.ensures c.entry.new.self (negatives_in so_far.mutants) (file_is g at.In_ok-entry) (many g at.In_ok-entry)
    c.loop-index.keeper c.loop-index.invariant.first (kept_in so_far.mutants) so_far.told
    c.entry.new.sink c.write_negatives.new.sink c.write_negatives.new.manifest c.write_negatives.new.keeper (editable g at.After-get-goal) (more.text (kept_in so_far.mutants) so_far.told) more.adds more.told in
    let counted = counted_base c.loop-index.manifest.counts c.entry.new.self.counts (base_line (i + 1) c.get-goal.result.0) (ap (λ (q : Progress). q.counts) e.value) in
    record {
      file = more.file ∙ ap (λ (q : Progress). q.file) e.value ∙ c.loop-index.invariant.file;
      number = more.number;
      first = c.write_negatives.ensures.first ∙ c.loop-index.invariant.first;
      tokens = c.write_negatives.ensures.tokens ∙ c.loop-index.invariant.tokens;
      so_far = bases_more plan (c.one_text.ensures (texts_in plan)) c.args.bases.now.list i base (stands g at.After-get-goal).within (stands g at.After-get-goal).is
          c.loop-index.keeper c.args.sink.now c.loop-index.sink c.args.manifest.now.counts c.loop-index.manifest.counts so_far c.write_negatives.new.keeper c.entry.new.sink c.write_negatives.new.sink
          c.entry.new.self.counts c.write_negatives.new.manifest.counts has.negatives (first g at.In_ok-entry) counted has.of has.told has.written has.counted has.few;
    }

pub returns-in_default-clause-text : goal.returns-in_default-clause-text
returns-in_default-clause-text g c = without_bases c.args.plan.now c.args.bases.now c.args.sink.now (λ m is. c.in_default.not-Some m (c.means.ensures ∙ is)) c.requires.few

pub returns-clause-counted : goal.returns-clause-counted
returns-clause-counted g c =
    let plan = c.args.plan.now in
    let bases = c.args.bases.now in
    let has = bases_all plan bases.list c.loop-index.index c.loop-index.keeper c.args.sink.now c.loop-index.sink c.args.manifest.now.counts c.loop-index.manifest.counts
    (omega (arith, c.loop-index-test.false, c.len-index-end.ensures)) c.loop-index.invariant.so_far in
    bases_counted plan (c.one_text.ensures (texts_in plan)) bases c.args.manifest.now c.loop-index.manifest has
