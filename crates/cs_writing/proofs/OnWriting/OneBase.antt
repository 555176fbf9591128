-- The negatives of one base: as a maker and a search give them, and as the text of the bases has them.
use Rattle.std.proofs.Common.{◌≡◌, ◌≤◌, ℕ, List, ◌++◌, length, ap, ◌∙◌, subst, Option, Some}
use Rattle.cs_io.specs.declared.sink.Sink as Sink
use Rattle.cs_io.specs.Lines.{IsWritten}
use Rattle.cs_manifest.specs.declared.manifest.counts.Counts.{Counts}
use Rattle.cs_manifest.specs.Manifest.Manifest.{AreNegativesOf, NegativeEntry, negatives_of}
use Rattle.cs_manifest.specs.Writer.Progress.{Progress}
use Rattle.cs_writing.specs.Mutants.Makers.{AreToolsOf, IsMakerOf, Making, PlainTools}
use Rattle.cs_mutate.specs.Negatives.{Search, search_of}
use Rattle.cs_texts.specs.declared.rendering.render_work.RenderWork.{RenderWork}
use Rattle.cs_yacc.specs.Reading.File.{File}
use Rattle.cs_writing.specs.declared.plan.plan.Means.{Means}
use Rattle.cs_writing.specs.declared.plan.plan.Plan.{Plan}
use Rattle.cs_writing.specs.Plan.Plans.{IsPlan, choice_in, lexemes_in, means_in}
use Rattle.cs_io.specs.declared.halt.Halt.{Halt}
use Rattle.cs_writing.specs.Writing.Mutants.{AreMade, CountsMade, IsCounted, IsEditable, IsMade, TellsMade, negatives_from}
use Rattle.cs_mutate.specs.Keeping.{Counters, Tells}
use Rattle.cs_mutate.specs.declared.negative.Negative.{Negative}
use Rattle.cs_io.specs.Stops.{HasSomeText, HasText, IsStopped}
use Rattle.cs_writing.proofs.OnWriting.Mutated.{negatives_at}
use Rattle.cs_writing.proofs.OnWriting.Parts.{has_negatives, some_negatives}
use Rattle.cs_writing.proofs.OnWriting.Searches.{base_is, few_made, from_made, to_made}

-- the lines of its kept negatives were written and counted, where these are kept before them, and so many; and the counters tell of them
pub record HasOneBase {S : Type 0} (g : Sink.Ghosts S) (plan : Plan) (number : ℕ) (earlier : List Negative) (tokens : List ℕ) (many : ℕ) (counters : Counters) (old new : S) (before after : Counts) : Type 0 where
  pub negatives : List NegativeEntry
  pub of : AreNegativesOf plan.yacc.now.grammar (choice_in plan) (lexemes_in plan) earlier tokens negatives
  pub told : Tells counters (earlier ++ negatives_of negatives)
  pub written : IsWritten g (negatives_from plan.yacc.now number tokens many negatives) old new
  pub counted : IsCounted (length negatives) (negatives_from plan.yacc.now number tokens many negatives) before after
  pub few : length negatives ≤ 1100000000

module _ (plan : Plan) (is_plan : IsPlan plan) (means : Means) (is : means_in plan.form ≡ Some means)
    (number : ℕ) (base : ℕ × List ℕ) (search : Search) (search_is : search ≡ search_of means.mutation.pairs.now.grammar base.1 means.mutation.operators)
    (tools : PlainTools) (are : AreToolsOf plan.yacc.now means.work.now tools) (making : Making) (making_is : IsMakerOf tools number base.1 making)
    (at : Progress) (many : ℕ) (file_is : at.file ≡ plan.yacc.now) (many_is : at.counts.negatives ≡ many)
    (counters : Counters) (first_is : counters.first ≡ means.mutation.first) (earlier : List Negative) (tells : Tells counters earlier) where
  abbrev told : Making
  told = record { tools = record { file = plan.yacc.now; work = means.work.now; apart = tools.apart }; number = number; base = base.1 }

  same : making ≡ told
  same =
      making_is ∙ ap (λ (f : File). record { tools = record { file = f; work = tools.work; apart = tools.apart }; number = number; base = base.1 }) are.file_is
      ∙ ap (λ (w : RenderWork). record { tools = record { file = plan.yacc.now; work = w; apart = tools.apart }; number = number; base = base.1 }) are.work_is

  lines_are : (entries : List NegativeEntry) → negatives_from at.file number search.base at.counts.negatives entries ≡ negatives_from plan.yacc.now number base.1 many entries
  lines_are entries =
      negatives_at at.file plan.yacc.now number search.base base.1 at.counts.negatives many entries file_is (base_is plan is_plan means is base search search_is) many_is

  -- whichever they are, their writing stopped
  pub one_base_stops : {S : Type 0} {g : Sink.Ghosts S} (old new : S) (halt : Halt) → HasSomeText g (IsMade counters.first earlier at making search) old new halt
      → (negatives : List NegativeEntry) → AreNegativesOf plan.yacc.now.grammar (choice_in plan) (lexemes_in plan) earlier base.1 negatives
      → IsStopped g (negatives_from plan.yacc.now number base.1 many negatives) old new halt
  one_base_stops {S} {g} old new halt stops negatives of =
      let stopped = subst (λ (m : Making). HasSomeText g (IsMade counters.first earlier at m search) old new halt) same stops in
      let by_plan = subst (λ (f : Option ℕ). HasSomeText g (IsMade f earlier at told search) old new halt) first_is stopped in
      subst (λ (l : List ℕ). IsStopped g l old new halt) (lines_are negatives)
      (some_negatives at told means.mutation.first earlier search old new halt by_plan negatives (to_made plan is_plan means is base search search_is earlier negatives of))

  -- they were written
  pub one_base_written : {S : Type 0} {g : Sink.Ghosts S} (old new : S) (after : Progress) (then_counters : Counters) → IsEditable plan.yacc.now.grammar.tokens base → HasText g (IsMade counters.first earlier at making search) old new
      → CountsMade counters making search at after → TellsMade making search counters then_counters → HasOneBase g plan number earlier base.1 many then_counters old new at.counts after.counts
  one_base_written {S} {g} old new after then_counters editable text counted tells_more =
      let written = subst (λ (m : Making). HasText g (IsMade counters.first earlier at m search) old new) same text in
      let counts = subst (λ (m : Making). CountsMade counters m search at after) same counted in
      let more = subst (λ (m : Making). TellsMade m search counters then_counters) same tells_more in
      let has = has_negatives at told counters.first earlier search after written (counts earlier tells) in
      let made = subst (λ (f : Option ℕ). AreMade means.work.now f earlier search has.entries) first_is has.all in
      record {
        negatives = has.entries;
        of = from_made plan is_plan means is base search search_is earlier has.entries made;
        told = more earlier tells has.entries has.all;
        written = subst (λ (l : List ℕ). IsWritten g l old new) (lines_are has.entries) has.written;
        counted = subst (λ (l : List ℕ). IsCounted (length has.entries) l at.counts after.counts) (lines_are has.entries) has.counted;
        few = few_made plan is_plan means is base search search_is editable earlier has.entries made;
      }
