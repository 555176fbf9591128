-- In either format the plan chooses what the options choose.
use Rattle.std.proofs.Common.{◌≡◌, ap, subst, sym, ◌∙◌}
use Rattle.std.specs.Prelude.{IfSome, Option}
use Rattle.cs_grammar.specs.Grammar.{PlainGrammar}
use Rattle.cs_grammar.specs.Weights.{IsMeasure, Weighed}
use Rattle.cs_manifest.specs.Manifest.Manifest.{Choice, IsManifest}
use Rattle.cs_verdicts.specs.Closed.Closed.{AreClosedSets, ClosedSets}
use Rattle.cs_verdicts.specs.Positive.Positives.{ToJudge}
use Rattle.cs_writing.specs.Plan.Plans.{AreMeansOf, choice_in}
use Rattle.cs_writing.specs.declared.plan.plan.Means.{Means}
use Rattle.cs_writing.specs.declared.plan.plan.PlanForm.{PlanForm}
use Rattle.cs_run.specs.Writer.Suite.{WritesManifest, choice_with, form_by, format_with, means_by}
use Rattle.cs_run.proofs.OnWriter.Formats.{HasForm, formed, plan_of, same_choice, same_measure}
use Rattle.cs_run.proofs.writer.suite.write_verdicts.Given.{Over}
use Rattle.cs_run.proofs.writer.suite.write_verdicts.Goals as goal
use Rattle.cs_run.proofs.writer.suite.write_verdicts.Goals.{After-form_of}

-- the plan's form is of the options
has_form : (g : Over) (c : After-form_of g) → HasForm c.args.file.now (means_by c.args.options.now c.args.work c.pairs.result) c.args.options.now.format c.form_of.result
has_form g c =
    let file = c.args.file.now in
    let format = c.args.options.now.format in
    let means = means_by c.args.options.now c.args.work c.pairs.result in
    let lent = c.as_ref.result in
    let own = ap (λ (t : Weighed). t.grammar) c.requires.tables in
    let are : AreMeansOf file means = record { texts = c.requires.work; pairs = ap (λ (t : Weighed). t.grammar) c.pairs.ensures ∙ own } in
    let sets =
    subst (λ (o : Option ClosedSets). IfSome o (AreClosedSets file.grammar)) (sym c.as_ref.ensures.value)
    (subst (λ (h : PlainGrammar). IfSome c.in_ok-closed.closed (AreClosedSets h)) own c.in_ok-closed.ensures.sets) in
    let told = subst (λ (o : Option ClosedSets). format_with o ≡ format) (sym c.as_ref.ensures.value) c.in_ok-closed.ensures.told in
    let is : form_by means lent ≡ c.form_of.result = ap (λ (m : Means). form_by m lent) (sym c.means_of.ensures) ∙ sym c.form_of.ensures in
    subst (λ (form : PlanForm). HasForm file means format form) is (formed file means lent format are sets told)

same : (g : Over) (c : After-form_of g) → choice_in (plan_of c.args.options.now c.args.file c.form_of.result) ≡ choice_with c.args.options.now c.args.work.now
same g c = same_choice c.args.options.now c.args.file c.args.work c.pairs.result c.form_of.result (has_form g c)

pub write_out-requires-clause-plan : goal.write_out-requires-clause-plan
write_out-requires-clause-plan g c = λ κs met. record { file = c.requires.file; form = (has_form g (goal.at.write_out-requires-clause-plan g c).After-form_of).of }

pub write_out-requires-clause-grammar : goal.write_out-requires-clause-grammar
write_out-requires-clause-grammar g c = λ κs met.
    let has = has_form g (goal.at.write_out-requires-clause-grammar g c).After-form_of in
    let same : c.new-positives.result.tables ≡ c.args.tables.now = ap (λ (left : ToJudge). left.tables) c.new-positives.ensures in
    record {
      grammar = ap (λ (t : Weighed). t.grammar) (same ∙ c.requires.tables);
      weights = ap (λ (t : Weighed). t.weights) (same ∙ c.requires.tables) ∙ sym (same_measure c.args.options.now c.args.file.now c.args.work c.pairs.result c.form_of.result has);
      measure = subst (λ (t : Weighed). IsMeasure t.weights) (sym same) c.requires.measure;
    }

pub returns : goal.returns
returns g c =
    let after = (goal.at.returns g c).After-form_of in
    let file = c.args.file.now in
    let format = c.args.options.now.format in
    record {
      writes = subst
          (λ (choice : Choice).
          WritesManifest g.O.Sink (IsManifest choice file) format c.write_out.result c.args.out.now c.write_out.new.out) (same g after)
          (record {
            ok = c.write_out.ensures.ok;
            counts = c.write_out.ensures.counts;
            first = λ one. c.write_out.ensures.first ((has_form g after).format ∙ one);
            part = c.write_out.ensures.part;
            no_fault = c.write_out.ensures.no_fault;
            failed = c.write_out.ensures.failed;
            room = c.write_out.ensures.room;
          });
    }
