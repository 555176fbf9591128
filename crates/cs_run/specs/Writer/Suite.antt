-- The manifests that `rules` and `suite` write.
use Rattle.std.specs.Prelude.{◌≡◌, ℕ, List, Option, None, Some, Result, IfOk, OnErr, OnOk}
use Rattle.std.specs.Borrow.{Bor}
use Rattle.cs_io.specs.Asked.{IsCalmForAll, MetFault, MetNone, Stopped, TookFront, TookOne}
use Rattle.cs_io.specs.declared.halt.Halt.{Halt}
use Rattle.cs_io.specs.declared.halt.Halt.TheVariants.{Failed}
use Rattle.cs_io.specs.declared.sink.Sink as Sink
use Rattle.cs_manifest.specs.declared.manifest.counts.Counts.{Counts}
use Rattle.cs_writing.specs.Writing.Writing.{CountsOfAll, HasNoCases}
use Rattle.cs_run.specs.Ending.Files.{choice_by, choice_of}
use Rattle.cs_run.specs.declared.input.judging.Pair.{Pair}
use Rattle.cs_grammar.specs.Weights.{Measure, Weighed, weighed}
use Rattle.cs_manifest.specs.Manifest.ByWork.{texts_of}
use Rattle.cs_manifest.specs.Manifest.Manifest.{Choice, IsManifest, measure_of, rules_form}
use Rattle.cs_choices.specs.declared.format.Format.{Format}
use Rattle.cs_choices.specs.declared.format.Format.TheVariants.{One, Two}
use Rattle.cs_verdicts.specs.Closed.Closed.{ClosedSets}
use Rattle.cs_writing.specs.declared.plan.plan.Means.{Means}
use Rattle.cs_writing.specs.declared.plan.plan.PlanForm.{PlanForm}
use Rattle.cs_writing.specs.declared.plan.plan.PlanForm.TheVariants.{Shared, Suite}
use Rattle.cs_scanner.specs.Scan.Scan.{Scanning}
use Rattle.cs_texts.specs.declared.rendering.render_work.RenderWork.{RenderWork}
use Rattle.cs_words.specs.declared.options.Options.{Options}
use Rattle.cs_yacc.specs.Reading.File.{File}

-- the text is the manifest of a yacc file in the form of `rules`
abbrev pub IsRules : File → List ℕ → Type 0
IsRules file text = IsManifest rules_form file text

-- the text is the manifest of the pair by the options
abbrev pub IsSuite : Pair → Options → List ℕ → Type 0
IsSuite pair options text = IsManifest (choice_of pair.lex options) pair.yacc text

-- the same of a yacc file, and of what its texts are scanned by
abbrev pub IsSuiteBy : File → Scanning → Options → List ℕ → Type 0
IsSuiteBy file s options text = IsManifest (choice_by options s) file text

-- what the options choose, with these texts
abbrev pub choice_with : Options → RenderWork → Choice
choice_with options work = record {
  criteria = options.criteria;
  texts = Some (texts_of work);
  operators = options.operators;
  most = options.bases;
  first = options.first;
  format = options.format;
  weigh = options.weigh;
}

-- the text is the manifest of a yacc file by the options and these texts
abbrev pub IsBy : RenderWork → File → Options → List ℕ → Type 0
IsBy work file options text = IsManifest (choice_with options work) file text

-- how the options measure the trees of a yacc file, with the lexemes of these texts
abbrev pub measure_by : Options → File → RenderWork → Measure
measure_by options file work = measure_of options.weigh file.grammar.tokens (Some work.lexemes.now)

-- what the verdicts of a yacc file are made by: its grammar, measured so
abbrev pub tables_by : Options → File → RenderWork → Weighed
tables_by options file work = weighed file.grammar (measure_by options file work)

-- what the options' suite is made by, with these texts and pairs
abbrev pub means_by : Options → Bor RenderWork → Bor Weighed → Means
means_by options work pairs = record {
  work = work;
  mutation = record { pairs = pairs; operators = options.operators; most = options.bases; first = options.first };
  weigh = options.weigh;
}

-- the second format tells closed sets
abbrev pub format_with : Option ClosedSets → Format
format_with None = One
format_with (Some closed) = Two

-- the form of a suite by these means, with closed sets where its head tells them
abbrev pub form_by : Means → Option (Bor ClosedSets) → PlanForm
form_by means None = Suite means
form_by means (Some closed) = Shared means closed

-- One of these texts was written in this format, or a part of it where that stopped; with what is known of counts and faults.
module _ {S : Type 0} (g : Sink.Ghosts S) where
  pub record WritesManifest (Is : List ℕ → Type 0) (format : Format) (result : Result Counts Halt) (old new : S) : Type 0 where
    pub ok : OnOk result (TookOne g Is old new)
    pub counts : IfOk result (CountsOfAll Is)
    pub first : format ≡ One → IfOk result HasNoCases
    pub part : OnErr result (TookFront g Is old new)
    pub no_fault : OnOk result (MetNone g old new)
    pub failed : Stopped Failed result → MetFault g old new
    pub room : IsCalmForAll g Is old new
