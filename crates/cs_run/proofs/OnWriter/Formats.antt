-- A plan of the options' format chooses what the options do.
use Rattle.std.proofs.Common.{◌≡◌, Option, None, Some, refl, ap, ◌∙◌}
use Rattle.std.specs.Borrow.{Bor}
use Rattle.std.specs.Option.{option_copied, option_map_or}
use Rattle.std.specs.Prelude.{IfSome, option_map}
use Rattle.cs_grammar.specs.Weights.{Weighed}
use Rattle.cs_choices.specs.declared.format.Format.{Format}
use Rattle.cs_choices.specs.declared.format.Format.TheVariants.{One}
use Rattle.cs_choices.specs.declared.weigh.Weigh.TheVariants.{Nodes}
use Rattle.cs_manifest.specs.Manifest.ByWork.{texts_of}
use Rattle.cs_manifest.specs.Manifest.Manifest.{Choice, measure_of}
use Rattle.cs_texts.specs.declared.rendering.render_work.RenderWork.{RenderWork}
use Rattle.cs_verdicts.specs.Closed.Closed.{AreClosedSets, ClosedSets}
use Rattle.cs_words.specs.declared.options.Options.{Options}
use Rattle.cs_writing.specs.Plan.Plans.{AreMeansOf, IsFormOf, choice_in, first_by, format_by, means_in, no_operator, weigh_by}
use Rattle.cs_writing.specs.declared.plan.plan.Means.{Means}
use Rattle.cs_writing.specs.declared.plan.plan.Plan.{Plan}
use Rattle.cs_writing.specs.declared.plan.plan.PlanForm.{PlanForm}
use Rattle.cs_yacc.specs.Reading.File.{File}
use Rattle.cs_run.specs.Writer.Suite.{choice_with, form_by, format_with, means_by, measure_by}

-- ---- by the means

-- what a plan by these means chooses
abbrev choice_of : Options → Option Means → Format → Choice
choice_of options means format = record {
  criteria = options.criteria;
  texts = option_map (λ m. texts_of m.work.now) means;
  operators = option_map_or (λ m. m.mutation.operators) means no_operator;
  most = option_map_or (λ m. m.mutation.most) means 0;
  first = first_by means;
  format = format;
  weigh = option_map_or (λ m. m.weigh) means Nodes;
}

-- in the first format, whatever the options' is
pub first_choice : (options : Options) (work : Bor RenderWork) (pairs : Bor Weighed) (m : Means) → m ≡ means_by options work pairs → choice_of options (Some m) One ≡ record (choice_with options work.now) { format = One }
first_choice options work pairs m means = ap (λ (x : Means). choice_of options (Some x) One) means

-- ---- by the form

-- the form is of these means and this format
pub record HasForm (file : File) (m : Means) (f : Format) (form : PlanForm) : Type 0 where
  pub of : IsFormOf file form
  pub means : means_in form ≡ Some m
  pub format : format_by form ≡ f

-- closed sets are lent where the format tells them
pub formed : (file : File) (means : Means) (lent : Option (Bor ClosedSets)) (format : Format) → AreMeansOf file means → IfSome (option_copied lent) (AreClosedSets file.grammar) → format_with (option_copied lent) ≡ format → HasForm file means format (form_by means lent)
formed file means None format are sets told = record { of = are; means = refl; format = told }
formed file means (Some closed) format are sets told = record { of = (are, sets); means = refl; format = told }

-- the plan of a yacc file by the options, in this form
abbrev pub plan_of : Options → Bor File → PlanForm → Plan
plan_of options file form = record { yacc = file; criteria = options.criteria; form = form }

pub same_choice : (options : Options) (file : Bor File) (work : Bor RenderWork) (pairs : Bor Weighed) (form : PlanForm) → HasForm file.now (means_by options work pairs) options.format form
    → choice_in (plan_of options file form) ≡ choice_with options work.now
same_choice options file work pairs form has =
    ap (λ (o : Option Means). choice_of options o (format_by form)) has.means ∙ ap (λ (f : Format). choice_of options (Some (means_by options work pairs)) f) has.format

-- and measures trees as the options do
pub same_measure : (options : Options) (file : File) (work : Bor RenderWork) (pairs : Bor Weighed) (form : PlanForm) → HasForm file (means_by options work pairs) options.format form
    → measure_of (weigh_by form) file.grammar.tokens (option_map (λ m. m.work.now.lexemes.now) (means_in form)) ≡ measure_by options file work.now
same_measure options file work pairs form has =
    ap (λ (o : Option Means). measure_of (option_map_or (λ m. m.weigh) o Nodes) file.grammar.tokens (option_map (λ m. m.work.now.lexemes.now) o)) has.means
