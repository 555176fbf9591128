-- What a plan chooses, and which text is its manifest.
use Rattle.std.specs.Prelude.{◌≡◌, ℕ, List, Option, None, Some, option_map, false}
use Rattle.std.specs.Option.{option_map_or}
use Rattle.cs_grammar.specs.Weights.{IsMeasure, Measure, Weighed}
use Rattle.cs_goals.specs.declared.goal.Goal.{Goal}
use Rattle.cs_scanner.specs.Lexeme.Lexeme.{AreLexemes}
use Rattle.cs_verdicts.specs.Closed.Closed.{AreClosedSets}
use Rattle.cs_choices.specs.declared.format.Format.{Format}
use Rattle.cs_choices.specs.declared.format.Format.TheVariants.{One, Two}
use Rattle.cs_choices.specs.declared.weigh.Weigh.{Weigh}
use Rattle.cs_choices.specs.declared.weigh.Weigh.TheVariants.{Nodes}
use Rattle.cs_manifest.specs.Manifest.Head.{Sharing}
use Rattle.cs_manifest.specs.Manifest.ByWork.{texts_of}
use Rattle.cs_manifest.specs.Manifest.Manifest.{Choice, GoalEntry, IsEntryOf, IsManifest, Texts, goal_texts, measure_of}
use Rattle.cs_choices.specs.declared.operators.Operators.{Operators}
use Rattle.cs_verdicts.specs.Positive.Positives.{ToJudge}
use Rattle.cs_texts.specs.declared.rendering.render_work.RenderWork.{RenderWork}
use Rattle.cs_scanner.specs.Scan.Compared.{scanning}
use Rattle.cs_yacc.specs.Reading.File.{File, IsFile}
use Rattle.cs_writing.specs.declared.plan.plan.Means.{Means}
use Rattle.cs_writing.specs.declared.plan.plan.Plan.{Plan}
use Rattle.cs_writing.specs.declared.plan.plan.PlanForm.{PlanForm}
use Rattle.cs_writing.specs.declared.plan.plan.PlanForm.TheVariants.{Rules, Suite, Shared}

-- ---- by the form

-- what a suite is made by
abbrev pub means_in : PlanForm → Option Means
means_in Rules = None
means_in (Suite means) = Some means
means_in (Shared means closed) = Some means

abbrev pub format_by : PlanForm → Format
format_by Rules = One
format_by (Suite means) = One
format_by (Shared means closed) = Two

-- what stands in the head of the second format alone
abbrev pub sharing_by : PlanForm → Option Sharing
sharing_by Rules = None
sharing_by (Suite means) = None
sharing_by (Shared means closed) = Some (record { weigh = means.weigh; closed = closed.now })

-- what sizes count
abbrev pub weigh_by : PlanForm → Weigh
weigh_by form = option_map_or (λ m. m.weigh) (means_in form) Nodes

abbrev pub texts_in : Plan → Option Texts
texts_in plan = option_map (λ m. texts_of m.work.now) (means_in plan.form)

abbrev pub lexemes_in : Plan → Option (List (Option (List ℕ)))
lexemes_in plan = option_map (λ m. m.work.now.lexemes.now) (means_in plan.form)

abbrev pub sharing_in : Plan → Option Sharing
sharing_in plan = sharing_by plan.form

-- ---- plans

-- lists of a file's tokens can be rendered: the lexemes are those of the tokens
abbrev pub CanRender : File → RenderWork → Type 0
CanRender file work = AreLexemes (scanning work.scanner.now) file.grammar.tokens work.lexemes.now

-- the lexemes are those of the file's tokens, and the pairs those of its grammar
pub record AreMeansOf (file : File) (means : Means) : Type 0 where
  pub texts : CanRender file means.work.now
  pub pairs : means.mutation.pairs.now.grammar ≡ file.grammar

-- the means are of the file, and the closed sets those of its grammar
abbrev pub IsFormOf : File → PlanForm → Type 0
IsFormOf file Rules = Unit {0}
IsFormOf file (Suite means) = AreMeansOf file means
IsFormOf file (Shared means closed) = AreMeansOf file means × AreClosedSets file.grammar closed.now

pub record IsPlan (plan : Plan) : Type 0 where
  pub file : IsFile plan.yacc.now
  pub form : IsFormOf plan.yacc.now plan.form

-- how the plan measures trees
abbrev pub measure_in : Plan → Measure
measure_in plan = measure_of (weigh_by plan.form) plan.yacc.now.grammar.tokens (lexemes_in plan)

-- goals of the plan's grammar are judged, and trees measured as it says
pub record IsOfPlan (plan : Plan) (left : ToJudge) : Type 0 where
  pub grammar : left.tables.grammar ≡ plan.yacc.now.grammar
  pub weights : left.tables.weights ≡ measure_in plan
  pub measure : IsMeasure left.tables.weights

-- none of the operators
abbrev pub no_operator : Operators
no_operator = record { delete = false; insert = false; replace = false; swap = false }

-- so many negatives are kept of each operator and left mark; without a number, all
abbrev pub first_by : Option Means → Option ℕ
first_by None = None
first_by (Some means) = means.mutation.first

-- what the plan chooses; in the form of `rules` no operator and no bases
abbrev pub choice_in : Plan → Choice
choice_in plan = record {
  criteria = plan.criteria;
  texts = texts_in plan;
  operators = option_map_or (λ m. m.mutation.operators) (means_in plan.form) no_operator;
  most = option_map_or (λ m. m.mutation.most) (means_in plan.form) 0;
  first = first_by (means_in plan.form);
  format = format_by plan.form;
  weigh = weigh_by plan.form;
}

-- the text is the plan's manifest
abbrev pub IsPlanned : Plan → List ℕ → Type 0
IsPlanned plan text = IsManifest (choice_in plan) plan.yacc.now text

-- the entry of a goal: in the second format goals have no texts
abbrev pub IsEntryIn : Plan → Weighed → Goal → GoalEntry → Type 0
IsEntryIn plan of goal entry = IsEntryOf of (goal_texts (choice_in plan)) (lexemes_in plan) goal entry
