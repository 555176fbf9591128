-- What has names: all numbers of symbols in it are of the file.
use Rattle.std.specs.Prelude.{length, Option, None, Some}
use Rattle.cs_grammar.specs.Grammar.{Production, IsRuleOf}
use Rattle.cs_yacc.specs.Reading.File.{File}
use Rattle.cs_goals.specs.declared.goal.Goal.{Goal}
use Rattle.cs_goals.specs.declared.goal.Goal.TheVariants.{Rule, Context, Pair}
use Rattle.cs_mutate.specs.declared.edit.Edit.{Edit}
use Rattle.cs_mutate.specs.declared.edit.Edit.TheVariants.{Delete, Insert, Replace, Swap}
use Rattle.cs_mutate.specs.declared.negative.Negative.{Negative}
use Rattle.cs_texts.specs.Rendering.Rendering.{Rendering, Text, NoLexeme, Differs}
use Rattle.cs_verdicts.specs.Closed.Closed.{ClosedSets}
use Rattle.cs_manifest.specs.Output.Names.{AreNamedNonterminals, IsNamedMark, IsNamedToken}

abbrev pub IsNamedRule : File → Production → Type 0
IsNamedRule file rule = IsRuleOf (length file.token_names) (length file.nonterminal_names) rule

abbrev pub IsNamedGoal : File → Goal → Type 0
IsNamedGoal file (Rule r) = Unit {0}
IsNamedGoal file (Context p i q) = Unit {0}
IsNamedGoal file (Pair a b) = IsNamedMark file a × IsNamedMark file b

abbrev pub IsNamedEdit : File → Edit → Type 0
IsNamedEdit file (Delete i) = Unit {0}
IsNamedEdit file (Insert i t) = IsNamedToken file t
IsNamedEdit file (Replace i t) = IsNamedToken file t
IsNamedEdit file (Swap i) = Unit {0}

-- those of its edit and of its pair
pub record IsNamedNegative (file : File) (negative : Negative) : Type 0 where
  pub edit : IsNamedEdit file negative.edit
  pub left : IsNamedMark file negative.left
  pub right : IsNamedMark file negative.right

abbrev pub IsNamedRendering : File → Rendering → Type 0
IsNamedRendering file (Text text) = Unit {0}
IsNamedRendering file (NoLexeme token) = IsNamedToken file token
IsNamedRendering file (Differs after) = Unit {0}

abbrev pub AreNamedRenderings : File → Option Rendering → Type 0
AreNamedRenderings file None = Unit {0}
AreNamedRenderings file (Some rendered) = IsNamedRendering file rendered

-- the numbers of nonterminals in closed sets
abbrev pub AreNamedSets : File → ClosedSets → Type 0
AreNamedSets file closed =
    AreNamedNonterminals file closed.productive × AreNamedNonterminals file closed.reachable × AreNamedNonterminals file closed.empty
