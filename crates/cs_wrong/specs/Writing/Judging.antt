-- Slips that are judged. Working words of proofs.
use Rattle.std.specs.Prelude.{◌≡◌, ℕ, ◌≤◌, Bool, List, Option, Some, length, option_map, true, false}
use Rattle.cs_grammar.specs.Grammar.{PlainGrammar}
use Rattle.cs_manifest.specs.Manifest.ByWork.{texts_of}
use Rattle.cs_manifest.specs.Manifest.Manifest.{IsRenderedIf}
use Rattle.cs_texts.specs.Rendering.Rendering.{AreTokens, rendering}
use Rattle.cs_texts.specs.declared.rendering.rendered.Rendered.{Rendered}
use Rattle.cs_texts.specs.declared.rendering.render_work.RenderWork.{RenderWork}
use Rattle.cs_wrong.specs.Classes.Classes.{IsListClass, is_wrong}
use Rattle.cs_wrong.specs.Classes.Coming.{TellsAt}
use Rattle.cs_wrong.specs.Slips.Found.{AreTokensOf, tokens_in}
use Rattle.cs_wrong.specs.Writing.Text.{SlipEntry}
use Rattle.cs_wrong.specs.declared.classes.class.SlipClass.{SlipClass}
use Rattle.cs_wrong.specs.declared.classes.class.SlipClass.TheVariants as classes
use Rattle.cs_wrong.specs.declared.classes.coming.Candidate.{Candidate}
use Rattle.cs_wrong.specs.declared.writing.judging.WrongWork.{WrongWork}
use Rattle.cs_wrong.specs.declared.slips.lists.SlipList.{SlipList}
use Rattle.cs_wrong.specs.declared.slips.lists.SlipList.TheVariants.{Nothing, Large, Tokens}

-- a list that can be rendered
pub record HasTexts (work : RenderWork) (list : List ℕ) : Type 0 where
  pub tokens : AreTokens work.lexemes.now list
  pub few : length list ≤ 1000000

-- it was, where its class is one that is written
abbrev pub RendersIf : RenderWork → SlipClass → List ℕ → Option Rendered → Type 0
RendersIf work class list rendered = IsRenderedIf (is_wrong class) (Some (texts_of work)) (Some work.lexemes.now) list (option_map rendering rendered)

-- The candidate can be judged: its list has tokens of the recognizer's grammar, all of which have their place among the lexemes.
pub record CanJudge (work : WrongWork) (c : Candidate) : Type 0 where
  pub lexemes : length work.render.now.lexemes.now ≡ work.recognizer.now.tokens
  pub tokens : AreTokensOf work.recognizer.now c.list
  pub few : length (tokens_in c.list) ≤ 1000000
  pub at : TellsAt work.recognizer.now c.list c.at

-- the class of a list that was met, or wasn't
abbrev pub IsClassIf : Bool → PlainGrammar → List ℕ → SlipClass → Type 0
IsClassIf true g list class = class ≡ classes.Again
IsClassIf false g list class = IsListClass g list class

-- the class of what a slip has
abbrev pub IsClassBy : PlainGrammar → SlipList → Bool → SlipClass → Type 0
IsClassBy g Nothing again class = class ≡ classes.Nothing
IsClassBy g Large again class = class ≡ classes.Large
IsClassBy g (Tokens list) again class = IsClassIf again g list.items class

abbrev pub TellsClass : WrongWork → Candidate → SlipClass → Type 0
TellsClass work c class = IsClassBy work.recognizer.now c.list c.again class

-- what becomes of a candidate
pub record Judges (work : WrongWork) (c : Candidate) (entry : SlipEntry) : Type 0 where
  pub slip : entry.slip ≡ c.slip
  pub tokens : entry.tokens ≡ tokens_in c.list
  pub class : TellsClass work c entry.class
  pub text : IsRenderedIf (is_wrong entry.class) (Some (texts_of work.render.now)) (Some work.render.now.lexemes.now) entry.tokens entry.rendered
