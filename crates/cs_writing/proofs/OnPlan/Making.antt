-- What is made of a goal: its tokens have names and are few.
use Rattle.std.proofs.Common.{◌≡◌, ℕ, ◌≤◌, List, length, refl, sym, ap, subst, Option, arith}
use Rattle.std.specs.Prelude.{All}
use Rattle.std.proofs.lemmas.List.Elements.{All-nil}
use Rattle.cs_grammar.specs.Grammar.{IsNumberOf, PlainGrammar}
use Rattle.cs_grammar.specs.Tree.{IsDerivationOf, size}
use Rattle.cs_grammar.specs.Weights.{IsMeasure, Measure, Weighed}
use Rattle.cs_grammar.specs.declared.symbol.Mark.{Mark}
use Rattle.cs_grammar.specs.declared.symbol.Mark.TheVariants as marks
use Rattle.cs_grammar.proofs.Measures.{IsNumberOf-IsYield}
use Rattle.cs_goals.specs.declared.goal.Goal.{Goal}
use Rattle.cs_goals.specs.declared.goal.Goal.TheVariants.{Rule, Context, Pair}
use Rattle.cs_goals.specs.Goal.{IsGoal, IsLeft, IsRight}
use Rattle.cs_manifest.specs.Output.Names.{AreNamedTokens, IsNamedMark}
use Rattle.cs_verdicts.specs.Cases.Cases.{PlainCases}
use Rattle.cs_choices.specs.declared.format.Format.{Format}
use Rattle.cs_manifest.specs.Manifest.Manifest.{AreTokensOf, Texts}
use Rattle.cs_manifest.specs.Manifest.Named.{IsNamedGoal}
use Rattle.cs_verdicts.specs.declared.positive.verdict.Verdict.{Verdict}
use Rattle.cs_verdicts.specs.declared.positive.verdict.Verdict.TheVariants.{Feasible, Infeasible, Large}
use Rattle.cs_verdicts.specs.Positive.Verdict.{IsVerdict}
use Rattle.cs_verdicts.proofs.OnPositive.Verdicts.{chosen_met}
use Rattle.cs_yacc.specs.Reading.File.{File, IsFile}
use Rattle.cs_manifest.proofs.OnManifest.Rendered.{few_tokens, named_if}
use Rattle.cs_writing.specs.Plan.Entries.{IsMade}
use Rattle.cs_writing.specs.Plan.Made.{IsNamedMade, MadeEntry, is_asked}
use Rattle.cs_writing.specs.Plan.Placing.{HasDerivation, IsMetBy}

-- a verdict's derivation is one of the start symbol
pub verdict_derivation : (w : Measure) (g : PlainGrammar) (goal : Goal) (verdict : Verdict) (n : ℕ) (derivation : List ℕ) → verdict ≡ Feasible n derivation → IsVerdict w g goal verdict → IsDerivationOf g derivation
verdict_derivation w g goal verdict n derivation e h =
    let is : IsVerdict w g goal (Feasible n derivation) = subst (IsVerdict w g goal) e h in
    (is.2.0, (chosen_met w g goal is.2.0 is.2.1).0, is.2.2)

-- the tokens of a verdict have names, and so has its goal
module _ (file : File) (is : IsFile file) where
  named_by : (verdict : Verdict) (tokens : List ℕ) → AreTokensOf file.grammar verdict tokens → All (IsNumberOf file.grammar.tokens) tokens
  named_by (Feasible size derivation) tokens h = IsNumberOf-IsYield file.grammar is.grammar derivation tokens h
  named_by Infeasible tokens h = subst (All (IsNumberOf file.grammar.tokens)) (sym h) (All-nil (IsNumberOf file.grammar.tokens))
  named_by Large tokens h = subst (All (IsNumberOf file.grammar.tokens)) (sym h) (All-nil (IsNumberOf file.grammar.tokens))

  pub named_tokens : (g : PlainGrammar) (verdict : Verdict) (tokens : List ℕ) → g ≡ file.grammar → AreTokensOf g verdict tokens → AreNamedTokens file tokens
  named_tokens g verdict tokens same h =
      subst (λ (n : ℕ). All (IsNumberOf n) tokens) (sym is.tokens) (named_by verdict tokens (subst (λ (x : PlainGrammar). AreTokensOf x verdict tokens) same h))

  named_left : (a : Mark) → IsLeft file.grammar.tokens a → IsNamedMark file a
  named_left marks.Begin h = tt
  named_left (marks.Token t) h = subst (λ (n : ℕ). IsNumberOf n t) (sym is.tokens) h
  named_left marks.End h = absurd h

  named_right : (a : Mark) → IsRight file.grammar.tokens a → IsNamedMark file a
  named_right marks.Begin h = absurd h
  named_right (marks.Token t) h = subst (λ (n : ℕ). IsNumberOf n t) (sym is.tokens) h
  named_right marks.End h = tt

  named_in : (goal : Goal) → IsGoal file.grammar goal → IsNamedGoal file goal
  named_in (Rule r) h = tt
  named_in (Context p i q) h = tt
  named_in (Pair a b) h = (named_left a h.0, named_right b h.1)

  pub named_goal : (g : PlainGrammar) (goal : Goal) → g ≡ file.grammar → IsGoal g goal → IsNamedGoal file goal
  named_goal g goal same h = named_in goal (subst (λ (x : PlainGrammar). IsGoal x goal) same h)

-- what is made of a goal has names
pub named_made : (file : File) → IsFile file → (format : Format) (texts : Option Texts) (lexemes : Option (List (Option (List ℕ)))) (of : Weighed) → of.grammar ≡ file.grammar → (old : PlainCases) (goal : Goal) (new : PlainCases) (m : MadeEntry) → IsMade format texts lexemes of old goal new m → IsNamedMade file m
named_made file is format texts lexemes of same old goal new m h =
    let tokens = named_tokens file is of.grammar m.verdict m.tokens same h.tokens in
    record {
      goal = subst (IsNamedGoal file) (sym h.is_of) (named_goal file is of.grammar goal same h.of_grammar);
      tokens = tokens;
      text = named_if file m.tokens tokens texts lexemes (is_asked m.verdict m.shared) m.rendered h.text;
    }

-- the tokens of a verdict are few
pub few_of : (w : Measure) → IsMeasure w → (g : PlainGrammar) (goal : Goal) (verdict : Verdict) (tokens : List ℕ) → IsVerdict w g goal verdict → AreTokensOf g verdict tokens → length tokens ≤ 1000000
few_of w is g goal (Feasible n derivation) tokens h y = few_tokens w is g goal n derivation tokens h y
few_of w is g goal Infeasible tokens h y = let none : length tokens ≡ 0 = ap length y in omega (arith, none)
few_of w is g goal Large tokens h y = let none : length tokens ≡ 0 = ap length y in omega (arith, none)

-- where a verdict has a derivation, it is one of the grammar
pub derived : (w : Measure) (g : PlainGrammar) (goal : Goal) (verdict : Verdict) → IsVerdict w g goal verdict → HasDerivation g verdict
derived w g goal (Feasible n derivation) h = verdict_derivation w g goal (Feasible n derivation) n derivation refl h
derived w g goal Infeasible h = tt
derived w g goal Large h = tt

-- a feasible goal is met by the derivation of its verdict
pub met_by : (w : Measure) (g : PlainGrammar) (goal : Goal) (verdict : Verdict) → IsVerdict w g goal verdict → IsMetBy g goal verdict
met_by w g goal (Feasible n derivation) h =
    let met = chosen_met w g goal h.2.0 h.2.1 in
    record { tree = h.2.0; is_tree = met.0; code = h.2.2; meets = met.1 }
met_by w g goal Infeasible h = tt
met_by w g goal Large h = tt
