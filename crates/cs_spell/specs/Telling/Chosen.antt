-- Which rule of a grammar a spelling is shown in.
use Rattle.std.specs.Prelude.{◌≡◌, ℕ, suc, ◌<◌, true, List, Contains, Option, None, Some, length, slice_get}
use Rattle.cs_grammar.specs.Grammar.{PlainGrammar, Production}
use Rattle.cs_grammar.specs.Weights.{Weighed}
use Rattle.cs_grammar.specs.declared.symbol.Symbol.TheVariants.{Token}
use Rattle.cs_goals.specs.declared.goal.Goal.TheVariants.{Rule}
use Rattle.cs_manifest.specs.Manifest.Lines.{is_feasible, is_large}
use Rattle.cs_manifest.specs.Manifest.Manifest.{AreTokensOf}
use Rattle.cs_verdicts.specs.declared.positive.verdict.Verdict.{Verdict}
use Rattle.cs_verdicts.specs.declared.positive.verdict.Verdict.TheVariants.{Feasible, Infeasible, Large}
use Rattle.cs_verdicts.specs.Positive.Verdict.{IsVerdictIn}

-- the verdict of a rule goal, and the tokens of its derivation, where it has one
pub record RuleVerdict : Type 0 where
  pub verdict : Verdict
  pub tokens : List ℕ

pub record IsRuleVerdict (v : Weighed) (rule : ℕ) (j : RuleVerdict) : Type 0 where
  pub verdict : IsVerdictIn v (Rule rule) j.verdict
  pub tokens : AreTokensOf v.grammar j.verdict j.tokens

-- those of all rules, in order
pub record AreRuleVerdicts (v : Weighed) (judged : List RuleVerdict) : Type 0 where
  pub all : length judged ≡ length v.grammar.rules
  pub each : (k : ℕ) (j : RuleVerdict) → slice_get judged k ≡ Some j → IsRuleVerdict v (suc k) j

-- a rule with the token in its right side, or any rule
abbrev pub IsWanted : Option ℕ → Production → Type 0
IsWanted (Some token) p = Contains p.right (Token token)
IsWanted None p = Unit {0}

-- the size of the least tree, where there is one within the limit
abbrev pub size_in : Verdict → ℕ
size_in (Feasible size derivation) = size
size_in Infeasible = 0
size_in Large = 0

-- For a token the smaller tree is better, and else the longer list of tokens.
abbrev pub IsBetter : Option ℕ → RuleVerdict → RuleVerdict → Type 0
IsBetter (Some token) a b = size_in a.verdict < size_in b.verdict
IsBetter None a b = length b.tokens < length a.tokens

module _ (g : PlainGrammar) (judged : List RuleVerdict) (wanted : Option ℕ) where
  -- at the place stands a rule that is wanted, and its verdict is this one
  pub record IsWantedAt (place : ℕ) (j : RuleVerdict) : Type 0 where
    pub rule : Production
    pub at_rule : slice_get g.rules place ≡ Some rule
    pub is_wanted : IsWanted wanted rule
    pub at : slice_get judged place ≡ Some j

  -- the rule goal is feasible besides
  abbrev pub IsCandidate : ℕ → RuleVerdict → Type 0
  IsCandidate place j = IsWantedAt place j × (is_feasible j.verdict ≡ true)

  -- Of the candidates none is better, and each in front of it is worse.
  pub record IsChosen (place : ℕ) (j : RuleVerdict) : Type 0 where
    pub is : IsCandidate place j
    pub best : (other : ℕ) (k : RuleVerdict) → IsCandidate other k → IsBetter wanted k j → ⊥
    pub first : (other : ℕ) (k : RuleVerdict) → IsCandidate other k → other < place → IsBetter wanted j k

  -- there is no candidate
  abbrev pub HasNoCandidate : Type 0
  HasNoCandidate = (place : ℕ) (j : RuleVerdict) → IsCandidate place j → ⊥

  -- some rule that is wanted has a goal that is large
  abbrev pub HasLarge : Type 0
  HasLarge = (place : ℕ) × (j : RuleVerdict) × IsWantedAt place j × (is_large j.verdict ≡ true)
