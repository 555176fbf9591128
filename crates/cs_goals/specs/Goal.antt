-- Which goals a grammar has: rule coverage (Purdom 1972, "A sentence generator for testing parsers"), context-dependent
-- rule coverage (Lämmel 2001, "Grammar Testing"), and pairs of neighbours in a framed sentence.
use Rattle.std.specs.Prelude.{◌≡◌, ℕ, ◌-◌, ◌<◌, Some, IsTrue, slice_get}
use Rattle.cs_grammar.specs.declared.symbol.Symbol.TheVariants.{Nonterminal}
use Rattle.cs_grammar.specs.declared.symbol.Mark.{Mark}
use Rattle.cs_grammar.specs.declared.symbol.Mark.TheVariants.{Begin, Token, End}
use Rattle.cs_grammar.specs.Grammar.{Production, PlainGrammar, IsRule, IsNumberOf}
use Rattle.cs_goals.specs.declared.goal.Goal.{Goal}
use Rattle.cs_goals.specs.declared.goal.Goal.TheVariants.{Rule, Context, Pair}
use Rattle.cs_goals.specs.declared.goal.Occurrence.{Occurrence}
use Rattle.cs_choices.specs.declared.criteria.Criteria.{Criteria}

-- place i of rule p, counted from 1, is a nonterminal that rule q has on its left side
pub record IsOccurrence (g : PlainGrammar) (p i q : ℕ) : Type 0 where
  pub outer : Production
  pub inner : Production
  pub is_outer : IsRule g p outer
  pub is_inner : IsRule g q inner
  pub above_zero : 0 < i
  pub at : slice_get outer.right (i - 1) ≡ Some (Nonterminal inner.left)

-- the same of its three numbers as one value
abbrev pub HasOccurrence : PlainGrammar → Occurrence → Type 0
HasOccurrence g o = IsOccurrence g o.outer o.place o.inner

-- the goal of an occurrence
abbrev pub context_goal : Occurrence → Goal
context_goal o = Context o.outer o.place o.inner

-- what may stand on the left of a pair, with a token of so many
abbrev pub IsLeft : ℕ → Mark → Type 0
IsLeft tokens Begin = Unit {0}
IsLeft tokens (Token a) = IsNumberOf tokens a
IsLeft tokens End = ⊥

-- what may stand on its right
abbrev pub IsRight : ℕ → Mark → Type 0
IsRight tokens Begin = ⊥
IsRight tokens (Token b) = IsNumberOf tokens b
IsRight tokens End = Unit {0}

-- one of the grammar's goals
abbrev pub IsGoal : PlainGrammar → Goal → Type 0
IsGoal g (Rule r) = (p : Production) × IsRule g r p
IsGoal g (Context p i q) = IsOccurrence g p i q
IsGoal g (Pair a b) = IsLeft g.tokens a × IsRight g.tokens b

-- a goal of a criterion that is wanted
abbrev pub IsWanted : Criteria → Goal → Type 0
IsWanted c (Rule r) = IsTrue c.rule
IsWanted c (Context p i q) = IsTrue c.cdrc
IsWanted c (Pair a b) = IsTrue c.pair

-- one of the grammar's goals, and of a criterion that is wanted
abbrev pub IsWantedGoal : PlainGrammar → Criteria → Goal → Type 0
IsWantedGoal g c goal = IsWanted c goal × IsGoal g goal
