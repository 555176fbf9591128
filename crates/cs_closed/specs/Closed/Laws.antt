-- What follows from closed sets, of all trees.
use Rattle.std.specs.Prelude.{ℕ, List}
use Rattle.cs_grammar.specs.declared.symbol.Mark.{Mark}
use Rattle.cs_grammar.specs.declared.symbol.Symbol.TheVariants.{Nonterminal}
use Rattle.cs_grammar.specs.Grammar.{PlainGrammar}
use Rattle.cs_grammar.specs.Tree.{Tree, IsTree}
use Rattle.cs_grammar.specs.Sentence.{IsSentence, framed, IsFollowed}
use Rattle.cs_goals.specs.declared.goal.Goal.{Goal}
use Rattle.cs_goals.specs.Goal.{IsGoal}
use Rattle.cs_goals.specs.Meets.{Meets}
use Rattle.cs_closed.specs.Closed.Sets.{PlainSets, IsNext}
use Rattle.cs_closed.specs.Closed.Closed.{AreClosed, Excludes}
use Rattle.cs_closed.specs.Closed.Exact.{AreExact}

-- no tree of the start symbol meets the goal
abbrev pub IsMetByNone : PlainGrammar → Goal → Type 0
IsMetByNone g goal = (t : Tree) → IsTree g (Nonterminal g.start) t → Meets goal t → ⊥

-- no framed sentence has a directly followed by b
abbrev pub IsAdjacentInNone : PlainGrammar → Mark → Mark → Type 0
IsAdjacentInNone g a b = (tokens : List ℕ) → IsSentence g tokens → IsFollowed a b (framed tokens) → ⊥

-- what closed sets exclude no tree of the start symbol meets
abbrev pub ClosedSetsExclude : PlainGrammar → PlainSets → Goal → Type 0
ClosedSetsExclude g s goal = AreClosed g s → Excludes g s goal → IsMetByNone g goal

-- and marks that closed sets keep apart are adjacent in no sentence
abbrev pub ClosedSetsPart : PlainGrammar → PlainSets → Mark → Mark → Type 0
ClosedSetsPart g s a b = AreClosed g s → (IsNext s a b → ⊥) → IsAdjacentInNone g a b

-- exact sets are closed
abbrev pub ExactSetsAreClosed : PlainGrammar → PlainSets → Type 0
ExactSetsAreClosed g s = AreExact g s → AreClosed g s

-- and exclude each of the grammar's goals that no tree of the start symbol meets
abbrev pub ExactSetsExclude : PlainGrammar → PlainSets → Goal → Type 0
ExactSetsExclude g s goal = AreExact g s → IsGoal g goal → IsMetByNone g goal → Excludes g s goal
