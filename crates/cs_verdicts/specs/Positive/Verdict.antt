-- The verdict of a goal, and the chosen tree that meets it.
use Rattle.std.specs.Prelude.{◌≡◌, ℕ, ◌+◌, ◌<◌, ◌≤◌, List, ◌∷◌, ◌++◌, length}
use Rattle.cs_grammar.specs.declared.symbol.Symbol.{Symbol}
use Rattle.cs_grammar.specs.declared.symbol.Symbol.TheVariants.{Nonterminal}
use Rattle.cs_grammar.specs.Grammar.{Production, PlainGrammar, IsRule}
use Rattle.cs_grammar.specs.Laws.{AtLeastOne}
use Rattle.cs_grammar.specs.Weights.{Measure, Weighed}
use Rattle.cs_grammar.specs.Tree.{Tree, Node, Forest, IsTree, size, code}
use Rattle.cs_grammar.specs.Context.{Context as TreeContext, Under, plug}
use Rattle.cs_least.specs.declared.cost.cost.Cost.{Cost}
use Rattle.cs_least.specs.declared.cost.cost.Cost.TheVariants.{Least}
use Rattle.cs_least.specs.Cost.Least.{IsLeast, IsCost}
use Rattle.cs_least.specs.Cost.Chosen.{AreChosen}
use Rattle.cs_least.specs.Embed.ChosenContext.{IsChosenContext}
use Rattle.cs_goals.specs.declared.goal.Goal.{Goal}
use Rattle.cs_goals.specs.declared.goal.Goal.TheVariants.{Rule, Context, Pair}
use Rattle.cs_goals.specs.Meets.{Meets}
use Rattle.cs_pairs.specs.Pairs.ChosenPair.{IsChosenPair}
use Rattle.cs_verdicts.specs.declared.positive.verdict.Verdict.{Verdict}
use Rattle.cs_verdicts.specs.declared.positive.verdict.Verdict.TheVariants.{Feasible, Infeasible, Large}

-- a tree of the start symbol that meets the goal
abbrev pub IsMet : PlainGrammar → Goal → Tree → Type 0
IsMet g goal t = IsTree g (Nonterminal g.start) t × Meets goal t

-- the chosen tree of a rule goal: the chosen context of the rule's left side around a node of the rule with chosen children
pub record IsChosenOfRule (w : Measure) (g : PlainGrammar) (r : ℕ) (t : Tree) : Type 0 where
  pub rule : Production
  pub number : IsRule g r rule
  pub context : TreeContext
  pub children : Forest
  pub around : IsChosenContext w g (Nonterminal rule.left) context
  pub chosen : AreChosen w g rule.right children
  pub whole : t ≡ plug context (Node r children)

-- The parts of a tree that meets a context goal: a context of rule p's left side, and in it a node of rule p whose child at place
-- i, counted from 1, is a node of rule q. IsAround says which context may be around it, and AreKind which trees may be among the
-- node's other children and the inner node's children.
pub record ContextGoalParts (g : PlainGrammar) (p i q : ℕ) (IsAround : Symbol → TreeContext → Type 0) (AreKind : List Symbol → Forest → Type 0) : Type 0 where
  pub outer : Production
  pub inner : Production
  pub is_outer : IsRule g p outer
  pub is_inner : IsRule g q inner
  pub before : List Symbol
  pub behind : List Symbol
  pub right_side : outer.right ≡ before ++ Nonterminal inner.left ∷ behind
  pub place : length before + 1 ≡ i
  pub context : TreeContext
  pub left : Forest
  pub right : Forest
  pub children : Forest
  pub around : IsAround (Nonterminal outer.left) context
  pub left_are : AreKind before left
  pub right_are : AreKind behind right
  pub children_are : AreKind inner.right children

-- the chosen tree of a context goal: the chosen context around, and all the others chosen trees
pub record IsChosenOfContext (w : Measure) (g : PlainGrammar) (p i q : ℕ) (t : Tree) : Type 0 where
  pub parts : ContextGoalParts g p i q (IsChosenContext w g) (AreChosen w g)
  pub whole : t ≡ plug (Under parts.context p parts.left parts.right) (Node q parts.children)

-- the chosen tree of a goal
abbrev pub IsChosenOf : Measure → PlainGrammar → Goal → Tree → Type 0
IsChosenOf w g (Rule r) t = IsChosenOfRule w g r t
IsChosenOf w g (Context p i q) t = IsChosenOfContext w g p i q t
IsChosenOf w g (Pair a b) t = IsChosenPair w g a b t

-- a goal that speaks of nodes: a rule goal or a context goal
abbrev pub IsTreeGoal : Goal → Type 0
IsTreeGoal (Rule r) = Unit {0}
IsTreeGoal (Context p i q) = Unit {0}
IsTreeGoal (Pair a b) = ⊥

-- the least tree that meets the goal is within the limit
abbrev pub HasLeastMet : Measure → PlainGrammar → Goal → Type 0
HasLeastMet w g goal = (n : ℕ) × IsCost w.limit (IsMet g goal) (size w) (Least n)

-- the code of the chosen tree of a goal
abbrev pub IsCodeOf : Measure → PlainGrammar → Goal → List ℕ → Type 0
IsCodeOf w g goal derivation = (t : Tree) × IsChosenOf w g goal t × (derivation ≡ code t)

-- Infeasible: no tree meets the goal. Large: one does, and each that does is larger than the limit. Feasible: the least size
-- of those, which is within the limit, and the code of the chosen one.
abbrev pub IsVerdict : Measure → PlainGrammar → Goal → Verdict → Type 0
IsVerdict w g goal Infeasible = (t : Tree) → IsMet g goal t → ⊥
IsVerdict w g goal Large = (t : Tree) × IsMet g goal t × ((u : Tree) → IsMet g goal u → w.limit < size w u)
IsVerdict w g goal (Feasible n derivation) = (n ≤ w.limit) × IsLeast (IsMet g goal) (size w) n × IsCodeOf w g goal derivation

-- the verdict of a goal of a grammar by its weights
abbrev pub IsVerdictIn : Weighed → Goal → Verdict → Type 0
IsVerdictIn v goal verdict = IsVerdict v.weights v.grammar goal verdict

-- the code of the chosen tree of a goal
abbrev pub IsCodeIn : Weighed → Goal → List ℕ → Type 0
IsCodeIn v goal derivation = IsCodeOf v.weights v.grammar goal derivation

-- what the least tree that meets the goal costs
abbrev pub IsGoalCost : Weighed → Goal → Cost → Type 0
IsGoalCost v goal cost = IsCost v.weights.limit (IsMet v.grammar goal) (size v.weights) cost

-- the least tree that meets the goal is within the limit
abbrev pub HasLeastIn : Weighed → Goal → Type 0
HasLeastIn v goal = HasLeastMet v.weights v.grammar goal

-- the chosen tree of a goal
abbrev pub IsChosenIn : Weighed → Goal → Tree → Type 0
IsChosenIn v goal t = IsChosenOf v.weights v.grammar goal t

-- a tree that meets the goal, and none that does is smaller
pub record IsLeastMet (v : Weighed) (goal : Goal) (u : Tree) : Type 0 where
  pub is_met : IsMet v.grammar goal u
  pub least : (t : Tree) → IsMet v.grammar goal t → size v.weights u ≤ size v.weights t

abbrev pub ChosenIsLeast : Weighed → Goal → Type 0
ChosenIsLeast v goal = (u : Tree) → IsChosenIn v goal u → IsLeastMet v goal u

-- some tree meets the goal, and some is chosen
abbrev pub HasTree : Weighed → Goal → Type 0
HasTree v goal = AtLeastOne (IsMet v.grammar goal)

abbrev pub HasChosen : Weighed → Goal → Type 0
HasChosen v goal = AtLeastOne (IsChosenIn v goal)
