-- The verdict of a chain, and the chosen tree that meets it.
use Rattle.std.specs.Prelude.{◌≡◌, ℕ, ◌+◌, ◌<◌, ◌≤◌, List, ◌∷◌, ◌++◌, length}
use Rattle.cs_grammar.specs.declared.symbol.Symbol.{Symbol}
use Rattle.cs_grammar.specs.declared.symbol.Symbol.TheVariants.{Nonterminal}
use Rattle.cs_grammar.specs.Grammar.{Production, PlainGrammar, IsRule}
use Rattle.cs_grammar.specs.Laws.{AtLeastOne}
use Rattle.cs_grammar.specs.Weights.{Measure, Weighed}
use Rattle.cs_grammar.specs.Tree.{Tree, Node, Forest, size, code}
use Rattle.cs_grammar.specs.Context.{Context, Under, plug}
use Rattle.cs_least.specs.declared.cost.cost.Cost.{Cost}
use Rattle.cs_least.specs.declared.cost.cost.Cost.TheVariants.{Least}
use Rattle.cs_least.specs.Cost.Least.{IsLeast, IsCost}
use Rattle.cs_least.specs.Cost.Chosen.{AreChosen}
use Rattle.cs_least.specs.Embed.ChosenContext.{IsChosenContext}
use Rattle.cs_chain.specs.declared.chains.chain.Chain.{Chain}
use Rattle.cs_chain.specs.declared.judging.verdict.ChainVerdict.{ChainVerdict}
use Rattle.cs_chain.specs.declared.judging.verdict.ChainVerdict.TheVariants.{Feasible, Infeasible, Large}
use Rattle.cs_chain.specs.Judging.Meets.{IsMet}

-- the rule of this number, and its right side cut at a place, counted from 1, where this nonterminal stands
pub record IsSplit (g : PlainGrammar) (p i n : ℕ) (rule : Production) (before behind : List Symbol) : Type 0 where
  pub number : IsRule g p rule
  pub right_side : rule.right ≡ before ++ Nonterminal n ∷ behind
  pub place : length before + 1 ≡ i

-- The rules of a chain, with their right sides cut at its places.
pub record ChainRules (g : PlainGrammar) (c : Chain) : Type 0 where
  pub outer : Production
  pub middle : Production
  pub inner : Production
  pub before : List Symbol
  pub behind : List Symbol
  pub low_before : List Symbol
  pub low_behind : List Symbol
  pub is_outer : IsSplit g c.outer c.place middle.left outer before behind
  pub is_middle : IsSplit g c.middle c.spot inner.left middle low_before low_behind
  pub is_inner : IsRule g c.inner inner

-- What a tree that meets a chain has besides its three nodes: the context around them, the siblings of the middle node, those of
-- the inner node, and the inner node's children.
pub record ChainTrees : Type 0 where
  pub context : Context
  pub left : Forest
  pub right : Forest
  pub low_left : Forest
  pub low_right : Forest
  pub children : Forest

-- IsAround says which context may be around them, and AreKind which trees may be among the others.
pub record AreOf {g : PlainGrammar} {c : Chain} (rules : ChainRules g c) (IsAround : Symbol → Context → Type 0) (AreKind : List Symbol → Forest → Type 0) (trees : ChainTrees) : Type 0 where
  pub around : IsAround (Nonterminal rules.outer.left) trees.context
  pub left : AreKind rules.before trees.left
  pub right : AreKind rules.behind trees.right
  pub low_left : AreKind rules.low_before trees.low_left
  pub low_right : AreKind rules.low_behind trees.low_right
  pub children : AreKind rules.inner.right trees.children

-- the tree of these: in the context a node with the outer rule, as its child one with the middle rule, as that one's child one
-- with the inner rule
abbrev pub whole_of : Chain → ChainTrees → Tree
whole_of c ts =
    plug (Under (Under ts.context c.outer ts.left ts.right) c.middle ts.low_left ts.low_right) (Node c.inner ts.children)

-- the chosen tree of a chain: the chosen context around, and all the others chosen trees
pub record IsChosenOf (w : Measure) (g : PlainGrammar) (c : Chain) (t : Tree) : Type 0 where
  pub rules : ChainRules g c
  pub trees : ChainTrees
  pub chosen : AreOf rules (IsChosenContext w g) (AreChosen w g) trees
  pub whole : t ≡ whole_of c trees

-- the code of the chosen tree of a chain
abbrev pub IsCodeOf : Measure → PlainGrammar → Chain → List ℕ → Type 0
IsCodeOf w g c derivation = (t : Tree) × IsChosenOf w g c t × (derivation ≡ code t)

-- Infeasible: no tree meets the chain. Large: one does, and each that does is larger than the limit. Feasible: the least size of
-- those, which is within the limit, and the code of the chosen one.
abbrev pub IsVerdict : Measure → PlainGrammar → Chain → ChainVerdict → Type 0
IsVerdict w g c Infeasible = (t : Tree) → IsMet g c t → ⊥
IsVerdict w g c Large = (t : Tree) × IsMet g c t × ((u : Tree) → IsMet g c u → w.limit < size w u)
IsVerdict w g c (Feasible n derivation) = (n ≤ w.limit) × IsLeast (IsMet g c) (size w) n × IsCodeOf w g c derivation

-- the verdict of a chain of a grammar by its weights
abbrev pub IsVerdictIn : Weighed → Chain → ChainVerdict → Type 0
IsVerdictIn v c verdict = IsVerdict v.weights v.grammar c verdict

-- the code of the chosen tree of a chain
abbrev pub IsCodeIn : Weighed → Chain → List ℕ → Type 0
IsCodeIn v c derivation = IsCodeOf v.weights v.grammar c derivation

-- what the least tree that meets the chain costs
abbrev pub IsChainCost : Weighed → Chain → Cost → Type 0
IsChainCost v c cost = IsCost v.weights.limit (IsMet v.grammar c) (size v.weights) cost

-- it is within the limit
abbrev pub HasLeastIn : Weighed → Chain → Type 0
HasLeastIn v c = (n : ℕ) × IsChainCost v c (Least n)

-- the chosen tree of a chain
abbrev pub IsChosenIn : Weighed → Chain → Tree → Type 0
IsChosenIn v c t = IsChosenOf v.weights v.grammar c t

-- a tree that meets the chain, and none that does is smaller
pub record IsLeastMet (v : Weighed) (c : Chain) (u : Tree) : Type 0 where
  pub is_met : IsMet v.grammar c u
  pub least : (t : Tree) → IsMet v.grammar c t → size v.weights u ≤ size v.weights t

abbrev pub ChosenIsLeast : Weighed → Chain → Type 0
ChosenIsLeast v c = (u : Tree) → IsChosenIn v c u → IsLeastMet v c u

-- some tree meets the chain, and some is chosen
abbrev pub HasTree : Weighed → Chain → Type 0
HasTree v c = AtLeastOne (IsMet v.grammar c)

abbrev pub HasChosen : Weighed → Chain → Type 0
HasChosen v c = AtLeastOne (IsChosenIn v c)
