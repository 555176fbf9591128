-- The parts of a chain's verdict and of its chosen tree: what chains share that differ in the inner rule alone, which is all but
-- the node with that rule, and that node.
use Rattle.std.specs.Prelude.{◌≡◌, ℕ, List, ◌∷◌, ◌++◌}
use Rattle.cs_grammar.specs.declared.symbol.Symbol.{Symbol}
use Rattle.cs_grammar.specs.declared.symbol.Symbol.TheVariants.{Nonterminal}
use Rattle.cs_grammar.specs.Grammar.{Production, IsRule}
use Rattle.cs_grammar.specs.Weights.{Weighed}
use Rattle.cs_grammar.specs.Tree.{Forest, codes_of}
use Rattle.cs_grammar.specs.Context.{Context, code_before, code_after}
use Rattle.cs_least.specs.declared.cost.cost.Cost.{Cost}
use Rattle.cs_least.specs.declared.cost.cost.Cost.TheVariants as costs
use Rattle.cs_least.specs.Cost.Rank.{plus}
use Rattle.cs_least.specs.Cost.Chosen.{AreChosen}
use Rattle.cs_least.specs.Cost.Trees.{AreTreesCost, HaveSmall}
use Rattle.cs_least.specs.Embed.Around.{IsContextCost, HasLeastContext}
use Rattle.cs_least.specs.Embed.ChosenContext.{IsChosenContext}
use Rattle.cs_chain.specs.declared.chains.chain.Chain.{Chain}
use Rattle.cs_chain.specs.declared.judging.cuts.Rules.{Rules}
use Rattle.cs_chain.specs.declared.judging.frame.Frame.{Frame}
use Rattle.cs_chain.specs.declared.judging.frame.Core.{Core}
use Rattle.cs_chain.specs.declared.judging.verdict.ChainVerdict.{ChainVerdict}
use Rattle.cs_chain.specs.declared.judging.verdict.ChainVerdict.TheVariants.{Feasible, Infeasible, Large}
use Rattle.cs_chain.specs.Chains.Chain.{IsChain, with_inner}
use Rattle.cs_chain.specs.Judging.Cuts.{node_cost}
use Rattle.cs_chain.specs.Judging.Verdict.{ChainRules}

-- the left side of the outer rule, and the symbols beside the middle node and beside the inner node
pub record FrameSymbols : Type 0 where
  pub left : ℕ
  pub before : List Symbol
  pub behind : List Symbol
  pub low_before : List Symbol
  pub low_behind : List Symbol

-- those of the rules of a chain
abbrev pub symbols_of : Rules → FrameSymbols
symbols_of rules = record {
  left = rules.outer.rule.now.left;
  before = rules.outer.before.now;
  behind = rules.outer.behind.now;
  low_before = rules.middle.before.now;
  low_behind = rules.middle.behind.now;
}

-- what a context costs, and the two nodes in it with their other children
abbrev pub frame_sum : ℕ → Cost → Cost → Cost → Cost → Cost → Cost
frame_sum limit a l s m n = plus limit (plus limit a (node_cost limit (plus limit l s))) (node_cost limit (plus limit m n))

-- the cost is that of the least context and the least siblings
pub record IsFrameCost (v : Weighed) (xs : FrameSymbols) (cost : Cost) : Type 0 where
  pub context : Cost
  pub left : Cost
  pub right : Cost
  pub low_left : Cost
  pub low_right : Cost
  pub around : IsContextCost v xs.left context
  pub lefts : AreTreesCost v xs.before left
  pub rights : AreTreesCost v xs.behind right
  pub low_lefts : AreTreesCost v xs.low_before low_left
  pub low_rights : AreTreesCost v xs.low_behind low_right
  pub sum : cost ≡ frame_sum v.weights.limit context left right low_left low_right

-- all of these are within the limit
pub record IsSmallFrame (v : Weighed) (xs : FrameSymbols) : Type 0 where
  pub around : HasLeastContext v.weights v.grammar xs.left
  pub lefts : HaveSmall v.weights v.grammar xs.before
  pub rights : HaveSmall v.weights v.grammar xs.behind
  pub low_lefts : HaveSmall v.weights v.grammar xs.low_before
  pub low_rights : HaveSmall v.weights v.grammar xs.low_behind

-- the rule numbers of the chosen ones, before the inner node and behind it
pub record AreFrameCodes (v : Weighed) (c : Chain) (xs : FrameSymbols) (before behind : List ℕ) : Type 0 where
  pub context : Context
  pub left : Forest
  pub right : Forest
  pub low_left : Forest
  pub low_right : Forest
  pub around : IsChosenContext v.weights v.grammar (Nonterminal xs.left) context
  pub lefts : AreChosen v.weights v.grammar xs.before left
  pub rights : AreChosen v.weights v.grammar xs.behind right
  pub low_lefts : AreChosen v.weights v.grammar xs.low_before low_left
  pub low_rights : AreChosen v.weights v.grammar xs.low_behind low_right
  pub text_before : before ≡ code_before context ++ c.outer ∷ codes_of left ++ c.middle ∷ codes_of low_left
  pub text_behind : behind ≡ codes_of low_right ++ codes_of right ++ code_after context

abbrev pub AreCodesAround : Weighed → Chain → Rules → List ℕ × List ℕ → Type 0
AreCodesAround v c rules codes = AreFrameCodes v c (symbols_of rules) codes.0 codes.1

-- those of the rules of a chain, as its verdict has them
abbrev pub symbols_in : (v : Weighed) (c : Chain) → ChainRules v.grammar c → FrameSymbols
symbols_in v c rules = record {
  left = rules.outer.left;
  before = rules.before;
  behind = rules.behind;
  low_before = rules.low_before;
  low_behind = rules.low_behind;
}

-- what the chain has besides its inner node
pub record FitsFrame (v : Weighed) (c : Chain) (f : Frame) : Type 0 where
  pub rules : ChainRules v.grammar c
  pub cost : IsFrameCost v (symbols_in v c rules) f.cost
  pub codes : (n : ℕ) → f.cost ≡ costs.Least n → AreFrameCodes v c (symbols_in v c rules) f.before f.behind

-- the same of each chain that differs in the inner rule alone
abbrev pub FitsFrames : Weighed → Chain → Frame → Type 0
FitsFrames v c f = (r : ℕ) → IsChain v.grammar (with_inner c r) → FitsFrame v (with_inner c r) f

-- the code of a node with rule r above the chosen trees of its right side
abbrev pub IsCoreCode : Weighed → ℕ → Production → List ℕ → Type 0
IsCoreCode v r rule code = (f : Forest) × AreChosen v.weights v.grammar rule.right f × (code ≡ r ∷ codes_of f)

-- such a node
pub record FitsCore (v : Weighed) (r : ℕ) (core : Core) : Type 0 where
  pub rule : Production
  pub number : IsRule v.grammar r rule
  pub children : Cost
  pub each : AreTreesCost v rule.right children
  pub sum : core.cost ≡ node_cost v.weights.limit children
  pub text : (n : ℕ) → core.cost ≡ costs.Least n → IsCoreCode v r rule core.code

-- the verdict of a cost, with the code of the chosen tree where it is a size
abbrev pub verdict_by : Cost → List ℕ → ChainVerdict
verdict_by costs.Never derivation = Infeasible
verdict_by costs.Large derivation = Large
verdict_by (costs.Least n) derivation = Feasible n derivation

-- the verdict of both parts together
abbrev pub verdict_with : ℕ → Frame → Core → ChainVerdict
verdict_with limit f core = verdict_by (plus limit f.cost core.cost) (f.before ++ core.code ++ f.behind)
