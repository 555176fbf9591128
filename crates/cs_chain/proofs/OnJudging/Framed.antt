-- The parts of a chain's verdict, and of its chosen tree: together they are these.
use Rattle.std.proofs.Common.{◌≡◌, ℕ, ◌-◌, List, ◌∷◌, ◌++◌, take, drop, refl, sym, ap, ◌∙◌, subst, arith, append_assoc}
use Rattle.cs_grammar.specs.declared.symbol.Symbol.{Symbol}
use Rattle.cs_grammar.specs.declared.symbol.Symbol.TheVariants.{Nonterminal}
use Rattle.cs_grammar.specs.Grammar.{Production, PlainGrammar}
use Rattle.cs_grammar.specs.Weights.{Weighed}
use Rattle.cs_grammar.specs.Tree.{Node, AreTrees, codes_of, size, sizes}
use Rattle.cs_grammar.specs.Context.{Under, code_before, code_after, context_size}
use Rattle.cs_grammar.proofs.Holes.{code-plug}
use Rattle.cs_grammar.proofs.OneTree.{one_rule}
use Rattle.cs_least.specs.declared.cost.cost.Cost.{Cost}
use Rattle.cs_least.specs.declared.cost.cost.Cost.TheVariants.{Never, Large, Least}
use Rattle.cs_least.specs.Cost.Least.{IsCost}
use Rattle.cs_least.specs.Cost.Rank.{cost_of, plus}
use Rattle.cs_least.specs.Cost.Chosen.{AreChosen}
use Rattle.cs_least.specs.Cost.Trees.{HaveSmall}
use Rattle.cs_least.specs.Embed.Around.{IsContextOf}
use Rattle.cs_least.proofs.OnEmbed.Steps.{one_split}
use Rattle.cs_chain.specs.declared.chains.chain.Chain.{Chain}
use Rattle.cs_chain.specs.declared.judging.frame.Core.{Core}
use Rattle.cs_chain.specs.declared.judging.frame.Frame.{Frame}
use Rattle.cs_chain.specs.Chains.Chain.{IsChain, with_inner}
use Rattle.cs_chain.specs.Judging.Cuts.{node_cost}
use Rattle.cs_chain.specs.Judging.Frame.{AreFrameCodes, FitsCore, FitsFrame, FitsFrames, FrameSymbols, IsCoreCode, IsFrameCost, IsSmallFrame, frame_sum, symbols_in, verdict_by, verdict_with}
use Rattle.cs_chain.specs.Judging.Meets.{IsMet}
use Rattle.cs_chain.specs.Judging.Verdict.{ChainRules, ChainTrees, IsChosenOf, IsCodeIn, IsSplit, IsVerdictIn, whole_of}
use Rattle.cs_chain.proofs.OnJudging.Cut.{placed_in}
use Rattle.cs_chain.proofs.OnJudging.Placed.{chain_cost}

-- the place of the inner node has one left side
pub same_left : (g : PlainGrammar) (c : Chain) (given : ChainRules g c) (r : ℕ) → (h : IsChain g (with_inner c r)) → given.inner.left ≡ h.1.inner.left
same_left g c given r h =
    let o = h.1 in
    let here = placed_in g c.middle c.spot r given.middle o.inner o given.is_middle.number o.is_inner in
    let split = one_split (take (c.spot - 1) given.middle.right) given.low_before (Nonterminal o.inner.left) (Nonterminal given.inner.left) (drop c.spot given.middle.right) given.low_behind
    (sym here.0 ∙ given.is_middle.right_side) (omega (arith, here.1, given.is_middle.place)) in
    let s = split.here in cc

-- the rules of a chain that differs in the inner rule alone
abbrev pub again : (g : PlainGrammar) (c : Chain) (given : ChainRules g c) (r : ℕ) → IsChain g (with_inner c r) → ChainRules g (with_inner c r)
again g c given r h = record {
  outer = given.outer;
  middle = given.middle;
  inner = h.1.inner;
  before = given.before;
  behind = given.behind;
  low_before = given.low_before;
  low_behind = given.low_behind;
  is_outer = given.is_outer;
  is_middle = subst (λ n. IsSplit g c.middle c.spot n given.middle given.low_before given.low_behind) (same_left g c given r h) given.is_middle;
  is_inner = h.1.is_inner;
}

-- its codes are the same
pub codes_again : (v : Weighed) (c : Chain) (r : ℕ) (xs : FrameSymbols) (before behind : List ℕ) → AreFrameCodes v c xs before behind → AreFrameCodes v (with_inner c r) xs before behind
codes_again v c r xs before behind are = record {
  context = are.context;
  left = are.left;
  right = are.right;
  low_left = are.low_left;
  low_right = are.low_right;
  around = are.around;
  lefts = are.lefts;
  rights = are.rights;
  low_lefts = are.low_lefts;
  low_rights = are.low_rights;
  text_before = are.text_before;
  text_behind = are.text_behind;
}

-- a chain with its own inner rule is itself
own : (c : Chain) → with_inner c c.inner ≡ c
own c = refl

-- a sum that is a size is of sizes
pub record AreSizes (a b : Cost) : Type 0 where
  pub first : ℕ
  pub second : ℕ
  pub is_first : a ≡ Least first
  pub is_second : b ≡ Least second

pub plus_least : (limit : ℕ) (a b : Cost) (n : ℕ) → plus limit a b ≡ Least n → AreSizes a b
plus_least limit Never b n e = absurd cc
plus_least limit Large Never n e = absurd cc
plus_least limit Large Large n e = absurd cc
plus_least limit Large (Least k) n e = absurd cc
plus_least limit (Least j) Never n e = absurd cc
plus_least limit (Least j) Large n e = absurd cc
plus_least limit (Least j) (Least k) n e = record { first = j; second = k; is_first = refl; is_second = refl }

module _ (v : Weighed) where
  have_small : (xs : List Symbol) (cost : Cost) (n : ℕ) → IsCost v.weights.limit (AreTrees v.grammar xs) (sizes v.weights) cost → cost ≡ Least n → HaveSmall v.weights v.grammar xs
  have_small xs cost n is e =
      let h = subst (IsCost v.weights.limit (AreTrees v.grammar xs) (sizes v.weights)) e is in
      (h.1.reached.0, h.1.reached.1, omega (arith, h.0, h.1.reached.2))

  -- the children of a node whose cost is a size
  pub node_small : (xs : List Symbol) (children : Cost) (n : ℕ) → IsCost v.weights.limit (AreTrees v.grammar xs) (sizes v.weights) children → node_cost v.weights.limit children ≡ Least n → HaveSmall v.weights v.grammar xs
  node_small xs children n is e =
      let node = plus_least v.weights.limit (cost_of v.weights.limit 1) children n e in have_small xs children node.second is node.is_second

  -- the parts of what costs a size
  pub frame_small : (xs : FrameSymbols) (cost : Cost) (n : ℕ) → IsFrameCost v xs cost → cost ≡ Least n → IsSmallFrame v xs
  frame_small xs cost n f e =
      let limit = v.weights.limit in
      let one = cost_of limit 1 in
      let all = plus_least limit (plus limit f.context (node_cost limit (plus limit f.left f.right))) (node_cost limit (plus limit f.low_left f.low_right)) n (sym f.sum ∙ e) in
      let high = plus_least limit f.context (node_cost limit (plus limit f.left f.right)) all.first all.is_first in
      let highs = plus_least limit one (plus limit f.left f.right) high.second high.is_second in
      let lows = plus_least limit one (plus limit f.low_left f.low_right) all.second all.is_second in
      let beside = plus_least limit f.left f.right highs.second highs.is_second in
      let low_beside = plus_least limit f.low_left f.low_right lows.second lows.is_second in
      record {
        around = (high.first, subst (IsCost limit (IsContextOf v.grammar xs.left) (context_size v.weights)) high.is_first f.around);
        lefts = have_small xs.before f.left beside.first f.lefts beside.is_first;
        rights = have_small xs.behind f.right beside.second f.rights beside.is_second;
        low_lefts = have_small xs.low_before f.low_left low_beside.first f.low_lefts low_beside.is_first;
        low_rights = have_small xs.low_behind f.low_right low_beside.second f.low_rights low_beside.is_second;
      }

  module _ (c : Chain) (f : Frame) (core : Core) (h : FitsFrame v c f) (k : FitsCore v c.inner core) where
    same_inner : k.rule ≡ h.rules.inner
    same_inner = one_rule v.grammar c.inner c.inner k.rule h.rules.inner refl k.number h.rules.is_inner

    -- what both parts cost is what the chain costs
    whole_cost : IsCost v.weights.limit (IsMet v.grammar c) (size v.weights) (plus v.weights.limit f.cost core.cost)
    whole_cost =
        let limit = v.weights.limit in
        let p = h.cost in
        let children = subst (λ (o : Production). IsCost limit (AreTrees v.grammar o.right) (sizes v.weights) k.children) same_inner k.each in
        let sum : plus limit f.cost core.cost ≡ plus limit (frame_sum limit p.context p.left p.right p.low_left p.low_right) (node_cost limit k.children) =
        ap (λ (a : Cost). plus limit a core.cost) p.sum ∙ ap (λ (a : Cost). plus limit (frame_sum limit p.context p.left p.right p.low_left p.low_right) a) k.sum in
        subst (IsCost limit (IsMet v.grammar c) (size v.weights)) (sym sum)
        (chain_cost v.weights v.grammar c h.rules p.context p.left p.right p.low_left p.low_right k.children p.around p.lefts p.rights p.low_lefts p.low_rights children)

    -- the codes of both parts are that of the chosen tree
    whole_code : (before behind code : List ℕ) → AreFrameCodes v c (symbols_in v c h.rules) before behind → IsCoreCode v c.inner k.rule code → IsCodeIn v c (before ++ code ++ behind)
    whole_code before behind code are is =
        let d = are.context in
        let l = are.left in
        let s = are.right in
        let m = are.low_left in
        let n = are.low_right in
        let ch = is.0 in
        let ts : ChainTrees = record { context = d; left = l; right = s; low_left = m; low_right = n; children = ch } in
        let chosen : IsChosenOf v.weights v.grammar c (whole_of c ts) = record {
          rules = h.rules;
          trees = ts;
          chosen = record {
            around = are.around;
            left = are.lefts;
            right = are.rights;
            low_left = are.low_lefts;
            low_right = are.low_rights;
            children = subst (λ (o : Production). AreChosen v.weights v.grammar o.right ch) same_inner is.1;
          };
          whole = refl;
        } in
        let whole = code-plug (Under (Under d c.outer l s) c.middle m n) (Node c.inner ch) in
        let front = code_before d ++ c.outer ∷ codes_of l in
        let all : before ++ code ++ behind ≡ (front ++ c.middle ∷ codes_of m) ++ (c.inner ∷ codes_of ch) ++ (codes_of n ++ (codes_of s ++ code_after d)) =
        ap (λ (x : List ℕ). x ++ code ++ behind) are.text_before
        ∙ ap (λ (x : List ℕ). (front ++ c.middle ∷ codes_of m) ++ x ++ behind) is.2
        ∙ ap (λ (x : List ℕ). (front ++ c.middle ∷ codes_of m) ++ (c.inner ∷ codes_of ch) ++ x) (are.text_behind ∙ append_assoc (codes_of n) (codes_of s) (code_after d)) in
        (whole_of c ts, chosen, all ∙ sym whole)

    by_cost : (total : Cost) → plus v.weights.limit f.cost core.cost ≡ total → IsCost v.weights.limit (IsMet v.grammar c) (size v.weights) total → IsVerdictIn v c (verdict_by total (f.before ++ core.code ++ f.behind))
    by_cost Never e is = is
    by_cost Large e is = is
    by_cost (Least n) e is =
        let parts = plus_least v.weights.limit f.cost core.cost n e in
        (is.0, is.1, whole_code f.before f.behind core.code (h.codes parts.first parts.is_first) (k.text parts.second parts.is_second))

    -- both parts tell the verdict
    pub framed_verdict : IsVerdictIn v c (verdict_with v.weights.limit f core)
    framed_verdict = by_cost (plus v.weights.limit f.cost core.cost) refl whole_cost

  -- of a chain that a frame was made for
  pub own_verdict : (c : Chain) (f : Frame) (core : Core) → FitsFrames v c f → IsChain v.grammar c → FitsCore v c.inner core → IsVerdictIn v c (verdict_with v.weights.limit f core)
  own_verdict c f core frames is fits =
      subst (λ (d : Chain). IsVerdictIn v d (verdict_with v.weights.limit f core)) (own c) (framed_verdict (with_inner c c.inner) f core (frames c.inner is) fits)
