-- The code of the chosen tree of a pair.
use Rattle.std.proofs.Common.{◌≡◌, ℕ, ◌≤◌, ap, subst, arith}
use Rattle.cs_grammar.specs.declared.symbol.Symbol.{Symbol}
use Rattle.cs_grammar.specs.declared.symbol.Symbol.TheVariants.{Nonterminal}
use Rattle.cs_grammar.specs.declared.symbol.Mark.{Mark}
use Rattle.cs_grammar.specs.declared.symbol.Mark.TheVariants.{Begin, Token, End}
use Rattle.cs_grammar.specs.Grammar.{PlainGrammar}
use Rattle.cs_grammar.specs.Weights.{Measure}
use Rattle.cs_grammar.specs.Tree.{Tree, size, yield}
use Rattle.cs_grammar.specs.Context.{Context}
use Rattle.cs_least.specs.declared.cost.cost.Cost.{Cost}
use Rattle.cs_least.specs.declared.cost.cost.Cost.TheVariants.{Least}
use Rattle.cs_least.specs.Cost.Least.{IsCost}
use Rattle.cs_least.specs.Cost.Rank.{rank}
use Rattle.cs_least.proofs.OnCost.Ranks.{one_cost}
use Rattle.cs_pairs.specs.declared.kinds.kind.TreeKind.TheVariants.{Empty, Begins, Ends}
use Rattle.cs_pairs.specs.Kinds.Kinds.{IsOfKind}
use Rattle.cs_pairs.specs.Kinds.Parts.{HasSmallOfKind}
use Rattle.cs_pairs.specs.Pairs.Beside.{IsSeam, seam_size}
use Rattle.cs_pairs.specs.Pairs.Pairs.{HasPair}
use Rattle.cs_pairs.specs.Pairs.SeamPlace.{IsMeetingAt}
use Rattle.cs_pairs.specs.Pairs.ChosenPair.{HasLeastPair, IsChosenMeeting}
use Rattle.cs_pairs.proofs.OnPairs.Framed.{first_token, no_token, last_token, tokens_in}
use Rattle.cs_pairs.proofs.OnPairs.Seams.{cut}
use Rattle.cs_pairs.proofs.OnPairs.ChosenSeams.{seam_exists}
use Rattle.cs_pairs.proofs.OnPairs.ChosenPairs.{pair_has, pair_least}
use Rattle.cs_pairs.proofs.OnPairs.Laying.{chosen_meeting}

module _ (w : Measure) (g : PlainGrammar) where
  -- the start symbol has a small tree of the kind
  pub first_small : (left right : Mark) (b : ℕ) → left ≡ Begin → right ≡ Token b → HasLeastPair w g left right → HasSmallOfKind w g (Begins b) (Nonterminal g.start)
  first_small Begin (Token c) b is_left is_right h =
      let same : c ≡ b = cc in
      let t = h.1.1.reached in
      (t.0, (t.1.0, subst (λ n. IsOfKind (Begins n) (yield t.0)) same (first_token c (yield t.0) t.1.1)), omega (arith, t.2, h.1.0))
  first_small Begin Begin b is_left is_right h = absurd cc
  first_small Begin End b is_left is_right h = absurd cc
  first_small (Token a) right b is_left is_right h = absurd cc
  first_small End right b is_left is_right h = absurd cc

  pub last_small : (left right : Mark) (a : ℕ) → left ≡ Token a → right ≡ End → HasLeastPair w g left right → HasSmallOfKind w g (Ends a) (Nonterminal g.start)
  last_small (Token c) End a is_left is_right h =
      let same : c ≡ a = cc in
      let t = h.1.1.reached in
      (t.0, (t.1.0, subst (λ n. IsOfKind (Ends n) (yield t.0)) same (last_token c (yield t.0) t.1.1)), omega (arith, t.2, h.1.0))
  last_small (Token c) Begin a is_left is_right h = absurd cc
  last_small (Token c) (Token d) a is_left is_right h = absurd cc
  last_small Begin right a is_left is_right h = absurd cc
  last_small End right a is_left is_right h = absurd cc

  pub none_small : (left right : Mark) → left ≡ Begin → right ≡ End → HasLeastPair w g left right → HasSmallOfKind w g Empty (Nonterminal g.start)
  none_small Begin End is_left is_right h =
      let t = h.1.1.reached in
      (t.0, (t.1.0, no_token (yield t.0) t.1.1), omega (arith, t.2, h.1.0))
  none_small Begin Begin is_left is_right h = absurd cc
  none_small Begin (Token d) is_left is_right h = absurd cc
  none_small (Token c) right is_left is_right h = absurd cc
  none_small End right is_left is_right h = absurd cc

  module _ (a b : ℕ) (cost : Cost) (is_cost : IsCost w.limit (HasPair g (Token a) (Token b)) (size w) cost) (least : HasLeastPair w g (Token a) (Token b)) where
    same_cost : cost ≡ Least least.0
    same_cost = one_cost w.limit (HasPair g (Token a) (Token b)) (size w) cost (Least least.0) is_cost least.1

    pub tokens_small : rank w.limit cost ≤ w.limit
    tokens_small = omega (arith, ap (rank w.limit) same_cost, least.1.0)

    -- the least tree as a seam
    pub tokens_seam : (x : Symbol) × (s : Context × Tree) × IsSeam g a b x s × (seam_size w s ≤ rank w.limit cost)
    tokens_seam =
        let t = least.1.1.reached in
        let parts = cut w g a b t.0 t.1.0 (tokens_in a b (yield t.0) t.1.1) in
        (parts.symbol, parts.seam, parts.is_seam, omega (arith, parts.measure, t.2, ap (rank w.limit) same_cost))

    pub tokens_meeting : (r k : ℕ) → IsMeetingAt w g a b (rank w.limit cost) r k → IsChosenMeeting w g a b r k
    tokens_meeting r k m =
        let s = tokens_seam in
        let t = seam_exists w g a b s.0 s.1 s.2 in
        let u = least.1.1.reached in
        let below = pair_least w g (Token a) (Token b) u.0 t.0 u.1 t.1 in
        let above = least.1.1.least t.0 (pair_has w g (Token a) (Token b) t.0 t.1) in
        let measured : size w t.0 ≡ rank w.limit cost = omega (arith, below, above, u.2, ap (rank w.limit) same_cost) in
        chosen_meeting w g a b (rank w.limit cost) r k m t.0 t.1 measured tokens_small
