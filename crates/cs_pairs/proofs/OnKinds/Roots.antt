-- The rule at the root of the chosen tree of a kind and a nonterminal.
use Rattle.std.proofs.Common.{◌≡◌, ℕ, ◌+◌, ◌-◌, ◌<◌, ◌≤◌, List, Some, length, refl, sym, ap, ◌∙◌, subst, ⊎_elim, arith, below_more}
use Rattle.std.specs.Prelude.{slice_get}
use Rattle.std.proofs.lemmas.Bool.{cases_eq, cases_lt}
use Rattle.std.proofs.lemmas.Option.{slice_get_within}
use Rattle.cs_grammar.specs.declared.symbol.Symbol.{Symbol}
use Rattle.cs_grammar.specs.declared.symbol.Symbol.TheVariants.{Nonterminal}
use Rattle.cs_grammar.specs.Grammar.{Production, PlainGrammar, IsRule}
use Rattle.cs_grammar.specs.Weights.{Measure, Weighed}
use Rattle.cs_grammar.specs.Tree.{Tree, Leaf, Node, Forest, size}
use Rattle.cs_grammar.proofs.OneTree.{one_rule}
use Rattle.cs_least.specs.declared.cost.cost.Cost.{Cost}
use Rattle.cs_least.specs.Cost.Least.{IsCost}
use Rattle.cs_least.specs.Cost.Rank.{rank}
use Rattle.cs_least.proofs.OnCost.Ranks.{cost_low, cost_least}
use Rattle.cs_least.proofs.OnCost.Rules.{rule_at}
use Rattle.cs_pairs.specs.declared.kinds.kind.TreeKind.{TreeKind}
use Rattle.cs_pairs.specs.Kinds.Kinds.{IsTreeOfKind, AreTreesOfKind}
use Rattle.cs_pairs.specs.Kinds.ChosenKind.{IsChosenOfKind}
use Rattle.cs_pairs.specs.Kinds.Sweep.{node_size}
use Rattle.cs_pairs.specs.Kinds.Parts.{IsRootOf}
use Rattle.cs_pairs.specs.Kinds.Lefts.{AreRulesWith}
use Rattle.cs_pairs.specs.Kinds.Clauses.{IsPlaceIn}
use Rattle.cs_pairs.specs.Kinds.Beside.{IsRootIn}
use Rattle.cs_pairs.proofs.OnKinds.ChosenKinds.{IsTree-of_kind, AreTrees-of_kind}

-- nodes with a rule of the left side at an index below i have more than n nodes
pub record NoRoot (w : Measure) (g : PlainGrammar) (k : TreeKind) (left n i : ℕ) : Type 0 where
  pub larger : (j : ℕ) → (o : Production) → j < i → slice_get g.rules j ≡ Some o → o.left ≡ left → (f : Forest) → AreTreesOfKind g k o.right f → n < node_size w f

-- nodes with the rules before an index of the list of those with the left side have more than n nodes
pub record NoRootIn (w : Measure) (g : PlainGrammar) (k : TreeKind) (numbers : List ℕ) (n i : ℕ) : Type 0 where
  pub larger : (j r : ℕ) → (o : Production) → j < i → slice_get numbers j ≡ Some r → IsRule g r o → (f : Forest) → AreTreesOfKind g k o.right f → n < node_size w f

module _ (w : Measure) (g : PlainGrammar) (k : TreeKind) (left : ℕ) (numbers : List ℕ) (are : AreRulesWith g left numbers) (n : ℕ) where
  -- all rules with the left side that are below a rule of the list stand before it
  pub no_root_below : (i r : ℕ) → slice_get numbers i ≡ Some r → NoRootIn w g k numbers n i → NoRoot w g k left n (r - 1)
  no_root_below i r at so_far = record {
    larger = λ j o within there of_left f is.
        let rule = rule_at g j o there in
        let last = slice_get_within g.rules j o there in
        let v = are.every (j + 1) o rule of_left (omega (arith, last)) in
        let before : v.0 < i = ⊎_elim (λ lower. lower) (λ not_lower. ⊎_elim
        (λ same. let e : Some r ≡ Some (j + 1) = sym at ∙ ap (slice_get numbers) (sym same) ∙ v.1 in let is_r : r ≡ j + 1 = cc in absurd (omega (arith, is_r, within)))
        (λ other. absurd (omega (arith, are.ordered i v.0 r (j + 1) (omega (arith, not_lower, other)) at v.1, within)))
        (cases_eq v.0 i)) (cases_lt v.0 i) in
        so_far.larger v.0 (j + 1) o before v.1 rule f is;
  }

  pub no_root_at_all : (i : ℕ) → length numbers ≤ i → NoRootIn w g k numbers n i → NoRoot w g k left n (length g.rules)
  no_root_at_all i all so_far = record {
    larger = λ j o within there of_left f is.
        let rule = rule_at g j o there in
        let v = are.every (j + 1) o rule of_left (omega (arith, within)) in
        so_far.larger v.0 (j + 1) o (omega (arith, all, slice_get_within numbers v.0 (j + 1) v.1)) v.1 rule f is;
  }

pub no_root_none : (w : Measure) (g : PlainGrammar) (k : TreeKind) (numbers : List ℕ) (n : ℕ) → NoRootIn w g k numbers n 0
no_root_none w g k numbers n = record { larger = λ j r o within. absurd (omega (arith, within)) }

pub no_root_more : (w : Measure) (g : PlainGrammar) (k : TreeKind) (numbers : List ℕ) (n i r : ℕ) (q : Production) → slice_get numbers i ≡ Some r → IsRule g r q → ((f : Forest) → AreTreesOfKind g k q.right f → n < node_size w f) → NoRootIn w g k numbers n i → NoRootIn w g k numbers n (i + 1)
no_root_more w g k numbers n i r q at rule dear so_far = record {
  larger = λ j s o within.
      below_more (λ m. (t : ℕ) (u : Production) → slice_get numbers m ≡ Some t → IsRule g t u → (f : Forest) → AreTreesOfKind g k u.right f → n < node_size w f) i
      (λ m lt t u. so_far.larger m t u lt)
      (λ t u there is_rule f is.
      let e : Some r ≡ Some t = sym at ∙ there in
      let is_r : t ≡ r = cc in
      let same = one_rule g t r u q is_r is_rule rule in
      dear f (subst (λ (z : Production). AreTreesOfKind g k z.right f) same is))
      j within s o;
}

module _ (w : Measure) (g : PlainGrammar) (k : TreeKind) (left i : ℕ) (q : Production) (at : slice_get g.rules i ≡ Some q) (cost : Cost) (so_far : NoRoot w g k left (rank w.limit cost) i) where
  pub root_here : (node : Cost) → q.left ≡ left → IsCost w.limit (IsTreeOfKind g k (Nonterminal left)) (size w) cost → rank w.limit cost ≤ w.limit → IsCost w.limit (AreTreesOfKind g k q.right) (node_size w) node → rank w.limit node ≤ rank w.limit cost → IsRootOf w g k left (i + 1)
  root_here node of_left told small is_node cheap = record {
    rule = q;
    number = rule_at g i q at;
    of_left = of_left;
    root = λ r f h. root r f h;
  }
    where
      root : (r : ℕ) (f : Forest) → IsChosenOfKind w g k (Nonterminal left) (Node r f) → r ≡ i + 1
      root r f h =
          let least = cost_least w.limit (AreTreesOfKind g k q.right) (node_size w) node is_node (omega (arith, cheap, small)) in
          let here : IsTreeOfKind g k (Nonterminal left) (Node (i + 1) least.0) = ((q, rule_at g i q at, ap Nonterminal (sym of_left), least.1.0), least.1.1) in
          let is_tree = IsTree-of_kind w g (Node r f) k (Nonterminal left) h in
          let low = cost_low w.limit (IsTreeOfKind g k (Nonterminal left)) (size w) cost told (Node r f) is_tree in
          let above = h.3.least (Node (i + 1) least.0) here in
          let even : size w (Node (i + 1) least.0) ≡ size w (Node r f) = omega (arith, low, above, least.2, cheap, small) in
          let lower = h.3.lowest (i + 1) least.0 here even in
          ⊎_elim
          (λ before.
          let of_left' : h.0.left ≡ left = (let e = h.2 in cc) in
          let dear = so_far.larger (r - 1) h.0 (omega (arith, before, h.1.above_zero)) h.1.at of_left' f (AreTrees-of_kind w g f k h.0.right h.4) in
          absurd (omega (arith, dear, even, least.2, cheap)))
          (λ not_before. omega (arith, lower, not_before))
          (cases_lt r (i + 1))

-- some rule is at the root of a least tree
pub some_root : (w : Measure) (g : PlainGrammar) (k : TreeKind) (left i : ℕ) (cost : Cost) → length g.rules ≤ i → NoRoot w g k left (rank w.limit cost) i → IsCost w.limit (IsTreeOfKind g k (Nonterminal left)) (size w) cost → rank w.limit cost ≤ w.limit → ⊥
some_root w g k left i cost all so_far told small =
    let least = cost_least w.limit (IsTreeOfKind g k (Nonterminal left)) (size w) cost told small in
    none least.0 least.1 least.2
  where
    none : (t : Tree) → IsTreeOfKind g k (Nonterminal left) t → size w t ≡ rank w.limit cost → ⊥
    none (Leaf s) h e = let d = h.0 in absurd cc
    none (Node r f) h e =
        let of_left : h.0.0.left ≡ left = (let d = h.0.2 in cc) in
        let within = slice_get_within g.rules (r - 1) h.0.0 h.0.1.at in
        omega (arith, so_far.larger (r - 1) h.0.0 (omega (arith, within, all)) h.0.1.at of_left f (h.0.3, h.1), e)

-- in the names of the code
pub root_number : (w : Measure) (g : PlainGrammar) (k : TreeKind) (left r : ℕ) → 0 < r → IsRootOf w g k left (r - 1 + 1) → IsRootOf w g k left r
root_number w g k left r above root = let e : r - 1 + 1 ≡ r = omega (arith, above) in subst (IsRootOf w g k left) e root

-- the place in the right side of the rule at hand
pub root_place : (v : Weighed) (k : TreeKind) (left r place : ℕ) (q : Production) (right : List Symbol) → IsRule v.grammar r q → right ≡ q.right → IsPlaceIn v k right place → IsRootOf v.weights v.grammar k left r → IsRootIn v k left (record { number = r; place = place })
root_place v k left r place q right rule is_right placed root =
    let same = one_rule v.grammar r r q root.rule refl rule root.number in
    record {
      is_root = root;
      is_place = subst (λ (xs : List Symbol). IsPlaceIn v k xs place) (is_right ∙ ap (λ (o : Production). o.right) same) placed;
    }
