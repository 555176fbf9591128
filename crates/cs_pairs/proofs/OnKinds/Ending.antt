-- Ways inwards, from a symbol to the last token of a yield: what a tree that ends with the token costs, such a way costs with the
-- token's leaf.
use Rattle.std.proofs.Common.{◌≡◌, ℕ, ◌+◌, ◌≤◌, List, Some, refl, sym, subst, arith}
use Rattle.std.specs.Prelude.{slice_get}
use Rattle.cs_grammar.specs.declared.symbol.Symbol.{Symbol}
use Rattle.cs_grammar.specs.Grammar.{IsNumberOf, IsSymbolOf, IsGrammar}
use Rattle.cs_grammar.specs.Weights.{Weighed, number}
use Rattle.cs_grammar.specs.Tree.{Tree, size}
use Rattle.cs_least.specs.Cost.Rank.{capped}
use Rattle.cs_least.specs.declared.ways.step.Source.{Source}
use Rattle.cs_least.specs.Ways.Ways.{Net, Way, IsWay, way_cost, way_origin}
use Rattle.cs_least.proofs.OnWays.Turning.{way_back, way_there}
use Rattle.cs_pairs.specs.declared.kinds.kind.TreeKind.TheVariants.{Ends}
use Rattle.cs_pairs.specs.declared.kinds.side.Side.TheVariants.{Last}
use Rattle.cs_pairs.specs.Kinds.Kinds.{IsTreeOfKind}
use Rattle.cs_pairs.specs.Kinds.Numbers.{symbol_number}
use Rattle.cs_pairs.specs.Kinds.Nets.{AreStepsToEnds}
use Rattle.cs_pairs.proofs.OnKinds.Rimming.{way_of_tree, tree_of_way}

module _ (v : Weighed) (grammar : IsGrammar v.grammar) (net : Net) (are : AreStepsToEnds v net) (sources : List Source) (t : ℕ) (fits : IsNumberOf v.grammar.tokens t) where
  abbrev leaf : Source
  leaf = record { node = t; cost = number v.weights t }

  -- a way goes on to the token
  pub record WayOn (c i : ℕ) : Type 0 where
    pub way : Way
    pub is_way : IsWay net sources t way
    pub cost : capped v.weights.limit (way_cost way + number v.weights t) ≤ capped v.weights.limit c
    pub origin : way_origin way ≡ i

  pub way_on : (u : Tree) (x : Symbol) → IsTreeOfKind v.grammar (Ends t) x u → (begin : Way) → IsWay net sources (symbol_number v.grammar.tokens x) begin → WayOn (way_cost begin + size v.weights u) (way_origin begin)
  way_on u x is begin hb =
      let w = way_of_tree v.weights v.grammar Last grammar are.ends are.places are.rims t leaf refl refl fits u x is.0 is.1 in
      let back = way_back are.ends leaf w.way sources (symbol_number v.grammar.tokens x) w.is_way begin (subst (λ n. IsWay n sources (symbol_number v.grammar.tokens x) begin) are.is_turned hb) in
      record {
        way = back.way;
        is_way = subst (λ n. IsWay n sources t back.way) (sym are.is_turned) back.is_way;
        cost = omega (arith, back.cost, w.cost);
        origin = back.origin;
      }

  -- and a way to the token begins at a source with such a tree
  pub record Ended (i c : ℕ) : Type 0 where
    pub begin : Source
    pub at : slice_get sources i ≡ Some begin
    pub tree : (x : Symbol) → IsSymbolOf v.grammar x → symbol_number v.grammar.tokens x ≡ begin.node → (u : Tree) × IsTreeOfKind v.grammar (Ends t) x u × (capped v.weights.limit (begin.cost + size v.weights u) ≤ capped v.weights.limit c)

  pub ended : (z : Way) → IsWay net sources t z → Ended (way_origin z) (way_cost z + number v.weights t)
  ended z is =
      let w = way_there are.ends leaf z sources (subst (λ n. IsWay n sources t z) are.is_turned is) in
      record {
        begin = w.begin;
        at = w.at;
        tree = λ x xf e.
            let u = tree_of_way v.weights v.grammar Last grammar are.ends are.places are.rims t leaf refl refl fits w.way w.begin.node w.is_way x xf e in
            (u.tree, u.is_tree, omega (arith, u.cost, w.cost));
      }
