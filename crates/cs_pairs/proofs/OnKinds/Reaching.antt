-- What the least ways of rims cost, the least trees cost.
use Rattle.std.proofs.Common.{◌≡◌, ℕ, suc, ◌+◌, ◌<◌, List, [], ◌∷◌, length, get_or, refl, sym, subst, arith}
use Rattle.std.proofs.lemmas.List.{get_or_default}
use Rattle.cs_grammar.specs.declared.symbol.Symbol.{Symbol}
use Rattle.cs_grammar.specs.declared.symbol.Symbol.TheVariants.{Nonterminal}
use Rattle.cs_grammar.specs.Grammar.{PlainGrammar, IsNumberOf, IsSymbolOf, IsGrammar}
use Rattle.cs_grammar.specs.Weights.{Measure, number}
use Rattle.cs_grammar.specs.Tree.{size}
use Rattle.cs_least.specs.Cost.Least.{IsCost}
use Rattle.cs_least.proofs.OnCost.Ranks.{IsCost-alike}
use Rattle.cs_least.specs.Embed.Ways.{told_cost}
use Rattle.cs_least.proofs.OnEmbed.Told.{told_ways}
use Rattle.cs_least.specs.declared.ways.step.Source.{Source}
use Rattle.cs_least.specs.declared.ways.reach.Reach.{Reach}
use Rattle.cs_least.specs.declared.ways.reach.Reach.TheVariants.{Never}
use Rattle.cs_least.specs.Ways.Ways.{Net, IsWay, way_cost, IsReach, reach_at, AreLeastWays}
use Rattle.cs_pairs.specs.declared.kinds.side.Side.{Side}
use Rattle.cs_least.specs.declared.embed.inwards.RulePlace.{RulePlace}
use Rattle.cs_pairs.specs.Kinds.Kinds.{IsTreeOfKind}
use Rattle.cs_pairs.specs.Kinds.Numbers.{symbol_number}
use Rattle.cs_pairs.specs.Kinds.Sides.{kind_on}
use Rattle.cs_pairs.specs.Kinds.Rims.{AreRims}
use Rattle.cs_pairs.proofs.OnKinds.Rimming.{way_of_tree, tree_of_way}

pub reach_exact : (w : Measure) (g : PlainGrammar) (side : Side) (grammar : IsGrammar g) (net : Net) (places : List RulePlace) (rims : AreRims w g side places net.steps) (t : ℕ) (source : Source) (begins : source.node ≡ t) (leaf : source.cost ≡ number w t) (fits : IsNumberOf g.tokens t) (x : Symbol) → IsSymbolOf g x → (r : Reach) → IsReach w.limit net (source ∷ []) (symbol_number g.tokens x) r → IsCost w.limit (IsTreeOfKind g (kind_on side t) x) (size w) (told_cost r)
reach_exact w g side grammar net places rims t source begins leaf fits x xf r is =
    let n = symbol_number g.tokens x in
    IsCost-alike w.limit (IsWay net (source ∷ []) n) (IsTreeOfKind g (kind_on side t) x) way_cost (size w) (told_cost r)
    (λ v v_is. let u = tree_of_way w g side grammar net places rims t source begins leaf fits v n v_is x xf refl in (u.tree, u.is_tree, u.cost))
    (λ u h. let v = way_of_tree w g side grammar net places rims t source begins leaf fits u x h.0 h.1 in (v.way, v.is_way, v.cost))
    (told_ways w.limit net (source ∷ []) n r is)

-- what a table says of a node, as the code reads it
pub reach_read : (table : List Reach) (m i : ℕ) (d : Reach) → m ≡ i + 1 → i < length table → reach_at table m ≡ get_or table i d
reach_read table m i d e within =
    let next : m ≡ suc i = omega (arith, e) in
    subst (λ k. reach_at table k ≡ get_or table i d) (sym next) (get_or_default table i Never d within)

-- the entry of a nonterminal in a table of least ways from a token
pub row_entry : (w : Measure) (g : PlainGrammar) (side : Side) (grammar : IsGrammar g) (net : Net) (places : List RulePlace) (rims : AreRims w g side places net.steps) (t : ℕ) (fits : IsNumberOf g.tokens t) (source : Source) → source.node ≡ t → source.cost ≡ number w t → net.nodes ≡ g.tokens + g.nonterminals → (table : List Reach) → AreLeastWays w.limit net (source ∷ []) table → (n i : ℕ) (d : Reach) → n < g.nonterminals → i ≡ g.tokens + n → IsCost w.limit (IsTreeOfKind g (kind_on side t) (Nonterminal (n + 1))) (size w) (told_cost (get_or table i d))
row_entry w g side grammar net places rims t fits source begins leaf nodes table least n i d within is_i =
    let m = g.tokens + (n + 1) in
    let at = reach_read table m i d (omega (arith, is_i)) (omega (arith, is_i, within, nodes, least.many)) in
    reach_exact w g side grammar net places rims t source begins leaf fits (Nonterminal (n + 1)) (omega arith, omega (arith, within)) (get_or table i d)
    (subst (λ r. IsReach w.limit net (source ∷ []) m r) at (least.exact m))
