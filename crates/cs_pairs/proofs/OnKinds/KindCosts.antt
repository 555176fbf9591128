-- What the rows of all kinds say is what the least trees cost.
use Rattle.std.proofs.Common.{◌≡◌, ℕ, ◌+◌, ◌-◌, ◌≤◌, List, [], ◌∷◌, ◌++◌, get_or, ap, sym, ◌∙◌, subst, arith}
use Rattle.cs_grammar.specs.declared.symbol.Symbol.{Symbol}
use Rattle.cs_grammar.specs.declared.symbol.Symbol.TheVariants.{Token, Nonterminal}
use Rattle.cs_grammar.specs.Grammar.{PlainGrammar, IsNumberOf, IsSymbol, IsGrammar}
use Rattle.cs_grammar.specs.Weights.{Measure, Weighed}
use Rattle.cs_grammar.specs.Tree.{Tree, Leaf, Node, IsTree, AreTrees, size, sizes}
use Rattle.cs_least.specs.declared.cost.cost.Cost.{Cost}
use Rattle.cs_least.specs.Cost.Least.{IsCost}
use Rattle.cs_least.specs.Cost.Rank.{capped, rank, entry}
use Rattle.cs_least.proofs.OnCost.Ranks.{IsCost-from, IsCost-same, cost_low}
use Rattle.cs_least.proofs.OnCost.Tables.{exact_entry}
use Rattle.cs_least.proofs.OnCost.Rules.{well_formed_at}
use Rattle.cs_pairs.specs.declared.kinds.kind.TreeKind.{TreeKind}
use Rattle.cs_pairs.specs.declared.kinds.kind.TreeKind.TheVariants.{Any, Empty, Begins, Ends}
use Rattle.cs_pairs.specs.Kinds.Kinds.{IsOfKind, IsTreeOfKind, AreTreesOfKind, IsKind}
use Rattle.cs_pairs.specs.Kinds.ListCost.{leaf_cost}
use Rattle.cs_pairs.specs.Kinds.Filled.{IsFilled}
use Rattle.cs_pairs.specs.Kinds.Tables.{Tables, row_of, AreCosts, AreCostRows, AreKindTables}
use Rattle.cs_pairs.proofs.OnKinds.ListCosts.{leaf_low, leaf_reached, IsCapped-leaf}
use Rattle.cs_pairs.proofs.OnKinds.RowLists.{rows_more, length_more, row_read}
use Rattle.cs_pairs.proofs.OnKinds.Filling.{entry_read, Holds-filled}

module _ (w : Measure) (g : PlainGrammar) (t : Tables) (exact : AreKindTables w g t) where
  -- each row says what the least trees of its kind cost
  pub row_costs : (k : TreeKind) → IsKind g.tokens k → AreCosts w g k (row_of t k)
  row_costs Any fits = exact.any_costs
  row_costs Empty fits = exact.empty_costs
  row_costs (Begins b) fits = exact.begins_costs.each b fits
  row_costs (Ends a) fits = exact.ends_costs.each a fits

-- a leaf costs what is said of it
pub leaf_exact : (w : Measure) (g : PlainGrammar) (k : TreeKind) (s : ℕ) → IsCost w.limit (IsTreeOfKind g k (Token s)) (size w) (leaf_cost w k s)
leaf_exact w g k s = IsCost-from w.limit (IsTreeOfKind g k (Token s)) (size w) (leaf_cost w k s) (IsCapped-leaf w k s) (leaf_reached w g k s) low
  where
    low : (u : Tree) → IsTreeOfKind g k (Token s) u → rank w.limit (leaf_cost w k s) ≤ capped w.limit (size w u)
    low (Leaf s') h = let same : s ≡ s' = (let e = h.0 in cc) in omega (arith, leaf_low w k s (subst (λ m. IsOfKind k (m ∷ [])) (sym same) h.1), ap (λ m. size w (Leaf m)) same)
    low (Node r f) h = let e = h.0.2 in absurd cc

-- a nonterminal with a tree is one of the grammar
number_of_tree : (w : Measure) (g : PlainGrammar) (n : ℕ) (t : Tree) → IsGrammar g → IsTree g (Nonterminal n) t → IsNumberOf g.nonterminals n
number_of_tree w g n (Leaf s) grammar h = absurd cc
number_of_tree w g n (Node r f) grammar h =
    let same : n ≡ h.0.left = (let e = h.2 in cc) in
    subst (IsNumberOf g.nonterminals) (sym same) (well_formed_at g (r - 1) h.0 grammar h.1.at).left

-- the row of a kind, filled from what each nonterminal's least tree costs
pub costs_filled : (w : Measure) (g : PlainGrammar) (k : TreeKind) (row : List Cost) → IsGrammar g → IsFilled w.limit (λ n. IsTreeOfKind g k (Nonterminal n)) (size w) g.nonterminals row → AreCosts w g k row
costs_filled w g k row grammar filled = record {
  many = filled.many;
  exact = λ n. exact_entry w.limit (λ m. IsTreeOfKind g k (Nonterminal m)) (size w) row (Holds-filled w.limit (λ m. IsTreeOfKind g k (Nonterminal m)) (size w) g.nonterminals row filled) (record {
    low = λ m u h. cost_low w.limit (IsTreeOfKind g k (Nonterminal m)) (size w) (entry row m) (filled.exact m (number_of_tree w g m u grammar h.0)) u h;
  }) n;
}

-- any tree is of the kind of any trees
pub of_any : (w : Measure) (g : PlainGrammar) (x : Symbol) (c : Cost) → IsCost w.limit (IsTree g x) (size w) c → IsCost w.limit (IsTreeOfKind g Any x) (size w) c
of_any w g x c h = IsCost-same w.limit (IsTree g x) (IsTreeOfKind g Any x) (size w) (size w) c (λ t is. (t, (is, tt), omega arith)) (λ t is. (t, is.0, omega arith)) h

pub all_of_any : (w : Measure) (g : PlainGrammar) (xs : List Symbol) (c : Cost) → IsCost w.limit (AreTrees g xs) (sizes w) c → IsCost w.limit (AreTreesOfKind g Any xs) (sizes w) c
all_of_any w g xs c h = IsCost-same w.limit (AreTrees g xs) (AreTreesOfKind g Any xs) (sizes w) (sizes w) c (λ f is. (f, (is, tt), omega arith)) (λ f is. (f, is.0, omega arith)) h

-- in the names of the code
module _ (v u : Weighed) (t : Tables) (k : TreeKind) (same : v ≡ u) (exact : AreKindTables v.weights v.grammar t) (fits : IsKind u.grammar.tokens k) where
  pub costs_held : (j : TreeKind) (row : List Cost) → k ≡ j → row ≡ row_of t j → AreCosts u.weights u.grammar k row
  costs_held j row is_k is_row =
      let fits' = subst (λ (s : Weighed). IsKind s.grammar.tokens k) (sym same) fits in
      let held : row ≡ row_of t k = is_row ∙ ap (row_of t) (sym is_k) in
      subst (λ (s : Weighed). AreCosts s.weights s.grammar k row) same (subst (AreCosts v.weights v.grammar k) (sym held) (row_costs v.weights v.grammar t exact k fits'))

  pub begins_held : (b : ℕ) (row d : List Cost) → k ≡ Begins b → row ≡ get_or t.begins (b - 1) d → AreCosts u.weights u.grammar k row
  begins_held b row d is_k is_row =
      let number = subst (IsKind u.grammar.tokens) is_k fits in
      let many = exact.begins_costs.many ∙ ap (λ (s : Weighed). s.grammar.tokens) same in
      costs_held (Begins b) row is_k (row_read t.begins b row d (subst (λ m. IsNumberOf m b) (sym many) number) is_row)

  pub ends_held : (a : ℕ) (row d : List Cost) → k ≡ Ends a → row ≡ get_or t.ends (a - 1) d → AreCosts u.weights u.grammar k row
  ends_held a row d is_k is_row =
      let number = subst (IsKind u.grammar.tokens) is_k fits in
      let many = exact.ends_costs.many ∙ ap (λ (s : Weighed). s.grammar.tokens) same in
      costs_held (Ends a) row is_k (row_read t.ends a row d (subst (λ m. IsNumberOf m a) (sym many) number) is_row)

pub symbol_told : (w : Measure) (g : PlainGrammar) (k : TreeKind) (x : Symbol) (n : ℕ) (row : List Cost) (d : Cost) → x ≡ Nonterminal n → IsSymbol g.tokens g.nonterminals x → AreCosts w g k row → IsCost w.limit (IsTreeOfKind g k x) (size w) (get_or row (n - 1) d)
symbol_told w g k x n row d is_x fits costs =
    let number = subst (IsSymbol g.tokens g.nonterminals) is_x fits in
    let at = entry_read row n d (subst (λ m. IsNumberOf m n) (sym costs.many) number) in
    subst (λ y. IsCost w.limit (IsTreeOfKind g k y) (size w) (get_or row (n - 1) d)) (sym is_x) (subst (IsCost w.limit (IsTreeOfKind g k (Nonterminal n)) (size w)) at (costs.exact n))

-- one more row behind the others
pub cost_rows_more : (w : Measure) (g : PlainGrammar) (kind : ℕ → TreeKind) (count : ℕ) (rows : List (List Cost)) (row : List Cost) → AreCostRows w g kind count rows → AreCosts w g (kind (count + 1)) row → AreCostRows w g kind (count + 1) (rows ++ row ∷ [])
cost_rows_more w g kind count rows row so_far here =
    let IsRight = λ (n : ℕ) (r : List Cost). AreCosts w g (kind n) r in
    record { many = length_more IsRight count rows row so_far.many; each = rows_more IsRight count rows row so_far.many so_far.each here }
