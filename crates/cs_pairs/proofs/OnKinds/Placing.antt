-- Where the tree of a kind itself stands in the chosen trees of some symbols.
use Rattle.std.proofs.Common.{◌≡◌, ℕ, ◌+◌, ◌<◌, ◌≤◌, Bool, true, false, List, [], ◌∷◌, ◌++◌, length, get_or, drop, refl, sym, ap, ◌∙◌, subst, ⊎_elim, arith}
use Rattle.std.specs.Prelude.{◌↔◌, IsTrue, All, nat_lt, nat_eq, if◌then◌else◌}
use Rattle.std.proofs.lemmas.Bool.{cases_lt}
use Rattle.std.proofs.lemmas.Bool.Decides.{nat_tests}
use Rattle.std.proofs.lemmas.List.{at_drop_more, drop_all}
use Rattle.std.proofs.lemmas.List.Elements.{All-nil, All-cons, All-head, All-tail}
use Rattle.cs_grammar.specs.declared.symbol.Symbol.{Symbol}
use Rattle.cs_grammar.specs.declared.symbol.Symbol.TheVariants.{Token, Nonterminal}
use Rattle.cs_grammar.specs.Grammar.{PlainGrammar, IsSymbol}
use Rattle.cs_grammar.specs.Weights.{Measure, Weighed}
use Rattle.cs_grammar.specs.Tree.{Tree, Leaf, Node, Forest, Bare, Grown, sizes, code, codes_of}
use Rattle.cs_grammar.specs.Context.{join}
use Rattle.cs_least.specs.declared.cost.cost.Cost.{Cost}
use Rattle.cs_least.specs.Cost.Least.{IsCost}
use Rattle.cs_least.specs.Cost.Rank.{rank, plus, IsCapped}
use Rattle.cs_least.proofs.OnCost.Ranks.{cost_low, cost_least, cost_capped}
use Rattle.cs_pairs.specs.declared.kinds.kind.TreeKind.{TreeKind}
use Rattle.cs_pairs.specs.declared.kinds.kind.TreeKind.TheVariants.{Any, Empty, Begins, Ends}
use Rattle.cs_pairs.specs.declared.kinds.roots.Placed.{Placed}
use Rattle.cs_pairs.specs.declared.kinds.writing.Part.{Part}
use Rattle.cs_pairs.specs.Kinds.Kinds.{before, behind, IsKind}
use Rattle.cs_pairs.specs.Kinds.KindCost.{IsKindCost, AreKindCost}
use Rattle.cs_pairs.specs.Kinds.ListCost.{lesser, bare_cost}
use Rattle.cs_pairs.specs.Kinds.Ways.{AreHere, AreLater, joint_size}
use Rattle.cs_pairs.specs.Kinds.ChosenKind.{IsChosenOfKind, AreChosenOfKind}
use Rattle.cs_pairs.specs.Kinds.Parts.{kind_at, parts_from, in_front, inner, AreChosenParts, IsPartOf}
use Rattle.cs_pairs.specs.Kinds.Beside.{IsPlacedFrom, IsPlacedOver}
use Rattle.cs_pairs.proofs.OnKinds.ListCosts.{IsKind-before, IsKind-behind, lesser_first, lesser_second}
use Rattle.cs_pairs.proofs.OnKinds.Sweeping.{swept_none, here_cost, later_cost, lesser_way, behind_cost}
use Rattle.cs_pairs.proofs.OnKinds.ChosenKinds.{IsTree-of_kind, AreTrees-of_kind}

at_before : (k : TreeKind) (place i : ℕ) → i < place → kind_at k place i ≡ before k
at_before k place i h = grind (arith, nat_tests)

pub at_own : (k : TreeKind) (i : ℕ) → kind_at k i i ≡ k
at_own k i = grind (arith, nat_tests)

at_behind : (k : TreeKind) (place i : ℕ) → place < i → kind_at k place i ≡ behind k
at_behind k place i h = grind (arith, nat_tests)

-- what the answer says where it is no
pub not_at_most : (answer : Bool) (m n : ℕ) → answer ≡ false → IsTrue answer ↔ (m ≤ n) → n < m
not_at_most true m n is_no h = absurd cc
not_at_most false m n is_no h = ⊎_elim (λ less. less) (λ no_less. let yes = h.1 (omega (arith, no_less)) in absurd cc) (cases_lt n m)

-- what is left of a list from a place on
pub left_from : (xs : List Symbol) (i next : ℕ) (d : Symbol) → i + 1 ≡ next → i < length xs → get_or xs i d ∷ drop next xs ≡ drop i xs
left_from xs i next d is_next within = sym (at_drop_more (λ (l : List Symbol). l) xs i d within ∙ ap (λ n. get_or xs i d ∷ drop n xs) is_next)

pub behind_twice : (k : TreeKind) → (before (behind k) ≡ behind k) × (behind (behind k) ≡ behind k)
behind_twice Any = (refl, refl)
behind_twice Empty = (refl, refl)
behind_twice (Begins b) = (refl, refl)
behind_twice (Ends a) = (refl, refl)

module _ (w : Measure) (g : PlainGrammar) where
  -- trees behind one of the kind
  behind_parts : (f : Forest) (k : TreeKind) (place i : ℕ) (xs : List Symbol) → place < i → AreChosenOfKind w g (behind k) xs f → AreChosenParts w g (parts_from k place i xs) f
  behind_parts Bare k place i [] lt h = tt
  behind_parts Bare k place i (x ∷ xs) lt h = absurd h
  behind_parts (Grown t f) k place i [] lt h = absurd h
  behind_parts (Grown t f) k place i (x ∷ xs) lt h =
      let at = at_behind k place i lt in
      ⊎_elim
      (λ v. (
        subst (λ j. IsChosenOfKind w g j x t) (sym at) v.0,
        behind_parts f k place (i + 1) xs (omega (arith, lt)) (subst (λ j. AreChosenOfKind w g j xs f) (behind_twice k).1 v.1),
      ))
      (λ v. (
        subst (λ j. IsChosenOfKind w g j x t) (sym at) (subst (λ j. IsChosenOfKind w g j x t) (behind_twice k).0 v.0),
        behind_parts f k place (i + 1) xs (omega (arith, lt)) v.1,
      ))
      h

  module _ (k : TreeKind) (x : Symbol) (ys : List Symbol) (i : ℕ) (here later : Cost) (is_here : IsCost w.limit (AreHere g k x ys) (joint_size w) here) (is_later : IsCost w.limit (AreLater g k x ys) (joint_size w) later) where
    -- the first tree of the chosen ones is of the kind itself where that costs no more
    pub placed_here : rank w.limit here ≤ rank w.limit later → (f : Forest) → AreChosenOfKind w g k (x ∷ ys) f → sizes w f ≤ w.limit → AreChosenParts w g (parts_from k i i (x ∷ ys)) f
    placed_here cheap Bare h small = absurd h
    placed_here cheap (Grown t f) h small =
        ⊎_elim
        (λ v. (subst (λ j. IsChosenOfKind w g j x t) (sym (at_own k i)) v.0, behind_parts f k i (i + 1) ys (omega arith) v.1))
        (λ v.
        let there : AreLater g k x ys (t, f) = (IsTree-of_kind w g t (before k) x v.0, AreTrees-of_kind w g f k ys v.1) in
        let low = cost_low w.limit (AreLater g k x ys) (joint_size w) later is_later (t, f) there in
        let p = cost_least w.limit (AreHere g k x ys) (joint_size w) here is_here (omega (arith, cheap, low, small)) in
        absurd (omega (arith, v.2 p.0 p.1, p.2, cheap, low, small)))
        h

    -- and else the others are
    pub placed_later : (place : ℕ) → i < place → rank w.limit later < rank w.limit here → ((f : Forest) → AreChosenOfKind w g k ys f → sizes w f ≤ w.limit → AreChosenParts w g (parts_from k place (i + 1) ys) f) → (f : Forest) → AreChosenOfKind w g k (x ∷ ys) f → sizes w f ≤ w.limit → AreChosenParts w g (parts_from k place i (x ∷ ys)) f
    placed_later place lt cheap so_far Bare h small = absurd h
    placed_later place lt cheap so_far (Grown t f) h small =
        ⊎_elim
        (λ v.
        let there : AreHere g k x ys (t, f) = (IsTree-of_kind w g t k x v.0, AreTrees-of_kind w g f (behind k) ys v.1) in
        let low = cost_low w.limit (AreHere g k x ys) (joint_size w) here is_here (t, f) there in
        let p = cost_least w.limit (AreLater g k x ys) (joint_size w) later is_later (omega (arith, cheap, low, small)) in
        absurd (omega (arith, v.2 p.0 p.1, p.2, cheap, low, small)))
        (λ v. (subst (λ j. IsChosenOfKind w g j x t) (sym (at_before k place i lt)) v.0, so_far f v.1 (omega (arith, small))))
        h

  -- the parts are of the grammar
  pub parts_fit : (k : TreeKind) (place i : ℕ) (xs : List Symbol) → IsKind g.tokens k → All (IsSymbol g.tokens g.nonterminals) xs → All (IsPartOf g) (parts_from k place i xs)
  parts_fit k place i [] fits each = All-nil (IsPartOf g)
  parts_fit k place i (x ∷ xs) fits each =
      All-cons (IsPartOf g) (record { kind = kind_at k place i; symbol = x }) (parts_from k place (i + 1) xs)
      (at_fits, All-head (IsSymbol g.tokens g.nonterminals) x xs each)
      (parts_fit k place (i + 1) xs fits (All-tail (IsSymbol g.tokens g.nonterminals) x xs each))
    where
      at_fits : IsKind g.tokens (kind_at k place i)
      at_fits = cases (nat_lt i place) (nat_eq i place)
        where
          cases : (lower same : Bool) → IsKind g.tokens (if lower then before k else (if same then k else behind k))
          cases true same = IsKind-before g.tokens k fits
          cases false true = fits
          cases false false = IsKind-behind g.tokens k fits

  -- without the tokens
  pub inner_fit : (ps : List Part) → All (IsPartOf g) ps → All (IsPartOf g) (inner ps)
  inner_fit [] each = each
  inner_fit (p ∷ ps) each = front p.symbol (inner_fit ps (All-tail (IsPartOf g) p ps each))
    where
      front : (x : Symbol) → All (IsPartOf g) (inner ps) → All (IsPartOf g) (in_front x p (inner ps))
      front (Token t) rest = rest
      front (Nonterminal n) rest = All-cons (IsPartOf g) p (inner ps) (All-head (IsPartOf g) p ps each) rest

  -- their trees have the same codes
  pub record InnerTrees (ps : List Part) (f : Forest) : Type 0 where
    pub trees : Forest
    pub chosen : AreChosenParts w g (inner ps) trees
    pub small : sizes w trees ≤ sizes w f
    pub text : codes_of trees ≡ codes_of f

  pub inner_trees : (f : Forest) (ps : List Part) → AreChosenParts w g ps f → InnerTrees ps f
  inner_trees Bare [] h = record { trees = Bare; chosen = tt; small = omega arith; text = refl }
  inner_trees Bare (p ∷ ps) h = absurd h
  inner_trees (Grown t f) [] h = absurd h
  inner_trees (Grown t f) (p ∷ ps) h =
      let o = front (inner_trees f ps h.1) p.symbol t h.0 h.0 in
      record { trees = o.0; chosen = o.1; small = o.2; text = o.3 }
    where
      front : InnerTrees ps f → (x : Symbol) (u : Tree) → IsChosenOfKind w g p.kind x u → IsChosenOfKind w g p.kind p.symbol u → (e : Forest) × AreChosenParts w g (in_front x p (inner ps)) e × (sizes w e ≤ sizes w (Grown u f)) × (codes_of e ≡ codes_of (Grown u f))
      front rest (Token s) (Leaf r) c own = (rest.trees, rest.chosen, omega (arith, rest.small), rest.text)
      front rest (Token s) (Node r l) c own = let e = c.2 in absurd cc
      front rest (Nonterminal n) (Leaf r) c own = let e = c.0 in absurd cc
      front rest (Nonterminal n) (Node r l) c own =
          (Grown (Node r l) rest.trees, (own, rest.chosen), omega (arith, rest.small), ap (λ (s : List ℕ). code (Node r l) ++ s) rest.text)

  -- parts one after another
  pub AreChosenParts-join : (f h : Forest) (ps qs : List Part) → AreChosenParts w g ps f → AreChosenParts w g qs h → AreChosenParts w g (ps ++ qs) (join f h)
  AreChosenParts-join Bare h [] qs hf hh = hh
  AreChosenParts-join Bare h (p ∷ ps) qs hf hh = absurd hf
  AreChosenParts-join (Grown t f) h [] qs hf hh = absurd hf
  AreChosenParts-join (Grown t f) h (p ∷ ps) qs hf hh = (hf.0, AreChosenParts-join f h ps qs hf.1 hh)

-- one symbol more in front of those that are swept, in the names of the code
module _ (v : Weighed) (k : TreeKind) (x : Symbol) (i : ℕ) (placed : Placed) (own first others here later rest : Cost) (is_own : IsKindCost v k x own) (is_first : IsKindCost v (before k) x first) (is_others : IsKindCost v (behind k) x others) (here_is : here ≡ plus v.weights.limit own placed.rest) (later_is : later ≡ plus v.weights.limit first placed.whole) (rest_is : rest ≡ plus v.weights.limit others placed.rest) (xs : List Symbol) (swept : IsPlacedFrom v k (i + 1) xs placed) where
  abbrev w : Measure
  w = v.weights

  abbrev g : PlainGrammar
  g = v.grammar

  is_here : IsCost w.limit (AreHere g k x xs) (joint_size w) here
  is_here = subst (IsCost w.limit (AreHere g k x xs) (joint_size w)) (sym here_is) (here_cost w g k x xs own placed.rest is_own swept.is_rest)

  is_later : IsCost w.limit (AreLater g k x xs) (joint_size w) later
  is_later = subst (IsCost w.limit (AreLater g k x xs) (joint_size w)) (sym later_is) (later_cost w g k x xs first placed.whole is_first swept.is_whole)

  is_rest : AreKindCost v (behind k) (x ∷ xs) rest
  is_rest = subst (AreKindCost v (behind k) (x ∷ xs)) (sym rest_is) (behind_cost w g k x xs others placed.rest is_others swept.is_rest)

  is_whole : AreKindCost v k (x ∷ xs) (lesser w.limit here later)
  is_whole = lesser_way w g k x xs here later is_here is_later

  pub caps : IsCapped w.limit here × IsCapped w.limit later
  caps = (cost_capped w.limit (AreHere g k x xs) (joint_size w) here is_here, cost_capped w.limit (AreLater g k x xs) (joint_size w) later is_later)

  pub place_taken : rank w.limit here ≤ rank w.limit later → IsPlacedFrom v k i (x ∷ xs) (record { whole = here; rest = rest; place = i })
  place_taken cheap = record {
    is_whole = subst (AreKindCost v k (x ∷ xs)) (lesser_first w here later cheap) is_whole;
    is_rest = is_rest;
    within = omega arith;
    is_place = placed_here w g k x xs i here later is_here is_later cheap;
  }

  pub place_passed : rank w.limit later < rank w.limit here → IsPlacedFrom v k i (x ∷ xs) (record { whole = later; rest = rest; place = placed.place })
  place_passed cheap = record {
    is_whole = subst (AreKindCost v k (x ∷ xs)) (lesser_second w here later cheap) is_whole;
    is_rest = is_rest;
    within = omega (arith, swept.within);
    is_place = placed_later w g k x xs i here later is_here is_later placed.place (omega (arith, swept.within)) cheap swept.is_place;
  }

-- no symbol is swept
pub place_none : (w : Measure) (g : PlainGrammar) (k : TreeKind) (place i : ℕ) (ys : List Symbol) → ys ≡ [] → (f : Forest) → AreChosenOfKind w g k ys f → sizes w f ≤ w.limit → AreChosenParts w g (parts_from k place i ys) f
place_none w g k place i [] e Bare h small = tt
place_none w g k place i [] e (Grown t f) h small = absurd h
place_none w g k place i (y ∷ ys) e f h small = absurd cc

pub placed_none : (v : Weighed) (k : TreeKind) (xs : List Symbol) (whole rest : Cost) → whole ≡ bare_cost k → rest ≡ bare_cost (behind k) → IsPlacedFrom v k (length xs) (drop (length xs) xs) (record { whole = whole; rest = rest; place = length xs })
placed_none v k xs whole rest is_whole is_rest =
    subst (λ (l : List Symbol). IsPlacedFrom v k (length xs) l (record { whole = whole; rest = rest; place = length xs })) (sym (drop_all (length xs) xs (omega arith)))
    (record {
      is_whole = subst (AreKindCost v k []) (sym is_whole) (swept_none v.weights v.grammar k);
      is_rest = subst (AreKindCost v (behind k) []) (sym is_rest) (swept_none v.weights v.grammar (behind k));
      within = omega arith;
      is_place = place_none v.weights v.grammar k (length xs) (length xs) [] refl;
    })

pub placed_next : (v : Weighed) (k : TreeKind) (xs : List Symbol) (i next : ℕ) (d : Symbol) (placed new : Placed) → i + 1 ≡ next → i < length xs → IsPlacedOver v k i placed (get_or xs i d) new → IsPlacedFrom v k next (drop next xs) placed → IsPlacedFrom v k i (drop i xs) new
placed_next v k xs i next d placed new is_next within over swept =
    subst (λ (l : List Symbol). IsPlacedFrom v k i l new) (left_from xs i next d is_next within)
    (over (drop next xs) (subst (λ n. IsPlacedFrom v k n (drop next xs) placed) (sym is_next) swept))
