-- The trees of the start symbol that meet a context goal.
use Rattle.std.proofs.Common.{◌≡◌, ℕ, zero, suc, ◌+◌, ◌-◌, ◌≤◌, List, [], ◌∷◌, ◌++◌, Some, length, take, drop, refl, sym, ap, ◌∙◌, subst, ⊎_elim, inl, inr, arith, append_assoc}
use Rattle.std.specs.Prelude.{slice_get}
use Rattle.std.proofs.lemmas.List.{length-take-le}
use Rattle.std.proofs.lemmas.Option.{slice_get_within}
use Rattle.cs_grammar.specs.declared.symbol.Symbol.{Symbol}
use Rattle.cs_grammar.specs.declared.symbol.Symbol.TheVariants.{Nonterminal}
use Rattle.cs_grammar.specs.Grammar.{Production, PlainGrammar, IsRule}
use Rattle.cs_grammar.specs.Weights.{Measure}
use Rattle.cs_grammar.specs.Tree.{Tree, Leaf, Node, Forest, Bare, Grown, IsTree, AreTrees, size, sizes, codes_of}
use Rattle.cs_grammar.specs.Context.{Context as TreeContext, Hole, Under, IsContext, context_size, code_before, code_after, join, plug}
use Rattle.cs_grammar.proofs.Forests.{AreTrees-join, sizes-join}
use Rattle.cs_grammar.proofs.OneTree.{one_rule}
use Rattle.cs_grammar.proofs.Holes.{IsTree-plug, size-plug, code-plug}
use Rattle.cs_least.specs.declared.cost.cost.Cost.{Cost}
use Rattle.cs_least.specs.declared.cost.cost.Cost.TheVariants.{Least}
use Rattle.cs_least.specs.Cost.Least.{IsCost}
use Rattle.cs_least.specs.Cost.Rank.{cost_of, plus}
use Rattle.cs_least.specs.Cost.Chosen.{AreChosen, AppendsAllChosen}
use Rattle.cs_least.specs.Cost.Trees.{HaveSmall}
use Rattle.cs_least.proofs.OnCost.Ranks.{IsCost-plus, IsCost-same, IsCost-more}
use Rattle.cs_least.proofs.OnCost.ChosenTrees.{chosen_forest, all_chosen, forest_least, AreTrees-chosen}
use Rattle.cs_least.specs.Embed.Around.{IsContextOf, HasLeastContext, IsAround}
use Rattle.cs_least.specs.Embed.ChosenContext.{count, IsChosenContext}
use Rattle.cs_least.specs.Embed.Embeds.{AreSiblings, siblings_size}
use Rattle.cs_least.proofs.OnEmbed.ChosenContexts.{count_is, chosen_context_exists, chosen_context_least, one_chosen_context, IsContext-chosen}
use Rattle.cs_least.proofs.OnEmbed.Steps.{one_split, split_at, siblings_exact}
use Rattle.cs_goals.specs.declared.goal.Goal.TheVariants.{Context}
use Rattle.cs_goals.specs.Goal.{IsOccurrence}
use Rattle.cs_goals.proofs.Cut.{cut_at}
use Rattle.cs_goals.proofs.Placing.{stands_in}
use Rattle.cs_goals.specs.Meets.{trees, IsChild, UsesRuleIn, SomeUsesRuleIn}
use Rattle.cs_verdicts.specs.Positive.Verdict.{IsMet, ContextGoalParts, IsChosenOfContext, IsCodeOf}
use Rattle.cs_verdicts.proofs.OnPositive.RuleGoals.{least_context}

-- a tree of so many nodes that meets the goal, by its parts
pub record FoundIn (w : Measure) (g : PlainGrammar) (p i q n : ℕ) : Type 0 where
  pub parts : ContextGoalParts g p i q (IsContext g) (AreTrees g)
  pub measure : context_size w parts.context + (1 + (sizes w parts.left + sizes w parts.right)) + (1 + sizes w parts.children) ≡ n

module _ (w : Measure) (g : PlainGrammar) (p i q : ℕ) where
  here_in : (r : ℕ) (o : Production) (f : Forest) (c : TreeContext) → IsRule g r o → AreTrees g o.right f → IsContext g (Nonterminal o.left) c → r ≡ p → IsChild i q f → FoundIn w g p i q (context_size w c + (1 + sizes w f))
  here_in r o f c rule hf hc same child =
      let v = cut_at w g f o.right (i - 1) (Node q child.grandchildren) hf child.at in
      let is = v.is_tree in
      record {
        parts = record {
          outer = o;
          inner = is.0;
          is_outer = subst (λ n. IsRule g n o) same rule;
          is_inner = is.1;
          before = v.before;
          behind = v.behind;
          right_side = v.symbols ∙ ap (λ (b : Symbol). v.before ++ b ∷ v.behind) is.2;
          place = omega (arith, v.at, child.above_zero);
          context = c;
          left = v.left;
          right = v.right;
          children = child.grandchildren;
          around = hc;
          left_are = v.left_trees;
          right_are = v.right_trees;
          children_are = is.3;
        };
        measure = omega (arith, v.measure);
      }

  mutual
    found_in : (t : Tree) (x : Symbol) (c : TreeContext) → IsTree g x t → IsContext g x c → UsesRuleIn p i q t → FoundIn w g p i q (context_size w c + size w t)
    found_in (Leaf s) x c ht hc h = absurd h
    found_in (Node r f) x c ht hc h =
        let around = subst (λ y. IsContext g y c) ht.2 hc in
        ⊎_elim
        (λ child. here_in r ht.0 f c ht.1 ht.3 around child.0 child.1)
        (λ inside.
        let same : context_size w c + (1 + (sizes w Bare + sizes w f)) ≡ context_size w c + (1 + sizes w f) = omega arith in
        subst (FoundIn w g p i q) same (found_in_among f ht.0.right c r ht.0 [] Bare ht.1 refl tt ht.3 around inside))
        h

    found_in_among : (f : Forest) (ys : List Symbol) (c : TreeContext) (r : ℕ) (o : Production) (xs : List Symbol) (left : Forest) → IsRule g r o → o.right ≡ xs ++ ys → AreTrees g xs left → AreTrees g ys f → IsContext g (Nonterminal o.left) c → SomeUsesRuleIn p i q f → FoundIn w g p i q (context_size w c + (1 + (sizes w left + sizes w f)))
    found_in_among Bare ys c r o xs left rule e hl hf hc h = absurd h
    found_in_among (Grown t f) [] c r o xs left rule e hl hf hc h = absurd hf
    found_in_among (Grown t f) (y ∷ ys) c r o xs left rule e hl hf hc h =
        ⊎_elim
        (λ here.
        let same : context_size w (Under c r left f) + size w t ≡ context_size w c + (1 + (sizes w left + sizes w (Grown t f))) = omega arith in
        subst (FoundIn w g p i q) same (found_in t y (Under c r left f) hf.0 (o, xs, ys, rule, e, hl, hf.1, hc) here))
        (λ later.
        let before = join left (Grown t Bare) in
        let are = AreTrees-join g left (Grown t Bare) xs (y ∷ []) hl (hf.0, tt) in
        let same : context_size w c + (1 + (sizes w before + sizes w f)) ≡ context_size w c + (1 + (sizes w left + sizes w (Grown t f))) = omega (arith, sizes-join w left (Grown t Bare)) in
        subst (FoundIn w g p i q) same (found_in_among f ys c r o (xs ++ y ∷ []) before rule (e ∙ sym (append_assoc xs (y ∷ []) ys)) are hf.1 hc later))
        h

  pub found_in_whole : (t : Tree) → IsMet g (Context p i q) t → FoundIn w g p i q (size w t)
  found_in_whole t h =
      let same : 0 + size w t ≡ size w t = omega arith in
      subst (FoundIn w g p i q) same (found_in t (Nonterminal g.start) Hole h.0 refl h.1)

  -- and the other way round
  SomeUsesRuleIn-join : (f : Forest) (t : Tree) (right : Forest) → UsesRuleIn p i q t → SomeUsesRuleIn p i q (join f (Grown t right))
  SomeUsesRuleIn-join Bare t right h = inl h
  SomeUsesRuleIn-join (Grown u f) t right h = inr (SomeUsesRuleIn-join f t right h)

  pub UsesRuleIn-plug : (c : TreeContext) (t : Tree) → UsesRuleIn p i q t → UsesRuleIn p i q (plug c t)
  UsesRuleIn-plug Hole t h = h
  UsesRuleIn-plug (Under outer r left right) t h = UsesRuleIn-plug outer (Node r (join left (Grown t right))) (inr (SomeUsesRuleIn-join left t right h))

at_join : (left : Forest) (t : Tree) (right : Forest) (k : ℕ) → count left ≡ k → slice_get (trees (join left (Grown t right))) k ≡ Some t
at_join Bare t right zero e = refl
at_join Bare t right (suc k) e = absurd (omega (arith, e))
at_join (Grown u f) t right zero e = absurd (omega (arith, e))
at_join (Grown u f) t right (suc k) e = at_join f t right k (omega (arith, e))

module _ (w : Measure) (g : PlainGrammar) (p i q : ℕ) (outer inner : Production) (is_outer : IsRule g p outer) (is_inner : IsRule g q inner) (xs ys : List Symbol) (e : outer.right ≡ xs ++ Nonterminal inner.left ∷ ys) (at : length xs + 1 ≡ i) where
  -- the parts of a tree that meets the goal: a context of the outer left side, the inner node's siblings and its children
  abbrev pub ArePlaced : (TreeContext × (Forest × Forest)) × Forest → Type 0
  ArePlaced ps = (IsContextOf g outer.left ps.0.0 × AreSiblings g xs ys ps.0.1) × AreTrees g inner.right ps.1

  abbrev pub placed_size : (TreeContext × (Forest × Forest)) × Forest → ℕ
  placed_size ps = context_size w ps.0.0 + siblings_size w ps.0.1 + (1 + sizes w ps.1)

  -- together they meet it
  placed_met : (ps : (TreeContext × (Forest × Forest)) × Forest) → ArePlaced ps → IsMet g (Context p i q) (plug (Under ps.0.0 p ps.0.1.0 ps.0.1.1) (Node q ps.1))
  placed_met ps h =
      let left = ps.0.1.0 in
      let right = ps.0.1.1 in
      let c = Under ps.0.0 p left right in
      let node = Node q ps.1 in
      let around : IsContext g (Nonterminal inner.left) c = (outer, xs, ys, is_outer, e, h.0.1.0, h.0.1.1, h.0.0) in
      let tree = IsTree-plug g c (Nonterminal inner.left) node around (inner, is_inner, refl, h.1) in
      let place : count left ≡ i - 1 = omega (arith, count_is g left xs h.0.1.0, at) in
      let child : IsChild i q (join left (Grown node right)) = record { grandchildren = ps.1; above_zero = omega (arith, at); at = at_join left node right (i - 1) place } in
      (tree, UsesRuleIn-plug w g p i q ps.0.0 (Node p (join left (Grown node right))) (inl (refl, child)))

  placed : (ps : (TreeContext × (Forest × Forest)) × Forest) → ArePlaced ps → (t : Tree) × IsMet g (Context p i q) t × (size w t ≤ placed_size ps)
  placed ps h =
      let c = Under ps.0.0 p ps.0.1.0 ps.0.1.1 in
      let node = Node q ps.1 in
      (plug c node, placed_met ps h, omega (arith, size-plug w c node))

  pub parted : (t : Tree) → IsMet g (Context p i q) t → (ps : (TreeContext × (Forest × Forest)) × Forest) × ArePlaced ps × (placed_size ps ≤ size w t)
  parted t h =
      let v = found_in_whole w g p i q t h in
      let outers = one_rule g p p v.parts.outer outer refl v.parts.is_outer is_outer in
      let inners = one_rule g q q v.parts.inner inner refl v.parts.is_inner is_inner in
      let split = one_split v.parts.before xs (Nonterminal v.parts.inner.left) (Nonterminal inner.left) v.parts.behind ys (sym v.parts.right_side ∙ ap (λ (o : Production). o.right) outers ∙ e) (omega (arith, v.parts.place, at)) in
      let around = subst (λ (o : Production). IsContext g (Nonterminal o.left) v.parts.context) outers v.parts.around in
      let lefts = subst (λ (l : List Symbol). AreTrees g l v.parts.left) split.before v.parts.left_are in
      let rights = subst (λ (l : List Symbol). AreTrees g l v.parts.right) split.behind v.parts.right_are in
      let children = subst (λ (o : Production). AreTrees g o.right v.parts.children) inners v.parts.children_are in
      (((v.parts.context, (v.parts.left, v.parts.right)), v.parts.children), ((around, (lefts, rights)), children), omega (arith, v.measure))

  -- a least tree that meets the goal is of least parts
  pub context_cost : (a l s b : Cost) → IsCost w.limit (IsContextOf g outer.left) (context_size w) a → IsCost w.limit (AreTrees g xs) (sizes w) l → IsCost w.limit (AreTrees g ys) (sizes w) s → IsCost w.limit (AreTrees g inner.right) (sizes w) b → IsCost w.limit (IsMet g (Context p i q)) (size w) (plus w.limit (plus w.limit a (plus w.limit (cost_of w.limit 1) (plus w.limit l s))) (plus w.limit (cost_of w.limit 1) b))
  context_cost a l s b around lefts rights children =
      let siblings = siblings_exact w g xs ys l s lefts rights in
      let node = IsCost-more w.limit (AreTrees g inner.right) (sizes w) b children in
      let first = IsCost-plus w.limit (IsContextOf g outer.left) (AreSiblings g xs ys) (context_size w) (siblings_size w) a (plus w.limit (cost_of w.limit 1) (plus w.limit l s)) around siblings in
      let all = IsCost-plus w.limit (λ (u : TreeContext × (Forest × Forest)). IsContextOf g outer.left u.0 × AreSiblings g xs ys u.1) (AreTrees g inner.right) (λ (u : TreeContext × (Forest × Forest)). context_size w u.0 + siblings_size w u.1) (λ f. 1 + sizes w f) (plus w.limit a (plus w.limit (cost_of w.limit 1) (plus w.limit l s))) (plus w.limit (cost_of w.limit 1) b) first node in
      IsCost-same w.limit ArePlaced (IsMet g (Context p i q)) placed_size (size w) (plus w.limit (plus w.limit a (plus w.limit (cost_of w.limit 1) (plus w.limit l s))) (plus w.limit (cost_of w.limit 1) b)) placed parted all

-- the inner nonterminal stands at its place of the outer rule
pub placed_in : (g : PlainGrammar) (p i q : ℕ) (outer inner : Production) → IsOccurrence g p i q → IsRule g p outer → IsRule g q inner → (outer.right ≡ take (i - 1) outer.right ++ Nonterminal inner.left ∷ drop i outer.right) × (length (take (i - 1) outer.right) + 1 ≡ i)
placed_in g p i q outer inner o is_outer is_inner =
    let at = stands_in g p i q outer inner o is_outer is_inner in
    let next : i - 1 + 1 ≡ i = omega (arith, o.above_zero) in
    let short : length (take (i - 1) outer.right) ≡ i - 1 = length-take-le (i - 1) outer.right (omega (arith, slice_get_within outer.right (i - 1) (Nonterminal inner.left) at)) in
    (split_at outer.right (i - 1) (Nonterminal inner.left) at ∙ ap (λ k. take (i - 1) outer.right ++ Nonterminal inner.left ∷ drop k outer.right) next, omega (arith, short, o.above_zero))

-- the parts of a tree that meets the goal, within its size
pub record ContextParts (w : Measure) (g : PlainGrammar) (outer inner : Production) (xs ys : List Symbol) (n : ℕ) : Type 0 where
  pub context : TreeContext
  pub left : Forest
  pub right : Forest
  pub children : Forest
  pub around : IsContextOf g outer.left context
  pub left_trees : AreTrees g xs left
  pub right_trees : AreTrees g ys right
  pub trees : AreTrees g inner.right children
  pub measure : context_size w context + (1 + (sizes w left + sizes w right)) + (1 + sizes w children) ≤ n

module _ (w : Measure) (g : PlainGrammar) (p i q : ℕ) (outer inner : Production) (is_outer : IsRule g p outer) (is_inner : IsRule g q inner) (xs ys : List Symbol) (e : outer.right ≡ xs ++ Nonterminal inner.left ∷ ys) (at : length xs + 1 ≡ i) where
  context_parts : (t : Tree) → IsMet g (Context p i q) t → ContextParts w g outer inner xs ys (size w t)
  context_parts t h =
      let v = parted w g p i q outer inner is_outer is_inner xs ys e at t h in
      record { context = v.0.0.0; left = v.0.0.1.0; right = v.0.0.1.1; children = v.0.1; around = v.1.0.0; left_trees = v.1.0.1.0; right_trees = v.1.0.1.1; trees = v.1.1; measure = v.2 }

  -- where the goal is met within the limit, the parts are within it
  pub small_parts : (n : ℕ) → IsCost w.limit (IsMet g (Context p i q)) (size w) (Least n) → ContextParts w g outer inner xs ys w.limit
  small_parts n found =
      let v = context_parts found.1.reached.0 found.1.reached.1 in
      record {
        context = v.context;
        left = v.left;
        right = v.right;
        children = v.children;
        around = v.around;
        left_trees = v.left_trees;
        right_trees = v.right_trees;
        trees = v.trees;
        measure = omega (arith, v.measure, found.0, found.1.reached.2);
      }

-- the chosen tree of a context goal meets it
pub context_met : (w : Measure) (g : PlainGrammar) (p i q : ℕ) (u : Tree) → IsChosenOfContext w g p i q u → IsMet g (Context p i q) u
context_met w g p i q u h =
    let lefts = AreTrees-chosen w g h.parts.left h.parts.before h.parts.left_are in
    let rights = AreTrees-chosen w g h.parts.right h.parts.behind h.parts.right_are in
    let children = AreTrees-chosen w g h.parts.children h.parts.inner.right h.parts.children_are in
    let context = IsContext-chosen w g h.parts.context (Nonterminal h.parts.outer.left) h.parts.around in
    let met = placed_met w g p i q h.parts.outer h.parts.inner h.parts.is_outer h.parts.is_inner h.parts.before h.parts.behind h.parts.right_side h.parts.place ((h.parts.context, (h.parts.left, h.parts.right)), h.parts.children) ((context, (lefts, rights)), children) in
    subst (IsMet g (Context p i q)) (sym h.whole) met

-- is of least size
pub context_least : (w : Measure) (g : PlainGrammar) (p i q : ℕ) (t u : Tree) → IsMet g (Context p i q) t → IsChosenOfContext w g p i q u → size w u ≤ size w t
context_least w g p i q t u h k =
    let v = context_parts w g p i q k.parts.outer k.parts.inner k.parts.is_outer k.parts.is_inner k.parts.before k.parts.behind k.parts.right_side k.parts.place t h in
    let around = chosen_context_least w g (Nonterminal k.parts.outer.left) v.context k.parts.context v.around k.parts.around in
    let lefts = forest_least w g k.parts.left v.left k.parts.before k.parts.left_are v.left_trees in
    let rights = forest_least w g k.parts.right v.right k.parts.behind k.parts.right_are v.right_trees in
    let children = forest_least w g k.parts.children v.children k.parts.inner.right k.parts.children_are v.trees in
    omega (arith, v.measure, around, lefts, rights, children, ap (size w) k.whole, size-plug w (Under k.parts.context p k.parts.left k.parts.right) (Node q k.parts.children))

-- and is the only one
pub one_of_context : (w : Measure) (g : PlainGrammar) (p i q : ℕ) (t u : Tree) → IsChosenOfContext w g p i q t → IsChosenOfContext w g p i q u → t ≡ u
one_of_context w g p i q t u h k =
    let outer = one_rule g p p h.parts.outer k.parts.outer refl h.parts.is_outer k.parts.is_outer in
    let inner = one_rule g q q h.parts.inner k.parts.inner refl h.parts.is_inner k.parts.is_inner in
    let split = one_split h.parts.before k.parts.before (Nonterminal h.parts.inner.left) (Nonterminal k.parts.inner.left) h.parts.behind k.parts.behind (sym h.parts.right_side ∙ ap (λ (o : Production). o.right) outer ∙ k.parts.right_side) (omega (arith, h.parts.place, k.parts.place)) in
    let contexts = one_chosen_context w g h.parts.context k.parts.context (Nonterminal h.parts.outer.left) h.parts.around (subst (λ (o : Production). IsChosenContext w g (Nonterminal o.left) k.parts.context) (sym outer) k.parts.around) in
    let lefts = all_chosen w g h.parts.left k.parts.left h.parts.before h.parts.left_are (subst (λ (l : List Symbol). AreChosen w g l k.parts.left) (sym split.before) k.parts.left_are) in
    let rights = all_chosen w g h.parts.right k.parts.right h.parts.behind h.parts.right_are (subst (λ (l : List Symbol). AreChosen w g l k.parts.right) (sym split.behind) k.parts.right_are) in
    let children = all_chosen w g h.parts.children k.parts.children h.parts.inner.right h.parts.children_are (subst (λ (o : Production). AreChosen w g o.right k.parts.children) (sym inner) k.parts.children_are) in
    h.whole ∙ ap (λ c. plug (Under c p h.parts.left h.parts.right) (Node q h.parts.children)) contexts ∙ ap (λ f. plug (Under k.parts.context p f h.parts.right) (Node q h.parts.children)) lefts
    ∙ ap (λ f. plug (Under k.parts.context p k.parts.left f) (Node q h.parts.children)) rights ∙ ap (λ f. plug (Under k.parts.context p k.parts.left k.parts.right) (Node q f)) children ∙ sym k.whole

module _ (w : Measure) (g : PlainGrammar) (outer inner : Production) (xs ys : List Symbol) (parts : ContextParts w g outer inner xs ys w.limit) where
  pub outer_context : HasLeastContext w g outer.left
  outer_context = least_context w g outer.left parts.context parts.around (omega (arith, parts.measure))

  pub small_left : HaveSmall w g xs
  small_left = (parts.left, parts.left_trees, omega (arith, parts.measure))

  pub small_right : HaveSmall w g ys
  small_right = (parts.right, parts.right_trees, omega (arith, parts.measure))

  pub small_children : HaveSmall w g inner.right
  small_children = (parts.children, parts.trees, omega (arith, parts.measure))

-- the code with the hole's siblings, the inner node and its children in their order
regroup : (before l c r after : List ℕ) (p q : ℕ) → before ++ p ∷ [] ++ l ++ q ∷ [] ++ c ++ r ++ after ≡ before ++ p ∷ l ++ q ∷ c ++ (r ++ after)
regroup before l c r after p q = simp append_assoc

-- the chosen tree that is put together of chosen parts
pub chosen_whole : (w : Measure) (g : PlainGrammar) (p i q : ℕ) → (parts : ContextGoalParts g p i q (IsChosenContext w g) (AreChosen w g)) → IsChosenOfContext w g p i q (plug (Under parts.context p parts.left parts.right) (Node q parts.children))
chosen_whole w g p i q parts = record { parts = parts; whole = refl }

-- the code that is put together of the chosen context and the chosen trees in it
module _ (w : Measure) (g : PlainGrammar) (p i q : ℕ) (outer inner : Production) (is_outer : IsRule g p outer) (is_inner : IsRule g q inner) (xs ys : List Symbol) (e : outer.right ≡ xs ++ Nonterminal inner.left ∷ ys) (at : length xs + 1 ≡ i) where
  pub context_code : (before after d1 d2 d3 d4 d5 d6 d7 : List ℕ) → IsAround w g outer.left before after → d1 ≡ before → d2 ≡ d1 ++ p ∷ [] → AppendsAllChosen w g xs d2 d3 → d4 ≡ d3 ++ q ∷ [] → AppendsAllChosen w g inner.right d4 d5 → AppendsAllChosen w g ys d5 d6 → d7 ≡ d6 ++ after → IsCodeOf w g (Context p i q) d7
  context_code before after d1 d2 d3 d4 d5 d6 d7 a is1 is2 lefts is4 inners rights is7 =
      let c = Under a.context p lefts.trees rights.trees in
      let node = Node q inners.trees in
      let first : d2 ≡ code_before a.context ++ p ∷ [] = is2 ∙ ap (λ (l : List ℕ). l ++ p ∷ []) (is1 ∙ a.before_hole) in
      let second : d4 ≡ code_before a.context ++ p ∷ [] ++ codes_of lefts.trees ++ q ∷ [] = is4 ∙ ap (λ (l : List ℕ). l ++ q ∷ []) (lefts.text ∙ ap (λ (l : List ℕ). l ++ codes_of lefts.trees) first) in
      let third : d5 ≡ code_before a.context ++ p ∷ [] ++ codes_of lefts.trees ++ q ∷ [] ++ codes_of inners.trees = inners.text ∙ ap (λ (l : List ℕ). l ++ codes_of inners.trees) second in
      let fourth : d6 ≡ code_before a.context ++ p ∷ [] ++ codes_of lefts.trees ++ q ∷ [] ++ codes_of inners.trees ++ codes_of rights.trees = rights.text ∙ ap (λ (l : List ℕ). l ++ codes_of rights.trees) third in
      let last : d7 ≡ code_before a.context ++ p ∷ [] ++ codes_of lefts.trees ++ q ∷ [] ++ codes_of inners.trees ++ codes_of rights.trees ++ code_after a.context = is7 ∙ ap (λ (l : List ℕ). l ++ after) fourth ∙ ap (λ (l : List ℕ). code_before a.context ++ p ∷ [] ++ codes_of lefts.trees ++ q ∷ [] ++ codes_of inners.trees ++ codes_of rights.trees ++ l) a.behind_hole in
      let chosen : IsChosenOfContext w g p i q (plug c node) = chosen_whole w g p i q (record {
        outer = outer;
        inner = inner;
        is_outer = is_outer;
        is_inner = is_inner;
        before = xs;
        behind = ys;
        right_side = e;
        place = at;
        context = a.context;
        left = lefts.trees;
        right = rights.trees;
        children = inners.trees;
        around = a.chosen;
        left_are = lefts.chosen;
        right_are = rights.chosen;
        children_are = inners.chosen;
      }) in
      (plug c node, chosen, last ∙ regroup (code_before a.context) (codes_of lefts.trees) (codes_of inners.trees) (codes_of rights.trees) (code_after a.context) p q ∙ sym (code-plug c node))

-- a context goal that some tree meets has a chosen tree
pub context_exists : (w : Measure) (g : PlainGrammar) (p i q : ℕ) (t : Tree) → IsMet g (Context p i q) t → (u : Tree) × IsChosenOfContext w g p i q u
context_exists w g p i q t h =
    let v = (found_in_whole w g p i q t h).parts in
    let d = chosen_context_exists w g v.outer.left v.context v.around in
    let lefts = chosen_forest w g v.left v.before v.left_are in
    let rights = chosen_forest w g v.right v.behind v.right_are in
    let children = chosen_forest w g v.children v.inner.right v.children_are in (
      plug (Under d.context p lefts.0 rights.0) (Node q children.0),
      chosen_whole w g p i q (record {
        outer = v.outer;
        inner = v.inner;
        is_outer = v.is_outer;
        is_inner = v.is_inner;
        before = v.before;
        behind = v.behind;
        right_side = v.right_side;
        place = v.place;
        context = d.context;
        left = lefts.0;
        right = rights.0;
        children = children.0;
        around = d.chosen;
        left_are = lefts.1;
        right_are = rights.1;
        children_are = children.1;
      }),
    )
