-- The trees that meet a chain are put together of such parts, and each has them.
use Rattle.std.proofs.Common.{◌≡◌, ℕ, zero, suc, ◌+◌, ◌-◌, ◌≤◌, List, Some, refl, sym, ap, ◌∙◌, subst, inl, inr, arith}
use Rattle.std.specs.Prelude.{slice_get}
use Rattle.cs_grammar.specs.declared.symbol.Symbol.{Symbol}
use Rattle.cs_grammar.specs.declared.symbol.Symbol.TheVariants.{Nonterminal}
use Rattle.cs_grammar.specs.Grammar.{Production, PlainGrammar}
use Rattle.cs_grammar.specs.Weights.{Measure}
use Rattle.cs_grammar.specs.Tree.{Tree, Node, Forest, Bare, Grown, AreTrees, size, sizes}
use Rattle.cs_grammar.specs.Context.{Context, Hole, Under, IsContext, context_size, join, plug}
use Rattle.cs_grammar.proofs.OneTree.{one_rule}
use Rattle.cs_grammar.proofs.Holes.{IsTree-plug, size-plug}
use Rattle.cs_least.specs.declared.cost.cost.Cost.{Cost}
use Rattle.cs_least.specs.Cost.Least.{IsCost}
use Rattle.cs_least.specs.Cost.Rank.{cost_of, plus}
use Rattle.cs_least.specs.Embed.Around.{IsContextOf}
use Rattle.cs_least.specs.Embed.ChosenContext.{count}
use Rattle.cs_least.specs.Embed.Embeds.{AreSiblings, siblings_size}
use Rattle.cs_least.proofs.OnCost.Ranks.{IsCost-plus, IsCost-same, IsCost-more}
use Rattle.cs_least.proofs.OnEmbed.ChosenContexts.{count_is}
use Rattle.cs_least.proofs.OnEmbed.Steps.{one_split, siblings_exact}
use Rattle.cs_goals.specs.Meets.{trees, IsChild}
use Rattle.cs_chain.specs.declared.chains.chain.Chain.{Chain}
use Rattle.cs_chain.specs.Judging.Meets.{IsLinked, MeetsChain, SomeMeetsChain, IsMet}
use Rattle.cs_chain.specs.Judging.Verdict.{ChainRules, ChainTrees, AreOf, whole_of}
use Rattle.cs_chain.proofs.OnJudging.Found.{trees_size, found_in_whole}

-- the child at a place
at_join : (left : Forest) (t : Tree) (right : Forest) (k : ℕ) → count left ≡ k → slice_get (trees (join left (Grown t right))) k ≡ Some t
at_join Bare t right zero e = refl
at_join Bare t right (suc k) e = absurd (omega (arith, e))
at_join (Grown u f) t right zero e = absurd (omega (arith, e))
at_join (Grown u f) t right (suc k) e = at_join f t right k (omega (arith, e))

module _ (c : Chain) where
  SomeMeetsChain-join : (f : Forest) (t : Tree) (right : Forest) → MeetsChain c t → SomeMeetsChain c (join f (Grown t right))
  SomeMeetsChain-join Bare t right h = inl h
  SomeMeetsChain-join (Grown u f) t right h = inr (SomeMeetsChain-join f t right h)

  MeetsChain-plug : (d : Context) (t : Tree) → MeetsChain c t → MeetsChain c (plug d t)
  MeetsChain-plug Hole t h = h
  MeetsChain-plug (Under outer r left right) t h = MeetsChain-plug outer (Node r (join left (Grown t right))) (inr (SomeMeetsChain-join left t right h))

-- the size of the whole
pub whole_size : (w : Measure) (c : Chain) (ts : ChainTrees) → size w (whole_of c ts) ≡ trees_size w ts
whole_size w c ts = size-plug w (Under (Under ts.context c.outer ts.left ts.right) c.middle ts.low_left ts.low_right) (Node c.inner ts.children)

module _ (w : Measure) (g : PlainGrammar) (c : Chain) (rules : ChainRules g c) where
  -- together they meet it
  pub whole_met : (ts : ChainTrees) → AreOf rules (IsContext g) (AreTrees g) ts → IsMet g c (whole_of c ts)
  whole_met ts h =
      let outer = rules.is_outer in
      let middle = rules.is_middle in
      let node = Node c.inner ts.children in
      let low = Node c.middle (join ts.low_left (Grown node ts.low_right)) in
      let d = Under (Under ts.context c.outer ts.left ts.right) c.middle ts.low_left ts.low_right in
      let around : IsContext g (Nonterminal rules.inner.left) d = (
        rules.middle,
        rules.low_before,
        rules.low_behind,
        middle.number,
        middle.right_side,
        h.low_left,
        h.low_right,
        (rules.outer, rules.before, rules.behind, outer.number, outer.right_side, h.left, h.right, h.around),
      ) in
      let tree = IsTree-plug g d (Nonterminal rules.inner.left) node around (rules.inner, rules.is_inner, refl, h.children) in
      let place : count ts.left ≡ c.place - 1 = omega (arith, count_is g ts.left rules.before h.left, outer.place) in
      let spot : count ts.low_left ≡ c.spot - 1 = omega (arith, count_is g ts.low_left rules.low_before h.low_left, middle.place) in
      let child : IsChild c.spot c.inner (join ts.low_left (Grown node ts.low_right)) = record {
        grandchildren = ts.children;
        above_zero = omega (arith, middle.place);
        at = at_join ts.low_left node ts.low_right (c.spot - 1) spot;
      } in
      let linked : IsLinked c (join ts.left (Grown low ts.right)) = record {
        grandchildren = join ts.low_left (Grown node ts.low_right);
        above_zero = omega (arith, outer.place);
        at = at_join ts.left low ts.right (c.place - 1) place;
        under = child;
      } in
      (tree, MeetsChain-plug c ts.context (Node c.outer (join ts.left (Grown low ts.right))) (inl (refl, linked)))

  -- the rules of a chain are given by its numbers
  pub record Same (other : ChainRules g c) : Type 0 where
    pub outer : other.outer ≡ rules.outer
    pub inner : other.inner ≡ rules.inner
    pub before : other.before ≡ rules.before
    pub behind : other.behind ≡ rules.behind
    pub low_before : other.low_before ≡ rules.low_before
    pub low_behind : other.low_behind ≡ rules.low_behind

  pub same_rules : (other : ChainRules g c) → Same other
  same_rules other =
      let outer = one_rule g c.outer c.outer other.outer rules.outer refl other.is_outer.number rules.is_outer.number in
      let middle = one_rule g c.middle c.middle other.middle rules.middle refl other.is_middle.number rules.is_middle.number in
      let inner = one_rule g c.inner c.inner other.inner rules.inner refl other.is_inner rules.is_inner in
      let split = one_split other.before rules.before (Nonterminal other.middle.left) (Nonterminal rules.middle.left) other.behind rules.behind
      (sym other.is_outer.right_side ∙ ap (λ (o : Production). o.right) outer ∙ rules.is_outer.right_side) (omega (arith, other.is_outer.place, rules.is_outer.place)) in
      let low = one_split other.low_before rules.low_before (Nonterminal other.inner.left) (Nonterminal rules.inner.left) other.low_behind rules.low_behind
      (sym other.is_middle.right_side ∙ ap (λ (o : Production). o.right) middle ∙ rules.is_middle.right_side) (omega (arith, other.is_middle.place, rules.is_middle.place)) in
      record { outer = outer; inner = inner; before = split.before; behind = split.behind; low_before = low.before; low_behind = low.behind }

  pub moved : (IsAround : Symbol → Context → Type 0) (AreKind : List Symbol → Forest → Type 0) (other : ChainRules g c) (ts : ChainTrees) → AreOf other IsAround AreKind ts → AreOf rules IsAround AreKind ts
  moved IsAround AreKind other ts h =
      let same = same_rules other in
      record {
        around = subst (λ (o : Production). IsAround (Nonterminal o.left) ts.context) same.outer h.around;
        left = subst (λ (l : List Symbol). AreKind l ts.left) same.before h.left;
        right = subst (λ (l : List Symbol). AreKind l ts.right) same.behind h.right;
        low_left = subst (λ (l : List Symbol). AreKind l ts.low_left) same.low_before h.low_left;
        low_right = subst (λ (l : List Symbol). AreKind l ts.low_right) same.low_behind h.low_right;
        children = subst (λ (o : Production). AreKind o.right ts.children) same.inner h.children;
      }

  -- each tree that meets the chain has such parts
  pub record Parted (n : ℕ) : Type 0 where
    pub trees : ChainTrees
    pub are : AreOf rules (IsContext g) (AreTrees g) trees
    pub measure : trees_size w trees ≡ n

  pub parted : (t : Tree) → IsMet g c t → Parted (size w t)
  parted t h =
      let v = found_in_whole w g c t h in
      record { trees = v.trees; are = moved (IsContext g) (AreTrees g) v.rules v.trees v.are; measure = v.measure }

  -- the parts as they are added up: each node with its other children
  abbrev pub ArePlaced : ((Context × (Forest × Forest)) × (Forest × Forest)) × Forest → Type 0
  ArePlaced ps =
      ((IsContextOf g rules.outer.left ps.0.0.0 × AreSiblings g rules.before rules.behind ps.0.0.1) × AreSiblings g rules.low_before rules.low_behind ps.0.1)
      × AreTrees g rules.inner.right ps.1

  abbrev pub placed_size : ((Context × (Forest × Forest)) × (Forest × Forest)) × Forest → ℕ
  placed_size ps = context_size w ps.0.0.0 + siblings_size w ps.0.0.1 + siblings_size w ps.0.1 + (1 + sizes w ps.1)

  placed : (ps : ((Context × (Forest × Forest)) × (Forest × Forest)) × Forest) → ArePlaced ps → (t : Tree) × IsMet g c t × (size w t ≤ placed_size ps)
  placed ps h =
      let ts : ChainTrees = record {
        context = ps.0.0.0;
        left = ps.0.0.1.0;
        right = ps.0.0.1.1;
        low_left = ps.0.1.0;
        low_right = ps.0.1.1;
        children = ps.1;
      } in
      let are : AreOf rules (IsContext g) (AreTrees g) ts = record {
        around = h.0.0.0;
        left = h.0.0.1.0;
        right = h.0.0.1.1;
        low_left = h.0.1.0;
        low_right = h.0.1.1;
        children = h.1;
      } in
      (whole_of c ts, whole_met ts are, omega (arith, whole_size w c ts))

  apart : (t : Tree) → IsMet g c t → (ps : ((Context × (Forest × Forest)) × (Forest × Forest)) × Forest) × ArePlaced ps × (placed_size ps ≤ size w t)
  apart t h =
      let v = parted t h in
      let ts = v.trees in
      let are = v.are in (
        (((ts.context, (ts.left, ts.right)), (ts.low_left, ts.low_right)), ts.children),
        (((are.around, (are.left, are.right)), (are.low_left, are.low_right)), are.children),
        omega (arith, v.measure),
      )

  -- a least tree that meets the chain is of least parts
  pub chain_cost : (a l s m n b : Cost) → IsCost w.limit (IsContextOf g rules.outer.left) (context_size w) a → IsCost w.limit (AreTrees g rules.before) (sizes w) l → IsCost w.limit (AreTrees g rules.behind) (sizes w) s → IsCost w.limit (AreTrees g rules.low_before) (sizes w) m → IsCost w.limit (AreTrees g rules.low_behind) (sizes w) n → IsCost w.limit (AreTrees g rules.inner.right) (sizes w) b → IsCost w.limit (IsMet g c) (size w) (plus w.limit (plus w.limit (plus w.limit a (plus w.limit (cost_of w.limit 1) (plus w.limit l s))) (plus w.limit (cost_of w.limit 1) (plus w.limit m n))) (plus w.limit (cost_of w.limit 1) b))
  chain_cost a l s m n b around lefts rights low_lefts low_rights children =
      let one = cost_of w.limit 1 in
      let high_cost = plus w.limit one (plus w.limit l s) in
      let low_cost = plus w.limit one (plus w.limit m n) in
      let high = siblings_exact w g rules.before rules.behind l s lefts rights in
      let low = siblings_exact w g rules.low_before rules.low_behind m n low_lefts low_rights in
      let node = IsCost-more w.limit (AreTrees g rules.inner.right) (sizes w) b children in
      let first = IsCost-plus w.limit (IsContextOf g rules.outer.left) (AreSiblings g rules.before rules.behind) (context_size w) (siblings_size w) a high_cost around high in
      let second = IsCost-plus w.limit (λ (u : Context × (Forest × Forest)). IsContextOf g rules.outer.left u.0 × AreSiblings g rules.before rules.behind u.1) (AreSiblings g rules.low_before rules.low_behind)
      (λ (u : Context × (Forest × Forest)). context_size w u.0 + siblings_size w u.1) (siblings_size w) (plus w.limit a high_cost) low_cost first low in
      let all = IsCost-plus w.limit (λ (u : (Context × (Forest × Forest)) × (Forest × Forest)). (IsContextOf g rules.outer.left u.0.0 × AreSiblings g rules.before rules.behind u.0.1) × AreSiblings g rules.low_before rules.low_behind u.1) (AreTrees g rules.inner.right)
      (λ (u : (Context × (Forest × Forest)) × (Forest × Forest)). context_size w u.0.0 + siblings_size w u.0.1 + siblings_size w u.1) (λ f. 1 + sizes w f) (plus w.limit (plus w.limit a high_cost) low_cost) (plus w.limit one b) second node in
      IsCost-same w.limit ArePlaced (IsMet g c) placed_size (size w) (plus w.limit (plus w.limit (plus w.limit a high_cost) low_cost) (plus w.limit one b)) placed apart all
