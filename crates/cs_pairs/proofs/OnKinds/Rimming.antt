-- A tree with a token at a side of its yield, and the way of its rim: from the token's leaf to the root.
use Rattle.std.proofs.Common.{◌≡◌, ℕ, zero, suc, ◌+◌, ◌-◌, ◌<◌, ◌≤◌, List, [], ◌∷◌, ◌++◌, ◌⊎◌, Some, length, get_or, refl, sym, ap, ◌∙◌, subst, ⊎_elim, inl, arith, append_assoc, append-nil}
use Rattle.std.specs.Prelude.{slice_get, Contains}
use Rattle.std.proofs.lemmas.Option.{slice_get_within, slice_get_read, slice_get-get_or, get_or_from_slice_get}
use Rattle.cs_grammar.specs.declared.symbol.Symbol.{Symbol}
use Rattle.cs_grammar.specs.declared.symbol.Symbol.TheVariants.{Token, Nonterminal}
use Rattle.cs_grammar.specs.Grammar.{Production, PlainGrammar, IsRule, IsNumberOf, IsSymbolOf, IsGrammar}
use Rattle.cs_grammar.specs.Places.{SymbolAt}
use Rattle.cs_grammar.specs.Weights.{Measure, number}
use Rattle.cs_grammar.specs.Tree.{Tree, Leaf, Node, Forest, Bare, Grown, IsTree, AreTrees, size, sizes, yield, yields}
use Rattle.cs_grammar.specs.Context.{join}
use Rattle.cs_grammar.proofs.Forests.{AreTrees-join, sizes-join, yields-join}
use Rattle.cs_least.specs.Cost.Rank.{capped}
use Rattle.cs_least.proofs.OnCost.Ranks.{cost_low, cost_reached}
use Rattle.cs_least.specs.Embed.Embeds.{siblings_size}
use Rattle.cs_least.proofs.OnEmbed.Steps.{same_place}
use Rattle.cs_least.specs.declared.ways.step.Step.{Step}
use Rattle.cs_least.specs.declared.ways.step.Source.{Source}
use Rattle.cs_least.specs.Ways.Ways.{Net, Way, Begin, On, IsWay, way_cost}
use Rattle.cs_pairs.specs.declared.kinds.kind.TreeKind.TheVariants.{Empty, Begins, Ends}
use Rattle.cs_pairs.specs.declared.kinds.side.Side.{Side}
use Rattle.cs_pairs.specs.declared.kinds.side.Side.TheVariants.{First, Last}
use Rattle.cs_least.specs.declared.embed.inwards.RulePlace.{RulePlace}
use Rattle.cs_pairs.specs.Kinds.Kinds.{IsOfKind, IsTreeOfKind, AreTreesOfKind}
use Rattle.cs_pairs.specs.Kinds.Numbers.{symbol_number}
use Rattle.cs_pairs.specs.Kinds.Sides.{kind_on, before_on, behind_on}
use Rattle.cs_pairs.specs.Kinds.Rims.{AreBeside, IsRim, AreRims}
use Rattle.cs_pairs.proofs.OnKinds.Joined.{joined_cases, joined_here, joined_later}
use Rattle.cs_pairs.proofs.OnKinds.Numbers.{same_number, rule_symbol, rule_left}

-- what the kinds of a side hold of lists of tokens
none_on : (side : Side) (t : ℕ) → IsOfKind (kind_on side t) [] → ⊥
none_on First t h = let e = h.1 in absurd cc
none_on Last t ([], e) = absurd cc
none_on Last t (x ∷ rest, e) = absurd cc

leaf_on : (side : Side) (t s : ℕ) → IsOfKind (kind_on side t) (s ∷ []) → s ≡ t
leaf_on First t s h = let e = h.1 in cc
leaf_on Last t s ([], e) = cc
leaf_on Last t s (x ∷ [], e) = absurd cc
leaf_on Last t s (x ∷ y ∷ rest, e) = absurd cc

on_leaf : (side : Side) (t : ℕ) → IsOfKind (kind_on side t) (t ∷ [])
on_leaf First t = ([], refl)
on_leaf Last t = ([], refl)

pub node_on : (side : Side) (t : ℕ) (u v z : List ℕ) → IsOfKind (before_on side) u → IsOfKind (kind_on side t) v → IsOfKind (behind_on side) z → IsOfKind (kind_on side t) (u ++ (v ++ z))
node_on First t u v z hu hv hz = joined_later (Begins t) u (v ++ z) hu (joined_here (Begins t) v z hv hz)
node_on Last t u v z hu hv hz = joined_later (Ends t) u (v ++ z) hu (joined_here (Ends t) v z hv hz)

before_bare : (side : Side) → IsOfKind (before_on side) []
before_bare First = refl
before_bare Last = tt

before_joined : (side : Side) (u v : List ℕ) → IsOfKind (before_on side) u → IsOfKind (before_on side) v → IsOfKind (before_on side) (u ++ v)
before_joined First u v hu hv = joined_here Empty u v hu hv
before_joined Last u v hu hv = tt

-- the first part has the token at the side, or the second has
cases_on : (side : Side) (t : ℕ) (u v : List ℕ) → IsOfKind (kind_on side t) (u ++ v) → (IsOfKind (kind_on side t) u × IsOfKind (behind_on side) v) ⊎ (IsOfKind (before_on side) u × IsOfKind (kind_on side t) v)
cases_on First t u v h = joined_cases (Begins t) u v h
cases_on Last t u v h = joined_cases (Ends t) u v h

pub get_contained : {X : Type 0} (xs : List X) (x : X) → (has : Contains xs x) → slice_get xs has.0 ≡ Some x
get_contained xs x has = slice_get_read xs (length xs) has.0 x refl has.1 (sym has.2)

pub contained_get : {X : Type 0} (xs : List X) (i : ℕ) (x : X) → slice_get xs i ≡ Some x → Contains xs x
contained_get xs i x at = (i, slice_get_within xs i x at, get_or_from_slice_get xs i x x at)

module _ (w : Measure) (g : PlainGrammar) (side : Side) (grammar : IsGrammar g) (net : Net) (places : List RulePlace) (rims : AreRims w g side places net.steps) where
  -- the step by which a child's way goes on to its node
  pub record StepAt (r : ℕ) (p : Production) (xs : List Symbol) (x : Symbol) (ys : List Symbol) (fs : Forest × Forest) : Type 0 where
    pub index : ℕ
    pub place : RulePlace
    pub step : Step
    pub placed : slice_get places index ≡ Some place
    pub is_step : slice_get net.steps index ≡ Some step
    pub rule : place.rule ≡ r
    pub place_is : place.place ≡ length xs
    pub from : step.from ≡ symbol_number g.tokens x
    pub to : step.to ≡ g.tokens + p.left
    pub cost : step.cost ≤ capped w.limit (siblings_size w fs)

  pub step_at : (r : ℕ) (p : Production) (xs : List Symbol) (x : Symbol) (ys : List Symbol) (fs : Forest × Forest) → IsRule g r p → p.right ≡ xs ++ x ∷ ys → AreBeside g side xs ys fs → StepAt r p xs x ys fs
  step_at r p xs x ys fs rule e beside =
      let last : r < length g.rules + 1 = omega (arith, slice_get_within g.rules (r - 1) p rule.at) in
      let here : SymbolAt g r (length xs) = record { production = p; before = xs; symbol = x; behind = ys; number = rule; right = e; placed = refl } in
      let v = rims.every r (length xs) (record { here = here; beside = fs; are = beside }) (inl last) in
      let rim = (rims.each v.0 v.1 v.2 v.3 v.4).0 in
      let same = same_place g v.1.rule v.1.place r (length xs) v.5 v.6 rim.here here in
      let beside' : AreBeside g side rim.here.before rim.here.behind fs = (
        subst (λ (l : List Symbol). AreTreesOfKind g (before_on side) l fs.0) (sym same.before) beside.0,
        subst (λ (l : List Symbol). AreTreesOfKind g (behind_on side) l fs.1) (sym same.behind) beside.1,
      ) in
      let low = cost_low w.limit (AreBeside g side rim.here.before rim.here.behind) (siblings_size w) rim.others rim.is_others fs beside' in
      record {
        index = v.0;
        place = v.1;
        step = v.2;
        placed = v.3;
        is_step = v.4;
        rule = v.5;
        place_is = v.6;
        from = rim.from ∙ ap (symbol_number g.tokens) same.symbol;
        to = rim.to ∙ ap (λ (o : Production). g.tokens + o.left) same.production;
        cost = omega (arith, rim.cost, low);
      }

  module _ (t : ℕ) (source : Source) (begins : source.node ≡ t) (leaf : source.cost ≡ number w t) (fits : IsNumberOf g.tokens t) where
    abbrev sources : List Source
    sources = source ∷ []

    -- a way to a node that costs no more than this, where neither is above the limit
    pub record WayTo (n c : ℕ) : Type 0 where
      pub way : Way
      pub is_way : IsWay net (source ∷ []) n way
      pub cost : capped w.limit (way_cost way) ≤ capped w.limit c

    pub way_on : (r : ℕ) (p : Production) (xs : List Symbol) (x : Symbol) (ys : List Symbol) (fs : Forest × Forest) (c : ℕ) → StepAt r p xs x ys fs → WayTo (symbol_number g.tokens x) c → WayTo (g.tokens + p.left) (siblings_size w fs + c)
    way_on r p xs x ys fs c s v = record {
      way = On v.way s.step;
      is_way = (contained_get net.steps s.index s.step s.is_step, s.to, subst (λ m. IsWay net (source ∷ []) m v.way) (sym s.from) v.is_way);
      cost = omega (arith, s.cost, v.cost);
    }

    mutual
      pub way_of_tree : (u : Tree) (x : Symbol) → IsTree g x u → IsOfKind (kind_on side t) (yield u) → WayTo (symbol_number g.tokens x) (size w u)
      way_of_tree (Leaf s) x h of =
          let same = leaf_on side t s of in
          let is_x : symbol_number g.tokens x ≡ t = ap (symbol_number g.tokens) h ∙ same in
          record { way = Begin 0 source; is_way = (refl, begins ∙ sym is_x); cost = omega (arith, leaf, ap (number w) same) }
      way_of_tree (Node r f) x h of =
          let v = way_among f h.0.right r h.0 [] Bare h.1 refl (tt, before_bare side) h.3 of in
          let e : 1 + (sizes w Bare + sizes w f) ≡ size w (Node r f) = omega arith in
          subst (λ m. WayTo m (size w (Node r f))) (sym (ap (symbol_number g.tokens) h.2)) (subst (λ c. WayTo (g.tokens + h.0.left) c) e v)

      way_among : (f : Forest) (ys : List Symbol) (r : ℕ) (p : Production) (xs : List Symbol) (left : Forest) → IsRule g r p → p.right ≡ xs ++ ys → AreTreesOfKind g (before_on side) xs left → AreTrees g ys f → IsOfKind (kind_on side t) (yields f) → WayTo (g.tokens + p.left) (1 + (sizes w left + sizes w f))
      way_among Bare ys r p xs left rule e hl hf of = absurd (none_on side t of)
      way_among (Grown u f) [] r p xs left rule e hl hf of = absurd hf
      way_among (Grown u f) (y ∷ ys) r p xs left rule e hl hf of =
          ⊎_elim
          (λ here.
          let s = step_at r p xs y ys (left, f) rule e (hl, (hf.1, here.1)) in
          let v = way_on r p xs y ys (left, f) (size w u) s (way_of_tree u y hf.0 here.0) in
          let same : siblings_size w (left, f) + size w u ≡ 1 + (sizes w left + sizes w (Grown u f)) = omega arith in
          subst (λ c. WayTo (g.tokens + p.left) c) same v)
          (λ later.
          let before = join left (Grown u Bare) in
          let are = AreTrees-join g left (Grown u Bare) xs (y ∷ []) hl.0 (hf.0, tt) in
          let one : yields (Grown u Bare) ≡ yield u = append-nil (yield u) in
          let of_kind : IsOfKind (before_on side) (yields before) = subst (IsOfKind (before_on side)) (sym (yields-join left (Grown u Bare) ∙ ap (λ (l : List ℕ). yields left ++ l) one)) (before_joined side (yields left) (yield u) hl.1 later.0) in
          let v = way_among f ys r p (xs ++ y ∷ []) before rule (e ∙ sym (append_assoc xs (y ∷ []) ys)) (are, of_kind) hf.1 later.1 in
          let same : 1 + (sizes w before + sizes w f) ≡ 1 + (sizes w left + sizes w (Grown u f)) = omega (arith, sizes-join w left (Grown u Bare)) in
          subst (λ c. WayTo (g.tokens + p.left) c) same v)
          (cases_on side t (yield u) (yields f) of)

    one_source : (i : ℕ) (s : Source) → slice_get (source ∷ []) i ≡ Some s → source ≡ s
    one_source zero s e = cc
    one_source (suc i) s e = absurd cc

    -- a tree of a symbol that is no larger than this, where neither is above the limit
    pub record TreeOf (x : Symbol) (c : ℕ) : Type 0 where
      pub tree : Tree
      pub is_tree : IsTreeOfKind g (kind_on side t) x tree
      pub cost : capped w.limit (size w tree) ≤ capped w.limit c

    leaf_tree : (x : Symbol) (c : ℕ) → IsSymbolOf g x → symbol_number g.tokens x ≡ t → number w t ≡ c → TreeOf x c
    leaf_tree (Token s) c xf e is_c =
        record { tree = Leaf t; is_tree = (ap Token e, on_leaf side t); cost = omega (arith, is_c) }
    leaf_tree (Nonterminal m) c xf e is_c = absurd (omega (arith, xf, e, fits))

    -- a node with such a child
    pub tree_on : (a : RulePlace) (s : Step) (c : ℕ) → (rim : IsRim w g side a s) → TreeOf rim.here.symbol c → (f h : Forest) × (u : Tree) × IsTreeOfKind g (kind_on side t) (Nonterminal rim.here.production.left) (Node a.rule (join f (Grown u h))) × (capped w.limit (size w (Node a.rule (join f (Grown u h)))) ≤ capped w.limit (c + s.cost))
    tree_on a s c rim below =
        let fs = cost_reached w.limit (AreBeside g side rim.here.before rim.here.behind) (siblings_size w) rim.others rim.is_others rim.low in
        let u = below.tree in
        let are = AreTrees-join g fs.0.0 (Grown u fs.0.1) rim.here.before (rim.here.symbol ∷ rim.here.behind) fs.1.0.0 (below.is_tree.0, fs.1.1.0) in
        let of_kind = node_on side t (yields fs.0.0) (yield u) (yields fs.0.1) fs.1.0.1 below.is_tree.1 fs.1.1.1 in (
          fs.0.0,
          fs.0.1,
          u,
          (
            (rim.here.production, rim.here.number, refl, subst (λ (l : List Symbol). AreTrees g l (join fs.0.0 (Grown u fs.0.1))) (sym rim.here.right) are),
            subst (IsOfKind (kind_on side t)) (sym (yields-join fs.0.0 (Grown u fs.0.1))) of_kind,
          ),
          omega (arith, sizes-join w fs.0.0 (Grown u fs.0.1), fs.2, rim.cost, below.cost),
        )

    pub tree_of_way : (v : Way) (n : ℕ) → IsWay net (source ∷ []) n v → (x : Symbol) → IsSymbolOf g x → symbol_number g.tokens x ≡ n → TreeOf x (way_cost v)
    tree_of_way (Begin i s) n is x xf e =
        let same = one_source i s is.0 in
        leaf_tree x s.cost xf (e ∙ sym is.1 ∙ ap (λ (z : Source). z.node) (sym same) ∙ begins) (sym leaf ∙ ap (λ (z : Source). z.cost) same)
    tree_of_way (On v s) n is x xf e =
        let at = get_contained net.steps s is.0 in
        let i = is.0.0 in
        let a = place_of i s at in
        let rim = (rims.each i a.0 s a.1 at).0 in
        let below = tree_of_way v s.from is.2 rim.here.symbol (rule_symbol g a.0.rule rim.here.production rim.here.before rim.here.symbol rim.here.behind grammar rim.here.number rim.here.right) (sym rim.from) in
        let node = tree_on a.0 s (way_cost v) rim below in
        let is_x : x ≡ Nonterminal rim.here.production.left = same_number g x (Nonterminal rim.here.production.left) xf (rule_left g a.0.rule rim.here.production grammar rim.here.number) (e ∙ sym is.1 ∙ rim.to) in
        record {
          tree = Node a.0.rule (join node.0 (Grown node.2 node.1));
          is_tree = subst (λ y. IsTreeOfKind g (kind_on side t) y (Node a.0.rule (join node.0 (Grown node.2 node.1)))) (sym is_x) node.3;
          cost = node.4;
        }
      where
        place_of : (i : ℕ) (s : Step) → slice_get net.steps i ≡ Some s → (a : RulePlace) × (slice_get places i ≡ Some a)
        place_of i s at =
            let within : i < length places = omega (arith, rims.many, slice_get_within net.steps i s at) in
            let d : RulePlace = record { rule = 0; place = 0 } in
            (get_or places i d, slice_get-get_or places i d within)
