-- The walk that makes an order.
use Rattle.std.proofs.Common.{◌≡◌, ◌≢◌, ◌⊎◌, ℕ, zero, suc, ◌+◌, ◌-◌, ◌<◌, ◌≤◌, Bool, true, false, List, [], ◌∷◌, ◌++◌, length, get_or, refl, sym, ap, ◌∙◌, subst, arith, inl, inr, append_assoc}
use Rattle.std.specs.Prelude.{All, Contains, Some, slice_get}
use Rattle.std.specs.Global.{Vec}
use Rattle.std.proofs.Math.ListN.{set, length-set}
use Rattle.std.proofs.lemmas.Bool.{cases_eq, false≢true}
use Rattle.std.proofs.lemmas.List.{map_push}
use Rattle.std.proofs.lemmas.List.Elements.{All-nil, All-push, All-pop, All-weaker, Contains-append_left, Contains-append_cases, Contains-push}
use Rattle.std.proofs.lemmas.List.Sums.{sum_by-append}
use Rattle.std.proofs.lemmas.Option.{slice_get_within}
use Rattle.cs_graph.specs.declared.ordering.Open.{Open}
use Rattle.cs_graph.specs.declared.ordering.Walk.{Walk}
use Rattle.cs_graph.specs.Graph.{Edge, Path, edge, IsOrder, HasCycle}
use Rattle.cs_graph.specs.Marks.{IsMarked}
use Rattle.cs_graph.specs.Walk.{nodes, IsTrail, IsLookedAt, IsWalk, IsWalkWith, unopened, work}
use Rattle.cs_graph.proofs.Counting.{marked_there, marked_still, marked_before, unmarked_not}
use Rattle.cs_graph.proofs.Single.{contained_alone, contains_none}
use Rattle.cs_graph.proofs.Edges.{path_then_edge, edge_to}
use Rattle.cs_graph.proofs.Pushing.{split_last, not_nil, partial_push}

-- ---- lists

any_default : (xs : List ℕ) (k a b : ℕ) → k < length xs → get_or xs k a ≡ get_or xs k b
any_default [] k a b lt = absurd (omega arith)
any_default (x ∷ xs) zero a b lt = refl
any_default (x ∷ xs) (suc k) a b lt = any_default xs k a b (omega arith)

contained_at : (xs : List ℕ) (x : ℕ) → Contains xs x → (k : ℕ) × (k < length xs) × (get_or xs k 0 ≡ x)
contained_at xs x (k, lt, e) = (k, lt, any_default xs k 0 x lt ∙ e)

-- ---- steps that are left

pub unopened-set : (marks : List Bool) (graph : List (Vec ℕ)) (i : ℕ) (row : Vec ℕ) → get_or marks i false ≡ false → i < length marks → slice_get graph i ≡ Some row → unopened (set marks i true) graph + (length row.items + 2) ≡ unopened marks graph
unopened-set [] graph i row e lt is = absurd (omega arith)
unopened-set (b ∷ marks) [] i row e lt is = absurd cc
unopened-set (true ∷ marks) (v ∷ graph) zero row e lt is = absurd (false≢true (sym e))
unopened-set (false ∷ marks) (v ∷ graph) zero row e lt is = let same : v ≡ row = cc in ap (λ (w : Vec ℕ). unopened marks graph + (length w.items + 2)) (sym same)
unopened-set (true ∷ marks) (v ∷ graph) (suc i) row e lt is = unopened-set marks graph i row e (omega arith) is
unopened-set (false ∷ marks) (v ∷ graph) (suc i) row e lt is = let h = unopened-set marks graph i row e (omega arith) is in omega (arith, h)

pub work-push : (graph : List (Vec ℕ)) (marks : List Bool) (path : List Open) (o : Open) → work graph marks (path ++ o ∷ []) ≡ work graph marks path + (o.left + 1)
work-push graph marks path o = omega (arith, sum_by-append (λ (p : Open). p.left + 1) path (o ∷ []))

-- ---- trails

module _ (graph : List (Vec ℕ)) where
  trail_front : (xs : List ℕ) (x : ℕ) → IsTrail graph (xs ++ x ∷ []) → IsTrail graph xs
  trail_front xs x t = λ before after node is i h. t before (after ++ x ∷ []) node (ap (λ (zs : List ℕ). zs ++ x ∷ []) is ∙ append_assoc before (node ∷ after) (x ∷ [])) i h

  -- by way of the last node
  through : (xs : List ℕ) (x to : ℕ) → IsTrail graph (xs ++ x ∷ []) → Edge graph x to → (i : ℕ) → Contains (xs ++ x ∷ []) i → Path graph i to
  through xs x to t e i h = elim (Contains-append_cases xs (x ∷ []) i h) [
    | inl before ↦ path_then_edge graph i x to (t xs [] x refl i before) e
    | inr here ↦ edge i to (subst (λ n. Edge graph n to) (sym (contained_alone x i here)) e)
  ]

  trail_push : (xs : List ℕ) (x to : ℕ) → IsTrail graph (xs ++ x ∷ []) → Edge graph x to → IsTrail graph ((xs ++ x ∷ []) ++ to ∷ [])
  trail_push xs x to t e = λ before after node is i h. elim (split_last (xs ++ x ∷ []) before after to node is) [
    | inl last ↦ subst (λ n. Path graph i n) (sym last.1) (through xs x to t e i (subst (λ (zs : List ℕ). Contains zs i) last.0 h))
    | inr inner ↦ t before inner.0 node inner.1 i h
  ]

  trail_one : (x : ℕ) → IsTrail graph (x ∷ [])
  trail_one x = λ before after node is i h. elim (split_last [] before after x node is) [
    | inl last ↦ absurd (contains_none i (subst (λ (zs : List ℕ). Contains zs i) last.0 h))
    | inr inner ↦ absurd (not_nil before inner.0 node inner.1)
  ]

  -- ---- nodes that are looked at

  looked_more : (r s : List Bool) → ((i : ℕ) → IsMarked r i → IsMarked s i) → (o : Open) → IsLookedAt graph r o → IsLookedAt graph s o
  looked_more r s more o l = record { successors = l.successors; is = l.is; left = l.left; done = λ k le lt. more (get_or l.successors.items k 0) (l.done k le lt) }

  all_done : (r : List Bool) (o : Open) → IsLookedAt graph r o → o.left ≡ 0 → (to : ℕ) → Edge graph o.node to → IsMarked r to
  all_done r o l z to e =
      let at = contained_at l.successors.items to (edge_to graph o.node l.successors to l.is e) in
      subst (IsMarked r) at.2 (l.done at.0 (omega (arith, z)) at.1)

  -- ---- the beginning and the end

  pub begins : (ready seen : List Bool) (order : List ℕ) (root : Open) (row : Vec ℕ) → IsWalk graph ready seen [] order → slice_get graph root.node ≡ Some row → root.left ≡ length row.items → IsWalk graph ready (set seen root.node true) (root ∷ []) order
  begins ready seen order root row w is all = record {
    partial = w.partial;
    size = length-set seen root.node true ∙ w.size;
    opened = λ i h. elim (marked_before seen root.node i h) [
      | inl before ↦ elim (w.opened i before) [ inl marked ↦ inl marked | inr there ↦ absurd (contains_none i there) ]
      | inr here ↦ inr (subst (Contains (root.node ∷ [])) (sym here) (Contains-push [] root.node))
    ];
    trail = trail_one root.node;
    looked = All-push (IsLookedAt graph ready) [] root (All-nil (IsLookedAt graph ready)) (record {
      successors = row;
      is = is;
      left = omega (arith, all);
      done = λ k le lt. absurd (omega (arith, le, lt, all));
    });
  }

  pub all_walked : (ready seen : List Bool) (order : List ℕ) → IsWalk graph ready seen [] order → ((i : ℕ) → i < length graph → IsMarked seen i) → IsOrder graph order
  all_walked ready seen order w all = record {
    all = λ i lt. elim (w.opened i (all i lt)) [ inl marked ↦ w.partial.listed i marked | inr there ↦ absurd (contains_none i there) ];
    ordered = w.partial.ordered;
  }

  -- ---- a step

  module _ (walk : Walk) (last : Open) (w : IsWalkWith graph walk last) where
    abbrev ready : List Bool
    ready = walk.ready.items

    abbrev seen : List Bool
    seen = walk.seen.items

    abbrev path : List Open
    path = walk.path.items

    abbrev order : List ℕ
    order = walk.order.items

    looked_both : All (IsLookedAt graph ready) path × IsLookedAt graph ready last
    looked_both = All-pop (IsLookedAt graph ready) (path ++ last ∷ []) path (Some last) refl w.looked

    last_looked : IsLookedAt graph ready last
    last_looked = looked_both.1

    pub last_within : last.node < length graph
    last_within = slice_get_within graph last.node last_looked.successors last_looked.is

    trail_of : IsTrail graph (nodes path ++ last.node ∷ [])
    trail_of = subst (IsTrail graph) (map_push (λ (o : Open). o.node) path last) w.trail

    opened_of : (i : ℕ) → IsMarked seen i → IsMarked ready i ⊎ Contains (nodes path ++ last.node ∷ []) i
    opened_of i h = subst (λ (xs : List ℕ). IsMarked ready i ⊎ Contains xs i) (map_push (λ (o : Open). o.node) path last) (w.opened i h)

    -- the last node goes into the order
    pub closes : last.left ≡ 0 → get_or ready last.node false ≡ false → IsWalk graph (set ready last.node true) seen path (order ++ last.node ∷ [])
    closes z e =
        let lt = last_within in
        let still = λ (i : ℕ) (h : IsMarked ready i). marked_still ready last.node i h in
        record {
          partial = partial_push graph ready order last.node w.partial lt e (all_done ready last last_looked z);
          size = w.size;
          opened = λ i h. elim (opened_of i h) [
            | inl marked ↦ inl (still i marked)
            | inr there ↦ elim (Contains-append_cases (nodes path) (last.node ∷ []) i there) [
              | inl before ↦ inr before
              | inr here ↦ inl (subst (IsMarked (set ready last.node true)) (sym (contained_alone last.node i here)) (marked_there ready last.node (omega (arith, lt, w.partial.size))))
            ]
          ];
          trail = trail_front (nodes path) last.node trail_of;
          looked = All-weaker (IsLookedAt graph ready) (IsLookedAt graph (set ready last.node true)) (looked_more ready (set ready last.node true) still) path looked_both.0;
        }

    -- it is in the order already
    pub closed_before : IsMarked ready last.node → IsWalk graph ready seen path order
    closed_before e = record {
      partial = w.partial;
      size = w.size;
      opened = λ i h. elim (opened_of i h) [
        | inl marked ↦ inl marked
        | inr there ↦ elim (Contains-append_cases (nodes path) (last.node ∷ []) i there) [
          | inl before ↦ inr before
          | inr here ↦ inl (subst (IsMarked ready) (sym (contained_alone last.node i here)) e)
        ]
      ];
      trail = trail_front (nodes path) last.node trail_of;
      looked = looked_both.0;
    }

    module _ (row : Vec ℕ) (row_is : slice_get graph last.node ≡ Some row) (some : last.left ≢ 0) where
      same_row : last_looked.successors ≡ row
      same_row = let e = last_looked.is in cc

      pub left_within : last.left - 1 < length row.items
      left_within = let le : last.left ≤ length row.items = subst (λ (v : Vec ℕ). last.left ≤ length v.items) same_row last_looked.left in omega (arith, le, some)

      module _ (to : ℕ) (to_is : to ≡ get_or row.items (last.left - 1) 0) where
        pub edge_is : Edge graph last.node to
        edge_is = record { successors = row; is = row_is; has = (last.left - 1, left_within, any_default row.items (last.left - 1) to 0 left_within ∙ sym to_is) }

        -- its successor is in the order
        pub looks_on : (next : Open) → next.node ≡ last.node → next.left ≡ last.left - 1 → IsMarked ready to → IsWalk graph ready seen (path ++ next ∷ []) order
        looks_on next same less e =
            let list : nodes (path ++ next ∷ []) ≡ nodes path ++ last.node ∷ [] = map_push (λ (o : Open). o.node) path next ∙ ap (λ n. nodes path ++ n ∷ []) same in
            record {
              partial = w.partial;
              size = w.size;
              opened = λ i h. subst (λ (xs : List ℕ). IsMarked ready i ⊎ Contains xs i) (sym list) (opened_of i h);
              trail = subst (IsTrail graph) (sym list) trail_of;
              looked = All-push (IsLookedAt graph ready) path next looked_both.0 (record {
                successors = row;
                is = ap (slice_get graph) same ∙ row_is;
                left = omega (arith, left_within, less);
                done = λ k le lt. elim (cases_eq k (last.left - 1)) [
                  | inl here ↦ subst (IsMarked ready) (to_is ∙ ap (λ j. get_or row.items j 0) (sym here)) e
                  | inr other ↦
                      subst (λ (v : Vec ℕ). IsMarked ready (get_or v.items k 0)) same_row
                      (last_looked.done k (omega (arith, le, less, other)) (subst (λ (v : Vec ℕ). k < length v.items) (sym same_row) lt))
                ];
              });
            }

        -- its successor is on the path
        pub reaches_itself : IsMarked seen to → get_or ready to false ≡ false → HasCycle graph
        reaches_itself s e = elim (opened_of to s) [
          | inl marked ↦ absurd (unmarked_not ready to e marked)
          | inr there ↦ (to, through (nodes path) last.node to trail_of edge_is to there)
        ]

        -- its successor is opened
        pub goes_on : (child : Open) (row_then : Vec ℕ) → child.node ≡ to → slice_get graph to ≡ Some row_then → child.left ≡ length row_then.items → IsWalk graph ready (set seen to true) ((path ++ last ∷ []) ++ child ∷ []) order
        goes_on child row_then same is all =
            let list : nodes ((path ++ last ∷ []) ++ child ∷ []) ≡ (nodes path ++ last.node ∷ []) ++ to ∷ [] =
            map_push (λ (o : Open). o.node) (path ++ last ∷ []) child ∙ ap (λ (xs : List ℕ). xs ++ child.node ∷ []) (map_push (λ (o : Open). o.node) path last) ∙ ap (λ n. (nodes path ++ last.node ∷ []) ++ n ∷ []) same in
            record {
              partial = w.partial;
              size = length-set seen to true ∙ w.size;
              opened = λ i h. subst (λ (xs : List ℕ). IsMarked ready i ⊎ Contains xs i) (sym list) (elim (marked_before seen to i h) [
                | inl before ↦ elim (opened_of i before) [ inl marked ↦ inl marked | inr there ↦ inr (Contains-append_left (nodes path ++ last.node ∷ []) (to ∷ []) i there) ]
                | inr here ↦ inr (subst (Contains ((nodes path ++ last.node ∷ []) ++ to ∷ [])) (sym here) (Contains-push (nodes path ++ last.node ∷ []) to))
              ]);
              trail = subst (IsTrail graph) (sym list) (trail_push (nodes path) last.node to trail_of edge_is);
              looked = All-push (IsLookedAt graph ready) (path ++ last ∷ []) child w.looked (record {
                successors = row_then;
                is = ap (slice_get graph) same ∙ is;
                left = omega (arith, all);
                done = λ k le lt. absurd (omega (arith, le, lt, all));
              });
            }

-- ---- what was read

pub marked_read : (xs : List Bool) (i : ℕ) (r : Bool) → i < length xs → r ≡ get_or xs i r → get_or xs i false ≡ r
marked_read [] i r lt e = absurd (omega arith)
marked_read (x ∷ xs) zero r lt e = sym e
marked_read (x ∷ xs) (suc i) r lt e = marked_read xs i r (omega arith) e

pub number_read : (xs : List ℕ) (k n : ℕ) → k < length xs → n ≡ get_or xs k n → n ≡ get_or xs k 0
number_read xs k n lt e = e ∙ any_default xs k n 0 lt
