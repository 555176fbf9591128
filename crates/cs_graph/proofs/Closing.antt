-- The last group is closed, and what holds when all are.
use Rattle.std.proofs.Common.{◌≡◌, ◌⊎◌, ℕ, ◌<◌, ◌≤◌, List, [], ◌∷◌, ◌++◌, length, take, drop, map, get_or, refl, sym, ap, ◌∙◌, subst, arith, inl, inr, length-append}
use Rattle.std.specs.Prelude.{Some, Contains, slice_get}
use Rattle.std.specs.Global.{Vec}
use Rattle.std.proofs.Math.ListN.{set, length-set}
use Rattle.std.proofs.lemmas.Bool.{cases_lt}
use Rattle.std.proofs.lemmas.List.{length-map, length-take-le}
use Rattle.std.proofs.lemmas.List.Elements.{Contains-append_left, Contains-push, Contains-push_cases, Contains-append_cases}
use Rattle.std.proofs.lemmas.Option.{slice_get_within, slice_get-get_or, get_or_from_slice_get, slice_get-map}
use Rattle.cs_graph.specs.declared.component.State.{State}
use Rattle.cs_graph.specs.declared.component.State.TheVariants.{New, Open, Closed}
use Rattle.cs_graph.specs.declared.component.Group.{Group}
use Rattle.cs_graph.specs.declared.component.Search.{Search}
use Rattle.cs_graph.specs.Graph.{Path, edge, longer, Leads, AreComponents}
use Rattle.cs_graph.specs.Groups.{number, IsNew, IsFound, is_closed, is_behind, is_pending, IsSearch, AreNumbered, IsSearchWith, IsClosed, IsStep}
use Rattle.cs_graph.proofs.Single.{contained_alone, contains_none}
use Rattle.cs_graph.proofs.Gets.{get_taken, get_take, get_dropped, get_drop, get_set, get_before, get_still}
use Rattle.cs_graph.proofs.Grouping.{at_most_last, rising_front, same_search, unopened-fewer}

-- ---- the numbering of nodes

pub none_numbered : (states : List State) (n : ℕ) → AreNumbered states [] n states
none_numbered states n = record {
  size = refl;
  now = λ x h. absurd (contains_none x h);
  old = λ x s h. inl h;
  still = λ x s h. inl h;
}

pub one_numbered : (states then : List State) (nodes : List ℕ) (n node : ℕ) → AreNumbered states nodes n then → node < length then → AreNumbered states (nodes ++ node ∷ []) n (set then node (Closed n))
one_numbered states then nodes n node a lt = record {
  size = length-set then node (Closed n) ∙ a.size;
  now = λ x h.
      let there = get_set then node (Closed n) lt in
      elim (Contains-append_cases nodes (node ∷ []) x h) [
        | inl before ↦ elim (get_still then node x (Closed n) (Closed n) (a.now x before)) [
          | inl still ↦ still
          | inr here ↦ subst (λ i. slice_get (set then node (Closed n)) i ≡ Some (Closed n)) (sym here) there
        ]
        | inr last ↦ subst (λ i. slice_get (set then node (Closed n)) i ≡ Some (Closed n)) (sym (contained_alone node x last)) there
      ];
  old = λ x s h. elim (get_before then node x (Closed n) s h) [
    | inl before ↦ elim (a.old x s before) [
      | inl first ↦ inl first
      | inr was ↦ inr (Contains-append_left nodes (node ∷ []) x was.0, was.1)
    ]
    | inr now ↦ inr (subst (Contains (nodes ++ node ∷ [])) (sym now.0) (Contains-push nodes node), now.1)
  ];
  still = λ x s h. elim (a.still x s h) [
    | inl there ↦ elim (get_still then node x (Closed n) s there) [
      | inl same ↦ inl same
      | inr here ↦ inr (subst (Contains (nodes ++ node ∷ [])) (sym here) (Contains-push nodes node))
    ]
    | inr was ↦ inr (Contains-append_left nodes (node ∷ []) x was)
  ];
}

module _ (graph : List (Vec ℕ)) where
  module _ (states : List State) (stack pending : List ℕ) (gs closed : List Group) (last : Group) (s : IsSearch graph states stack pending (gs ++ last ∷ []) closed) where
    pub last_within : last.first ≤ length stack
    last_within = (s.within last (Contains-push gs last)).0

    pub nodes_within : (p x : ℕ) → slice_get stack p ≡ Some x → x < length states
    nodes_within p x h = slice_get_within states x (Open p) (s.placed p x h)

    module _ (none : length pending ≤ last.pending) (then : List State) (a : AreNumbered states (drop last.first stack) (length closed) then) where
      n : ℕ
      n = length closed

      -- a node behind the place was on the stack
      was_open : (x : ℕ) → Contains (drop last.first stack) x → (p : ℕ) × (last.first ≤ p) × (slice_get stack p ≡ Some x) × (slice_get states x ≡ Some (Open p))
      was_open x h = let d = get_dropped stack last.first x h in (d.0, d.1, d.2, s.placed d.0 x d.2)

      still_closed : (x m : ℕ) → slice_get states x ≡ Some (Closed m) → slice_get then x ≡ Some (Closed m)
      still_closed x m h = elim (a.still x (Closed m) h) [ inl same ↦ same | inr there ↦ absurd (let e = (was_open x there).3 in cc) ]

      still_open : (x p : ℕ) → p < last.first → slice_get states x ≡ Some (Open p) → slice_get then x ≡ Some (Open p)
      still_open x p lt h = elim (a.still x (Open p) h) [
        | inl same ↦ same
        | inr there ↦
            let w = was_open x there in
            let e = w.3 in
            let same : p ≡ w.0 = cc in
            let le = w.1 in
            absurd (omega arith)
      ]

      was_low : (x p : ℕ) → slice_get then x ≡ Some (Open p) → (p < last.first) × (slice_get stack p ≡ Some x)
      was_low x p h = elim (a.old x (Open p) h) [
        | inl before ↦
            let there = s.opened x p before in
            elim (cases_lt p last.first) [
              | inl lt ↦ (lt, there)
              | inr le ↦ absurd (let e = a.now x (get_drop stack last.first p x le there) in cc)
            ]
        | inr now ↦ absurd (let e = now.1 in cc)
      ]

      -- a closed node is one of the group, or was closed before
      was_closed : (x m : ℕ) → slice_get then x ≡ Some (Closed m) → (slice_get states x ≡ Some (Closed m)) ⊎ (Contains (drop last.first stack) x × (m ≡ length closed))
      was_closed x m h = elim (a.old x (Closed m) h) [ inl before ↦ inl before | inr now ↦ inr (now.0, let e = now.1 in cc) ]

      pub seen_then : (x : ℕ) → IsNew then x → IsNew states x
      seen_then x h = elim (a.old x New h) [ inl before ↦ before | inr now ↦ absurd (let e = now.1 in cc) ]

      front : (g : Group) → Contains gs g → Contains (gs ++ last ∷ []) g
      front g h = Contains-append_left gs (last ∷ []) g h

      -- what begins at a place before the group's is before the group
      before_last : (g : Group) (p : ℕ) → p < last.first → Contains (gs ++ last ∷ []) g → g.first ≤ p → Contains gs g
      before_last g p lt h le = elim (Contains-push_cases gs last g h) [ inl before ↦ before | inr here ↦ absurd (omega (arith, ap (λ (i : Group). i.first) here)) ]

      found_then : (p x : ℕ) → IsFound states pending (gs ++ last ∷ []) p x → IsFound then pending gs p x
      found_then p x (is_closed m h) = is_closed m (still_closed x m h)
      found_then p x (is_behind q h above) = elim (cases_lt q last.first) [
        | inl lt ↦ is_behind q (still_open x q lt h) (λ g i le. above g (front g i) le)
        | inr le ↦ is_closed (length closed) (a.now x (get_drop stack last.first q x le (s.opened x q h)))
      ]
      found_then p x (is_pending k h within) = is_pending k h (λ g i le. within g (front g i) le)

      -- the group's edges go to it and to closed nodes
      falls : (p x : ℕ) → last.first ≤ p → IsFound states pending (gs ++ last ∷ []) p x → (m : ℕ) × (slice_get then x ≡ Some (Closed m)) × (m ≤ length closed)
      falls p x le (is_closed m h) = let lt = s.done.numbered x m h in (m, still_closed x m h, omega arith)
      falls p x le (is_behind q h above) = (length closed, a.now x (get_drop stack last.first q x (above last (Contains-push gs last) le) (s.opened x q h)), omega arith)
      falls p x le (is_pending k h within) = let far = within last (Contains-push gs last) le in let lt = slice_get_within pending k x h in absurd (omega arith)

      pub closes : IsSearch graph then (take last.first stack) pending gs (closed ++ last ∷ [])
      closes = record {
        size = a.size ∙ s.size;
        placed = λ p x h. let t = get_taken stack last.first p x h in still_open x p t.0 (s.placed p x t.1);
        opened = λ x p h. let w = was_low x p h in get_take stack last.first p x w.0 w.1;
        leads = λ p q x y h i above.
            let t = get_taken stack last.first p x h in
            let u = get_taken stack last.first q y i in
            s.leads p q x y t.1 u.1 (λ g has le. above g (before_last g p t.0 has le) le);
        source = λ k x h.
            let r = s.source k x h in
            let lt = slice_get_within pending k x h in
            elim (cases_lt r.place last.first) [
              | inl low ↦ record {
                place = r.place;
                node = r.node;
                is = get_take stack last.first r.place r.node low r.is;
                step = r.step;
                pending_in = λ g i le. r.pending_in g (front g i) le;
                placed_in = λ g i le. r.placed_in g (front g i) le;
              }
              | inr le ↦ absurd (let far = r.pending_in last (Contains-push gs last) le in omega arith)
            ];
        looked = λ p x y h f. let t = get_taken stack last.first p x h in elim (s.looked p x y t.1 f) [ inl found ↦ inl (found_then p y found) | inr none ↦ absurd none ];
        rising = rising_front gs last s.rising;
        within = λ g i. (
          let low = (at_most_last gs last g s.rising (front g i)).0 in let le = last_within in omega (arith, length-take-le last.first stack le),
          (s.within g (front g i)).1,
        );
        grouped = λ p x h.
            let t = get_taken stack last.first p x h in
            let g = s.grouped p x t.1 in
            (g.0, before_last g.0 p t.0 g.1 g.2, g.2);
        done = record {
          numbered = λ x m h. elim (was_closed x m h) [
            | inl before ↦ let lt = s.done.numbered x m before in omega (arith, length-append closed (last ∷ []))
            | inr now ↦ let e = now.1 in omega (arith, length-append closed (last ∷ []))
          ];
          falling = λ x m y h f. elim (was_closed x m h) [
            | inl before ↦ let d = s.done.falling x m y before f in (d.0, still_closed y d.0 d.1, d.2)
            | inr now ↦
                let w = was_open x now.0 in
                elim (s.looked w.0 x y w.2 f) [
                  | inl found ↦ let d = falls w.0 y w.1 found in let le = d.2 in let e = now.1 in (d.0, d.1, omega arith)
                  | inr none ↦ absurd none
                ]
          ];
          joined = λ x y m h i. elim (was_closed x m h) [
            | inl before ↦ elim (was_closed y m i) [
              | inl both ↦ s.done.joined x y m before both
              | inr now ↦ let lt = s.done.numbered x m before in let e = now.1 in absurd (omega arith)
            ]
            | inr here ↦ elim (was_closed y m i) [
              | inl before ↦ let lt = s.done.numbered y m before in let e = here.1 in absurd (omega arith)
              | inr now ↦
                  let w = was_open x here.0 in
                  let v = was_open y now.0 in
                  let le = v.1 in
                  s.leads w.0 v.0 x y w.2 v.2 (λ g has _. let low = (at_most_last gs last g s.rising has).0 in omega arith)
            ]
          ];
        };
      }

  -- a step by which the last group is closed
  pub closing_step : (old new : Search) (last : Group) → IsSearchWith graph old last → length old.pending.items ≤ last.pending → IsClosed old last new → IsStep graph old last new
  closing_step old new last s none h =
      let st = old.states.items in
      let sk = old.stack.items in
      let pend = old.pending.items in
      let gs = old.groups.items in
      let cl = old.closed.items in
      let seen = seen_then st sk pend gs cl last s none new.states.items h.numbered in
      record {
        search = same_search graph new.states.items (take last.first sk) new.stack.items pend new.pending.items gs new.groups.items (cl ++ last ∷ []) new.closed.items h.stack h.pending h.groups h.closed
            (closes st sk pend gs cl last s none new.states.items h.numbered);
        seen = seen;
        less =
            let fewer = unopened-fewer st new.states.items graph h.numbered.size seen in
            omega (arith, fewer, ap (λ (xs : List ℕ). length xs) h.pending, ap (λ (xs : List Group). length xs) h.groups);
      }

  -- ---- the end

  module _ (states : List State) (stack pending : List ℕ) (closed : List Group) (s : IsSearch graph states stack pending [] closed) (all : (x : ℕ) → x < length graph → IsNew states x → ⊥) where
    by_state : (x : ℕ) (t : State) → x < length graph → slice_get states x ≡ Some t → (m : ℕ) × (slice_get states x ≡ Some (Closed m))
    by_state x New lt h = absurd (all x lt h)
    by_state x (Open p) lt h = let g = s.grouped p x (s.opened x p h) in let lt = g.1.1 in absurd (omega arith)
    by_state x (Closed m) lt h = (m, h)

    closed_at : (x : ℕ) → x < length graph → (m : ℕ) × (slice_get states x ≡ Some (Closed m))
    closed_at x lt = let size = s.size in by_state x (get_or states x New) lt (slice_get-get_or states x New (omega arith))

    -- paths fall
    lower : (x y : ℕ) → Path graph x y → (m : ℕ) → slice_get states x ≡ Some (Closed m) → (k : ℕ) × (slice_get states y ≡ Some (Closed k)) × (k ≤ m)
    lower x y (edge a b e) m h = s.done.falling a m b h e
    lower x y (longer a next b e p) m h =
        let d = s.done.falling a m next h e in
        let r = lower next b p d.0 d.1 in
        let le = d.2 in
        let more = r.2 in
        (r.0, r.1, omega arith)

    low : (x y m k : ℕ) → Leads graph x y → slice_get states x ≡ Some (Closed m) → slice_get states y ≡ Some (Closed k) → k ≤ m
    low x y m k (inl same) h i = let e = subst (λ j. slice_get states j ≡ Some (Closed m)) same h in let f : k ≡ m = cc in omega arith
    low x y m k (inr p) h i = let d = lower x y p m h in let e = d.1 in let f : d.0 ≡ k = cc in let le = d.2 in omega arith

    number_at : (x m : ℕ) → slice_get states x ≡ Some (Closed m) → get_or (map number states) x 0 ≡ m
    number_at x m h = get_or_from_slice_get (map number states) x m 0 (slice_get-map number states x ∙ rw h refl)

    pub ends : AreComponents graph (map number states)
    ends = record {
      size = length-map states number ∙ s.size;
      same = λ x y lt within.
          let c = closed_at x lt in
          let d = closed_at y within in
          let at_x = number_at x c.0 c.1 in
          let at_y = number_at y d.0 d.1 in (
            λ e. let f : c.0 ≡ d.0 = cc in let there = subst (λ m. slice_get states x ≡ Some (Closed m)) f c.1 in (s.done.joined x y d.0 there d.1, s.done.joined y x d.0 d.1 there),
            λ both. let le = low x y c.0 d.0 both.0 c.1 d.1 in let ge = low y x d.0 c.0 both.1 d.1 c.1 in omega (arith, at_x, at_y),
          );
    }
