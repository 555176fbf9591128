-- The search for strongly connected components.
use Rattle.std.proofs.Common.{◌≡◌, ◌⊎◌, ℕ, zero, suc, ◌+◌, ◌<◌, ◌≤◌, List, [], ◌∷◌, ◌++◌, length, get_or, refl, sym, ap, ◌∙◌, subst, arith, inl, inr, length-append, replicate}
use Rattle.std.specs.Prelude.{Some, Contains, slice_get}
use Rattle.std.specs.Global.{Vec}
use Rattle.std.proofs.Math.ListN.{set, length-set, get_or-append}
use Rattle.std.proofs.Math.Seq.{get_or-append_seam}
use Rattle.std.proofs.lemmas.Bool.{cases_lt}
use Rattle.std.proofs.lemmas.List.Elements.{Contains-append_left, Contains-push, Contains-push_cases}
use Rattle.std.proofs.lemmas.List.Quantifiers.{all_pairs_push}
use Rattle.std.proofs.lemmas.Option.{slice_get_within, slice_get-get_or}
use Rattle.cs_graph.specs.declared.component.State.{State}
use Rattle.cs_graph.specs.declared.component.State.TheVariants.{New, Open, Closed}
use Rattle.cs_graph.specs.declared.component.Group.{Group}
use Rattle.cs_graph.specs.Graph.{Edge, edge, Leads}
use Rattle.cs_graph.specs.Groups.{IsNew, Precedes, IsRising, IsFound, is_closed, is_behind, is_pending, HasSource, IsSearchBut, IsSearch, AllLead, IsJoined, unopened}
use Rattle.cs_graph.proofs.Edges.{edge_to, leads_append}
use Rattle.cs_graph.proofs.Gets.{get_left, get_pushed, get_contains, get_cases, get_push_cases, get_right, get_set, get_before, get_still, get_replicated}

-- ---- groups one behind the other

pub precedes_last : (gs : List Group) (last g : Group) → IsRising (gs ++ last ∷ []) → Contains gs g → Precedes g last
precedes_last gs last g r (k, lt, e) =
    let h = r k (length gs) g lt (omega (arith, length-append gs (last ∷ []))) in
    let left : get_or (gs ++ last ∷ []) k g ≡ g = get_or-append gs (last ∷ []) g k lt ∙ e in
    let right : get_or (gs ++ last ∷ []) (length gs) g ≡ last = get_or-append_seam gs last [] g in
    subst (λ x. Precedes g x) right (subst (λ x. Precedes x (get_or (gs ++ last ∷ []) (length gs) g)) left h)

pub at_most_last : (gs : List Group) (last g : Group) → IsRising (gs ++ last ∷ []) → Contains (gs ++ last ∷ []) g → Precedes g last
at_most_last gs last g r h = elim (Contains-push_cases gs last g h) [
  | inl before ↦ precedes_last gs last g r before
  | inr here ↦ subst (λ x. Precedes x last) here (omega arith, omega arith)
]

pub rising_front : (gs : List Group) (last : Group) → IsRising (gs ++ last ∷ []) → IsRising gs
rising_front gs last r i j d lt within =
    let h = r i j d lt (omega (arith, length-append gs (last ∷ []))) in
    let right : get_or (gs ++ last ∷ []) j d ≡ get_or gs j d = get_or-append gs (last ∷ []) d j within in
    let left : get_or (gs ++ last ∷ []) i d ≡ get_or gs i d = get_or-append gs (last ∷ []) d i (omega arith) in
    subst (λ x. Precedes (get_or gs i d) x) right (subst (λ x. Precedes x (get_or (gs ++ last ∷ []) j d)) left h)

-- the groups begin at the place of a pending node or before it, where the last does
pub low_groups : (gs : List Group) (last : Group) (pending rest : List ℕ) (to : ℕ) → IsRising (gs ++ last ∷ []) → pending ≡ rest ++ to ∷ [] → last.pending < length pending → (g : Group) → Contains (gs ++ last ∷ []) g → g.pending ≤ length rest
low_groups gs last pending rest to r is lt g h =
    let most = (at_most_last gs last g r h).1 in
    omega (arith, ap (λ (xs : List ℕ). length xs) is, length-append rest (to ∷ []))

-- ---- groups that are joined

module _ (old gs front : List Group) (last : Group) (place : ℕ) (is : gs ≡ front ++ last ∷ []) (kept : (g : Group) → Contains old g → g.first ≤ place → Contains gs g) (from : (g : Group) → Contains gs g → Contains old g) (rising : IsRising gs) (fewer : length gs ≤ length old) where
  rises : IsRising (front ++ last ∷ [])
  rises = subst (λ (xs : List Group). IsRising xs) is rising

  left_from : (g : Group) → Contains (front ++ last ∷ []) g → Contains old g
  left_from g h = from g (subst (λ (xs : List Group). Contains xs g) (sym is) h)

  pub joined_here : last.first ≤ place → IsJoined old place (front ++ last ∷ [])
  joined_here le = record {
    kept = λ g h low. subst (λ (xs : List Group). Contains xs g) is (kept g h low);
    old = left_from;
    low = λ g h. let most = (at_most_last front last g rises h).0 in omega arith;
    rising = rises;
    fewer = omega (arith, ap (λ (xs : List Group). length xs) is);
  }

  pub still_kept : place < last.first → (g : Group) → Contains old g → g.first ≤ place → Contains front g
  still_kept lt g h low = elim (Contains-push_cases front last g (subst (λ (xs : List Group). Contains xs g) is (kept g h low))) [
    | inl before ↦ before
    | inr here ↦ absurd (omega (arith, ap (λ (i : Group). i.first) here))
  ]

  pub still_from : (g : Group) → Contains front g → Contains old g
  still_from g h = left_from g (Contains-append_left front (last ∷ []) g h)

  pub still_rises : IsRising front
  still_rises = rising_front front last rises

  pub still_fewer : length front ≤ length old
  still_fewer = omega (arith, ap (λ (xs : List Group). length xs) is, length-append front (last ∷ []))

-- ---- steps that are left

pub unopened-opened : (states : List State) (graph : List (Vec ℕ)) (i place : ℕ) (row : Vec ℕ) → slice_get states i ≡ Some New → slice_get graph i ≡ Some row → unopened (set states i (Open place)) graph + (length row.items + 2) ≡ unopened states graph
unopened-opened [] graph i place row e is = absurd cc
unopened-opened (s ∷ states) [] i place row e is = absurd cc
unopened-opened (New ∷ states) (v ∷ graph) zero place row e is = let same : v ≡ row = cc in ap (λ (w : Vec ℕ). unopened states graph + (length w.items + 2)) (sym same)
unopened-opened (Open p ∷ states) (v ∷ graph) zero place row e is = absurd cc
unopened-opened (Closed n ∷ states) (v ∷ graph) zero place row e is = absurd cc
unopened-opened (New ∷ states) (v ∷ graph) (suc i) place row e is = let h = unopened-opened states graph i place row e is in omega (arith, h)
unopened-opened (Open p ∷ states) (v ∷ graph) (suc i) place row e is = unopened-opened states graph i place row e is
unopened-opened (Closed n ∷ states) (v ∷ graph) (suc i) place row e is = unopened-opened states graph i place row e is

-- where no node became new, no more steps are left
pub unopened-fewer : (old new : List State) (graph : List (Vec ℕ)) → length new ≡ length old → ((i : ℕ) → IsNew new i → IsNew old i) → unopened new graph ≤ unopened old graph
unopened-fewer [] [] graph size seen = omega arith
unopened-fewer [] (t ∷ new) graph size seen = absurd (omega arith)
unopened-fewer (s ∷ old) [] graph size seen = absurd (omega arith)
unopened-fewer (s ∷ old) (t ∷ new) [] size seen = omega arith
unopened-fewer (New ∷ old) (New ∷ new) (v ∷ graph) size seen = let h = unopened-fewer old new graph (omega arith) (λ i. seen (suc i)) in omega (arith, h)
unopened-fewer (New ∷ old) (Open p ∷ new) (v ∷ graph) size seen = let h = unopened-fewer old new graph (omega arith) (λ i. seen (suc i)) in omega (arith, h)
unopened-fewer (New ∷ old) (Closed n ∷ new) (v ∷ graph) size seen = let h = unopened-fewer old new graph (omega arith) (λ i. seen (suc i)) in omega (arith, h)
unopened-fewer (Open q ∷ old) (New ∷ new) (v ∷ graph) size seen = let h = seen 0 refl in absurd cc
unopened-fewer (Open q ∷ old) (Open p ∷ new) (v ∷ graph) size seen = unopened-fewer old new graph (omega arith) (λ i. seen (suc i))
unopened-fewer (Open q ∷ old) (Closed n ∷ new) (v ∷ graph) size seen = unopened-fewer old new graph (omega arith) (λ i. seen (suc i))
unopened-fewer (Closed q ∷ old) (New ∷ new) (v ∷ graph) size seen = let h = seen 0 refl in absurd cc
unopened-fewer (Closed q ∷ old) (Open p ∷ new) (v ∷ graph) size seen = unopened-fewer old new graph (omega arith) (λ i. seen (suc i))
unopened-fewer (Closed q ∷ old) (Closed n ∷ new) (v ∷ graph) size seen = unopened-fewer old new graph (omega arith) (λ i. seen (suc i))

module _ (graph : List (Vec ℕ)) where
  -- the same search, of lists that are equal
  pub same_search : (states : List State) (stack stack_then pending pending_then : List ℕ) (gs gs_then closed closed_then : List Group) → stack_then ≡ stack → pending_then ≡ pending → gs_then ≡ gs → closed_then ≡ closed
      → IsSearch graph states stack pending gs closed → IsSearch graph states stack_then pending_then gs_then closed_then
  same_search states stack stack_then pending pending_then gs gs_then closed closed_then a b c d s = rw (a, b, c, d) s

  -- ---- the beginning

  pub starts : (n : ℕ) → length (replicate n New) ≡ length graph → IsSearch graph (replicate n New) [] [] [] []
  starts n size = record {
    size = size;
    placed = λ p x e. absurd cc;
    opened = λ x p e. let same = get_replicated n x New (Open p) e in absurd cc;
    leads = λ p q x y e f above. absurd cc;
    source = λ k to e. absurd cc;
    looked = λ p x to e f. absurd cc;
    rising = λ i j d lt within. absurd (omega arith);
    within = λ g h. absurd (let lt = h.1 in omega arith);
    grouped = λ p x e. absurd cc;
    done = record {
      numbered = λ x m e. let same = get_replicated n x New (Closed m) e in absurd cc;
      falling = λ x m to e f. let same = get_replicated n x New (Closed m) e in absurd cc;
      joined = λ x y m e f. let same = get_replicated n x New (Closed m) e in absurd cc;
    };
  }

  -- ---- a pending node is taken

  module _ (states : List State) (stack pending : List ℕ) (gs closed : List Group) (to : ℕ) (s : IsSearch graph states stack (pending ++ to ∷ []) gs closed) (low : (g : Group) → Contains gs g → g.pending ≤ length pending) where
    not_last : (p n : ℕ) → IsFound states (pending ++ to ∷ []) gs p n → IsFound states pending gs p n ⊎ (n ≡ to)
    not_last p n (is_closed m e) = inl (is_closed m e)
    not_last p n (is_behind q e above) = inl (is_behind q e above)
    not_last p n (is_pending k e within) = elim (get_push_cases pending to k n e) [ inl before ↦ inl (is_pending k before within) | inr here ↦ inr here.1 ]

    pub takes : IsSearchBut graph states stack pending gs closed (λ n. n ≡ to)
    takes = record {
      size = s.size;
      placed = s.placed;
      opened = s.opened;
      leads = s.leads;
      source = λ k n e. s.source k n (get_left pending (to ∷ []) k n e);
      looked = λ p x n e f. elim (s.looked p x n e f) [ inl found ↦ not_last p n found | inr none ↦ absurd none ];
      rising = s.rising;
      within = λ g h. ((s.within g h).0, low g h);
      grouped = s.grouped;
      done = s.done;
    }

    pub taken_from : HasSource graph stack gs (length pending) to
    taken_from = s.source (length pending) to (get_pushed pending to)

    -- all nodes on the stack lead to it
    pub all_lead : AllLead graph stack to
    all_lead = λ p x e. leads_append graph x taken_from.node to (s.leads p taken_from.place x taken_from.node e taken_from.is (λ g h le. taken_from.placed_in g h (low g h))) (inr (edge taken_from.node to taken_from.step))

  -- ---- a pending node is closed, or on the stack

  module _ (states : List State) (stack pending : List ℕ) (gs closed : List Group) (to : ℕ) (s : IsSearchBut graph states stack pending gs closed (λ n. n ≡ to)) where
    pub passes : (m : ℕ) → slice_get states to ≡ Some (Closed m) → IsSearch graph states stack pending gs closed
    passes m e = record {
      size = s.size;
      placed = s.placed;
      opened = s.opened;
      leads = s.leads;
      source = s.source;
      looked = λ p x n h f. elim (s.looked p x n h f) [ inl found ↦ inl found | inr same ↦ inl (is_closed m (subst (λ i. slice_get states i ≡ Some (Closed m)) (sym same) e)) ];
      rising = s.rising;
      within = s.within;
      grouped = s.grouped;
      done = s.done;
    }

    module _ (place : ℕ) (e : slice_get states to ≡ Some (Open place)) (all : AllLead graph stack to) (then : List Group) (j : IsJoined gs place then) where
      found_then : (p n : ℕ) → IsFound states pending gs p n → IsFound states pending then p n
      found_then p n (is_closed m h) = is_closed m h
      found_then p n (is_behind q h above) = is_behind q h (λ g i le. above g (j.old g i) le)
      found_then p n (is_pending k h within) = is_pending k h (λ g i le. within g (j.old g i) le)

      there : slice_get stack place ≡ Some to
      there = s.opened to place e

      pub joins : IsSearch graph states stack pending then closed
      joins = record {
        size = s.size;
        placed = s.placed;
        opened = s.opened;
        leads = λ p q x y h i above. elim (cases_lt place p) [
          | inl lt ↦ leads_append graph x to y (all p x h) (s.leads place q to y there i (λ g has le. above g (j.kept g has le) (omega arith)))
          | inr low ↦ s.leads p q x y h i (λ g has le. above g (j.kept g has (omega arith)) le)
        ];
        source = λ k n h. let r = s.source k n h in record {
          place = r.place;
          node = r.node;
          is = r.is;
          step = r.step;
          pending_in = λ g i le. r.pending_in g (j.old g i) le;
          placed_in = λ g i le. r.placed_in g (j.old g i) le;
        };
        looked = λ p x n h f. elim (s.looked p x n h f) [
          | inl found ↦ inl (found_then p n found)
          | inr same ↦ inl (is_behind place (subst (λ i. slice_get states i ≡ Some (Open place)) (sym same) e) (λ g i le. j.low g i))
        ];
        rising = j.rising;
        within = λ g i. s.within g (j.old g i);
        grouped = λ p x h.
            let g = s.grouped p x h in
            let le = g.2 in
            elim (cases_lt place g.0.first) [
              | inl lt ↦ let t = s.grouped place to there in let low = t.2 in (t.0, j.kept t.0 t.1 low, omega arith)
              | inr low ↦ (g.0, j.kept g.0 g.1 low, le)
            ];
        done = s.done;
      }

    -- ---- a new node is opened

    module _ (new : IsNew states to) (row : Vec ℕ) (row_is : slice_get graph to ≡ Some row) (all : AllLead graph stack to) (group : Group) (first_is : group.first ≡ length stack) (pending_is : group.pending ≡ length pending) where
      abbrev then : List State
      then = set states to (Open group.first)

      at_new : slice_get then to ≡ Some (Open group.first)
      at_new = get_set states to (Open group.first) (slice_get_within states to New new)

      still_open : (x p : ℕ) → slice_get states x ≡ Some (Open p) → slice_get then x ≡ Some (Open p)
      still_open x p h = elim (get_still states to x (Open group.first) (Open p) h) [ inl there ↦ there | inr same ↦ absurd (let f = subst (λ i. IsNew states i) (sym same) new in cc) ]

      still_closed : (x m : ℕ) → slice_get states x ≡ Some (Closed m) → slice_get then x ≡ Some (Closed m)
      still_closed x m h = elim (get_still states to x (Open group.first) (Closed m) h) [ inl there ↦ there | inr same ↦ absurd (let f = subst (λ i. IsNew states i) (sym same) new in cc) ]

      was_closed : (x m : ℕ) → slice_get then x ≡ Some (Closed m) → slice_get states x ≡ Some (Closed m)
      was_closed x m h = elim (get_before states to x (Open group.first) (Closed m) h) [ inl before ↦ before | inr now ↦ absurd (let f = now.1 in cc) ]

      pub seen_then : (x : ℕ) → IsNew then x → IsNew states x
      seen_then x h = elim (get_before states to x (Open group.first) New h) [ inl before ↦ before | inr now ↦ absurd (let f = now.1 in cc) ]

      pub not_new : IsNew then to → ⊥
      not_new h = let e = at_new in absurd cc

      -- the groups with the new one
      in_new : (g : Group) → Contains (gs ++ group ∷ []) g → Contains gs g ⊎ (g ≡ group)
      in_new g h = elim (Contains-push_cases gs group g h) [ inl before ↦ inl before | inr here ↦ inr (sym here) ]

      low_first : (g : Group) → Contains (gs ++ group ∷ []) g → g.first ≤ length stack
      low_first g h = elim (in_new g h) [ inl before ↦ (s.within g before).0 | inr here ↦ omega (arith, ap (λ (i : Group). i.first) here, first_is) ]

      low_pending : (g : Group) → Contains (gs ++ group ∷ []) g → g.pending ≤ length pending
      low_pending g h = elim (in_new g h) [ inl before ↦ (s.within g before).1 | inr here ↦ omega (arith, ap (λ (i : Group). i.pending) here, pending_is) ]

      -- what holds of the groups that begin at a place on the stack holds with the new one
      old_first : (g : Group) (p : ℕ) → p < length stack → Contains (gs ++ group ∷ []) g → g.first ≤ p → Contains gs g
      old_first g p lt h le = elim (in_new g h) [ inl before ↦ before | inr here ↦ absurd (omega (arith, ap (λ (i : Group). i.first) here, first_is)) ]

      old_pending : (g : Group) (k : ℕ) → k < length pending → Contains (gs ++ group ∷ []) g → g.pending ≤ k → Contains gs g
      old_pending g k lt h le = elim (in_new g h) [ inl before ↦ before | inr here ↦ absurd (omega (arith, ap (λ (i : Group). i.pending) here, pending_is)) ]

      found_more : (p n : ℕ) → p < length stack → IsFound states pending gs p n → IsFound then (pending ++ row.items) (gs ++ group ∷ []) p n
      found_more p n lt (is_closed m h) = is_closed m (still_closed n m h)
      found_more p n lt (is_behind q h above) = is_behind q (still_open n q h) (λ g i le. above g (old_first g p lt i le) le)
      found_more p n lt (is_pending k h within) = is_pending k (get_left pending row.items k n h) (λ g i le. within g (old_first g p lt i le) le)

      pushed : slice_get (stack ++ to ∷ []) group.first ≡ Some to
      pushed = subst (λ i. slice_get (stack ++ to ∷ []) i ≡ Some to) (sym first_is) (get_pushed stack to)

      pub opens : IsSearch graph then (stack ++ to ∷ []) (pending ++ row.items) (gs ++ group ∷ []) closed
      opens = record {
        size = length-set states to (Open group.first) ∙ s.size;
        placed = λ p x h. elim (get_push_cases stack to p x h) [
          | inl before ↦ still_open x p (s.placed p x before)
          | inr here ↦ subst (λ i. slice_get then x ≡ Some (Open i)) (first_is ∙ sym here.0) (subst (λ i. slice_get then i ≡ Some (Open group.first)) (sym here.1) at_new)
        ];
        opened = λ x p h. elim (get_before states to x (Open group.first) (Open p) h) [
          | inl before ↦ get_left stack (to ∷ []) p x (s.opened x p before)
          | inr now ↦ let e = now.1 in let same : p ≡ group.first = cc in subst (λ i. slice_get (stack ++ to ∷ []) i ≡ Some x) (sym same) (pushed ∙ ap Some (sym now.0))
        ];
        leads = λ p q x y h i above. elim (get_push_cases stack to p x h) [
          | inl before ↦ elim (get_push_cases stack to q y i) [
            | inl behind ↦ s.leads p q x y before behind (λ g has le. above g (Contains-append_left gs (group ∷ []) g has) le)
            | inr here ↦ subst (Leads graph x) (sym here.1) (all p x before)
          ]
          | inr last ↦ elim (get_push_cases stack to q y i) [
            | inl behind ↦
                let lt = slice_get_within stack q y behind in
                let le = above group (Contains-push gs group) (omega (arith, last.0, first_is)) in
                absurd (omega (arith, first_is))
            | inr here ↦ inl (last.1 ∙ sym here.1)
          ]
        ];
        source = λ k n h. elim (get_cases pending row.items k n h) [
          | inl before ↦
              let r = s.source k n before in
              let lt = slice_get_within pending k n before in
              record {
                place = r.place;
                node = r.node;
                is = get_left stack (to ∷ []) r.place r.node r.is;
                step = r.step;
                pending_in = λ g i le. r.pending_in g (old_first g r.place (slice_get_within stack r.place r.node r.is) i le) le;
                placed_in = λ g i le. r.placed_in g (old_pending g k lt i le) le;
              }
          | inr behind ↦
              let le = behind.0 in
              record {
                place = group.first;
                node = to;
                is = pushed;
                step = record { successors = row; is = row_is; has = behind.1 };
                pending_in = λ g i _. let low = low_pending g i in omega arith;
                placed_in = λ g i _. let low = low_first g i in omega (arith, first_is);
              }
        ];
        looked = λ p x n h f. elim (get_push_cases stack to p x h) [
          | inl before ↦ elim (s.looked p x n before f) [
            | inl found ↦ inl (found_more p n (slice_get_within stack p x before) found)
            | inr same ↦ inl (is_behind group.first (subst (λ i. slice_get then i ≡ Some (Open group.first)) (sym same) at_new) (λ g i le. let low = low_first g i in omega (arith, first_is)))
          ]
          | inr last ↦
              let r = get_right pending row.items n (edge_to graph to row n row_is (subst (λ i. Edge graph i n) last.1 f)) in
              let far = r.1 in
              inl (is_pending r.0 r.2 (λ g i le. let low = low_pending g i in omega arith))
        ];
        rising = all_pairs_push Precedes gs group s.rising (λ k d lt. let h = s.within (get_or gs k d) (get_contains gs k (get_or gs k d) (slice_get-get_or gs k d lt)) in (omega (arith, h.0, first_is), omega (arith, h.1, pending_is)));
        within = λ g i. (let low = low_first g i in omega (arith, length-append stack (to ∷ [])), let low = low_pending g i in omega (arith, length-append pending row.items));
        grouped = λ p x h. elim (get_push_cases stack to p x h) [
          | inl before ↦ let g = s.grouped p x before in (g.0, Contains-append_left gs (group ∷ []) g.0 g.1, g.2)
          | inr last ↦ (group, Contains-push gs group, omega (arith, last.0, first_is))
        ];
        done = record {
          numbered = λ x m h. s.done.numbered x m (was_closed x m h);
          falling = λ x m n h f. let d = s.done.falling x m n (was_closed x m h) f in (d.0, still_closed n d.0 d.1, d.2);
          joined = λ x y m h i. s.done.joined x y m (was_closed x m h) (was_closed y m i);
        };
      }
