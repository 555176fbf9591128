-- The search goes on, and what it has told at the end.
use Rattle.std.proofs.Common.{◌≡◌, ℕ, ◌+◌, ◌-◌, ◌≤◌, List, [], Some, length, refl, sym, ap, ◌∙◌, subst, ⊎_elim, inl, inr, arith, replicate, Option, None, get_or}
use Rattle.std.specs.Prelude.{Contains, All, slice_get}
use Rattle.std.specs.BinaryHeap.{IsUpperBound}
use Rattle.std.specs.declared.cmp.Reverse.{Reverse}
use Rattle.std.proofs.Math.ListN.{set, length-set}
use Rattle.std.proofs.lemmas.Bool.{cases_eq, cases_lt}
use Rattle.std.proofs.lemmas.List.Elements.{All-contains}
use Rattle.std.proofs.lemmas.List.{length-replicate, get_or-replicate, get_or_past}
use Rattle.std.proofs.lemmas.Option.{slice_get_within, get_or_from_slice_get}
use Rattle.cs_least.specs.declared.ways.step.Step.{Step}
use Rattle.cs_least.specs.declared.ways.step.Source.{Source}
use Rattle.cs_least.specs.declared.ways.candidate.Candidate.{Candidate}
use Rattle.cs_least.specs.declared.ways.reach.Reach.{Reach}
use Rattle.cs_least.specs.declared.ways.reach.Reach.TheVariants.{Never, Large, Least}
use Rattle.cs_least.specs.Ways.Ways.{Net, IsNode, IsNet, Way, Begin, On, IsWay, way_cost, way_origin, IsReach, reach_at, AreLeastWays}
use Rattle.cs_grammar.specs.Weights.{capped}
use Rattle.cs_least.specs.Ways.Candidates.{beginning, after, reach_of, order, IsBeginning, IsAfter}
use Rattle.cs_least.specs.Ways.Rows.{leaving}
use Rattle.cs_least.specs.Ways.Search.{Holds, AreOffered, IsKnown, reach_cost, reach_origin, IsAhead, IsToldAhead, IsFound, IsCovered, told, IsSettled, IsCappedReach, IsSearch}
use Rattle.cs_least.proofs.OnWays.Ahead.{ahead_trans, ahead_after, ahead_step, ahead_from_greatest}
use Rattle.cs_least.proofs.OnWays.Holding.{contains_none, IsRest}
use Rattle.cs_least.proofs.OnWays.Offered.{covered_more, covered_further}
use Rattle.cs_grammar.proofs.Tables.{entry_or-set_same, entry_or-set_other, entry_or-replicate}
use Rattle.cs_least.proofs.OnWays.Tables.{cost-reach_of, origin-reach_of, capped-reach_of, settled_from}
use Rattle.cs_least.proofs.OnWays.RowLemmas.{leaves, leaving_has}

abbrev pub none_yet : Option Candidate
none_yet = None

pub unknown : (many p : ℕ) (c : Candidate) → get_or (replicate many none_yet) p none_yet ≡ Some c → ⊥
unknown many p c e =
    let none : get_or (replicate many none_yet) p none_yet ≡ none_yet =
    ⊎_elim
    (λ within. get_or-replicate many p none_yet none_yet within)
    (λ past. get_or_past (replicate many none_yet) p none_yet (omega (arith, past, length-replicate many none_yet)))
    (cases_lt p many) in
    cc (none, e)

module _ (limit : ℕ) (net : Net) (sources : List Source) where
  nothing_known : (table : List Reach) (heap : List (Reverse Candidate)) (many : ℕ) → IsKnown limit table (replicate many None) heap
  nothing_known table heap many = record {
    node = λ p c e. absurd (unknown many p c e);
    cost = λ p c e. absurd (unknown many p c e);
    covered = λ p c e. absurd (unknown many p c e);
  }

  -- a cost that was found is capped
  found_capped : (n c o : ℕ) → IsFound limit net sources n c o → c ≤ limit + 1
  found_capped n c o f = omega (arith, f.costs)

  begin_found : (i : ℕ) (s : Source) → slice_get sources i ≡ Some s → IsFound limit net sources s.node (capped limit s.cost) i
  begin_found i s at = record { way = Begin i s; is_way = (at, refl); costs = refl; begins = λ h. refl }

  -- what was found goes on by a step
  step_found : (s : Step) (c o : ℕ) → Contains net.steps s → IsFound limit net sources s.from c o → IsFound limit net sources s.to (capped limit (c + s.cost)) o
  step_found s c o has f = record {
    way = On f.way s;
    is_way = (has, refl, f.is_way);
    costs = omega (arith, f.costs);
    begins = λ h. f.begins (omega (arith, h));
  }

  -- the search begins
  pub search_begins : (many : ℕ) (known : List (Option Candidate)) (heap : List (Reverse Candidate)) → All (λ (s : Source). IsNode net.nodes s.node) sources → AreOffered limit (IsBeginning limit sources) many (replicate net.nodes None) [] known heap → IsSearch limit net sources (replicate net.nodes Never) known heap
  search_begins many known heap nodes offered =
      let none : (n : ℕ) → IsSettled limit (replicate net.nodes Never) n → ⊥ = λ n h. omega (arith, h, ap (reach_cost limit) (entry_or-replicate Never net.nodes n)) in
      let begun : (c : Candidate) → Holds heap c → IsBeginning limit sources c = λ c h. elim (offered.only c h) [ inl before ↦ absurd (contains_none _ before) | inr now ↦ now ] in
      let first = nothing_known (replicate net.nodes Never) [] net.nodes in
      record {
        many = length-replicate net.nodes Never;
        capped = λ n. subst (IsCappedReach limit) (sym (entry_or-replicate Never net.nodes n)) tt;
        found = λ n h. absurd (none n h);
        nodes = λ c h. let b = begun c h in
            let within = slice_get_within sources b.0 b.1 b.2 in
            let node : IsNode net.nodes b.1.node = subst (λ (s : Source). IsNode net.nodes s.node) (get_or_from_slice_get sources b.0 b.1 b.1 b.2) (nodes b.0 b.1 within) in
            subst (λ (d : Candidate). IsNode net.nodes d.node) (sym b.3) node;
        waiting = λ c h. let b = begun c h in
            subst (λ (d : Candidate). IsFound limit net sources d.node d.cost d.origin) (sym b.3) (begin_found b.0 b.1 b.2);
        later = λ n c h k. absurd (none n h);
        begun = λ i s at. offered.each (replicate net.nodes Never) first (beginning limit i s) (i, s, at, refl);
        tried = λ s has h. absurd (none s.from h);
        know = offered.size ∙ length-replicate net.nodes none_yet;
        knows = offered.knows (replicate net.nodes Never) first;
      }

  -- what leaves the heap is of a settled node: nothing more is told
  module _ (table : List Reach) (known : List (Option Candidate)) (heap rest : List (Reverse Candidate)) (c : Candidate) (search : IsSearch limit net sources table known heap) (left : IsRest heap c rest) where
    node_capped : c.cost ≤ limit + 1
    node_capped = found_capped c.node c.cost c.origin (search.waiting c left.taken)

    module _ (was : reach_at table c.node ≡ Never → ⊥) where
      still_covered : (e : Candidate) → IsCovered limit table heap e → IsCovered limit table rest e
      still_covered e covered = elim covered [
        | inl told ↦ inl told
        | inr w ↦ elim (left.only w.0 w.1) [
          | inl here ↦
              let ahead = search.later c.node c (settled_from limit (reach_at table c.node) (search.capped c.node) was) left.taken in
              let further : IsAhead limit c.cost c.origin e.cost e.origin = subst (λ (d : Candidate). IsAhead limit d.cost d.origin e.cost e.origin) (sym here) w.3 in
              let same : c.node ≡ e.node = ap (λ (d : Candidate). d.node) here ∙ w.2 in
              inl (subst (λ n. IsToldAhead limit (reach_at table n) e) same (ahead_trans limit _ _ _ _ _ _ ahead further))
          | inr there ↦ inr (w.0, there, w.2, w.3)
        ]
      ]

      pub search_passes : IsSearch limit net sources table known rest
      search_passes = record {
        many = search.many;
        capped = search.capped;
        found = search.found;
        nodes = λ d h. search.nodes d (left.kept d h);
        waiting = λ d h. search.waiting d (left.kept d h);
        later = λ n d s h. search.later n d s (left.kept d h);
        begun = λ i s at. still_covered (beginning limit i s) (search.begun i s at);
        tried = λ s has h. still_covered (after limit (told limit table s.from) s) (search.tried s has h);
        know = search.know;
        knows = record {
          node = search.knows.node;
          cost = search.knows.cost;
          covered = λ p d e. still_covered d (search.knows.covered p d e);
        };
      }

    -- what leaves the heap is of a node that isn't settled: it is settled now
    module _ (many : ℕ) (known' : List (Option Candidate)) (last : List (Reverse Candidate)) (is_net : IsNet net) (top : IsUpperBound order (record { 0 = c }) rest) (was : reach_at table c.node ≡ Never) (offered : AreOffered limit (IsAfter limit c (leaving net.steps c.node)) many known rest known' last) where
      next : List Reach
      next = set table (c.node - 1) (reach_of limit c)

      node : IsNode net.nodes c.node
      node = search.nodes c left.taken

      here_told : (n : ℕ) → n ≡ c.node → reach_at next n ≡ reach_of limit c
      unfolding next
      here_told n e =
          let within : IsNode (length table) c.node = subst (λ m. IsNode m c.node) (sym search.many) node in
          ap (reach_at next) e ∙ entry_or-set_same Never table c.node (reach_of limit c) within

      other_told : (n : ℕ) → (n ≡ c.node → ⊥) → reach_at next n ≡ reach_at table n
      unfolding next
      other_told n ne = entry_or-set_other Never table c.node n (reach_of limit c) node.0 ne

      -- what comes no earlier than what left the heap comes no earlier than what is told of its node now
      now_ahead : (n d p : ℕ) → n ≡ c.node → IsAhead limit c.cost c.origin d p → IsAhead limit (reach_cost limit (reach_at next n)) (reach_origin (reach_at next n)) d p
      now_ahead n d p e a =
          let cost : reach_cost limit (reach_at next n) ≡ c.cost = ap (reach_cost limit) (here_told n e) ∙ cost-reach_of limit c node_capped in
          record {
            cost = omega (arith, cost, a.cost);
            origin = λ h k. omega (arith, a.origin (omega (arith, cost, h)) (omega (arith, cost, k)), ap reach_origin (here_told n e), origin-reach_of limit c (omega (arith, cost, k)));
          }

      -- of another node it is told what was told
      other_ahead : (n d p : ℕ) → (n ≡ c.node → ⊥) → IsAhead limit (reach_cost limit (reach_at table n)) (reach_origin (reach_at table n)) d p → IsAhead limit (reach_cost limit (reach_at next n)) (reach_origin (reach_at next n)) d p
      other_ahead n d p ne a = subst (λ r. IsAhead limit (reach_cost limit r) (reach_origin r) d p) (sym (other_told n ne)) a

      covered_next : (e : Candidate) → e.cost ≤ limit + 1 → IsCovered limit table heap e → IsCovered limit next rest e
      covered_next e within covered = elim covered [
        | inl told ↦ ⊎_elim
            (λ same. absurd (omega (arith, told.cost, within, ap (λ n. reach_cost limit (reach_at table n)) same, ap (reach_cost limit) was)))
            (λ ne. inl (other_ahead e.node e.cost e.origin ne told))
            (cases_eq e.node c.node)
        | inr w ↦ elim (left.only w.0 w.1) [
          | inl here ↦
              let further : IsAhead limit c.cost c.origin e.cost e.origin = subst (λ (d : Candidate). IsAhead limit d.cost d.origin e.cost e.origin) (sym here) w.3 in
              inl (now_ahead e.node e.cost e.origin (sym w.2 ∙ sym (ap (λ (d : Candidate). d.node) here)) further)
          | inr there ↦ inr (w.0, there, w.2, w.3)
        ]
      ]

      covered_now : (e : Candidate) → e.cost ≤ limit + 1 → IsCovered limit table heap e → IsCovered limit next last e
      covered_now e within covered = covered_more limit next rest last e offered.kept (covered_next e within covered)

      known_next : IsKnown limit next known rest
      known_next = record {
        node = search.knows.node;
        cost = search.knows.cost;
        covered = λ p d e. covered_next d (search.knows.cost p d e) (search.knows.covered p d e);
      }

      -- what was pushed comes no earlier than what left the heap
      pushed_ahead : (d : Candidate) → IsAfter limit c (leaving net.steps c.node) d → IsAhead limit c.cost c.origin d.cost d.origin
      pushed_ahead d after_it =
          subst (λ (e : Candidate). IsAhead limit c.cost c.origin e.cost e.origin) (sym after_it.2) (ahead_after limit c.cost c.origin after_it.0.cost node_capped)

      -- nor does what still waits
      all_ahead : (d : Candidate) → Holds last d → IsAhead limit c.cost c.origin d.cost d.origin
      all_ahead d h = elim (offered.only d h) [
        | inl before ↦ ahead_from_greatest limit c rest top d before
        | inr now ↦ pushed_ahead d now
      ]

      after_node : (d : Candidate) → IsAfter limit c (leaving net.steps c.node) d → IsNode net.nodes d.node
      after_node d after_it =
          let has = (leaves c.node after_it.0 net.steps after_it.1).0 in
          subst (λ (e : Candidate). IsNode net.nodes e.node) (sym after_it.2) (All-contains (λ (s : Step). IsNode net.nodes s.from × IsNode net.nodes s.to) net.steps after_it.0 is_net has).1

      after_found : (d : Candidate) → IsAfter limit c (leaving net.steps c.node) d → IsFound limit net sources d.node d.cost d.origin
      after_found d after_it =
          let l = leaves c.node after_it.0 net.steps after_it.1 in
          let from = subst (λ n. IsFound limit net sources n c.cost c.origin) (sym l.1) (search.waiting c left.taken) in
          subst (λ (e : Candidate). IsFound limit net sources e.node e.cost e.origin) (sym after_it.2) (step_found after_it.0 c.cost c.origin l.0 from)

      found_now : (n : ℕ) → IsSettled limit next n → IsFound limit net sources n (reach_cost limit (reach_at next n)) (reach_origin (reach_at next n))
      found_now n settled =
          ⊎_elim
          (λ same.
          let w = search.waiting c left.taken in
          let cost : reach_cost limit (reach_at next n) ≡ c.cost = ap (reach_cost limit) (here_told n same) ∙ cost-reach_of limit c node_capped in
          record {
            way = w.way;
            is_way = subst (λ m. IsWay net sources m w.way) (sym same) w.is_way;
            costs = w.costs ∙ sym cost;
            begins = λ h. w.begins (omega (arith, h, cost)) ∙ sym (ap reach_origin (here_told n same) ∙ origin-reach_of limit c (omega (arith, h, cost)));
          })
          (λ ne. subst (λ r. IsFound limit net sources n (reach_cost limit r) (reach_origin r)) (sym (other_told n ne)) (search.found n (omega (arith, settled, ap (reach_cost limit) (other_told n ne)))))
          (cases_eq n c.node)

      later_now : (n : ℕ) (d : Candidate) → IsSettled limit next n → Holds last d → IsToldAhead limit (reach_at next n) d
      later_now n d settled h =
          ⊎_elim
          (λ same. now_ahead n d.cost d.origin same (all_ahead d h))
          (λ ne. other_ahead n d.cost d.origin ne
          (ahead_trans limit _ _ c.cost c.origin d.cost d.origin (search.later n c (omega (arith, settled, ap (reach_cost limit) (other_told n ne))) left.taken) (all_ahead d h)))
          (cases_eq n c.node)

      tried_now : (s : Step) → Contains net.steps s → IsSettled limit next s.from → IsCovered limit next last (after limit (told limit next s.from) s)
      tried_now s has settled =
          ⊎_elim
          (λ same.
          let here : IsAhead limit c.cost c.origin (reach_cost limit (reach_at next s.from)) (reach_origin (reach_at next s.from)) = back s.from same in
          covered_further limit next last (after limit c s) (after limit (told limit next s.from) s) refl
          (ahead_step limit c.cost c.origin _ _ s.cost here)
          (offered.each next known_next (after limit c s) (s, leaving_has c.node s net.steps same has, refl)))
          (λ ne.
          let old = search.tried s has (omega (arith, settled, ap (reach_cost limit) (other_told s.from ne))) in
          let same_after : after limit (told limit table s.from) s ≡ after limit (told limit next s.from) s = ap (λ (r : Reach). after limit (record { cost = reach_cost limit r; origin = reach_origin r; node = s.from }) s) (sym (other_told s.from ne)) in
          subst (IsCovered limit next last) same_after (covered_now (after limit (told limit table s.from) s) (omega arith) old))
          (cases_eq s.from c.node)
        where
          back : (n : ℕ) → n ≡ c.node → IsAhead limit c.cost c.origin (reach_cost limit (reach_at next n)) (reach_origin (reach_at next n))
          back n e =
              let cost : reach_cost limit (reach_at next n) ≡ c.cost = ap (reach_cost limit) (here_told n e) ∙ cost-reach_of limit c node_capped in
              record {
                cost = omega (arith, cost);
                origin = λ h k. omega (arith, ap reach_origin (here_told n e), origin-reach_of limit c k);
              }

      capped_now : (n : ℕ) → IsCappedReach limit (reach_at next n)
      capped_now n =
          ⊎_elim
          (λ same. subst (IsCappedReach limit) (sym (here_told n same)) (capped-reach_of limit c))
          (λ ne. subst (IsCappedReach limit) (sym (other_told n ne)) (search.capped n))
          (cases_eq n c.node)

      pub search_settles : IsSearch limit net sources (set table (c.node - 1) (reach_of limit c)) known' last
      unfolding next
      search_settles = record {
        many = length-set table (c.node - 1) (reach_of limit c) ∙ search.many;
        capped = capped_now;
        found = found_now;
        nodes = λ d h. elim (offered.only d h) [ inl before ↦ search.nodes d (left.kept d before) | inr now ↦ after_node d now ];
        waiting = λ d h. elim (offered.only d h) [ inl before ↦ search.waiting d (left.kept d before) | inr now ↦ after_found d now ];
        later = later_now;
        begun = λ i s at. covered_now (beginning limit i s) (omega arith) (search.begun i s at);
        tried = tried_now;
        know = offered.size ∙ search.know;
        knows = offered.knows next known_next;
      }

  -- when nothing waits each way is told of
  module _ (table : List Reach) (known : List (Option Candidate)) (search : IsSearch limit net sources table known []) where
    told_now : (e : Candidate) → IsCovered limit table [] e → IsToldAhead limit (reach_at table e.node) e
    told_now e covered = elim covered [ inl told ↦ told | inr w ↦ absurd (contains_none _ w.1) ]

    way_low : (w : Way) (n : ℕ) → IsWay net sources n w → IsAhead limit (reach_cost limit (reach_at table n)) (reach_origin (reach_at table n)) (capped limit (way_cost w)) (way_origin w)
    way_low (Begin i s) n is =
        subst (λ m. IsAhead limit (reach_cost limit (reach_at table m)) (reach_origin (reach_at table m)) (capped limit s.cost) i) is.1 (told_now (beginning limit i s) (search.begun i s is.0))
    way_low (On w s) n is =
        let before = way_low w s.from is.2 in
        let settled : IsSettled limit table s.from = omega (arith, before.cost) in
        let here = told_now (after limit (told limit table s.from) s) (search.tried s is.0 settled) in
        let on = ahead_step limit _ _ (capped limit (way_cost w)) (way_origin w) s.cost before in
        let whole = ahead_trans limit _ _ _ _ _ _ here on in
        let same : capped limit (capped limit (way_cost w) + s.cost) ≡ capped limit (way_cost w + s.cost) = omega arith in
        subst (λ m. IsAhead limit (reach_cost limit (reach_at table m)) (reach_origin (reach_at table m)) (capped limit (way_cost w + s.cost)) (way_origin w)) is.1
        (subst (λ k. IsAhead limit (reach_cost limit (reach_at table s.to)) (reach_origin (reach_at table s.to)) k (way_origin w)) same whole)

    exact_from : (n : ℕ) (r : Reach) → IsCappedReach limit r → (reach_cost limit r ≤ limit + 1 → IsFound limit net sources n (reach_cost limit r) (reach_origin r)) → ((w : Way) → IsWay net sources n w → IsAhead limit (reach_cost limit r) (reach_origin r) (capped limit (way_cost w)) (way_origin w)) → IsReach limit net sources n r
    exact_from n Never is found low = λ w is_way. let a = (low w is_way).cost in absurd (omega arith)
    exact_from n Large is found low =
        let f = found (omega arith) in
        (f.way, f.is_way, λ v is_way. let a = (low v is_way).cost in omega arith)
    exact_from n (Least cost origin) is found low =
        let f = found (omega (arith, is)) in
        let exact : way_cost f.way ≡ cost = omega (arith, f.costs, is) in (
          is,
          record {
            way = f.way;
            is_way = f.is_way;
            costs = exact;
            begins = f.begins is;
            least = λ v is_way. let a = (low v is_way).cost in omega arith;
            first = λ v is_way e. (low v is_way).origin (omega (arith, e)) is;
          },
        )

    pub search_ends : AreLeastWays limit net sources table
    search_ends = record {
      many = search.many;
      exact = λ n. exact_from n (reach_at table n) (search.capped n) (search.found n) (λ w is. way_low w n is);
    }
