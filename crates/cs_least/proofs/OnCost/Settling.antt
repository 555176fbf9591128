-- The worklist's steps: what is settled later is no smaller than what was settled earlier.
use Rattle.std.proofs.Common.{◌≡◌, ℕ, zero, suc, ◌+◌, ◌-◌, ◌<◌, ◌≤◌, ◌⊎◌, false, List, [], ◌∷◌, Some, length, get_or, drop, replicate, refl, sym, ap, ◌∙◌, subst, ⊎_elim, inl, inr, arith, below_more}
use Rattle.std.specs.Prelude.{All, Contains, slice_get, slice_index}
use Rattle.std.specs.List.{sum_by}
use Rattle.std.specs.List.Sorted.{IsPermutation}
use Rattle.std.specs.BinaryHeap.{IsHeap, IsUpperBound}
use Rattle.std.specs.Ordering.{nat_cmp, ordering_then, is_lt}
use Rattle.std.specs.declared.cmp.Ordering.{Ordering}
use Rattle.std.specs.declared.cmp.Ordering.TheVariants.{Less, Equal, Greater}
use Rattle.std.proofs.Math.ListN.{set}
use Rattle.std.proofs.lemmas.Bool.{cases_eq}
use Rattle.std.proofs.lemmas.Bool.Decides.{nat_tests}
use Rattle.std.proofs.lemmas.List.{length-set, get_or-set_same, get_or-set_other, get_or_read, get_or_default, at_drop_more}
use Rattle.std.proofs.lemmas.List.Elements.{All-nil, All-cons, All-head, All-tail, Contains-append_left, Contains-append_right, Contains-append_cases, Contains-push}
use Rattle.std.proofs.lemmas.List.Sums.{sum_by-set}
use Rattle.std.proofs.lemmas.List.Sorted.{All-permutation, Contains-permutation}
use Rattle.std.proofs.lemmas.Option.{slice_get_within, slice_get-get_or}
use Rattle.cs_grammar.specs.declared.symbol.Symbol.{Symbol}
use Rattle.cs_grammar.specs.declared.symbol.Symbol.TheVariants.{Token, Nonterminal}
use Rattle.cs_grammar.specs.Grammar.{Production, PlainGrammar, IsNumberOf, IsGrammar}
use Rattle.cs_grammar.specs.Weights.{Measure}
use Rattle.cs_grammar.specs.Tree.{Node, size}
use Rattle.cs_least.specs.declared.cost.cost.Cost.{Cost}
use Rattle.cs_least.specs.declared.cost.cost.Cost.TheVariants.{Never}
use Rattle.cs_least.specs.Cost.Rank.{rank, IsCapped, cost_of, entry}
use Rattle.cs_least.specs.Cost.Trees.{IsTreeOf, cost_in, node_cost, IsSound, IsClosed, IsBelowRule}
use Rattle.cs_least.specs.Cost.Users.{occurs, stands, AreUsers}
use Rattle.cs_least.specs.Cost.Worklist.{is_open, open_in, nonterminals_in, Candidate, candidate, by_size, IsCandidate, offered, IsCovered, IsTold, IsAt, IsTaken}
use Rattle.cs_least.proofs.OnCost.Ranks.{rank-cost_of, rank_most, IsCapped-cost_of}
use Rattle.cs_grammar.proofs.Tables.{entry_or-at, entry_or-set_same, entry_or-set_other, entry_or-replicate}
use Rattle.cs_least.proofs.OnCost.Tables.{IsCapped-entry, Holds-set}
use Rattle.cs_least.proofs.OnCost.TreeCosts.{IsReached-holds, node_reached}
use Rattle.cs_least.proofs.OnCost.Rules.{rule_at, well_formed_at, sound_start}
use Rattle.cs_least.proofs.OnCost.Counts.{same_yes, same_no, stands_below, open_never, closed_known, known_not, sum_from_other, open_settled}

-- what leaves the heap is of least size
not_lt : (a b : Ordering) → is_lt (ordering_then a b) ≡ false → is_lt a ≡ false
not_lt Less b e = e
not_lt Equal b e = refl
not_lt Greater b e = e

no_less : (x y : ℕ) → is_lt (nat_cmp y x) ≡ false → x ≤ y
no_less x y e = grind (arith, nat_tests)

pub least_first : (c : Candidate) (heap : List Candidate) → IsUpperBound by_size c heap → All (λ d. c.0.0 ≤ d.0.0) heap
least_first c [] h = All-nil (λ d. c.0.0 ≤ d.0.0)
least_first c (d ∷ heap) h =
    All-cons (λ e. c.0.0 ≤ e.0.0) d heap (no_less c.0.0 d.0.0 (not_lt (nat_cmp d.0.0 c.0.0) (nat_cmp d.0.1 c.0.1) h.0)) (least_first c heap h.1)

-- before the first rule
pub at_start : (w : Measure) (g : PlainGrammar) (unsettled : List ℕ) (heap : List Candidate) → length unsettled ≡ length g.rules → ((k : ℕ) (p : Production) → slice_get g.rules k ≡ Some p → slice_index unsettled k ≡ open_in (replicate g.nonterminals Never) p.right) → heap ≡ [] → IsHeap by_size heap → IsAt w g (replicate g.nonterminals Never) unsettled heap 0 [] 0
at_start w g unsettled heap many counts empty ordered = record {
  sound = sound_start w g;
  settled = λ n h. absurd (omega (arith, h, ap (rank w.limit) (entry_or-replicate Never g.nonterminals n)));
  ordered = ordered;
  candidates = subst (All (IsCandidate w g 0)) (sym empty) (All-nil (IsCandidate w g 0));
  told = All-nil (IsTold w g (replicate g.nonterminals Never) 0);
  many = many;
  counted = λ k p at. omega (arith, counts k p at);
  covered = λ k p below at e. absurd (omega (arith, below));
}

module _ (w : Measure) (g : PlainGrammar) (table : List Cost) (unsettled : List ℕ) (heap : List Candidate) (last : ℕ) (untold : List ℕ) (done : ℕ) (here : IsAt w g table unsettled heap last untold done) where
  each : All (IsCapped w.limit) table
  each = here.sound.holds.each

  -- a rule without open nonterminals has a candidate
  pub IsCandidate-offered : (k : ℕ) (p : Production) → IsGrammar g → slice_get g.rules k ≡ Some p → open_in table p.right ≡ 0 → last ≤ rank w.limit (node_cost w table p.right) → IsCandidate w g last (offered w table p)
  IsCandidate-offered k p grammar at none later =
      let small = closed_known w table each p.right (cost_of w.limit 1) (omega (arith, rank-cost_of w.limit 1)) none in
      let f = node_reached w g (cost_in w table) (IsReached-holds w g table here.sound.holds) (k + 1) p (rule_at g k p at) small in
      record {
        later = later;
        small = small;
        number = (well_formed_at g k p grammar at).left;
        tree = Node (k + 1) f.0;
        is_tree = (p, rule_at g k p at, refl, f.1);
        size = f.2;
      }

  -- a candidate joins the heap
  pub at_push : (c : Candidate) (after : List Candidate) → IsCandidate w g last c → IsPermutation (c ∷ heap) after → IsHeap by_size after → IsAt w g table unsettled after last untold done
  at_push c after is joins ordered = record {
    sound = here.sound;
    settled = here.settled;
    ordered = ordered;
    candidates = All-permutation (IsCandidate w g last) (c ∷ heap) after joins (All-cons (IsCandidate w g last) c heap is here.candidates);
    told = here.told;
    many = here.many;
    counted = here.counted;
    covered = λ k p below at e.
        ⊎_elim (λ low. inl low)
        (λ waits. inr (Contains-permutation (c ∷ heap) after (offered w table p) joins (Contains-append_right (c ∷ []) heap (offered w table p) waits)))
        (here.covered k p below at e);
  }

  -- the next rule was looked at
  pub at_next : (p : Production) → slice_get g.rules done ≡ Some p → (slice_index unsettled done ≡ 0 → IsCovered w table heap p) → IsAt w g table unsettled heap last untold (done + 1)
  at_next p at covers = record {
    sound = here.sound;
    settled = here.settled;
    ordered = here.ordered;
    candidates = here.candidates;
    told = here.told;
    many = here.many;
    counted = here.counted;
    covered = λ k o within.
        below_more (λ n. (q : Production) → slice_get g.rules n ≡ Some q → slice_index unsettled n ≡ 0 → IsCovered w table heap q) done
        (λ n lt q. here.covered n q lt)
        (λ q there none. let same : p ≡ q = cc in subst (IsCovered w table heap) same (covers none))
        k within o;
  }

-- what joined the heap is in it
pub joined : (c : Candidate) (heap after : List Candidate) → IsPermutation (c ∷ heap) after → Contains after c
joined c heap after joins = Contains-permutation (c ∷ heap) after c joins (Contains-append_left (c ∷ []) heap c (Contains-push [] c))

-- the next rule is told that a nonterminal of it was settled
module _ (w : Measure) (g : PlainGrammar) (table : List Cost) (unsettled : List ℕ) (heap : List Candidate) (last k : ℕ) (untold : List ℕ) (done : ℕ) (here : IsAt w g table unsettled heap last (k ∷ untold) done) where
  pub told_first : IsTold w g table last k
  told_first = All-head (IsTold w g table last) k untold here.told

  pub told_within : k < length g.rules
  told_within = slice_get_within g.rules k told_first.rule told_first.at

  pub told_count : slice_index unsettled k ≡ open_in table told_first.rule.right + (1 + occurs k untold)
  told_count = omega (arith, here.counted k told_first.rule told_first.at, same_yes k k refl)

  pub at_told : (slice_index unsettled k - 1 ≡ 0 → IsCovered w table heap told_first.rule) → IsAt w g table (set unsettled k (slice_index unsettled k - 1)) heap last untold done
  at_told covers = record {
    sound = here.sound;
    settled = here.settled;
    ordered = here.ordered;
    candidates = here.candidates;
    told = All-tail (IsTold w g table last) k untold here.told;
    many = length-set unsettled k (slice_index unsettled k - 1) ∙ here.many;
    counted = λ j p at. ⊎_elim (λ e. counted_here j p e at) (λ ne. counted_there j p ne at) (cases_eq j k);
    covered = λ j p below at none. ⊎_elim (λ e. covered_here j p e at none) (λ ne. covered_there j p ne below at none) (cases_eq j k);
  }
    where
      after : List ℕ
      after = set unsettled k (slice_index unsettled k - 1)

      read_here : (j : ℕ) → j ≡ k → slice_index after j ≡ slice_index unsettled k - 1
      read_here j e =
          ap (λ i. slice_index after i) e ∙ get_or-set_same unsettled k (slice_index unsettled k - 1) 0 (omega (arith, told_within, here.many))

      read_there : (j : ℕ) → (j ≡ k → ⊥) → slice_index after j ≡ slice_index unsettled j
      read_there j ne = get_or-set_other unsettled k j (slice_index unsettled k - 1) 0 ne

      is_rule : (j : ℕ) (p : Production) → j ≡ k → slice_get g.rules j ≡ Some p → told_first.rule ≡ p
      is_rule j p e at =
          let there = ap (λ i. slice_get g.rules i) (sym e) ∙ at in
          let first = told_first.at in
          cc

      counted_here : (j : ℕ) (p : Production) → j ≡ k → slice_get g.rules j ≡ Some p → slice_index after j ≡ open_in table p.right + occurs j untold
      counted_here j p e at =
          omega (arith, read_here j e, told_count, ap (λ (q : Production). open_in table q.right) (is_rule j p e at), ap (λ i. occurs i untold) e)

      counted_there : (j : ℕ) (p : Production) → (j ≡ k → ⊥) → slice_get g.rules j ≡ Some p → slice_index after j ≡ open_in table p.right + occurs j untold
      counted_there j p ne at = omega (arith, read_there j ne, here.counted j p at, same_no j k ne)

      covered_here : (j : ℕ) (p : Production) → j ≡ k → slice_get g.rules j ≡ Some p → slice_index after j ≡ 0 → IsCovered w table heap p
      covered_here j p e at none = subst (IsCovered w table heap) (is_rule j p e at) (covers (sym (read_here j e) ∙ none))

      covered_there : (j : ℕ) (p : Production) → (j ≡ k → ⊥) → j < done → slice_get g.rules j ≡ Some p → slice_index after j ≡ 0 → IsCovered w table heap p
      covered_there j p ne below at none = here.covered j p below at (sym (read_there j ne) ∙ none)

-- a candidate has left the heap
module _ (w : Measure) (g : PlainGrammar) (table : List Cost) (unsettled : List ℕ) (heap : List Candidate) (least number : ℕ) (taken : IsTaken w g table unsettled heap least number) where
  all_before : All (IsCandidate w g taken.last) (candidate least number ∷ heap)
  all_before = All-permutation (IsCandidate w g taken.last) taken.before (candidate least number ∷ heap) taken.taken taken.at.candidates

  pub the_candidate : IsCandidate w g taken.last (candidate least number)
  the_candidate = All-head (IsCandidate w g taken.last) (candidate least number) heap all_before

  -- the others are no smaller
  others : All (IsCandidate w g least) heap
  others i d within =
      let old = All-tail (IsCandidate w g taken.last) (candidate least number) heap all_before i d within in
      record {
        later = taken.least i d within;
        small = old.small;
        number = old.number;
        tree = old.tree;
        is_tree = old.is_tree;
        size = old.size;
      }

  -- what waited still waits, or it was this candidate
  was_taken : (p : Production) → Contains taken.before (offered w table p) → Contains heap (offered w table p) ⊎ (candidate least number ≡ offered w table p)
  was_taken p waits =
      ⊎_elim (λ first. inr (only (candidate least number) (offered w table p) first)) (λ rest. inl rest)
      (Contains-append_cases (candidate least number ∷ []) heap (offered w table p) (Contains-permutation taken.before (candidate least number ∷ heap) (offered w table p) taken.taken waits))
    where
      only : (c d : Candidate) → Contains (c ∷ []) d → c ≡ d
      only c d h = let e : h.0 ≡ 0 = omega (arith, h.1) in sym (ap (λ i. get_or (c ∷ []) i d) e) ∙ h.2

  -- its nonterminal was settled before, at no greater size
  pub at_dropped : (entry table number ≡ Never → ⊥) → IsAt w g table unsettled heap least [] (length g.rules)
  at_dropped settled = record {
    sound = taken.at.sound;
    settled = λ n h. omega (arith, taken.at.settled n h, the_candidate.later);
    ordered = taken.ordered;
    candidates = others;
    told = All-nil (IsTold w g table least);
    many = taken.at.many;
    counted = taken.at.counted;
    covered = λ k p below at none.
        ⊎_elim (λ low. inl low)
        (λ waits. ⊎_elim (λ rest. inr rest) (λ first. inl (below_taken p first)) (was_taken p waits))
        (taken.at.covered k p below at none);
  }
    where
      earlier : rank w.limit (entry table number) ≤ taken.last
      earlier =
          taken.at.settled number
          (known_not w.limit (entry table number) settled (IsCapped-entry w.limit table number taken.at.sound.holds.each))

      below_taken : (p : Production) → candidate least number ≡ offered w table p → IsBelowRule w table p
      below_taken p e =
          let size_is : least ≡ rank w.limit (node_cost w table p.right) = ap (λ (c : Candidate). c.0.0) e in
          let left_is : number ≡ p.left = ap (λ (c : Candidate). c.0.1) e in
          omega (arith, earlier, the_candidate.later, size_is, ap (λ n. rank w.limit (entry table n)) left_is)

  -- its nonterminal is settled now
  module _ (never : entry table number ≡ Never) (users : List ℕ) (are : AreUsers g number users) where
    within_table : IsNumberOf (length table) number
    within_table = subst (λ n. IsNumberOf n number) (sym taken.at.sound.many) the_candidate.number

    abbrev settles : Cost
    settles = cost_of w.limit least

    abbrev then_table : List Cost
    then_table = set table (number - 1) settles

    settled_rank : rank w.limit settles ≡ least
    settled_rank = omega (arith, rank-cost_of w.limit least, the_candidate.small)

    not_never : settles ≡ Never → ⊥
    not_never e = omega (arith, ap (rank w.limit) e, settled_rank, the_candidate.small)

    rank_here : rank w.limit (entry then_table number) ≡ least
    rank_here = ap (rank w.limit) (entry_or-set_same Never table number settles within_table) ∙ settled_rank

    rank_there : (n : ℕ) → (n ≡ number → ⊥) → rank w.limit (entry then_table n) ≡ rank w.limit (entry table n)
    rank_there n ne = ap (rank w.limit) (entry_or-set_other Never table number n settles within_table.0 ne)

    sound_then : IsSound w g then_table
    sound_then = record {
      many = length-set table (number - 1) settles ∙ taken.at.sound.many;
      holds = Holds-set w.limit (IsTreeOf g) (size w) table number settles taken.at.sound.holds within_table (IsCapped-cost_of w.limit least)
          (λ small. (the_candidate.tree, the_candidate.is_tree, omega (arith, the_candidate.size, settled_rank)));
    }

    -- a rule without open nonterminals doesn't have this one
    node_same : (k : ℕ) (p : Production) → slice_get g.rules k ≡ Some p → slice_index unsettled k ≡ 0 → rank w.limit (node_cost w then_table p.right) ≡ rank w.limit (node_cost w table p.right)
    node_same k p at none =
        let e : stands number p.right ≡ 0 = omega (arith, open_settled table number settles within_table p.right never not_never, taken.at.counted k p at, none) in
        ap (rank w.limit) (sum_from_other table number settles within_table w p.right (cost_of w.limit 1) e)

    covered_then : (k : ℕ) (p : Production) → slice_get g.rules k ≡ Some p → slice_index unsettled k ≡ 0 → IsCovered w table taken.before p → IsCovered w then_table heap p
    covered_then k p at none covers =
        let node_is = node_same k p at none in
        let waits_is : offered w table p ≡ offered w then_table p = ap (λ r. candidate r p.left) (sym node_is) in
        ⊎_elim
        (λ low. inl (⊎_elim
        (λ here. omega (arith, low, node_is, ap (λ n. rank w.limit (entry then_table n)) here, rank_here, the_candidate.small, ap (λ n. rank w.limit (entry table n)) here, ap (rank w.limit) never))
        (λ there. omega (arith, low, node_is, rank_there p.left there))
        (cases_eq p.left number)))
        (λ waits. ⊎_elim
        (λ rest. inr (subst (λ (c : Candidate). Contains heap c) waits_is rest))
        (λ first.
        let size_is : least ≡ rank w.limit (node_cost w table p.right) = ap (λ (c : Candidate). c.0.0) first in
        let left_is : number ≡ p.left = ap (λ (c : Candidate). c.0.1) first in
        inl (omega (arith, size_is, node_is, rank_here, ap (λ n. rank w.limit (entry then_table n)) left_is)))
        (was_taken p waits))
        covers

    told_then : All (IsTold w g then_table least) users
    told_then i d within = is_told (get_or users i d) (are.within i d within) (member users i d within)
      where
        member : (xs : List ℕ) (i d : ℕ) → i < length xs → 0 < occurs (get_or xs i d) xs
        member [] i d h = absurd (omega arith)
        member (x ∷ xs) zero d h = omega (arith, same_yes x x refl)
        member (x ∷ xs) (suc i) d h = omega (arith, member xs i d (omega (arith, h)))

        none_rule : Production
        none_rule = record { left = 0; right = [] }

        is_told : (k : ℕ) → k < length g.rules → 0 < occurs k users → IsTold w g then_table least k
        is_told k inside some =
            let p = get_or g.rules k none_rule in
            let at = slice_get-get_or g.rules k none_rule inside in
            record {
              rule = p;
              at = at;
              later = omega (arith, rank_here, stands_below w then_table sound_then.holds.each number p.right (cost_of w.limit 1) (IsCapped-cost_of w.limit 1) (omega (arith, some, are.each k p at)));
            }

    pub at_settled : IsAt w g then_table unsettled heap least users (length g.rules)
    at_settled = record {
      sound = sound_then;
      settled = λ n h.
          ⊎_elim
          (λ here. omega (arith, ap (λ m. rank w.limit (entry then_table m)) here, rank_here))
          (λ there. omega (arith, rank_there n there, taken.at.settled n (omega (arith, h, rank_there n there)), the_candidate.later))
          (cases_eq n number);
      ordered = taken.ordered;
      candidates = others;
      told = told_then;
      many = taken.at.many;
      counted = λ k p at. omega (arith, taken.at.counted k p at, open_settled table number settles within_table p.right never not_never, are.each k p at);
      covered = λ k p below at none. covered_then k p at none (taken.at.covered k p below at none);
    }

-- when no candidate is left no rule leads below the table
pub closed_at_end : (w : Measure) (g : PlainGrammar) (table : List Cost) (unsettled : List ℕ) (heap : List Candidate) (last : ℕ) → length heap ≡ 0 → IsAt w g table unsettled heap last [] (length g.rules) → IsClosed w g table
closed_at_end w g table unsettled heap last empty here = record { below = λ r p rule. below (r - 1) p rule.at }
  where
    below : (k : ℕ) (p : Production) → slice_get g.rules k ≡ Some p → IsBelowRule w table p
    below k p at =
        ⊎_elim
        (λ none. ⊎_elim (λ low. low)
        (λ waits. absurd (omega (arith, waits.1, empty)))
        (here.covered k p (slice_get_within g.rules k p at) at none))
        (λ some.
        let open_some : 0 < open_in table p.right = omega (arith, some, here.counted k p at) in
        omega (
          arith,
          open_never w table here.sound.holds.each p.right (cost_of w.limit 1) (IsCapped-cost_of w.limit 1) open_some,
          rank_most w.limit (entry table p.left) (IsCapped-entry w.limit table p.left here.sound.holds.each),
        ))
        (cases_eq (slice_index unsettled k) 0)

-- the counts of the rules below index i
pub record CountsBelow (g : PlainGrammar) (counts : List ℕ) (i : ℕ) : Type 0 where
  pub many : length counts ≡ i
  pub each : (k : ℕ) (p : Production) → k < i → slice_get g.rules k ≡ Some p → slice_index counts k ≡ nonterminals_in p.right

-- where nothing is settled each nonterminal is open
pub open_in-replicate : (many : ℕ) (xs : List Symbol) → open_in (replicate many Never) xs ≡ nonterminals_in xs
open_in-replicate many [] = refl
open_in-replicate many (Token t ∷ xs) = open_in-replicate many xs
open_in-replicate many (Nonterminal n ∷ xs) = omega (arith, ap is_open (entry_or-replicate Never many n), open_in-replicate many xs)

-- the loop over the rules in which a nonterminal stands
module _ (w : Measure) (g : PlainGrammar) (table : List Cost) (unsettled : List ℕ) (heap : List Candidate) (last : ℕ) (places : List ℕ) (i done : ℕ) (within : i < length places) (here : IsAt w g table unsettled heap last (drop i places) done) where
  pub at_front : IsAt w g table unsettled heap last (get_or places i 0 ∷ drop (i + 1) places) done
  at_front =
      subst (λ (us : List ℕ). IsAt w g table unsettled heap last us done) (at_drop_more (λ (us : List ℕ). us) places i 0 within) here

  pub front_within : get_or places i 0 < length g.rules
  front_within = told_within w g table unsettled heap last (get_or places i 0) (drop (i + 1) places) done at_front

  pub front_unsettled : get_or places i 0 < length unsettled
  front_unsettled = omega (arith, front_within, here.many)

  pub front_count : 0 < slice_index unsettled (get_or places i 0)
  front_count = omega (arith, told_count w g table unsettled heap last (get_or places i 0) (drop (i + 1) places) done at_front)

  -- it is told: one of its nonterminals fewer is open
  module _ (x : ℕ) (read : x ≡ get_or unsettled (get_or places i 0) x) where
    left_is : x ≡ slice_index unsettled (get_or places i 0)
    left_is = get_or_read unsettled (get_or places i 0) x front_unsettled read 0

    pub front_above : 1 ≤ x
    front_above = omega (arith, left_is, front_count)

    pub fewer : sum_by (λ n. n) (set unsettled (get_or places i 0) (x - 1)) + 1 ≤ sum_by (λ n. n) unsettled
    fewer = omega (arith, sum_by-set (λ n. n) unsettled (get_or places i 0) (x - 1) 0 front_unsettled, left_is, front_count)

    -- others are still open
    pub at_less : (x - 1 ≡ 0 → ⊥) → IsAt w g table (set unsettled (get_or places i 0) (x - 1)) heap last (drop (i + 1) places) done
    at_less some =
        subst (λ y. IsAt w g table (set unsettled (get_or places i 0) (y - 1)) heap last (drop (i + 1) places) done) (sym left_is)
        (at_told w g table unsettled heap last (get_or places i 0) (drop (i + 1) places) done at_front (λ none. absurd (some (omega (arith, none, left_is)))))

    -- none is, and its node joins the candidates
    pub at_offered : (p : Production) (after : List Candidate) → IsGrammar g → slice_get g.rules (get_or places i 0) ≡ Some p → x - 1 ≡ 0 → IsPermutation (offered w table p ∷ heap) after → (IsHeap by_size heap → IsHeap by_size after) → IsAt w g table (set unsettled (get_or places i 0) (x - 1)) after last (drop (i + 1) places) done
    at_offered p after grammar at none joins ordered =
        let k = get_or places i 0 in
        let untold = drop (i + 1) places in
        let first = told_first w g table unsettled heap last k untold done at_front in
        let same : first.rule ≡ p = (let e = first.at in cc) in
        let count = told_count w g table unsettled heap last k untold done at_front in
        let none_open : open_in table p.right ≡ 0 = omega (arith, count, left_is, none, ap (λ (o : Production). open_in table o.right) same) in
        let later : last ≤ rank w.limit (node_cost w table p.right) = omega (arith, first.later, ap (λ (o : Production). rank w.limit (node_cost w table o.right)) same) in
        let is = IsCandidate-offered w g table unsettled heap last (k ∷ untold) done at_front k p grammar at none_open later in
        let pushed = at_push w g table unsettled heap last (k ∷ untold) done at_front (offered w table p) after is joins (ordered here.ordered) in
        let again = told_first w g table unsettled after last k untold done pushed in
        let rule_is : p ≡ again.rule = (let e = again.at in cc) in
        subst (λ y. IsAt w g table (set unsettled k (y - 1)) after last untold done) (sym left_is)
        (at_told w g table unsettled after last k untold done pushed (λ e. subst (IsCovered w table after) rule_is (inr (joined (offered w table p) heap after joins))))

-- the least candidate leaves the heap
pub take_least : (w : Measure) (g : PlainGrammar) (table : List Cost) (unsettled : List ℕ) (before heap : List Candidate) (last : ℕ) (c : Candidate) → IsAt w g table unsettled before last [] (length g.rules) → IsPermutation before (c ∷ heap) → (IsHeap by_size before → IsHeap by_size heap × IsUpperBound by_size c before) → (IsHeap by_size before → IsUpperBound by_size c heap) → IsTaken w g table unsettled heap c.0.0 c.0.1
take_least w g table unsettled before heap last c here taken keeps below = record {
  before = before;
  last = last;
  at = here;
  taken = taken;
  ordered = (keeps here.ordered).0;
  least = least_first c heap (below here.ordered);
}

-- what was read of a nonterminal is what the table says of it
pub read_entry : (table : List Cost) (n : ℕ) (c : Cost) → IsNumberOf (length table) n → c ≡ get_or table (n - 1) c → c ≡ entry table n
read_entry table n c number read =
    read ∙ get_or_default table (n - 1) c Never (omega (arith, number)) ∙ sym (entry_or-at Never table n number.0)

-- the loop over all rules, which puts those without nonterminals among the candidates
module _ (w : Measure) (g : PlainGrammar) (table : List Cost) (unsettled : List ℕ) (heap : List Candidate) (i : ℕ) (here : IsAt w g table unsettled heap 0 [] i) (p : Production) (at : slice_get g.rules i ≡ Some p) (x : ℕ) (read : x ≡ get_or unsettled i x) where
  count_is : x ≡ slice_index unsettled i
  count_is = get_or_read unsettled i x (omega (arith, slice_get_within g.rules i p at, here.many)) read 0

  pub first_passed : (x ≡ 0 → ⊥) → IsAt w g table unsettled heap 0 [] (i + 1)
  first_passed some = at_next w g table unsettled heap 0 [] i here p at (λ none. absurd (some (count_is ∙ none)))

  pub first_offered : (after : List Candidate) → IsGrammar g → x ≡ 0 → IsPermutation (offered w table p ∷ heap) after → (IsHeap by_size heap → IsHeap by_size after) → IsAt w g table unsettled after 0 [] (i + 1)
  first_offered after grammar none joins ordered =
      let none_open : open_in table p.right ≡ 0 = omega (arith, here.counted i p at, count_is, none) in
      let is = IsCandidate-offered w g table unsettled heap 0 [] i here i p grammar at none_open (omega arith) in
      let pushed = at_push w g table unsettled heap 0 [] i here (offered w table p) after is joins (ordered here.ordered) in
      at_next w g table unsettled after 0 [] i pushed p at (λ e. inr (joined (offered w table p) heap after joins))
