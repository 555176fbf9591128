-- What follows a token: the seams of two tokens are the ways inwards, from the nodes at which they may meet to the first token.
use Rattle.std.proofs.Common.{◌≡◌, ℕ, ◌+◌, ◌<◌, ◌≤◌, List, Some, length, get_or, refl, sym, ap, ◌∙◌, subst, ⊎_elim, inl, inr, arith}
use Rattle.std.specs.Prelude.{slice_get}
use Rattle.std.proofs.lemmas.Bool.{cases_lt}
use Rattle.std.proofs.lemmas.Option.{slice_get_within, slice_get-get_or}
use Rattle.cs_grammar.specs.declared.symbol.Symbol.{Symbol}
use Rattle.cs_grammar.specs.declared.symbol.Mark.TheVariants as mark
use Rattle.cs_grammar.specs.Grammar.{PlainGrammar, IsNumberOf, IsGrammar}
use Rattle.cs_grammar.specs.Places.{IsAtMost, SymbolAt}
use Rattle.cs_grammar.specs.Weights.{Measure, Weighed, number}
use Rattle.cs_grammar.specs.Tree.{Tree, Forest, size, yield}
use Rattle.cs_grammar.specs.Context.{Context, Hole, Under, plug}
use Rattle.cs_least.specs.declared.cost.cost.Cost.TheVariants as cost
use Rattle.cs_least.specs.Cost.Least.{IsCost}
use Rattle.cs_least.specs.Cost.Rank.{capped, rank, cost_of}
use Rattle.cs_least.proofs.OnCost.Ranks.{rank-cost_of, IsCapped-cost_of, plus_written, IsCost-from, IsCost-plus, cost_low, cost_reached, cost_capped, one_cost}
use Rattle.cs_least.specs.Embed.ChosenContext.{count}
use Rattle.cs_least.specs.Embed.Ways.{told_cost}
use Rattle.cs_least.proofs.OnEmbed.ChosenContexts.{count_is}
use Rattle.cs_least.proofs.OnEmbed.Told.{told_ways}
use Rattle.cs_least.specs.declared.ways.step.Source.{Source}
use Rattle.cs_least.specs.declared.ways.reach.Reach.{Reach}
use Rattle.cs_least.specs.declared.ways.reach.Reach.TheVariants.{Never, Large, Least}
use Rattle.cs_least.specs.Ways.Ways.{Net, Way, Begin, IsWay, way_cost, way_origin, IsReach}
use Rattle.cs_pairs.specs.Kinds.Numbers.{symbol_number}
use Rattle.cs_pairs.specs.Kinds.Nets.{AreStepsToEnds}
use Rattle.cs_pairs.proofs.OnKinds.Numbers.{rule_symbol}
use Rattle.cs_pairs.proofs.OnKinds.Ending.{way_on, ended}
use Rattle.cs_pairs.specs.declared.pairs.meeting.Meeting.{Meeting}
use Rattle.cs_pairs.specs.Pairs.Beside.{IsSeam, seam_size}
use Rattle.cs_pairs.specs.Pairs.Pairs.{HasPair}
use Rattle.cs_pairs.specs.Pairs.SeamPlace.{SeamAt, size_at, IsMeetingAt}
use Rattle.cs_pairs.specs.Pairs.Sources.{AreRound, round_size, AreSourcesFrom}
use Rattle.cs_pairs.specs.Pairs.Meetings.{pair_cost, origin_in, TellsMeeting}
use Rattle.cs_pairs.proofs.OnPairs.Framed.{tokens_in, tokens_framed}
use Rattle.cs_pairs.proofs.OnPairs.Seams.{cut, IsTree-seam, followed_in_seam, size-seam}
use Rattle.cs_pairs.proofs.OnPairs.SourceLists.{same_round}

-- the place at an index, beside a source
place_at : (places : List Meeting) (sources : List Source) → length places ≡ length sources → (i : ℕ) (s : Source) → slice_get sources i ≡ Some s → (a : Meeting) × (slice_get places i ≡ Some a)
place_at places sources many i s at =
    let d : Meeting = record { rule = 0; place = 0 } in
    (get_or places i d, slice_get-get_or places i d (omega (arith, many, slice_get_within sources i s at)))

module _ (w : Measure) (g : PlainGrammar) (grammar : IsGrammar g) (net : Net) (inwards : AreStepsToEnds (record { grammar = g; weights = w }) net) (b : ℕ) (places : List Meeting) (sources : List Source) (are : AreSourcesFrom w g b 1 0 places sources) (a : ℕ) (fits : IsNumberOf g.tokens a) where
  abbrev weighed : Weighed
  weighed = record { grammar = g; weights = w }

  -- a way to the first token that costs, with its leaf, no more than this
  pub record WayAt (r k c : ℕ) : Type 0 where
    pub way : Way
    pub is_way : IsWay net sources a way
    pub cost : capped w.limit (way_cost way + number w a) ≤ capped w.limit c
    pub place : Meeting
    pub origin : slice_get places (way_origin way) ≡ Some place
    pub rule : place.rule ≡ r
    pub place_is : place.place ≡ k

  pub seam_way : (x : Symbol) (o : Context) (r : ℕ) (f h : Forest) (u : Tree) → IsSeam g a b x (Under o r f h, u) → WayAt r (count f) (seam_size w (Under o r f h, u))
  seam_way x o r f h u is =
      let c = is.0.0 in
      let round : AreRound g b c.0.left c.1 c.2 ((o, f), h) = ((c.7, c.5), (c.6, is.0.1)) in
      let first : IsAtMost 1 0 r (length c.1) = ⊎_elim (λ more. inl more) (λ no. inr (omega (arith, no, c.3.above_zero), omega arith)) (cases_lt 1 r) in
      let at_hole : SymbolAt g r (length c.1) = record { production = c.0; before = c.1; symbol = x; behind = c.2; number = c.3; right = c.4; placed = refl } in
      let v = are.placed.every r (length c.1) (record { here = at_hole; round = ((o, f), h); are = round }) first in
      let s = (are.placed.each v.0 v.1 v.2 v.3 v.4).0 in
      let here = same_round g b r (length c.1) v.1.rule v.1.place (sym v.5) (sym v.6) at_hole s.here ((o, f), h) round in
      let low = cost_low w.limit (AreRound g b s.here.production.left s.here.before s.here.behind) (round_size w) s.others s.is_others ((o, f), h) here.0 in
      let begin : Way = Begin v.0 v.2 in
      let at : IsWay net sources (symbol_number g.tokens x) begin = (v.4, s.node ∙ ap (symbol_number g.tokens) (sym here.1)) in
      let back = way_on weighed grammar net inwards sources a fits u x is.1 begin at in
      record {
        way = back.way;
        is_way = back.is_way;
        cost = omega (arith, back.cost, low, s.cost);
        place = v.1;
        origin = ap (slice_get places) back.origin ∙ v.3;
        rule = v.5;
        place_is = v.6 ∙ sym (count_is g f c.1 c.5);
      }

  -- a seam at the place of a way's source that is no larger than this
  pub record SeamFrom (i c : ℕ) : Type 0 where
    pub place : Meeting
    pub at : slice_get places i ≡ Some place
    pub seam : SeamAt g a b place.rule place.place
    pub cost : capped w.limit (size_at w g a b place.rule place.place seam) ≤ capped w.limit c

  pub way_seam : (z : Way) → IsWay net sources a z → SeamFrom (way_origin z) (way_cost z + number w a)
  way_seam z is =
      let t = ended weighed grammar net inwards sources a fits z is in
      let p = place_at places sources are.placed.many (way_origin z) t.begin t.at in
      let s = (are.placed.each (way_origin z) p.0 t.begin p.1 t.at).0 in
      let symbol = rule_symbol g p.0.rule s.here.production s.here.before s.here.symbol s.here.behind grammar s.here.number s.here.right in
      let tree = t.tree s.here.symbol symbol (sym s.node) in
      let o = cost_reached w.limit (AreRound g b s.here.production.left s.here.before s.here.behind) (round_size w) s.others s.is_others s.low in
      record {
        place = p.0;
        at = p.1;
        seam = record {
          symbol = s.here.symbol;
          outer = o.0.0.0;
          left = o.0.0.1;
          right = o.0.1;
          last = tree.0;
          is_seam = (((s.here.production, s.here.before, s.here.behind, s.here.number, s.here.right, o.1.0.1, o.1.1.0, o.1.0.0), o.1.1.1), tree.1);
          placed = count_is g o.0.0.1 s.here.before o.1.0.1 ∙ s.here.placed;
        };
        cost = omega (arith, o.2, tree.2, s.cost);
      }

  -- the leaf and what follows it
  leaf_cost : IsCost w.limit (λ n. n ≡ number w a) (λ n. n) (cost_of w.limit (number w a))
  leaf_cost =
      IsCost-from w.limit (λ n. n ≡ number w a) (λ n. n) (cost_of w.limit (number w a)) (IsCapped-cost_of w.limit (number w a))
      (λ low. (number w a, refl, omega (arith, rank-cost_of w.limit (number w a))))
      (λ n e. omega (arith, rank-cost_of w.limit (number w a), e))

  module _ (reach : Reach) (is : IsReach w.limit net sources a reach) where
    ways_cost : IsCost w.limit (IsWay net sources a) way_cost (told_cost reach)
    ways_cost = told_ways w.limit net sources a reach is

    abbrev Both : ℕ × Way → Type 0
    Both q = (q.0 ≡ number w a) × IsWay net sources a q.1

    abbrev both_cost : ℕ × Way → ℕ
    both_cost q = q.0 + way_cost q.1

    both : IsCost w.limit Both both_cost (pair_cost w a reach)
    both = IsCost-plus w.limit (λ n. n ≡ number w a) (IsWay net sources a) (λ n. n) way_cost (cost_of w.limit (number w a)) (told_cost reach) leaf_cost ways_cost

    seam_low : (x : Symbol) (s : Context × Tree) → IsSeam g a b x s → rank w.limit (pair_cost w a reach) ≤ capped w.limit (seam_size w s)
    seam_low x (Hole, u) h = absurd h.0.1
    seam_low x (Under o r f k, u) h =
        let v = seam_way x o r f k u h in
        omega (arith, cost_low w.limit Both both_cost (pair_cost w a reach) both (number w a, v.way) (refl, v.is_way), v.cost)

    -- they cost what the pair costs
    pub pair_exact : IsCost w.limit (HasPair g (mark.Token a) (mark.Token b)) (size w) (pair_cost w a reach)
    pair_exact =
        IsCost-from w.limit (HasPair g (mark.Token a) (mark.Token b)) (size w) (pair_cost w a reach) (cost_capped w.limit Both both_cost (pair_cost w a reach) both)
        (λ low.
        let q = cost_reached w.limit Both both_cost (pair_cost w a reach) both low in
        let v = way_seam q.0.1 q.1.1 in
        let s : Context × Tree = (Under v.seam.outer v.place.rule v.seam.left v.seam.right, v.seam.last) in
        let h = v.seam.is_seam in (
          plug s.0 s.1,
          (IsTree-seam w g a b v.seam.symbol s h, tokens_framed a b (yield (plug s.0 s.1)) (followed_in_seam w g a b v.seam.symbol s h)),
          omega (arith, q.2, q.1.0, v.cost, size-seam w g a b v.seam.symbol s h),
        ))
        (λ t h.
        let parts = cut w g a b t h.0 (tokens_in a b (yield t) h.1) in
        omega (arith, seam_low parts.symbol parts.seam parts.is_seam, parts.measure))

  -- of the seams that are no larger than a least one that begins at a source, none is at an earlier place
  module _ (c o : ℕ) (is : IsReach w.limit net sources a (Least c o)) (n : ℕ) (measured : c + number w a ≡ n) (small : n ≤ w.limit) (place : Meeting) (at : slice_get places o ≡ Some place) where
    not_earlier : (q j : ℕ) (u : SeamAt g a b q j) → size_at w g a b q j u ≤ n → IsAtMost place.rule place.place q j
    not_earlier q j u no_larger =
        let v = seam_way u.symbol u.outer q u.left u.right u.last u.is_seam in
        let cheap : way_cost v.way ≤ c = omega (arith, v.cost, no_larger, measured, small) in
        let even : way_cost v.way ≡ c = omega (arith, cheap, is.1.least v.way v.is_way) in
        let first = is.1.first v.way v.is_way even in
        ⊎_elim
        (λ before.
        ⊎_elim
        (λ lower. inl (omega (arith, lower, v.rule)))
        (λ here. inr (here.0 ∙ v.rule, omega (arith, here.1, v.place_is, u.placed)))
        (are.placed.ordered o (way_origin v.way) place v.place before at v.origin))
        (λ not_before.
        let same_origin : o ≡ way_origin v.way = omega (arith, first, not_before) in
        let e : Some place ≡ Some v.place = sym at ∙ ap (slice_get places) same_origin ∙ v.origin in
        let same : place ≡ v.place = cc in
        inr (ap (λ (m : Meeting). m.rule) same ∙ v.rule, omega (arith, ap (λ (m : Meeting). m.place) same, v.place_is, u.placed)))
        (cases_lt o (way_origin v.way))

    larger : (q j : ℕ) (u : SeamAt g a b q j) → (IsAtMost place.rule place.place q j → ⊥) → n < size_at w g a b q j u
    larger q j u earlier = ⊎_elim (λ more. more) (λ no. absurd (earlier (not_earlier q j u (omega (arith, no))))) (cases_lt n (size_at w g a b q j u))

    meeting : IsMeetingAt w g a b n place.rule place.place
    meeting =
        let v = way_seam is.1.way is.1.is_way in
        let e : Some v.place ≡ Some place = sym v.at ∙ ap (slice_get places) is.1.begins ∙ at in
        let same : v.place ≡ place = cc in
        let s = moved v.place same v.seam (omega (arith, v.cost, is.1.costs, measured, small)) in
        record {
          seam = s.0;
          small = s.1;
          earlier = λ q j before k from lt u. larger q k u (λ h. ⊎_elim (λ lower. omega (arith, lower, before)) (λ here. omega (arith, here.0, before)) h);
          before = λ k from lt u. larger place.rule k u (λ h. ⊎_elim (λ lower. omega (arith, lower)) (λ here. omega (arith, here.1, lt)) h);
        }
      where
        moved : (m : Meeting) → m ≡ place → (s : SeamAt g a b m.rule m.place) → size_at w g a b m.rule m.place s ≤ n → (t : SeamAt g a b place.rule place.place) × (size_at w g a b place.rule place.place t ≤ n)
        moved m same s le = subst (λ (z : Meeting). (t : SeamAt g a b z.rule z.place) × (size_at w g a b z.rule z.place t ≤ n)) same (s, le)

  -- what is told of a least cost within the limit
  written : (reach : Reach) (n : ℕ) → cost.Least n ≡ pair_cost w a reach → n ≤ w.limit → (number w a + rank w.limit (told_cost reach) ≡ n) × (rank w.limit (told_cost reach) ≤ w.limit)
  written reach n e small =
      let sum = plus_written w.limit (cost_of w.limit (number w a)) (told_cost reach) (omega (arith, ap (rank w.limit) e, small)) in
      let r = rank-cost_of w.limit (number w a) in
      (omega (arith, sum, r, ap (rank w.limit) e, small), omega (arith, sum, r, ap (rank w.limit) e, small))

  tells : (reach : Reach) → IsReach w.limit net sources a reach → (n : ℕ) → n ≤ w.limit → cost.Least n ≡ pair_cost w a reach → (at : Meeting) × (origin_in places reach ≡ Some at) × IsMeetingAt w g a b n at.rule at.place
  tells Never is n small e = absurd (omega (arith, (written Never n e small).1))
  tells Large is n small e = absurd (omega (arith, (written Large n e small).1))
  tells (Least c o) is n small e =
      let v = way_seam is.1.way is.1.is_way in
      let at : slice_get places o ≡ Some v.place = ap (slice_get places) (sym is.1.begins) ∙ v.at in
      (v.place, at, meeting c o is n (omega (arith, (written (Least c o) n e small).0)) small v.place at)

  pub meeting_told : (reach : Reach) → IsReach w.limit net sources a reach → TellsMeeting w g a b (origin_in places reach)
  meeting_told reach is n h =
      tells reach is n h.0 (one_cost w.limit (HasPair g (mark.Token a) (mark.Token b)) (size w) (cost.Least n) (pair_cost w a reach) h (pair_exact reach is))
