-- The place of the hole in the chosen context: the first step by which a least way ends leads to it.
use Rattle.std.proofs.Common.{◌≡◌, ◌≢◌, ℕ, ◌+◌, ◌<◌, ◌≤◌, List, Some, None, refl, sym, ap, ◌∙◌, subst, ⊎_elim, arith}
use Rattle.std.specs.Prelude.{slice_get}
use Rattle.std.proofs.lemmas.Bool.{cases_lt}
use Rattle.cs_grammar.specs.Grammar.{PlainGrammar, IsGrammar}
use Rattle.cs_grammar.specs.Places.{IsEarlier}
use Rattle.cs_grammar.specs.Weights.{Measure}
use Rattle.cs_grammar.specs.Tree.{Forest}
use Rattle.cs_grammar.specs.Context.{Context, Hole, Under, context_size}
use Rattle.cs_least.specs.Cost.Least.{IsCost}
use Rattle.cs_least.specs.Cost.Rank.{capped, rank}
use Rattle.cs_least.proofs.OnCost.Ranks.{cost_low, cost_reached, cost_least}
use Rattle.cs_least.specs.declared.embed.inwards.RulePlace.{RulePlace}
use Rattle.cs_least.specs.Embed.ChosenContext.{count}
use Rattle.cs_least.specs.Embed.Around.{IsContextOf}
use Rattle.cs_least.specs.Embed.Embeds.{AreSiblings, siblings_size}
use Rattle.cs_least.specs.Embed.Ways.{IsInward, AreInwards, start_of, told_cost, told_at}
use Rattle.cs_least.proofs.OnEmbed.InwardWays.{taken, context_way, told_exact}
use Rattle.cs_least.proofs.OnEmbed.Told.{told_ways}
use Rattle.cs_least.specs.declared.ways.step.Step.{Step}
use Rattle.cs_least.specs.declared.ways.reach.Reach.{Reach}
use Rattle.cs_least.specs.declared.ways.reach.Reach.TheVariants.{Never, Large, Least}
use Rattle.cs_least.proofs.OnWays.PlacedLists.{not_both}
use Rattle.cs_least.proofs.OnWays.FirstTight.{contains_at}
use Rattle.cs_least.specs.Ways.Ways.{Net, net_of, Way, Begin, On, IsWay, way_cost, reach_at, AreLeastWays, HasNoStep, IsFirstStep, IsFirstTold}

-- A step to the place costs, with the least context of its left side, what is told of n, and each context of n whose rule and
-- place come before costs more.
pub record IsFirstPlace (w : Measure) (g : PlainGrammar) (table : List Reach) (n : ℕ) (a : RulePlace) : Type 0 where
  pub step : Step
  pub inward : IsInward w g a step
  pub to : step.to ≡ n
  pub cost : rank w.limit (told_at table step.from) + step.cost ≡ rank w.limit (told_at table n)
  pub earlier : (outer : Context) → (q : ℕ) → (left right : Forest) → IsContextOf g n (Under outer q left right) → IsEarlier q (count left) a.rule a.place → rank w.limit (told_at table n) < capped w.limit (context_size w (Under outer q left right))

-- what is told of the last steps of a node within the limit
module _ (limit : ℕ) (g : PlainGrammar) (net : Net) (n : ℕ) where
  pub told_none : (r : Reach) → IsFirstTold net (start_of g) n r None → rank limit (told_cost r) ≤ limit → HasNoStep net (start_of g) n (rank limit (told_cost r))
  told_none Never h small = absurd (omega (arith, small))
  told_none Large h small = absurd (omega (arith, small))
  told_none (Least c o) h small = h

  pub told_some : (r : Reach) (i : ℕ) → IsFirstTold net (start_of g) n r (Some i) → rank limit (told_cost r) ≤ limit → IsFirstStep net (start_of g) n (rank limit (told_cost r)) i
  told_some Never i h small = absurd (omega (arith, small))
  told_some Large i h small = absurd (omega (arith, small))
  told_some (Least c o) i h small = h

module _ (w : Measure) (g : PlainGrammar) (grammar : IsGrammar g) (places : List RulePlace) (steps : List Step) (are : AreInwards w g places steps) (table : List Reach) (least : AreLeastWays w.limit (net_of g.nonterminals steps) (start_of g) table) (n : ℕ) (small : rank w.limit (told_at table n) ≤ w.limit) where
  abbrev net : Net
  net = net_of g.nonterminals steps

  abbrev told : ℕ → ℕ
  told m = rank w.limit (told_at table m)

  ways_cost : (m : ℕ) → IsCost w.limit (IsWay net (start_of g) m) way_cost (told_at table m)
  ways_cost m = told_ways w.limit net (start_of g) m (reach_at table m) (least.exact m)

  low : (m : ℕ) (v : Way) → IsWay net (start_of g) m v → told m ≤ capped w.limit (way_cost v)
  low m v is = cost_low w.limit (IsWay net (start_of g) m) way_cost (told_at table m) (ways_cost m) v is

  -- a least way that a context gives, where the context is as small as is told
  way_by : (outer : Context) (q : ℕ) (left right : Forest) → IsContextOf g n (Under outer q left right) → capped w.limit (context_size w (Under outer q left right)) ≤ told n → (i : ℕ) × (b : RulePlace) × (s : Step) × (slice_get places i ≡ Some b) × (slice_get steps i ≡ Some s) × (b.rule ≡ q) × (b.place ≡ count left) × ((v : Way) × IsWay net (start_of g) n (On v s) × (way_cost (On v s) ≡ told n))
  way_by outer q left right h cheap =
      let t = taken w g places steps are n outer q left right h in
      let before = context_way w g grammar places steps are outer t.step.from t.around in
      let is : IsWay net (start_of g) n (On before.0 t.step) = (contains_at steps t.index t.step t.at_step, t.to, before.1) in
      let even : way_cost (On before.0 t.step) ≡ told n = omega (arith, before.2, t.low, cheap, small, low n (On before.0 t.step) is) in
      (t.index, t.place, t.step, t.at_place, t.at_step, t.rule, t.counted, (before.0, is, even))

  -- the first step by which a least way to n ends leads to the place of the hole
  pub first_place : (i : ℕ) (a : RulePlace) → slice_get places i ≡ Some a → IsFirstStep net (start_of g) n (told n) i → IsFirstPlace w g table n a
  first_place i a at first = record {
    step = s;
    inward = (are.each i a s at first.at).0;
    to = first.ends.1.1;
    cost = omega (arith, first.ends.2, from_low, reached.2, high, small);
    earlier = λ o q f h c early. earlier o q f h c early;
  }
    where
      s : Step
      s = first.step

      from_low : told s.from ≤ capped w.limit (way_cost first.ends.0)
      from_low = low s.from first.ends.0 first.ends.1.2

      reached : (v : Way) × IsWay net (start_of g) s.from v × (capped w.limit (way_cost v) ≤ told s.from)
      reached = cost_reached w.limit (IsWay net (start_of g) s.from) way_cost (told_at table s.from) (ways_cost s.from) (omega (arith, from_low, first.ends.2, small))

      high : told n ≤ capped w.limit (way_cost (On reached.0 s))
      high = low n (On reached.0 s) (first.ends.1.0, first.ends.1.1, reached.1)

      earlier : (o : Context) (q : ℕ) (f h : Forest) → IsContextOf g n (Under o q f h) → IsEarlier q (count f) a.rule a.place → told n < capped w.limit (context_size w (Under o q f h))
      earlier o q f h c early =
          ⊎_elim (λ dear. dear)
          (λ not_dear.
          let t = way_by o q f h c (omega (arith, not_dear)) in
          let b = t.1 in
          let before : IsEarlier b.rule b.place a.rule a.place = subst (λ m. IsEarlier m b.place a.rule a.place) (sym t.5) (subst (λ m. IsEarlier q m a.rule a.place) (sym t.6) early) in
          absurd (⊎_elim
          (λ below. first.first t.0 t.2 below t.4 (t.7.0, t.7.1, t.7.2))
          (λ not_below. ⊎_elim
          (λ above. not_both b.rule b.place a.rule a.place before (are.ordered i t.0 a b above at t.3))
          (λ not_above.
          let here : slice_get places i ≡ Some b = ap (λ k. slice_get places k) (let e : i ≡ t.0 = omega (arith, not_below, not_above) in e) ∙ t.3 in
          let same : b ≡ a = cc in
          let again : IsEarlier b.rule b.place b.rule b.place = subst (λ (z : RulePlace). IsEarlier b.rule b.place z.rule z.place) (sym same) before in
          not_both b.rule b.place b.rule b.place again again)
          (cases_lt i t.0))
          (cases_lt t.0 i)))
          (cases_lt (told n) (capped w.limit (context_size w (Under o q f h))))

  -- and n isn't the start symbol, whose least way takes no step
  pub first_inside : (i : ℕ) (a : RulePlace) → slice_get places i ≡ Some a → IsFirstStep net (start_of g) n (told n) i → n ≢ g.start
  first_inside i a at first = λ same.
      let inward = (are.each i a first.step at first.at).0 in
      let hole : told n ≤ capped w.limit 0 = low n (Begin 0 (record { node = g.start; cost = 0 })) (refl, sym same) in
      let fs = cost_reached w.limit (AreSiblings g inward.here.before inward.here.behind) (siblings_size w) inward.others inward.is_others inward.low in
      omega (arith, first.ends.2, hole, inward.cost, fs.2)

  -- where no least way to n ends by a step n is the start symbol
  pub first_outside : HasNoStep net (start_of g) n (told n) → n ≡ g.start
  first_outside none =
      let c = cost_least w.limit (IsContextOf g n) (context_size w) (told_at table n) (told_exact w g grammar places steps are table least n) small in
      alone c.0 c.1 c.2
    where
      alone : (c : Context) → IsContextOf g n c → context_size w c ≡ told n → n ≡ g.start
      alone Hole h even = cc
      alone (Under outer q left right) h even =
          let t = way_by outer q left right h (omega (arith, even)) in
          absurd (none t.2 (t.7.0, t.7.1, t.7.2))
