-- Contexts are ways from the start symbol: what the least ways cost the least contexts cost.
use Rattle.std.proofs.Common.{◌≡◌, ℕ, zero, suc, ◌+◌, ◌-◌, ◌<◌, ◌≤◌, List, Some, length, get_or, refl, sym, ap, ◌∙◌, subst, inl, arith}
use Rattle.std.specs.Prelude.{slice_get, Contains}
use Rattle.std.proofs.lemmas.Option.{slice_get_within, slice_get-get_or}
use Rattle.cs_grammar.specs.declared.symbol.Symbol.{Symbol}
use Rattle.cs_grammar.specs.declared.symbol.Symbol.TheVariants.{Nonterminal}
use Rattle.cs_grammar.specs.Grammar.{Production, PlainGrammar, IsGrammar}
use Rattle.cs_grammar.specs.Places.{SymbolAt}
use Rattle.cs_grammar.specs.Weights.{Measure}
use Rattle.cs_grammar.specs.Tree.{Forest, AreTrees}
use Rattle.cs_grammar.specs.Context.{Context, Hole, Under, context_size}
use Rattle.cs_least.specs.Cost.Least.{IsCost}
use Rattle.cs_least.specs.Cost.Rank.{capped}
use Rattle.cs_least.proofs.OnCost.Ranks.{IsCost-alike, cost_low, cost_reached}
use Rattle.cs_least.specs.declared.embed.inwards.RulePlace.{RulePlace}
use Rattle.cs_least.specs.Embed.ChosenContext.{count}
use Rattle.cs_least.specs.Embed.Around.{IsContextOf}
use Rattle.cs_least.specs.Embed.Embeds.{AreSiblings, siblings_size}
use Rattle.cs_least.specs.Embed.Ways.{IsInward, AreInwards, start_of, told_at}
use Rattle.cs_least.proofs.OnEmbed.Steps.{same_place, inward_right}
use Rattle.cs_least.proofs.OnEmbed.StepEnds.{inward_from, inward_to}
use Rattle.cs_least.proofs.OnEmbed.ChosenContexts.{count_is}
use Rattle.cs_least.proofs.OnEmbed.Told.{told_ways}
use Rattle.cs_least.specs.declared.ways.step.Step.{Step}
use Rattle.cs_least.specs.declared.ways.step.Source.{Source}
use Rattle.cs_least.specs.declared.ways.reach.Reach.{Reach}
use Rattle.cs_least.proofs.OnWays.FirstTight.{contains_at, get_contained}
use Rattle.cs_least.specs.Ways.Ways.{Net, net_of, IsNet, Way, Begin, On, IsWay, way_cost, reach_at, AreLeastWays}

-- the step by which a context goes on inwards, where its node stands in outer
pub record IsTaken (w : Measure) (g : PlainGrammar) (places : List RulePlace) (steps : List Step) (n : ℕ) (outer : Context) (r : ℕ) (left right : Forest) : Type 0 where
  pub index : ℕ
  pub place : RulePlace
  pub step : Step
  pub at_place : slice_get places index ≡ Some place
  pub at_step : slice_get steps index ≡ Some step
  pub rule : place.rule ≡ r
  pub counted : place.place ≡ count left
  pub to : step.to ≡ n
  pub around : IsContextOf g step.from outer
  pub low : step.cost ≤ capped w.limit (siblings_size w (left, right))

pub taken : (w : Measure) (g : PlainGrammar) (places : List RulePlace) (steps : List Step) → AreInwards w g places steps → (n : ℕ) (outer : Context) (r : ℕ) (left right : Forest) → IsContextOf g n (Under outer r left right) → IsTaken w g places steps n outer r left right
taken w g places steps are n outer r left right h =
    let p = h.0 in
    let last : r < length g.rules + 1 = omega (arith, slice_get_within g.rules (r - 1) p h.3.at) in
    let here : SymbolAt g r (length h.1) = record { production = p; before = h.1; symbol = Nonterminal n; behind = h.2; number = h.3; right = h.4; placed = refl } in
    let v = are.every r (length h.1) (record { here = here; nonterminal = n; is = refl; siblings = (left, right); are = (h.5, h.6) }) (inl last) in
    let at = (are.each v.0 v.1 v.2 v.3 v.4).0 in
    let same = same_place g v.1.rule v.1.place r (length h.1) v.5 v.6 at.here here in
    let beside : AreSiblings g at.here.before at.here.behind (left, right) = (
      subst (λ (l : List Symbol). AreTrees g l left) (sym same.before) h.5,
      subst (λ (l : List Symbol). AreTrees g l right) (sym same.behind) h.6,
    ) in
    let others = cost_low w.limit (AreSiblings g at.here.before at.here.behind) (siblings_size w) at.others at.is_others (left, right) beside in
    let is_to : v.2.to ≡ n = let e = sym at.to ∙ same.symbol in cc in
    let is_from : v.2.from ≡ p.left = at.from ∙ ap (λ (q : Production). q.left) same.production in
    record {
      index = v.0;
      place = v.1;
      step = v.2;
      at_place = v.3;
      at_step = v.4;
      rule = v.5;
      counted = v.6 ∙ sym (count_is g left h.1 h.5);
      to = is_to;
      around = subst (λ m. IsContextOf g m outer) (sym is_from) h.7;
      low = omega (arith, others, at.cost);
    }

module _ (w : Measure) (g : PlainGrammar) (grammar : IsGrammar g) (places : List RulePlace) (steps : List Step) (are : AreInwards w g places steps) where
  abbrev net : Net
  net = net_of g.nonterminals steps

  -- the steps lead between nonterminals of the grammar
  pub inwards_net : IsNet (net_of g.nonterminals steps)
  inwards_net = λ k d within.
      let none : RulePlace = record { rule = 0; place = 0 } in
      let a = get_or places k none in
      let s = get_or steps k d in
      let is = (are.each k a s (slice_get-get_or places k none (omega (arith, within, are.many))) (slice_get-get_or steps k d within)).0 in
      (inward_from w g a s grammar is, inward_to w g a s grammar is)

  -- for each context there is a way that costs no more, and where the context has a node it ends by the step to its hole
  pub context_way : (c : Context) (n : ℕ) → IsContextOf g n c → (v : Way) × IsWay net (start_of g) n v × (capped w.limit (way_cost v) ≤ capped w.limit (context_size w c))
  context_way Hole n h =
      let same : g.start ≡ n = cc in
      (Begin 0 (record { node = g.start; cost = 0 }), (refl, same), omega arith)
  context_way (Under outer r left right) n h =
      let t = taken w g places steps are n outer r left right h in
      let before = context_way outer t.step.from t.around in (
        On before.0 t.step,
        (contains_at steps t.index t.step t.at_step, t.to, before.1),
        omega (arith, before.2, t.low),
      )

  one_source : (i : ℕ) (s : Source) → slice_get (start_of g) i ≡ Some s → record { node = g.start; cost = 0 } ≡ s
  one_source zero s e = cc
  one_source (suc i) s e = absurd cc

  -- the step of a way stands at a place
  inward_of : (s : Step) → Contains steps s → (a : RulePlace) × IsInward w g a s
  inward_of s has =
      let none : RulePlace = record { rule = 0; place = 0 } in
      let at = get_contained steps s has in
      let a = get_or places has.0 none in
      (a, (are.each has.0 a s (slice_get-get_or places has.0 none (omega (arith, slice_get_within steps has.0 s at, are.many))) at).0)

  -- for each way there is a context that is no larger
  pub way_context : (v : Way) (n : ℕ) → IsWay net (start_of g) n v → (c : Context) × IsContextOf g n c × (capped w.limit (context_size w c) ≤ capped w.limit (way_cost v))
  way_context (Begin i s) n is =
      let same : n ≡ g.start = sym (ap (λ (t : Source). t.node) (one_source i s is.0) ∙ is.1) in
      (Hole, ap Nonterminal same, omega arith)
  way_context (On v s) n is =
      let at = inward_of s is.0 in
      let inward = at.1 in
      let fs = cost_reached w.limit (AreSiblings g inward.here.before inward.here.behind) (siblings_size w) inward.others inward.is_others inward.low in
      let outer = way_context v s.from is.2 in
      let around = subst (λ m. IsContextOf g m outer.0) inward.from outer.1 in (
        Under outer.0 at.0.rule fs.0.0 fs.0.1,
        subst (λ m. IsContextOf g m (Under outer.0 at.0.rule fs.0.0 fs.0.1)) is.1
            (inward.here.production, inward.here.before, inward.here.behind, inward.here.number, inward_right w g at.0 s inward, fs.1.0, fs.1.1, around),
        omega (arith, outer.2, fs.2, inward.cost),
      )

  -- what is told of a nonterminal is what its least context costs
  pub told_exact : (table : List Reach) → AreLeastWays w.limit net (start_of g) table → (n : ℕ) → IsCost w.limit (IsContextOf g n) (context_size w) (told_at table n)
  told_exact table least n =
      IsCost-alike w.limit (IsWay net (start_of g) n) (IsContextOf g n) way_cost (context_size w) (told_at table n)
      (λ v is. way_context v n is)
      (λ c h. context_way c n h)
      (told_ways w.limit net (start_of g) n (reach_at table n) (least.exact n))
