-- The lists of sources, one place and one rule in front of another.
use Rattle.std.proofs.Common.{◌≡◌, ℕ, ◌+◌, ◌-◌, ◌<◌, ◌≤◌, ◌⊎◌, List, [], ◌∷◌, ◌++◌, Some, length, get_or, take, drop, reverse, sym, ap, ◌∙◌, subst, ⊎_elim, inl, inr, arith}
use Rattle.std.specs.Prelude.{slice_get, All}
use Rattle.std.proofs.lemmas.Bool.{cases_lt}
use Rattle.std.proofs.lemmas.List.{length-take-le, reverse-append}
use Rattle.std.proofs.lemmas.Option.{slice_get_within, slice_get-get_or}
use Rattle.cs_grammar.specs.declared.symbol.Symbol.{Symbol}
use Rattle.cs_grammar.specs.declared.symbol.Symbol.TheVariants.{Token, Nonterminal}
use Rattle.cs_grammar.specs.Grammar.{Production, PlainGrammar, IsRule, IsSymbolOf, IsGrammar}
use Rattle.cs_grammar.specs.Places.{IsAtMost, SymbolAt}
use Rattle.cs_grammar.specs.Weights.{Measure}
use Rattle.cs_grammar.specs.Tree.{Forest, sizes}
use Rattle.cs_grammar.specs.Context.{Context}
use Rattle.cs_least.specs.declared.cost.cost.Cost.{Cost}
use Rattle.cs_least.specs.declared.cost.cost.Cost.TheVariants.{Never}
use Rattle.cs_least.specs.Cost.Least.{IsCost}
use Rattle.cs_least.specs.Cost.Rank.{plus}
use Rattle.cs_least.proofs.OnCost.Ranks.{IsCost-plus}
use Rattle.cs_least.proofs.OnEmbed.Steps.{split_at, same_place, place_low}
use Rattle.cs_least.specs.declared.ways.step.Source.{Source}
use Rattle.cs_least.specs.Ways.Ways.{IsNode}
use Rattle.cs_least.proofs.OnWays.PlacedLists.{placed_none, placed_on, placed_before}
use Rattle.cs_pairs.specs.declared.kinds.kind.TreeKind.TheVariants.{Begins}
use Rattle.cs_pairs.specs.Kinds.Kinds.{AreTreesOfKind}
use Rattle.cs_pairs.specs.Kinds.Numbers.{symbol_number}
use Rattle.cs_pairs.specs.Kinds.RimsOf.{IsStepCost}
use Rattle.cs_pairs.proofs.OnKinds.Numbers.{rule_symbol}
use Rattle.cs_pairs.specs.declared.pairs.meeting.Meeting.{Meeting}
use Rattle.cs_pairs.specs.Pairs.Fronts.{AreFront, front_size}
use Rattle.cs_pairs.specs.Pairs.Sources.{AreRound, round_size, IsSourceAt, HasRound, at_rule, at_place, AreSourcesFrom}

-- what stands around a place, whichever way the rule is cut there
pub same_round : (g : PlainGrammar) (b r k q j : ℕ) → r ≡ q → k ≡ j → (u : SymbolAt g r k) (v : SymbolAt g q j) (n : (Context × Forest) × Forest) → AreRound g b u.production.left u.before u.behind n → AreRound g b v.production.left v.before v.behind n × (u.symbol ≡ v.symbol)
same_round g b r k q j same_r same_k u v n round =
    let same = same_place g r k q j same_r same_k u v in (
      (
        subst (λ (l : List Symbol). AreFront g v.production.left l n.0) same.before (subst (λ (z : Production). AreFront g z.left u.before n.0) same.production round.0),
        subst (λ (l : List Symbol). AreTreesOfKind g (Begins b) l n.1) same.behind round.1,
      ),
      same.symbol,
    )

module _ (w : Measure) (g : PlainGrammar) (b : ℕ) where
  pub sources_none : (places : List Meeting) (sources : List Source) → places ≡ [] → sources ≡ [] → AreSourcesFrom w g b (length g.rules + 1) 0 places sources
  sources_none places sources e f = record {
    few = omega (arith, ap (λ (l : List Source). length l) f);
    placed = placed_none at_rule at_place (IsSourceAt w g b) (HasRound g b) (λ r k. IsAtMost (length g.rules + 1) 0 r k) places sources e f
        (λ r k has late.
        let within = slice_get_within g.rules (r - 1) has.here.production has.here.number.at in
        ⊎_elim (λ less. omega (arith, less, within, has.here.number.above_zero)) (λ same. omega (arith, same.0, within, has.here.number.above_zero)) late);
  }

  -- before the next rule stand the places of this one; behind its last there are none
  pub sources_rule : (q j : ℕ) (p : Production) (places : List Meeting) (sources : List Source) → IsRule g q p → length p.right ≤ j → j ≤ 128 → AreSourcesFrom w g b (q + 1) 0 places sources → AreSourcesFrom w g b q j places sources
  sources_rule q j p places sources rule past short so_far = record {
    few = omega (arith, so_far.few, short);
    placed = placed_on at_rule at_place (IsSourceAt w g b) (HasRound g b) (λ r k. IsAtMost (q + 1) 0 r k) (λ r k. IsAtMost q j r k)
        (λ r k old. inl (⊎_elim (λ lower. omega (arith, lower)) (λ here. omega (arith, here.0)) old))
        places sources so_far.placed
        (λ r k has late.
        ⊎_elim
        (λ less. behind r k less)
        (λ here. absurd (omega (arith, place_low g r k p has.here (subst (λ m. IsRule g m p) here.0 rule), past, here.1)))
        late);
  }
    where
      behind : (r k : ℕ) → q < r → IsAtMost (q + 1) 0 r k
      behind r k less = ⊎_elim (λ more. inl more) (λ no. inr (omega (arith, less, no), omega arith)) (cases_lt (q + 1) r)

  module _ (q j : ℕ) (here : SymbolAt g q j) (others : Cost) (is_others : IsCost w.limit (AreRound g b here.production.left here.before here.behind) (round_size w) others) (places : List Meeting) (sources : List Source) (so_far : AreSourcesFrom w g b q (j + 1) places sources) where
    -- a place from this one on is this one, or one from the next on
    place_cases : (r k : ℕ) → IsAtMost q j r k → IsAtMost q (j + 1) r k ⊎ ((r ≡ q) × (k ≡ j))
    place_cases r k h =
        ⊎_elim (λ lower. inl (inl lower))
        (λ here. ⊎_elim (λ less. inl (inr (here.0, omega (arith, less)))) (λ no. inr (sym here.0, omega (arith, here.1, no))) (cases_lt j k))
        h

    sooner : (r k : ℕ) → IsAtMost q (j + 1) r k → IsAtMost q j r k
    sooner r k h = ⊎_elim (λ lower. inl lower) (λ here. inr (here.0, omega (arith, here.1))) h

    pub sources_pass : others ≡ Never → AreSourcesFrom w g b q j places sources
    sources_pass never = record {
      few = omega (arith, so_far.few);
      placed = placed_on at_rule at_place (IsSourceAt w g b) (HasRound g b) (λ r k. IsAtMost q (j + 1) r k) (λ r k. IsAtMost q j r k) sooner places sources so_far.placed
          (λ r k has late. ⊎_elim (λ old. old) (λ at. absurd (none never has.round (same_round g b r k q j at.0 at.1 has.here here has.round has.are).0)) (place_cases r k late));
    }
      where
        none : others ≡ Never → (n : (Context × Forest) × Forest) → AreRound g b here.production.left here.before here.behind n → ⊥
        none e = subst (IsCost w.limit (AreRound g b here.production.left here.before here.behind) (round_size w)) e is_others

    pub sources_put : (a : Meeting) (s : Source) → a.rule ≡ q → a.place ≡ j → IsSourceAt w g b a s → AreSourcesFrom w g b q j (a ∷ places) (s ∷ sources)
    sources_put a s is_rule is_place source = record {
      few = omega (arith, so_far.few);
      placed = placed_before at_rule at_place (IsSourceAt w g b) (HasRound g b) (λ r k. IsAtMost q (j + 1) r k) (λ r k. IsAtMost q j r k) sooner places sources so_far.placed a s source
          (inr (sym is_rule, omega (arith, is_place)))
          (λ r k new. ⊎_elim (λ old. inl old) (λ at. inr (at.0 ∙ sym is_rule, at.1 ∙ sym is_place)) (place_cases r k new))
          (λ r k old.
          ⊎_elim
          (λ lower. inl (omega (arith, lower, is_rule)))
          (λ same. inr (is_rule ∙ same.0, omega (arith, same.1, is_place)))
          old);
    }

  -- what stands around a place costs a front and what is behind it
  pub round_cost : (left : ℕ) (xs ys : List Symbol) (front whole : Cost) → IsCost w.limit (AreFront g left xs) (front_size w) front → IsCost w.limit (AreTreesOfKind g (Begins b) ys) (sizes w) whole → IsCost w.limit (AreRound g b left xs ys) (round_size w) (plus w.limit front whole)
  round_cost left xs ys front whole is_front is_whole = IsCost-plus w.limit (AreFront g left xs) (AreTreesOfKind g (Begins b) ys) (front_size w) (sizes w) front whole is_front is_whole

  -- the source of a place of a rule, as the code makes it
  module _ (q j : ℕ) (p : Production) (rule : IsRule g q p) (items : List Symbol) (is : items ≡ p.right) (x : Symbol) (here : slice_get items j ≡ Some x) (front whole others : Cost) (is_front : IsCost w.limit (AreFront g p.left (take j p.right)) (front_size w) front) (is_whole : IsCost w.limit (AreTreesOfKind g (Begins b) (drop (j + 1) p.right)) (sizes w) whole) (sum : others ≡ plus w.limit front whole) (places : List Meeting) (sources : List Source) (so_far : AreSourcesFrom w g b q (j + 1) (reverse places) (reverse sources)) where
    abbrev there : SymbolAt g q j
    there =
        let at : slice_get p.right j ≡ Some x = ap (λ (l : List Symbol). slice_get l j) (sym is) ∙ here in
        record {
          production = p;
          before = take j p.right;
          symbol = x;
          behind = drop (j + 1) p.right;
          number = rule;
          right = split_at p.right j x at;
          placed = length-take-le j p.right (omega (arith, slice_get_within p.right j x at));
        }

    abbrev is_others : IsCost w.limit (AreRound g b p.left (take j p.right) (drop (j + 1) p.right)) (round_size w) others
    is_others = subst (IsCost w.limit (AreRound g b p.left (take j p.right) (drop (j + 1) p.right)) (round_size w)) (sym sum) (round_cost p.left (take j p.right) (drop (j + 1) p.right) front whole is_front is_whole)

    pub source_passed : others ≡ Never → AreSourcesFrom w g b q j (reverse places) (reverse sources)
    source_passed never = sources_pass q j there others is_others (reverse places) (reverse sources) so_far never

    pub source_made : (a : Meeting) (s : Source) (places' : List Meeting) (sources' : List Source) → places' ≡ places ++ a ∷ [] → sources' ≡ sources ++ s ∷ [] → a.rule ≡ q → a.place ≡ j → s.node ≡ symbol_number g.tokens x → IsStepCost w.limit others (Some s.cost) → AreSourcesFrom w g b q j (reverse places') (reverse sources')
    source_made a s places' sources' ep es is_rule is_place node cost =
        let source : IsSourceAt w g b a s = record {
          here = record {
            production = p;
            before = take j p.right;
            symbol = x;
            behind = drop (j + 1) p.right;
            number = subst (λ r. IsRule g r p) (sym is_rule) rule;
            right = there.right;
            placed = there.placed ∙ sym is_place;
          };
          node = node;
          others = others;
          is_others = is_others;
          cost = cost.0;
          low = cost.1;
        } in
        let put = sources_put q j there others is_others (reverse places) (reverse sources) so_far a s is_rule is_place source in
        let ep' : reverse places' ≡ a ∷ reverse places = ap reverse ep ∙ reverse-append places (a ∷ []) in
        let es' : reverse sources' ≡ s ∷ reverse sources = ap reverse es ∙ reverse-append sources (s ∷ []) in
        subst (λ (l : List Meeting). AreSourcesFrom w g b q j l (reverse sources')) (sym ep') (subst (λ (l : List Source). AreSourcesFrom w g b q j (a ∷ reverse places) l) (sym es') put)

  -- the sources are symbols of the grammar
  pub sources_nodes : (grammar : IsGrammar g) (q j : ℕ) (places : List Meeting) (sources : List Source) → AreSourcesFrom w g b q j places sources → (nodes : ℕ) → nodes ≡ g.tokens + g.nonterminals → All (λ (s : Source). IsNode nodes s.node) sources
  sources_nodes grammar q j places sources are nodes e k d within =
      let da : Meeting = record { rule = 0; place = 0 } in
      let s = get_or sources k d in
      let a = get_or places k da in
      let source = (are.placed.each k a s (slice_get-get_or places k da (omega (arith, within, are.placed.many))) (slice_get-get_or sources k d within)).0 in
      subst (IsNode nodes) (sym source.node) (node_fits source.here.symbol (rule_symbol g a.rule source.here.production source.here.before source.here.symbol source.here.behind grammar source.here.number source.here.right))
    where
      node_fits : (x : Symbol) → IsSymbolOf g x → IsNode nodes (symbol_number g.tokens x)
      node_fits (Token t) h = (h.0, omega (arith, h, e))
      node_fits (Nonterminal n) h = (omega (arith, h), omega (arith, h, e))

  pub sources_few : (grammar : IsGrammar g) (q j : ℕ) (places : List Meeting) (sources : List Source) → AreSourcesFrom w g b q j places sources → length sources < 4294967296
  sources_few grammar q j places sources are = omega (arith, are.few, grammar.few)
