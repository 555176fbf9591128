-- The lists of rims, one step and one rule after another, and what stands beside a symbol.
use Rattle.std.proofs.Common.{◌≡◌, ℕ, ◌+◌, ◌≤◌, List, [], ◌∷◌, ◌++◌, Some, length, get_or, take, drop, refl, sym, ap, ◌∙◌, subst, arith}
use Rattle.std.specs.Prelude.{slice_get, All}
use Rattle.std.proofs.lemmas.List.{length-take-le}
use Rattle.std.proofs.lemmas.Option.{slice_get_within, slice_get-get_or}
use Rattle.cs_grammar.specs.declared.symbol.Symbol.{Symbol}
use Rattle.cs_grammar.specs.declared.symbol.Symbol.TheVariants.{Token, Nonterminal}
use Rattle.cs_grammar.specs.Grammar.{Production, PlainGrammar, IsRule, IsSymbolOf, IsGrammar}
use Rattle.cs_grammar.specs.Places.{SymbolAt}
use Rattle.cs_grammar.specs.Weights.{Measure}
use Rattle.cs_grammar.specs.Tree.{Forest, sizes}
use Rattle.cs_least.specs.declared.cost.cost.Cost.{Cost}
use Rattle.cs_least.specs.declared.cost.cost.Cost.TheVariants.{Never}
use Rattle.cs_least.specs.Cost.Least.{IsCost}
use Rattle.cs_least.specs.Cost.Rank.{cost_of, plus}
use Rattle.cs_least.proofs.OnCost.Ranks.{IsCost-plus, IsCost-same, IsCost-more}
use Rattle.cs_least.specs.Embed.Embeds.{siblings_size}
use Rattle.cs_least.specs.Embed.Ways.{at_rule, at_place}
use Rattle.cs_least.proofs.OnEmbed.Steps.{split_at, same_place, place_low}
use Rattle.cs_least.specs.declared.ways.step.Step.{Step}
use Rattle.cs_least.specs.Ways.Ways.{IsNode}
use Rattle.cs_least.proofs.OnWays.PlacedLists.{placed_skip, placed_push, placed_next}
use Rattle.cs_pairs.specs.declared.kinds.side.Side.{Side}
use Rattle.cs_least.specs.declared.embed.inwards.RulePlace.{RulePlace}
use Rattle.cs_pairs.specs.Kinds.Kinds.{AreTreesOfKind}
use Rattle.cs_pairs.specs.Kinds.Sides.{before_on, behind_on}
use Rattle.cs_pairs.specs.Kinds.Numbers.{symbol_number}
use Rattle.cs_pairs.specs.Kinds.Rims.{AreBeside, IsBesideCost, IsRim, HasBeside, AreRimsTo, AreRims}
use Rattle.cs_pairs.specs.Kinds.RimsOf.{IsStepCost}
use Rattle.cs_pairs.proofs.OnKinds.Numbers.{rule_symbol, rule_left}

-- what stands beside a child, with the node
pub beside_cost : (w : Measure) (g : PlainGrammar) (side : Side) (xs ys : List Symbol) (a b : Cost) → IsCost w.limit (AreTreesOfKind g (before_on side) xs) (sizes w) a → IsCost w.limit (AreTreesOfKind g (behind_on side) ys) (sizes w) b → IsBesideCost w g side xs ys (plus w.limit (cost_of w.limit 1) (plus w.limit a b))
beside_cost w g side xs ys a b ha hb =
    let both_size = λ (fs : Forest × Forest). sizes w fs.0 + sizes w fs.1 in
    let both = IsCost-plus w.limit (AreTreesOfKind g (before_on side) xs) (AreTreesOfKind g (behind_on side) ys) (sizes w) (sizes w) a b ha hb in
    IsCost-same w.limit (AreBeside g side xs ys) (AreBeside g side xs ys) (λ fs. 1 + both_size fs) (siblings_size w) (plus w.limit (cost_of w.limit 1) (plus w.limit a b))
    (λ fs h. (fs, h, omega arith)) (λ fs h. (fs, h, omega arith))
    (IsCost-more w.limit (AreBeside g side xs ys) both_size (plus w.limit a b) both)

-- no tree beside
beside_none : (w : Measure) (g : PlainGrammar) (side : Side) (xs ys : List Symbol) (c : Cost) → IsBesideCost w g side xs ys c → c ≡ Never → (fs : Forest × Forest) → AreBeside g side xs ys fs → ⊥
beside_none w g side xs ys c h none = subst (IsBesideCost w g side xs ys) none h

module _ (w : Measure) (g : PlainGrammar) (side : Side) where
  -- behind the last place of a rule the next begins
  pub rims_next : (q j : ℕ) (p : Production) (places : List RulePlace) (steps : List Step) → IsRule g q p → length p.right ≤ j → AreRimsTo w g side q j places steps → AreRimsTo w g side (q + 1) 0 places steps
  rims_next q j p places steps rule past so_far =
      placed_next at_rule at_place (IsRim w g side) (HasBeside g side) q j places steps so_far
      (λ k has. omega (arith, place_low g q k p has.here rule, past))

  -- the step of a symbol of a rule, as the code makes it
  module _ (q j : ℕ) (p : Production) (rule : IsRule g q p) (items : List Symbol) (is : items ≡ p.right) (x : Symbol) (here : slice_get items j ≡ Some x) (ys : List Symbol) (is_ys : ys ≡ drop (j + 1) items) (others : Cost) (is_others : IsBesideCost w g side (take j items) ys others) (places : List RulePlace) (steps : List Step) (so_far : AreRimsTo w g side q j places steps) where
    abbrev split : p.right ≡ take j items ++ x ∷ ys
    split = sym is ∙ split_at items j x here ∙ ap (λ (l : List Symbol). take j items ++ x ∷ l) (sym is_ys)

    abbrev placed : length (take j items) ≡ j
    placed = length-take-le j items (omega (arith, slice_get_within items j x here))

    abbrev there : SymbolAt g q j
    there = record { production = p; before = take j items; symbol = x; behind = ys; number = rule; right = split; placed = placed }

    pub rims_passed : others ≡ Never → AreRimsTo w g side q (j + 1) places steps
    rims_passed never = placed_skip at_rule at_place (IsRim w g side) (HasBeside g side) q j places steps so_far none
      where
        none : HasBeside g side q j → ⊥
        none has =
            let same = same_place g q j q j refl refl has.here there in
            beside_none w g side (take j items) ys others is_others never has.beside
            (subst (λ (l : List Symbol). AreTreesOfKind g (before_on side) l has.beside.0) same.before has.are.0, subst (λ (l : List Symbol). AreTreesOfKind g (behind_on side) l has.beside.1) same.behind has.are.1)

    pub rims_made : (a : RulePlace) (s : Step) (places' : List RulePlace) (steps' : List Step) → places' ≡ places ++ a ∷ [] → steps' ≡ steps ++ s ∷ [] → a.rule ≡ q → a.place ≡ j → s.from ≡ symbol_number g.tokens x → s.to ≡ g.tokens + p.left → IsStepCost w.limit others (Some s.cost) → AreRimsTo w g side q (j + 1) places' steps'
    rims_made a s places' steps' ep es is_rule is_place from to cost =
        let rim : IsRim w g side a s = record {
          here = record {
            production = p;
            before = take j items;
            symbol = x;
            behind = ys;
            number = subst (λ r. IsRule g r p) (sym is_rule) rule;
            right = split;
            placed = placed ∙ sym is_place;
          };
          from = from;
          to = to;
          others = others;
          is_others = is_others;
          cost = cost.0;
          low = cost.1;
        } in
        subst (λ (l : List RulePlace). AreRimsTo w g side q (j + 1) l steps') (sym ep) (subst (λ (l : List Step). AreRimsTo w g side q (j + 1) (places ++ a ∷ []) l) (sym es)
        (placed_push at_rule at_place (IsRim w g side) (HasBeside g side) q j places steps so_far a s is_rule is_place rim))

-- the steps lead from symbols of the grammar to symbols of the grammar
pub rims_net : (w : Measure) (g : PlainGrammar) (side : Side) (grammar : IsGrammar g) (places : List RulePlace) (steps : List Step) → AreRims w g side places steps → (nodes : ℕ) → nodes ≡ g.tokens + g.nonterminals → All (λ (s : Step). IsNode nodes s.from × IsNode nodes s.to) steps
rims_net w g side grammar places steps rims nodes e k d within =
    let dp : RulePlace = record { rule = 0; place = 0 } in
    let s = get_or steps k d in
    let rim = (rims.each k (get_or places k dp) s (slice_get-get_or places k dp (omega (arith, within, rims.many))) (slice_get-get_or steps k d within)).0 in
    let from = node_fits rim.here.symbol (rule_symbol g (get_or places k dp).rule rim.here.production rim.here.before rim.here.symbol rim.here.behind grammar rim.here.number rim.here.right) in
    let to = rule_left g (get_or places k dp).rule rim.here.production grammar rim.here.number in
    (subst (IsNode nodes) (sym rim.from) from, (omega (arith, rim.to, to), omega (arith, rim.to, to, e)))
  where
    node_fits : (x : Symbol) → IsSymbolOf g x → IsNode nodes (symbol_number g.tokens x)
    node_fits (Token t) h = (h.0, omega (arith, h, e))
    node_fits (Nonterminal n) h = (omega (arith, h), omega (arith, h, e))
