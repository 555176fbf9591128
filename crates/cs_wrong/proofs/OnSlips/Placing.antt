-- Contexts with trees in the hole: what they cost together, and the chosen ones.
use Rattle.std.proofs.Common.{◌≡◌, ℕ, ◌+◌, ◌-◌, ◌≤◌, List, [], ◌++◌, drop, length, take, refl, sym, ap, ◌∙◌, subst, arith}
use Rattle.std.specs.Prelude.{All}
use Rattle.std.proofs.lemmas.List.Elements.{All-append, All-drop, All-take}
use Rattle.cs_grammar.proofs.Holes.{size-plug}
use Rattle.cs_grammar.proofs.Measures.{length-yield}
use Rattle.cs_grammar.proofs.OneTree.{one_rule}
use Rattle.cs_grammar.specs.Context.{Context, code_after, code_before, context_size, plug}
use Rattle.cs_grammar.specs.Grammar.{PlainGrammar, Production}
use Rattle.cs_grammar.specs.Tree.{AreTrees, Forest, Node, codes_of, sizes, yield}
use Rattle.cs_grammar.specs.Weights.{IsMeasure, Measure, Weighed}
use Rattle.cs_grammar.specs.declared.symbol.Symbol.{Symbol}
use Rattle.cs_grammar.specs.declared.symbol.Symbol.TheVariants.{Nonterminal}
use Rattle.cs_least.proofs.OnCost.ChosenTrees.{AreTrees-chosen, all_chosen, forest_least}
use Rattle.cs_least.proofs.OnCost.Ranks.{IsCost-more, IsCost-plus}
use Rattle.cs_least.proofs.OnEmbed.ChosenContexts.{IsContext-chosen, chosen_context_exists, chosen_context_least, one_chosen_context}
use Rattle.cs_least.specs.Cost.Chosen.{AppendsAllChosen, AreChosen}
use Rattle.cs_least.specs.Cost.Least.{IsCost}
use Rattle.cs_least.specs.Cost.Rank.{cost_of, plus}
use Rattle.cs_least.specs.Cost.Trees.{HaveSmall}
use Rattle.cs_least.specs.Embed.Around.{HasLeastContext, IsAround, IsContextOf}
use Rattle.cs_least.specs.Embed.ChosenContext.{IsChosenContext}
use Rattle.cs_least.specs.declared.cost.cost.Cost.{Cost}
use Rattle.cs_wrong.proofs.OnSlips.Filling.{filled, one_filling}
use Rattle.cs_wrong.specs.Slips.Found.{ArePlacedTokens, CanFill, Fills, HasLeastPlaced}
use Rattle.cs_wrong.specs.Slips.Lists.{HasOneList, IsPlacedCost, IsPlacedList, placed_size}
use Rattle.cs_wrong.specs.Slips.Slips.{changed}
use Rattle.cs_wrong.specs.declared.slips.slip.Change.{Change}
use Rattle.cs_wrong.specs.declared.slips.slip.Change.TheVariants.{Drop, Double, Swap}
use Rattle.cs_wrong.specs.declared.slips.slip.Slip.{Slip}
use Rattle.cs_wrong.specs.declared.slips.slip.Slip.TheVariants.{Empty, Of}

module _ (v : Weighed) (left : ℕ) (symbols : List Symbol) where
  abbrev w : Measure
  w = v.weights

  abbrev g : PlainGrammar
  g = v.grammar

  pub placed_cost : (a b : Cost) → IsCost w.limit (IsContextOf g left) (context_size w) a → IsCost w.limit (AreTrees g symbols) (sizes w) b
      → IsPlacedCost v left symbols (plus w.limit a (plus w.limit (cost_of w.limit 1) b))
  placed_cost a b around trees =
      IsCost-plus w.limit (IsContextOf g left) (AreTrees g symbols) (context_size w) (λ f. 1 + sizes w f) a (plus w.limit (cost_of w.limit 1) b) around
      (IsCost-more w.limit (AreTrees g symbols) (sizes w) b trees)

  module _ (has : HasLeastPlaced v left symbols) where
    -- the least ones are within the limit
    pub least_context : HasLeastContext w g left
    least_context =
        let found = has.1 in
        let placed = found.1.reached.0 in
        let is = found.1.reached.1 in
        let d = chosen_context_exists w g left placed.0 is.0 in
        let d_is = IsContext-chosen w g d.context (Nonterminal left) d.chosen in
        (context_size w d.context, (omega (arith, d.least placed.0 is.0, found.0, found.1.reached.2), record { reached = (d.context, d_is, refl); least = d.least }))

    pub small_trees : HaveSmall w g symbols
    small_trees =
        let found = has.1 in
        let placed = found.1.reached.0 in
        (placed.1, found.1.reached.1.1, omega (arith, found.0, found.1.reached.2))

    -- and so are the chosen ones
    pub chosen_small : (c : Context) (f : Forest) → IsChosenContext w g (Nonterminal left) c → AreChosen w g symbols f → placed_size w (c, f) ≤ w.limit
    chosen_small c f around chosen =
        let found = has.1 in
        let placed = found.1.reached.0 in
        let is = found.1.reached.1 in
        omega (arith, chosen_context_least w g (Nonterminal left) placed.0 c is.0 around, forest_least w g f placed.1 symbols chosen is.1, found.0, found.1.reached.2)

  module _ (before after new behind : List ℕ) (around : IsAround w g left before after) (put : AppendsAllChosen w g symbols [] new) (behind_is : behind ≡ new ++ after) where
    written : behind ≡ codes_of put.trees ++ code_after around.context
    written = behind_is ∙ ap (λ (l : List ℕ). l ++ after) put.text ∙ ap (λ (l : List ℕ). codes_of put.trees ++ l) around.behind_hole

    fills : (r : ℕ) → Fills g before symbols behind (yield (plug around.context (Node r put.trees)))
    fills r =
        let is = filled g around.context left symbols put.trees r (IsContext-chosen w g around.context (Nonterminal left) around.chosen) (AreTrees-chosen w g put.trees symbols put.chosen) in
        subst (λ (l : List ℕ). Fills g l symbols behind (yield (plug around.context (Node r put.trees)))) (sym around.before_hole)
        (subst (λ (l : List ℕ). Fills g (code_before around.context) symbols l (yield (plug around.context (Node r put.trees)))) (sym written) is)

    -- the rule numbers of the chosen ones lead to tokens
    pub can_fill : CanFill g before symbols behind
    can_fill = (yield (plug around.context (Node 0 put.trees)), fills 0)

    -- which are the list
    pub are_placed : HasLeastPlaced v left symbols → (tokens : List ℕ) → Fills g before symbols behind tokens → ArePlacedTokens v left symbols tokens
    are_placed has tokens is r = record {
      context = around.context;
      trees = put.trees;
      around = around.chosen;
      chosen = put.chosen;
      within = chosen_small has around.context put.trees around.chosen put.chosen;
      tokens = one_filling g before symbols behind tokens (yield (plug around.context (Node r put.trees))) is (fills r);
    }

  -- the list of a rule with these symbols is one
  pub one_placed : (r : ℕ) (a b : List ℕ) → IsPlacedList v r left symbols a → IsPlacedList v r left symbols b → a ≡ b
  one_placed r a b h k =
      let contexts = one_chosen_context w g h.context k.context (Nonterminal left) h.around k.around in
      let forests = all_chosen w g h.trees k.trees symbols h.chosen k.chosen in
      h.tokens ∙ ap (λ (c : Context). yield (plug c (Node r h.trees))) contexts ∙ ap (λ (f : Forest). yield (plug k.context (Node r f))) forests ∙ sym k.tokens

-- a slip has one list
pub one_list : (v : Weighed) (slip : Slip) → HasOneList v slip
one_list v Empty a b h k = h ∙ sym k
one_list v (Of r change) a b h k =
    let same = one_rule v.grammar r r h.0 k.0 refl h.1 k.1 in
    let moved = subst (λ (p : Production). IsPlacedList v r p.left (changed change p.right) a) same h.2 in
    one_placed v k.0.left (changed change k.0.right) r a b moved k.2

-- symbols of a kind are left by each change
pub changed_within : (P : Symbol → Type 0) (change : Change) (xs : List Symbol) → All P xs → All P (changed change xs)
changed_within P (Drop i) xs h = All-append P (take (i - 1) xs) (drop i xs) (All-take P (i - 1) xs h) (All-drop P i xs h)
changed_within P (Double i) xs h = All-append P (take i xs) (drop (i - 1) xs) (All-take P i xs h) (All-drop P (i - 1) xs h)
changed_within P (Swap i) xs h =
    let front = take (i - 1) xs in
    let next = take 1 (drop (i + 1 - 1) xs) in
    let here = take 1 (drop (i - 1) xs) in
    All-append P (front ++ next ++ here) (drop (i + 1) xs)
    (All-append P (front ++ next) here (All-append P front next (All-take P (i - 1) xs h) (All-take P 1 (drop (i + 1 - 1) xs) (All-drop P (i + 1 - 1) xs h))) (All-take P 1 (drop (i - 1) xs) (All-drop P (i - 1) xs h)))
    (All-drop P (i + 1) xs h)

-- ---- how long a list is

-- a list is no longer than its size
pub few_placed : (v : Weighed) → IsMeasure v.weights → (r left : ℕ) (symbols : List Symbol) (list : List ℕ) → IsPlacedList v r left symbols list → length list ≤ 1000000
few_placed v is r left symbols list h =
    omega (arith, ap (λ (l : List ℕ). length l) h.tokens, length-yield v.weights is (plug h.context (Node r h.trees)), size-plug v.weights h.context (Node r h.trees), h.within, is.limit.1)
