-- The way outwards from a nonterminal to the start symbol, by the holes of its chosen context.
use Rattle.std.proofs.Common.{◌≡◌, ◌≢◌, ℕ, zero, suc, ◌+◌, ◌-◌, ◌<◌, ◌≤◌, List, [], ◌∷◌, ◌++◌, Option, Some, None, length, get_or, reverse, take, drop, refl, sym, ap, ◌∙◌, subst, ⊎_elim, inl, inr, arith, append_assoc, append-nil}
use Rattle.std.specs.Prelude.{slice_get, All}
use Rattle.std.proofs.lemmas.Bool.{cases_lt}
use Rattle.std.proofs.lemmas.List.{reverse-append, take_at, drop_at, length_push, length-append}
use Rattle.std.proofs.lemmas.Option.{slice_get_read, slice_get_within, get_or_from_slice_get}
use Rattle.std.proofs.lemmas.List.Elements.{All-nil, All-cons, All-head, All-append}
use Rattle.cs_grammar.specs.declared.symbol.Symbol.{Symbol}
use Rattle.cs_grammar.specs.declared.symbol.Symbol.TheVariants.{Nonterminal}
use Rattle.cs_grammar.specs.Grammar.{Production, PlainGrammar, IsRule, IsNumberOf, IsGrammar}
use Rattle.cs_grammar.specs.Places.{IsEarlier}
use Rattle.cs_grammar.specs.Weights.{Measure}
use Rattle.cs_grammar.specs.Tree.{Tree, Forest, IsTree, AreTrees, sizes, code, codes_of}
use Rattle.cs_grammar.specs.Context.{Context, Hole, Under, context_size, code_before, code_after, plug}
use Rattle.cs_grammar.proofs.OneTree.{one_rule}
use Rattle.cs_grammar.proofs.Holes.{IsTree-plug, size-plug, code-plug}
use Rattle.cs_least.specs.Cost.Least.{IsCost}
use Rattle.cs_least.specs.Cost.Rank.{rank}
use Rattle.cs_least.specs.Cost.Chosen.{AreChosen, AppendsAllChosen}
use Rattle.cs_least.specs.declared.embed.inwards.RulePlace.{RulePlace}
use Rattle.cs_least.specs.Embed.ChosenContext.{count, IsChosenContext}
use Rattle.cs_least.specs.Embed.Around.{IsContextOf, HasLeastContext, IsAround, Fills}
use Rattle.cs_least.specs.Embed.Embeds.{AreSiblings, siblings_size, IsLead}
use Rattle.cs_least.specs.Embed.Ways.{start_of, told_cost, told_at}
use Rattle.cs_least.specs.Embed.Kept.{AreEmbeds, IsSmallPlace, IsOutward}
use Rattle.cs_least.proofs.OnCost.Ranks.{cost_low, cost_least}
use Rattle.cs_least.proofs.OnCost.ChosenTrees.{AreTrees-chosen, all_chosen}
use Rattle.cs_least.proofs.OnEmbed.ChosenContexts.{count_is, IsContext-chosen, chosen_context_least}
use Rattle.cs_least.proofs.OnEmbed.Lists.{All-left, All-right}
use Rattle.cs_least.proofs.OnEmbed.Steps.{one_split, inward_right}
use Rattle.cs_least.proofs.OnEmbed.StepEnds.{inward_from}
use Rattle.cs_least.proofs.OnEmbed.InwardWays.{told_exact}
use Rattle.cs_least.proofs.OnEmbed.FirstPlaces.{IsFirstPlace, told_none, told_some, first_place, first_inside, first_outside}
use Rattle.cs_least.specs.declared.ways.step.Step.{Step}
use Rattle.cs_least.specs.declared.ways.reach.Reach.{Reach}
use Rattle.cs_least.specs.declared.ways.reach.Reach.TheVariants.{Never}
use Rattle.cs_least.specs.Ways.Ways.{Net, net_of, reach_at, IsFirstStep, IsFirstTold}

-- the table says of each nonterminal what its least context costs
pub record IsEmbedTable (w : Measure) (g : PlainGrammar) (table : List Reach) : Type 0 where
  pub grammar : IsGrammar g
  pub exact : (n : ℕ) → IsCost w.limit (IsContextOf g n) (context_size w) (told_at table n)

pub embed_table : (w : Measure) (g : PlainGrammar) (places : List RulePlace) (table : List Reach) (firsts : List (Option ℕ)) → AreEmbeds w g places table firsts → IsEmbedTable w g table
embed_table w g places table firsts are = record {
  grammar = are.grammar;
  exact = λ n. told_exact w g are.grammar places are.steps are.inwards table are.least n;
}

-- what is told of a nonterminal whose least context is within the limit
pub told_small : (w : Measure) (g : PlainGrammar) (table : List Reach) (n : ℕ) → IsEmbedTable w g table → HasLeastContext w g n → rank w.limit (told_at table n) ≤ w.limit
told_small w g table n exact least =
    let c = least.1.1.reached in
    omega (arith, cost_low w.limit (IsContextOf g n) (context_size w) (told_at table n) (exact.exact n) c.0 c.1, c.2, least.1.0)

module _ (w : Measure) (g : PlainGrammar) (table : List Reach) (exact : IsEmbedTable w g table) (n : ℕ) (a : RulePlace) (first : IsFirstPlace w g table n a) (small : rank w.limit (told_at table n) ≤ w.limit) where
  abbrev told : ℕ → ℕ
  told m = rank w.limit (told_at table m)

  abbrev step : Step
  step = first.step

  siblings : (fs : Forest × Forest) × AreSiblings g first.inward.here.before first.inward.here.behind fs × (siblings_size w fs ≡ step.cost)
  siblings =
      let fs = cost_least w.limit (AreSiblings g first.inward.here.before first.inward.here.behind) (siblings_size w) first.inward.others first.inward.is_others (omega (arith, first.cost, first.inward.cost, small)) in
      (fs.0, fs.1, omega (arith, fs.2, first.inward.cost))

  -- its outer nonterminal costs less
  pub outer_less : told step.from < told n
  outer_less = omega (arith, first.cost, siblings.2)

  -- so its siblings are within the limit
  pub small_place : IsSmallPlace w g a
  small_place = record { step = step; inward = first.inward; small = omega (arith, first.cost, small) }

  -- a context whose hole is at this place and that is as small as the table says
  around : (c : Context) × IsContextOf g step.from c × (context_size w c ≡ told step.from)
  around = cost_least w.limit (IsContextOf g step.from) (context_size w) (told_at table step.from) (exact.exact step.from) (omega (arith, outer_less, small))

  taken_is : IsContextOf g n (Under around.0 a.rule siblings.0.0 siblings.0.1)
  taken_is = (
    first.inward.here.production,
    first.inward.here.before,
    first.inward.here.behind,
    first.inward.here.number,
    inward_right w g a step first.inward ∙ ap (λ m. first.inward.here.before ++ Nonterminal m ∷ first.inward.here.behind) first.to,
    siblings.1.0,
    siblings.1.1,
    subst (λ m. IsContextOf g m around.0) first.inward.from around.1,
  )

  -- the hole of the chosen context is at this place
  pub chosen_takes : (outer : Context) (q : ℕ) (left right : Forest) → IsChosenContext w g (Nonterminal n) (Under outer q left right) → (q ≡ a.rule) × (count left ≡ a.place)
  chosen_takes outer q left right h =
      let c = Under outer q left right in
      let c_is = IsContext-chosen w g c (Nonterminal n) h in
      let is_low = cost_low w.limit (IsContextOf g n) (context_size w) (told_at table n) (exact.exact n) c c_is in
      let some = cost_least w.limit (IsContextOf g n) (context_size w) (told_at table n) (exact.exact n) small in
      let measured : context_size w c ≡ told n = omega (arith, is_low, some.2, h.5.least some.0 some.1, small) in
      let even : context_size w (Under around.0 a.rule siblings.0.0 siblings.0.1) ≡ context_size w c =
      omega (arith, measured, around.2, siblings.2, first.cost) in
      let lowest = h.5.lowest around.0 a.rule siblings.0.0 siblings.0.1 taken_is even in
      let counted = count_is g siblings.0.0 first.inward.here.before siblings.1.0 in
      let not_earlier : IsEarlier q (count left) a.rule a.place → ⊥ = λ early. omega (arith, first.earlier outer q left right c_is early, measured, small) in
      ⊎_elim
      (λ lower. absurd (not_earlier (inl lower)))
      (λ same. (
        same.0,
        ⊎_elim
            (λ below. absurd (not_earlier (inr (same.0, below))))
            (λ not_below. omega (arith, same.1, counted, first.inward.here.placed, not_below))
            (cases_lt (count left) a.place),
      ))
      lowest

-- the siblings at a place, by the places in its rule
module _ (w : Measure) (g : PlainGrammar) (a : RulePlace) (p : Production) (small : IsSmallPlace w g a) (rule : IsRule g a.rule p) where
  same_rule : small.inward.here.production ≡ p
  same_rule = one_rule g a.rule a.rule small.inward.here.production p refl small.inward.here.number rule

  whole : p.right ≡ small.inward.here.before ++ Nonterminal small.step.to ∷ small.inward.here.behind
  whole = ap (λ (q : Production). q.right) (sym same_rule) ∙ inward_right w g a small.step small.inward

  pub before_is : take a.place p.right ≡ small.inward.here.before
  before_is = ap (λ (l : List Symbol). take a.place l) whole ∙ take_at small.inward.here.before (Nonterminal small.step.to ∷ small.inward.here.behind) a.place small.inward.here.placed

  pub behind_is : drop (a.place + 1) p.right ≡ small.inward.here.behind
  behind_is =
      let longer : length (small.inward.here.before ++ Nonterminal small.step.to ∷ []) ≡ a.place + 1 = omega (arith, length_push small.inward.here.before (Nonterminal small.step.to), small.inward.here.placed) in
      let regrouped : small.inward.here.before ++ Nonterminal small.step.to ∷ [] ++ small.inward.here.behind ≡ small.inward.here.before ++ (Nonterminal small.step.to ∷ small.inward.here.behind) = append_assoc small.inward.here.before (Nonterminal small.step.to ∷ []) small.inward.here.behind in
      ap (λ (l : List Symbol). drop (a.place + 1) l) (whole ∙ sym regrouped) ∙ drop_at (small.inward.here.before ++ Nonterminal small.step.to ∷ []) small.inward.here.behind (a.place + 1) longer

  pub place_within : a.place < length p.right
  place_within = omega (arith, ap (λ (l : List Symbol). length l) whole, length-append small.inward.here.before (Nonterminal small.step.to ∷ small.inward.here.behind), small.inward.here.placed)

  siblings_reached : (fs : Forest × Forest) × AreSiblings g small.inward.here.before small.inward.here.behind fs × (siblings_size w fs ≡ small.step.cost)
  siblings_reached =
      let fs = cost_least w.limit (AreSiblings g small.inward.here.before small.inward.here.behind) (siblings_size w) small.inward.others small.inward.is_others (omega (arith, small.inward.cost, small.small)) in
      (fs.0, fs.1, omega (arith, fs.2, small.inward.cost))

  pub before_small : (f : Forest) × AreTrees g (take a.place p.right) f × (sizes w f ≤ w.limit)
  before_small =
      let fs = siblings_reached in
      (fs.0.0, subst (λ (l : List Symbol). AreTrees g l fs.0.0) (sym before_is) fs.1.0, omega (arith, fs.2, small.small))

  pub behind_small : (f : Forest) × AreTrees g (drop (a.place + 1) p.right) f × (sizes w f ≤ w.limit)
  behind_small =
      let fs = siblings_reached in
      (fs.0.1, subst (λ (l : List Symbol). AreTrees g l fs.0.1) (sym behind_is) fs.1.1, omega (arith, fs.2, small.small))

-- where the way outwards stands at a nonterminal
pub record OutTo (w : Measure) (g : PlainGrammar) (table : List Reach) (n at : ℕ) (places : List RulePlace) (after : List ℕ) : Type 0 where
  pub number : IsNumberOf g.nonterminals at
  pub small : rank w.limit (told_at table at) ≤ w.limit
  pub places_small : All (IsSmallPlace w g) places
  pub so_far : (c : Context) → IsChosenContext w g (Nonterminal n) c → (outer : Context) × (text : List ℕ) × IsChosenContext w g (Nonterminal at) outer × IsLead w g (reverse places) text × (code_before c ≡ code_before outer ++ text) × (code_after c ≡ after ++ code_after outer)

module _ (w : Measure) (g : PlainGrammar) (table : List Reach) (exact : IsEmbedTable w g table) (n at : ℕ) (places places' : List RulePlace) (after after' : List ℕ) (a : RulePlace) (p : Production) (first : IsFirstPlace w g table at a) (rule : IsRule g a.rule p) (left_side : ℕ) (is_left : left_side ≡ p.left) (pushed : places' ≡ places ++ a ∷ []) (appended : AppendsAllChosen w g (drop (a.place + 1) p.right) after after') (here : OutTo w g table n at places after) where
  taken_small : IsSmallPlace w g a
  taken_small = small_place w g table exact at a first here.small

  reversed : reverse places' ≡ a ∷ reverse places
  reversed = ap reverse pushed ∙ reverse-append places (a ∷ [])

  -- the next hole is that of the left side
  step_taken : (c : Context) → (outer : Context) → IsChosenContext w g (Nonterminal at) outer → (text : List ℕ) → at ≢ g.start → IsLead w g (reverse places) text → code_before c ≡ code_before outer ++ text → code_after c ≡ after ++ code_after outer
      → (next : Context) × (text' : List ℕ) × IsChosenContext w g (Nonterminal left_side) next × IsLead w g (reverse places') text' × (code_before c ≡ code_before next ++ text') × (code_after c ≡ after' ++ code_after next)
  unfolding taken_small small_place
  step_taken c Hole h text other is eb ea = absurd (other cc)
  step_taken c (Under outer q left right) h text other is eb ea =
      let taken = chosen_takes w g table exact at a first here.small outer q left right h in
      let p_is : h.0 ≡ p = one_rule g q a.rule h.0 p taken.0 h.3 rule in
      let even : length h.1 ≡ length taken_small.inward.here.before = sym (count_is g left h.1 (AreTrees-chosen w g left h.1 h.6)) ∙ taken.1 ∙ sym taken_small.inward.here.placed in
      let split = one_split h.1 taken_small.inward.here.before (Nonterminal at) (Nonterminal first.step.to) h.2 taken_small.inward.here.behind (sym h.4 ∙ ap (λ (v : Production). v.right) p_is ∙ whole w g a p taken_small rule) even in
      let left_chosen : AreChosen w g (take a.place p.right) left = subst (λ (l : List Symbol). AreChosen w g l left) (split.before ∙ sym (before_is w g a p taken_small rule)) h.6 in
      let right_chosen : AreChosen w g (drop (a.place + 1) p.right) right = subst (λ (l : List Symbol). AreChosen w g l right) (split.behind ∙ sym (behind_is w g a p taken_small rule)) h.7 in
      let rights : right ≡ appended.trees = all_chosen w g right appended.trees (drop (a.place + 1) p.right) right_chosen appended.chosen in
      let next_is : h.0.left ≡ left_side = ap (λ (v : Production). v.left) p_is ∙ sym is_left in
      let lead : IsLead w g (a ∷ reverse places) (a.rule ∷ codes_of left ++ text) = (p, left, text, rule, left_chosen, is, refl) in
      let before_text : code_before outer ++ q ∷ codes_of left ++ text ≡ code_before outer ++ (a.rule ∷ codes_of left ++ text) =
      append_assoc (code_before outer) (q ∷ codes_of left) text ∙ ap (λ (m : ℕ). code_before outer ++ (m ∷ codes_of left ++ text)) taken.0 in
      let after_text : after ++ (codes_of right ++ code_after outer) ≡ after' ++ code_after outer =
      sym (append_assoc after (codes_of right) (code_after outer)) ∙ ap (λ (f : Forest). after ++ codes_of f ++ code_after outer) rights ∙ ap (λ (l : List ℕ). l ++ code_after outer) (sym appended.text) in (
        outer,
        a.rule ∷ codes_of left ++ text,
        subst (λ m. IsChosenContext w g (Nonterminal m) outer) next_is h.8,
        subst (λ (l : List RulePlace). IsLead w g l (a.rule ∷ codes_of left ++ text)) (sym reversed) lead,
        eb ∙ before_text,
        ea ∙ after_text,
      )

  -- which the step leads from
  left_from : first.step.from ≡ left_side
  unfolding taken_small small_place
  left_from = first.inward.from ∙ ap (λ (v : Production). v.left) (same_rule w g a p taken_small rule) ∙ sym is_left

  pub left_less : rank w.limit (told_at table left_side) < rank w.limit (told_at table at)
  left_less = subst (λ m. rank w.limit (told_at table m) < rank w.limit (told_at table at)) left_from (outer_less w g table exact at a first here.small)

  pub out_more : at ≢ g.start → OutTo w g table n left_side places' after'
  out_more other = record {
    number = subst (λ m. IsNumberOf g.nonterminals m) left_from (inward_from w g a first.step exact.grammar first.inward);
    small = omega (arith, left_less, here.small);
    places_small = subst (λ (l : List RulePlace). All (IsSmallPlace w g) l) (sym pushed)
        (All-append (IsSmallPlace w g) places (a ∷ []) here.places_small (All-cons (IsSmallPlace w g) a [] taken_small (All-nil (IsSmallPlace w g))));
    so_far = λ c h. let v = here.so_far c h in step_taken c v.0 v.2 v.1 other v.3 v.4 v.5;
  }

-- at the start symbol it is whole
pub out_end : (w : Measure) (g : PlainGrammar) (table : List Reach) (n at : ℕ) (places : List RulePlace) (after : List ℕ) → at ≡ g.start → OutTo w g table n at places after → IsOutward w g n places after
out_end w g table n at places after same here = record {
  small = here.places_small;
  text = λ c h. let v = here.so_far c h in end c v.0 v.1 v.2 v.3 v.4 v.5;
}
  where
    end : (c outer : Context) (text : List ℕ) → IsChosenContext w g (Nonterminal at) outer → IsLead w g (reverse places) text → code_before c ≡ code_before outer ++ text → code_after c ≡ after ++ code_after outer → IsLead w g (reverse places) (code_before c) × (code_after c ≡ after)
    end c Hole text h is eb ea = (subst (λ (l : List ℕ). IsLead w g (reverse places) l) (sym eb) is, ea ∙ append-nil after)
    end c (Under outer q left right) text h is eb ea = absurd (omega (arith, h.5.least Hole (ap Nonterminal same)))

-- what the first steps say where the way outwards stands
module _ (w : Measure) (g : PlainGrammar) (places : List RulePlace) (table : List Reach) (firsts : List (Option ℕ)) (are : AreEmbeds w g places table firsts) (at : ℕ) (number : IsNumberOf g.nonterminals at) (small : rank w.limit (told_at table at) ≤ w.limit) where
  abbrev net : Net
  net = net_of g.nonterminals are.steps

  told_first : (o : Option ℕ) → o ≡ get_or firsts (at - 1) o → IsFirstTold net (start_of g) at (reach_at table at) o
  told_first o read =
      let there : slice_get firsts (at - 1) ≡ Some o = slice_get_read firsts (length firsts) (at - 1) o refl (omega (arith, number, are.first_steps.many)) read in
      subst (IsFirstTold net (start_of g) at (reach_at table at)) (get_or_from_slice_get firsts (at - 1) o None there) (are.first_steps.each at number)

  first_step : (i : ℕ) (o : Option ℕ) → o ≡ get_or firsts (at - 1) o → o ≡ Some i → IsFirstStep net (start_of g) at (rank w.limit (told_at table at)) i
  first_step i o read is = told_some w.limit g net at (reach_at table at) i (subst (IsFirstTold net (start_of g) at (reach_at table at)) is (told_first o read)) small

  -- the first step is at an index of the places
  pub first_within : (i : ℕ) (o : Option ℕ) → o ≡ get_or firsts (at - 1) o → o ≡ Some i → i < length places
  first_within i o read is =
      let first = first_step i o read is in
      omega (arith, slice_get_within are.steps i first.step first.at, are.inwards.many)

  pub first_some : (i : ℕ) (o : Option ℕ) → o ≡ get_or firsts (at - 1) o → o ≡ Some i → (a : RulePlace) → a ≡ get_or places i a → (at ≢ g.start) × IsFirstPlace w g table at a
  first_some i o read is a there =
      let first = first_step i o read is in
      let placed = slice_get_read places (length places) i a refl (first_within i o read is) there in (
        first_inside w g are.grammar places are.steps are.inwards table are.least at small i a placed first,
        first_place w g are.grammar places are.steps are.inwards table are.least at small i a placed first,
      )

  pub first_none : (o : Option ℕ) → o ≡ get_or firsts (at - 1) o → o ≡ None → at ≡ g.start
  first_none o read is =
      first_outside w g are.grammar places are.steps are.inwards table are.least at small
      (told_none w.limit g net at (reach_at table at) (subst (IsFirstTold net (start_of g) at (reach_at table at)) is (told_first o read)) small)

-- where the writer of the rule numbers before a hole stands: what it has written, and the places that are left
pub record LeadsThrough (w : Measure) (g : PlainGrammar) (start_places : List RulePlace) (start : List ℕ) (places : List RulePlace) (out : List ℕ) : Type 0 where
  pub small : All (IsSmallPlace w g) places
  pub rest : (text : List ℕ) → IsLead w g (reverse start_places) text → (more : List ℕ) × IsLead w g (reverse places) more × (out ++ more ≡ start ++ text)

pub leads_more : (w : Measure) (g : PlainGrammar) (start_places : List RulePlace) (start : List ℕ) (items places : List RulePlace) (out out' out'' : List ℕ) (a : RulePlace) (p : Production) → items ≡ places ++ a ∷ [] → IsRule g a.rule p → out' ≡ out ++ a.rule ∷ [] → AppendsAllChosen w g (take a.place p.right) out' out'' → LeadsThrough w g start_places start items out → LeadsThrough w g start_places start places out''
leads_more w g start_places start items places out out' out'' a p e rule pushed appended so_far = record {
  small = All-left (IsSmallPlace w g) places (a ∷ []) (subst (λ (l : List RulePlace). All (IsSmallPlace w g) l) e so_far.small);
  rest = λ text is.
      let m = so_far.rest text is in
      let front : IsLead w g (a ∷ reverse places) m.0 = subst (λ (l : List RulePlace). IsLead w g l m.0) (ap reverse e ∙ reverse-append places (a ∷ [])) m.1 in
      let same = one_rule g a.rule a.rule front.0 p refl front.3 rule in
      let chosen = subst (λ (v : Production). AreChosen w g (take a.place v.right) front.1) same front.4 in
      let trees : appended.trees ≡ front.1 = all_chosen w g appended.trees front.1 (take a.place p.right) appended.chosen chosen in
      let there : out'' ++ front.2 ≡ out ++ m.0 =
      ap (λ (l : List ℕ). l ++ front.2) (appended.text ∙ ap (λ (l : List ℕ). l ++ codes_of appended.trees) pushed ∙ ap (λ (f : Forest). out ++ a.rule ∷ [] ++ codes_of f) trees)
      ∙ ap (λ (l : List ℕ). l ++ front.2) (append_assoc out (a.rule ∷ []) (codes_of front.1)) ∙ append_assoc out (a.rule ∷ codes_of front.1) front.2 ∙ ap (λ (l : List ℕ). out ++ l) (sym front.6) in
      (front.2, front.5, there ∙ m.2);
}

-- the last of the places that are left
pub last_small : (w : Measure) (g : PlainGrammar) (items places : List RulePlace) (a : RulePlace) → items ≡ places ++ a ∷ [] → All (IsSmallPlace w g) items → IsSmallPlace w g a
last_small w g items places a e each = All-head (IsSmallPlace w g) a [] (All-right (IsSmallPlace w g) places (a ∷ []) (subst (λ (l : List RulePlace). All (IsSmallPlace w g) l) e each))

-- what the code reads of a table at a number
pub told_read : (table : List Reach) (n : ℕ) (r : Reach) → IsNumberOf (length table) n → r ≡ get_or table (n - 1) r → told_cost r ≡ told_at table n
told_read table zero r number read = absurd (omega (arith, number))
told_read table (suc n) r number read =
    let at : slice_get table n ≡ Some r = slice_get_read table (length table) n r refl (omega (arith, number)) (let e : suc n - 1 ≡ n = omega arith in rw (← e) read) in
    ap told_cost (sym (get_or_from_slice_get table n r Never at))

-- the tree's code between the lists of the chosen context
pub filled : (w : Measure) (g : PlainGrammar) (n : ℕ) (before after : List ℕ) (t : Tree) → IsAround w g n before after → IsTree g (Nonterminal n) t → Fills w g n before after t
filled w g n before after t a h =
    let c = a.context in
    let is = IsContext-chosen w g c (Nonterminal n) a.chosen in
    record {
      whole = plug c t;
      is_tree = IsTree-plug g c (Nonterminal n) t is h;
      text = code-plug c t ∙ ap (λ (l : List ℕ). l ++ code t ++ code_after c) (sym a.before_hole) ∙ ap (λ (l : List ℕ). before ++ code t ++ l) (sym a.behind_hole);
      around = context_size w c;
      least = record { reached = (c, is, refl); least = λ d k. chosen_context_least w g (Nonterminal n) d c k a.chosen };
      measure = size-plug w c t;
    }
