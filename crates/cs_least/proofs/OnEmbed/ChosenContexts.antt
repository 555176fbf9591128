-- A symbol with a context has a chosen context, and only one.
use Rattle.std.proofs.Common.{◌≡◌, ℕ, zero, suc, ◌+◌, ◌-◌, ◌<◌, ◌≤◌, ◌⊎◌, List, [], ◌∷◌, ◌++◌, Some, length, get_or, take, drop, refl, sym, ap, ◌∙◌, subst, ⊎_elim, inl, inr, arith}
use Rattle.std.specs.Prelude.{slice_get}
use Rattle.std.proofs.lemmas.Bool.{cases_eq, cases_lt}
use Rattle.std.proofs.lemmas.List.{length-append, length-take-le}
use Rattle.std.proofs.lemmas.Option.{slice_get_within, slice_get-get_or}
use Rattle.cs_grammar.specs.declared.symbol.Symbol.{Symbol}
use Rattle.cs_grammar.specs.declared.symbol.Symbol.TheVariants.{Token, Nonterminal}
use Rattle.cs_grammar.specs.Grammar.{Production, PlainGrammar, IsRule}
use Rattle.cs_grammar.specs.Places.{IsEarlier, IsAtMost}
use Rattle.cs_grammar.specs.Weights.{Measure}
use Rattle.cs_grammar.specs.Tree.{Forest, Bare, Grown, AreTrees}
use Rattle.cs_grammar.specs.Context.{Context, Hole, Under, IsContext, context_size}
use Rattle.cs_grammar.proofs.OneTree.{one_rule}
use Rattle.cs_least.specs.Cost.Chosen.{AreChosen}
use Rattle.cs_least.specs.Embed.ChosenContext.{count, IsChosenContext}
use Rattle.cs_least.proofs.OnCost.ChosenTrees.{AreTrees-chosen, all_chosen, LeastForest, settled, forest_settled}
use Rattle.cs_least.proofs.OnCost.Rules.{some_rule}
use Rattle.cs_least.proofs.OnEmbed.Steps.{at_seam, split_at, one_split}
use Rattle.cs_least.proofs.OnWays.PlacedLists.{later, place_cases}

-- trees of some symbols are as many
pub count_is : (g : PlainGrammar) (f : Forest) (xs : List Symbol) → AreTrees g xs f → count f ≡ length xs
count_is g Bare [] h = refl
count_is g Bare (x ∷ xs) h = absurd h
count_is g (Grown t f) [] h = absurd h
count_is g (Grown t f) (x ∷ xs) h = omega (arith, count_is g f xs h.1)

module _ (w : Measure) (g : PlainGrammar) where
  -- a chosen context is a context
  pub IsContext-chosen : (c : Context) (b : Symbol) → IsChosenContext w g b c → IsContext g b c
  IsContext-chosen Hole b h = h
  IsContext-chosen (Under outer r left right) b h =
      (h.0, h.1, h.2, h.3, h.4, AreTrees-chosen w g left h.1 h.6, AreTrees-chosen w g right h.2 h.7, IsContext-chosen outer (Nonterminal h.0.left) h.8)

  -- it is of least size
  pub chosen_context_least : (b : Symbol) (c d : Context) → IsContext g b c → IsChosenContext w g b d → context_size w d ≤ context_size w c
  chosen_context_least b c Hole hc hd = omega arith
  chosen_context_least b c (Under outer r left right) hc hd = hd.5.least c hc

  -- a symbol has one chosen context
  pub one_chosen_context : (c d : Context) (b : Symbol) → IsChosenContext w g b c → IsChosenContext w g b d → c ≡ d
  one_chosen_context Hole Hole b hc hd = refl
  one_chosen_context Hole (Under outer r left right) b hc hd = absurd (omega (arith, hd.5.least Hole hc))
  one_chosen_context (Under outer r left right) Hole b hc hd = absurd (omega (arith, hc.5.least Hole hd))
  one_chosen_context (Under outer r left right) (Under outer' q left' right') b hc hd =
      let c = Under outer r left right in
      let d = Under outer' q left' right' in
      let c_is = IsContext-chosen c b hc in
      let d_is = IsContext-chosen d b hd in
      let below = hc.5.least d d_is in
      let above = hd.5.least c c_is in
      let lower = hc.5.lowest outer' q left' right' d_is (omega (arith, below, above)) in
      let higher = hd.5.lowest outer r left right c_is (omega (arith, below, above)) in
      let same_rule : r ≡ q = ⊎_elim
      (λ l. ⊎_elim (λ h. absurd (omega (arith, l, h))) (λ h. omega (arith, h.0)) higher)
      (λ l. l.0) lower in
      let same_place : count left ≡ count left' = ⊎_elim
      (λ l. absurd (omega (arith, l, same_rule)))
      (λ l. ⊎_elim (λ h. absurd (omega (arith, h, same_rule))) (λ h. omega (arith, l.1, h.1)) higher) lower in
      let p_is = one_rule g r q hc.0 hd.0 same_rule hc.3 hd.3 in
      let even : length hc.1 ≡ length hd.1 = sym (count_is g left hc.1 (AreTrees-chosen w g left hc.1 hc.6)) ∙ same_place ∙ count_is g left' hd.1 (AreTrees-chosen w g left' hd.1 hd.6) in
      let split = one_split hc.1 hd.1 b b hc.2 hd.2 (sym hc.4 ∙ ap (λ (p : Production). p.right) p_is ∙ hd.4) even in
      let lefts = all_chosen w g left left' hc.1 hc.6 (subst (λ (xs : List Symbol). AreChosen w g xs left') (sym split.before) hd.6) in
      let rights = all_chosen w g right right' hc.2 hc.7 (subst (λ (xs : List Symbol). AreChosen w g xs right') (sym split.behind) hd.7) in
      let outers = one_chosen_context outer outer' (Nonterminal hc.0.left) hc.8 (subst (λ (p : Production). IsChosenContext w g (Nonterminal p.left) outer') (sym p_is) hd.8) in
      ap (λ o. Under o r left right) outers ∙ ap (λ n. Under outer' n left right) same_rule ∙ ap (λ f. Under outer' q f right) lefts ∙ ap (λ f. Under outer' q left' f) rights

-- the chosen context of a symbol, which is of least size
pub record LeastContext (w : Measure) (g : PlainGrammar) (b : Symbol) : Type 0 where
  pub context : Context
  pub chosen : IsChosenContext w g b context
  pub least : (c : Context) → IsContext g b c → context_size w context ≤ context_size w c

-- each context of b has more than n nodes, or there is a chosen one
abbrev pub IsContextSettled : Measure → PlainGrammar → ℕ → Symbol → Type 0
IsContextSettled w g n b = ((c : Context) → IsContext g b c → n < context_size w c) ⊎ LeastContext w g b

-- each context of b whose rule and place come before this has more than n nodes
abbrev pub NoContext : Measure → PlainGrammar → Symbol → ℕ → ℕ → ℕ → Type 0
NoContext w g b n q j =
    (outer : Context) (r : ℕ) (left right : Forest) → IsEarlier r (count left) q j → IsContext g b (Under outer r left right) → n < context_size w (Under outer r left right)

-- the first least one of those contexts, which has at most n nodes
pub record BestContext (w : Measure) (g : PlainGrammar) (b : Symbol) (n q j : ℕ) : Type 0 where
  pub number : ℕ
  pub rule : Production
  pub before : List Symbol
  pub behind : List Symbol
  pub is_rule : IsRule g number rule
  pub right_side : rule.right ≡ before ++ b ∷ behind
  pub outer : Context
  pub left : Forest
  pub right : Forest
  pub around : IsChosenContext w g (Nonterminal rule.left) outer
  pub left_chosen : AreChosen w g before left
  pub right_chosen : AreChosen w g behind right
  pub earlier : IsEarlier number (count left) q j
  pub small : context_size w (Under outer number left right) ≤ n
  pub least : (o : Context) → (r : ℕ) → (f h : Forest) → IsEarlier r (count f) q j → IsContext g b (Under o r f h) → context_size w (Under outer number left right) ≤ context_size w (Under o r f h)
  pub lowest : (o : Context) → (r : ℕ) → (f h : Forest) → IsEarlier r (count f) q j → IsContext g b (Under o r f h) → context_size w (Under o r f h) ≡ context_size w (Under outer number left right) → IsAtMost number (count left) r (count f)

abbrev pub SoFar : Measure → PlainGrammar → Symbol → ℕ → ℕ → ℕ → Type 0
SoFar w g b n q j = NoContext w g b n q j ⊎ BestContext w g b n q j

module _ (w : Measure) (g : PlainGrammar) (b : Symbol) (n : ℕ) where
  -- where the best so far stays the best
  best_kept : (q j q' j' : ℕ) → (best : BestContext w g b n q j) → IsEarlier best.number (count best.left) q' j' → ((o : Context) (r : ℕ) (f h : Forest) → IsEarlier r (count f) q' j' → IsContext g b (Under o r f h) → IsEarlier r (count f) q j ⊎ ((context_size w (Under best.outer best.number best.left best.right) ≤ context_size w (Under o r f h)) × IsAtMost best.number (count best.left) r (count f))) → BestContext w g b n q' j'
  best_kept q j q' j' best earlier cases = record {
    number = best.number;
    rule = best.rule;
    before = best.before;
    behind = best.behind;
    is_rule = best.is_rule;
    right_side = best.right_side;
    outer = best.outer;
    left = best.left;
    right = best.right;
    around = best.around;
    left_chosen = best.left_chosen;
    right_chosen = best.right_chosen;
    earlier = earlier;
    small = best.small;
    least = λ o r f h early is. ⊎_elim (λ old. best.least o r f h old is) (λ new. new.0) (cases o r f h early is);
    lowest = λ o r f h early is e. ⊎_elim (λ old. best.lowest o r f h old is e) (λ new. new.1) (cases o r f h early is);
  }

  module _ (q j : ℕ) (p : Production) (rule : IsRule g q p) where
    -- no context at this place has at most n nodes
    pub place_skipped : ((o : Context) (f h : Forest) → count f ≡ j → IsContext g b (Under o q f h) → n < context_size w (Under o q f h)) → SoFar w g b n q j → SoFar w g b n q (j + 1)
    place_skipped none so_far =
        ⊎_elim
        (λ before. inl (λ o r f h early is.
        ⊎_elim (λ old. before o r f h old is) (λ here. at o r f h here.0 here.1 is) (place_cases r (count f) q j early)))
        (λ best. inr (best_kept q j q (j + 1) best (later best.number (count best.left) q j best.earlier) (λ o r f h early is.
        ⊎_elim (λ old. inl old)
        (λ here. inr (
          omega (arith, at o r f h here.0 here.1 is, best.small),
          ⊎_elim (λ lower. inl (omega (arith, lower, here.0))) (λ same. inr (same.0 ∙ sym here.0, omega (arith, same.1, here.1))) best.earlier,
        ))
        (place_cases r (count f) q j early))))
        so_far
      where
        at : (o : Context) (r : ℕ) (f h : Forest) → r ≡ q → count f ≡ j → IsContext g b (Under o r f h) → n < context_size w (Under o r f h)
        at o r f h same place is = omega (arith, none o f h place (subst (λ m. IsContext g b (Under o m f h)) same is))

    -- the least context at this place
    module _ (xs ys : List Symbol) (e : p.right ≡ xs ++ b ∷ ys) (place : length xs ≡ j) (outer : LeastContext w g (Nonterminal p.left)) (left : LeastForest w g xs) (right : LeastForest w g ys) where
      at_place : count left.trees ≡ j
      at_place = count_is g left.trees xs (AreTrees-chosen w g left.trees xs left.chosen) ∙ place

      here_least : (o : Context) (r : ℕ) (f h : Forest) → r ≡ q → count f ≡ j → IsContext g b (Under o r f h) → context_size w (Under outer.context q left.trees right.trees) ≤ context_size w (Under o r f h)
      here_least o r f h same counted is =
          let p_is = one_rule g r q is.0 p same is.3 rule in
          let even : length is.1 ≡ length xs = sym (count_is g f is.1 is.5) ∙ counted ∙ sym place in
          let split = one_split is.1 xs b b is.2 ys (sym is.4 ∙ ap (λ (o : Production). o.right) p_is ∙ e) even in
          let lefts = left.least f (subst (λ (zs : List Symbol). AreTrees g zs f) split.before is.5) in
          let rights = right.least h (subst (λ (zs : List Symbol). AreTrees g zs h) split.behind is.6) in
          let outers = outer.least o (subst (λ (v : Production). IsContext g (Nonterminal v.left) o) p_is is.7) in
          omega (arith, lefts, rights, outers)

      here_taken : context_size w (Under outer.context q left.trees right.trees) ≤ n → ((o : Context) (r : ℕ) (f h : Forest) → IsEarlier r (count f) q j → IsContext g b (Under o r f h) → context_size w (Under outer.context q left.trees right.trees) < context_size w (Under o r f h)) → BestContext w g b n q (j + 1)
      here_taken small dearer = record {
        number = q;
        rule = p;
        before = xs;
        behind = ys;
        is_rule = rule;
        right_side = e;
        outer = outer.context;
        left = left.trees;
        right = right.trees;
        around = outer.chosen;
        left_chosen = left.chosen;
        right_chosen = right.chosen;
        earlier = inr (refl, omega (arith, at_place));
        small = small;
        least = λ o r f h early is.
            ⊎_elim (λ old. omega (arith, dearer o r f h old is)) (λ here. here_least o r f h here.0 here.1 is) (place_cases r (count f) q j early);
        lowest = λ o r f h early is same.
            ⊎_elim (λ old. absurd (omega (arith, dearer o r f h old is, same))) (λ here. inr (sym here.0, omega (arith, at_place, here.1))) (place_cases r (count f) q j early);
      }

      pub place_found : context_size w (Under outer.context q left.trees right.trees) ≤ n → SoFar w g b n q j → SoFar w g b n q (j + 1)
      place_found small so_far =
          ⊎_elim
          (λ none. inr (here_taken small (λ o r f h early is. omega (arith, none o r f h early is, small))))
          (λ best. ⊎_elim
          (λ less. inr (here_taken small (λ o r f h early is. omega (arith, best.least o r f h early is, less))))
          (λ not_less. inr (best_kept q j q (j + 1) best (later best.number (count best.left) q j best.earlier) (λ o r f h early is.
          ⊎_elim (λ old. inl old)
          (λ here. inr (
            omega (arith, here_least o r f h here.0 here.1 is, not_less),
            ⊎_elim (λ lower. inl (omega (arith, lower, here.0))) (λ same. inr (same.0 ∙ sym here.0, omega (arith, same.1, here.1))) best.earlier,
          ))
          (place_cases r (count f) q j early))))
          (cases_lt (context_size w (Under outer.context q left.trees right.trees)) (context_size w (Under best.outer best.number best.left best.right))))
          so_far

module _ (w : Measure) (g : PlainGrammar) (m n : ℕ) (inner : (x : ℕ) → IsContextSettled w g n (Nonterminal x)) where
  -- what a context at a place of a rule is made of
  parts_at : (q : ℕ) (p : Production) (rule : IsRule g q p) (xs ys : List Symbol) → p.right ≡ xs ++ Nonterminal m ∷ ys → (o : Context) (f h : Forest) → count f ≡ length xs → IsContext g (Nonterminal m) (Under o q f h) → AreTrees g xs f × AreTrees g ys h × IsContext g (Nonterminal p.left) o
  parts_at q p rule xs ys e o f h counted is =
      let p_is = one_rule g q q is.0 p refl is.3 rule in
      let even : length is.1 ≡ length xs = sym (count_is g f is.1 is.5) ∙ counted in
      let split = one_split is.1 xs (Nonterminal m) (Nonterminal m) is.2 ys (sym is.4 ∙ ap (λ (v : Production). v.right) p_is ∙ e) even in (
        subst (λ (zs : List Symbol). AreTrees g zs f) split.before is.5,
        subst (λ (zs : List Symbol). AreTrees g zs h) split.behind is.6,
        subst (λ (v : Production). IsContext g (Nonterminal v.left) o) p_is is.7,
      )

  -- the hole stands where the symbol is its own
  hole_at : (q j : ℕ) (p : Production) (rule : IsRule g q p) (x : Symbol) → slice_get p.right j ≡ Some x → (o : Context) (f h : Forest) → count f ≡ j → IsContext g (Nonterminal m) (Under o q f h) → x ≡ Nonterminal m
  hole_at q j p rule x at o f h counted is =
      let p_is = one_rule g q q is.0 p refl is.3 rule in
      let place : length is.1 ≡ j = sym (count_is g f is.1 is.5) ∙ counted in
      let there : slice_get p.right j ≡ Some (Nonterminal m) =
      ap (λ k. slice_get p.right k) (sym place) ∙ ap (λ (v : Production). slice_get v.right (length is.1)) (sym p_is) ∙ ap (λ (s : List Symbol). slice_get s (length is.1)) is.4 ∙ at_seam is.1 is.2 (Nonterminal m) in
      cc

  place_settled : (q j : ℕ) (p : Production) (rule : IsRule g q p) (x : Symbol) → slice_get p.right j ≡ Some x → SoFar w g (Nonterminal m) (suc n) q j → SoFar w g (Nonterminal m) (suc n) q (j + 1)
  place_settled q j p rule (Token t) at so_far =
      place_skipped w g (Nonterminal m) (suc n) q j p rule (λ o f h counted is. absurd (let e = hole_at q j p rule (Token t) at o f h counted is in cc)) so_far
  place_settled q j p rule (Nonterminal k) at so_far =
      ⊎_elim
      (λ same. ⊎_elim
      (λ none. skip same (λ o f h counted is. let v = parts same o f h counted is in omega (arith, none o v.2)))
      (λ outer. ⊎_elim
      (λ none. skip same (λ o f h counted is. let v = parts same o f h counted is in omega (arith, none f v.0)))
      (λ left. ⊎_elim
      (λ none. skip same (λ o f h counted is. let v = parts same o f h counted is in omega (arith, none h v.1)))
      (λ right. ⊎_elim
      (λ large. skip same (λ o f h counted is.
      let v = parts same o f h counted is in
      omega (arith, large, outer.least o v.2, left.least f v.0, right.least h v.1)))
      (λ small. place_found w g (Nonterminal m) (suc n) q j p rule (take j p.right) (drop (j + 1) p.right) (split same) placed outer left right small so_far)
      (cases_lt (suc n) (context_size w (Under outer.context q left.trees right.trees))))
      (forest_settled w g n (settled w g n) (drop (j + 1) p.right)))
      (forest_settled w g n (settled w g n) (take j p.right)))
      (inner p.left))
      (λ other. place_skipped w g (Nonterminal m) (suc n) q j p rule (λ o f h counted is. absurd (other (let e = hole_at q j p rule (Nonterminal k) at o f h counted is in cc))) so_far)
      (cases_eq k m)
    where
      placed : length (take j p.right) ≡ j
      placed = length-take-le j p.right (omega (arith, slice_get_within p.right j (Nonterminal k) at))

      split : k ≡ m → p.right ≡ take j p.right ++ Nonterminal m ∷ drop (j + 1) p.right
      split same = split_at p.right j (Nonterminal m) (at ∙ ap (λ i. Some (Nonterminal i)) same)

      parts : k ≡ m → (o : Context) (f h : Forest) → count f ≡ j → IsContext g (Nonterminal m) (Under o q f h) → AreTrees g (take j p.right) f × AreTrees g (drop (j + 1) p.right) h × IsContext g (Nonterminal p.left) o
      parts same o f h counted is = parts_at q p rule (take j p.right) (drop (j + 1) p.right) (split same) o f h (counted ∙ sym placed) is

      skip : k ≡ m → ((o : Context) (f h : Forest) → count f ≡ j → IsContext g (Nonterminal m) (Under o q f h) → suc n < context_size w (Under o q f h)) → SoFar w g (Nonterminal m) (suc n) q (j + 1)
      skip same none = place_skipped w g (Nonterminal m) (suc n) q j p rule none so_far

  places_settled : (q : ℕ) (p : Production) (rule : IsRule g q p) → SoFar w g (Nonterminal m) (suc n) q 0 → (j : ℕ) → j ≤ length p.right → SoFar w g (Nonterminal m) (suc n) q j
  places_settled q p rule so_far zero le = so_far
  places_settled q p rule so_far (suc j) le =
      let before = places_settled q p rule so_far j (omega (arith, le)) in
      let at = slice_get-get_or p.right j (Token 0) (omega (arith, le)) in
      let e : j + 1 ≡ suc j = omega arith in
      subst (SoFar w g (Nonterminal m) (suc n) q) e (place_settled q j p rule (get_or p.right j (Token 0)) at before)

  -- behind the last place of a rule the next one begins
  next_rule : (q : ℕ) (p : Production) (rule : IsRule g q p) → SoFar w g (Nonterminal m) (suc n) q (length p.right) → SoFar w g (Nonterminal m) (suc n) (suc q) 0
  next_rule q p rule so_far =
      ⊎_elim
      (λ none. inl (λ o r f h early is. none o r f h (back o r f h early is) is))
      (λ best. inr (best_kept w g (Nonterminal m) (suc n) q (length p.right) (suc q) 0 best (⊎_elim (λ lower. inl (omega (arith, lower))) (λ here. inl (omega (arith, here.0))) best.earlier)
      (λ o r f h early is. inl (back o r f h early is))))
      so_far
    where
      back : (o : Context) (r : ℕ) (f h : Forest) → IsEarlier r (count f) (suc q) 0 → IsContext g (Nonterminal m) (Under o r f h) → IsEarlier r (count f) q (length p.right)
      back o r f h early is =
          ⊎_elim
          (λ lower. ⊎_elim (λ before. inl before)
          (λ not_before.
          let same : r ≡ q = omega (arith, lower, not_before) in
          let p_is = one_rule g r q is.0 p same is.3 rule in
          let counted = count_is g f is.1 is.5 in
          let within : length is.1 < length p.right = omega (arith, ap (λ (v : Production). length v.right) p_is, ap (λ (s : List Symbol). length s) is.4, length-append is.1 (Nonterminal m ∷ is.2)) in
          inr (same, omega (arith, counted, within)))
          (cases_lt r q))
          (λ here. absurd (omega (arith, here.1)))
          early

  rules_settled : (q : ℕ) → q ≤ length g.rules → SoFar w g (Nonterminal m) (suc n) (suc q) 0
  rules_settled zero le =
      inl (λ o r f h early is. absurd (⊎_elim (λ lower. omega (arith, lower, is.3.above_zero)) (λ here. omega (arith, here.1)) early))
  rules_settled (suc q) le =
      next_rule (suc q) p rule (places_settled (suc q) p rule (rules_settled q (omega (arith, le))) (length p.right) (omega arith))
    where
      there : (p : Production) × IsRule g (suc q) p
      there = some_rule g q (omega (arith, le))

      p : Production
      p = there.0

      rule : IsRule g (suc q) p
      rule = there.1

  of_rules : (o : Context) (r : ℕ) (f h : Forest) → IsContext g (Nonterminal m) (Under o r f h) → IsEarlier r (count f) (suc (length g.rules)) 0
  of_rules o r f h is = inl (omega (arith, slice_get_within g.rules (r - 1) is.0 is.3.at))

  pub under_settled : (m ≡ g.start → ⊥) → IsContextSettled w g (suc n) (Nonterminal m)
  under_settled other =
      ⊎_elim
      (λ none. inl (λ c is. larger none c is))
      (λ best. inr (record {
        context = Under best.outer best.number best.left best.right;
        chosen = (
          best.rule,
          best.before,
          best.behind,
          best.is_rule,
          best.right_side,
          record { least = λ c is. least best c is; lowest = λ o r f h is e. best.lowest o r f h (of_rules o r f h is) is e },
          best.left_chosen,
          best.right_chosen,
          best.around,
        );
        least = λ c is. least best c is;
      }))
      (rules_settled (length g.rules) (omega arith))
    where
      larger : NoContext w g (Nonterminal m) (suc n) (suc (length g.rules)) 0 → (c : Context) → IsContext g (Nonterminal m) c → suc n < context_size w c
      larger none Hole is = absurd (other cc)
      larger none (Under o r f h) is = none o r f h (of_rules o r f h is) is

      least : (best : BestContext w g (Nonterminal m) (suc n) (suc (length g.rules)) 0) → (c : Context) → IsContext g (Nonterminal m) c → context_size w (Under best.outer best.number best.left best.right) ≤ context_size w c
      least best Hole is = absurd (other cc)
      least best (Under o r f h) is = best.least o r f h (of_rules o r f h is) is

module _ (w : Measure) (g : PlainGrammar) where
  -- which of the two it is, is known
  pub context_settled : (n m : ℕ) → IsContextSettled w g n (Nonterminal m)
  context_settled zero m =
      ⊎_elim
      (λ same. inr (record { context = Hole; chosen = ap Nonterminal same; least = λ c is. omega arith }))
      (λ other. inl (λ c is. larger other c is))
      (cases_eq m g.start)
    where
      larger : (m ≡ g.start → ⊥) → (c : Context) → IsContext g (Nonterminal m) c → 0 < context_size w c
      larger other Hole is = absurd (other cc)
      larger other (Under o r f h) is = omega arith
  context_settled (suc n) m =
      ⊎_elim
      (λ same. inr (record { context = Hole; chosen = ap Nonterminal same; least = λ c is. omega arith }))
      (λ other. under_settled w g m n (context_settled n) other)
      (cases_eq m g.start)

  -- a nonterminal with a context has a chosen context, of least size
  pub chosen_context_exists : (m : ℕ) (c : Context) → IsContext g (Nonterminal m) c → LeastContext w g (Nonterminal m)
  chosen_context_exists m c h = ⊎_elim (λ none. absurd (omega (arith, none c h))) (λ least. least) (context_settled (context_size w c) m)
