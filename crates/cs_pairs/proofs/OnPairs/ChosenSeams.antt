-- The chosen tree of two tokens: there is at most one, and one where a tree has the pair.
use Rattle.std.proofs.Common.{◌≡◌, ℕ, zero, suc, ◌+◌, ◌-◌, ◌<◌, ◌≤◌, List, ◌∷◌, ◌++◌, Some, length, get_or, take, drop, refl, sym, ap, ◌∙◌, subst, ⊎_elim, inl, inr, arith}
use Rattle.std.specs.Prelude.{slice_get}
use Rattle.std.proofs.lemmas.Bool.{cases_lt}
use Rattle.std.proofs.lemmas.List.{length-take-le, length-append}
use Rattle.std.proofs.lemmas.Option.{slice_get_within, slice_get-get_or}
use Rattle.cs_grammar.specs.declared.symbol.Symbol.{Symbol}
use Rattle.cs_grammar.specs.declared.symbol.Symbol.TheVariants.{Token, Nonterminal}
use Rattle.cs_grammar.specs.Grammar.{Production, PlainGrammar, IsRule}
use Rattle.cs_grammar.specs.Places.{IsAtMost}
use Rattle.cs_grammar.specs.Weights.{Measure}
use Rattle.cs_grammar.specs.Tree.{Tree, Forest, AreTrees, size}
use Rattle.cs_grammar.specs.Context.{Context, Hole, Under, IsContext, plug}
use Rattle.cs_grammar.proofs.OneTree.{one_rule}
use Rattle.cs_grammar.proofs.Holes.{size-plug}
use Rattle.cs_least.specs.Cost.Chosen.{AreChosen}
use Rattle.cs_least.proofs.OnCost.Rules.{some_rule}
use Rattle.cs_least.proofs.OnCost.ChosenTrees.{LeastForest, AreTrees-chosen, all_chosen, settled as tree_settled, forest_settled}
use Rattle.cs_least.specs.Embed.ChosenContext.{count, IsChosenContext}
use Rattle.cs_least.proofs.OnEmbed.ChosenContexts.{count_is, IsContext-chosen, one_chosen_context, LeastContext, context_settled}
use Rattle.cs_least.proofs.OnEmbed.Steps.{split_at, one_split}
use Rattle.cs_pairs.specs.declared.kinds.kind.TreeKind.TheVariants.{Begins, Ends}
use Rattle.cs_pairs.specs.Kinds.Kinds.{IsTreeOfKind, AreTreesOfKind}
use Rattle.cs_pairs.specs.Kinds.ChosenKind.{IsChosenOfKind, AreChosenOfKind}
use Rattle.cs_pairs.proofs.OnKinds.ChosenKinds.{IsTree-of_kind, AreTrees-of_kind, of_kind_least, list_least, one_of_kind, all_of_kind}
use Rattle.cs_pairs.proofs.OnKinds.FirstLeast.{IsSettledAt, FirstLeast, first_least}
use Rattle.cs_pairs.proofs.OnKinds.KindsSettled.{settled, list_settled}
use Rattle.cs_pairs.specs.Pairs.Beside.{IsSeam, seam_size}
use Rattle.cs_pairs.specs.Pairs.SeamPlace.{SeamAt, size_at}
use Rattle.cs_pairs.specs.Pairs.ChosenPair.{IsChosenSeam}

module _ (w : Measure) (g : PlainGrammar) (a b : ℕ) where
  -- the seam of a chosen tree
  pub seam_of : (t : Tree) → (c : IsChosenSeam w g a b t) → IsSeam g a b c.symbol (Under c.outer c.number c.left c.right, c.last)
  seam_of t c =
      let right = AreTrees-of_kind w g c.right (Begins b) c.behind c.right_chosen in
      let last = IsTree-of_kind w g c.last (Ends a) c.symbol c.last_chosen in
      (((c.rule, c.before, c.behind, c.is_rule, c.right_side, AreTrees-chosen w g c.left c.before c.left_chosen, right.0, IsContext-chosen w g c.outer (Nonterminal c.rule.left) c.around), right.1), last)

  pub seam_measure : (t : Tree) → (c : IsChosenSeam w g a b t) → size w t ≡ seam_size w (Under c.outer c.number c.left c.right, c.last)
  seam_measure t c = ap (size w) c.whole ∙ size-plug w (Under c.outer c.number c.left c.right) c.last

  -- two tokens have one chosen tree
  pub one_seam : (t u : Tree) → IsChosenSeam w g a b t → IsChosenSeam w g a b u → t ≡ u
  one_seam t u c d =
      let below = c.first.least d.symbol (Under d.outer d.number d.left d.right, d.last) (seam_of u d) in
      let above = d.first.least c.symbol (Under c.outer c.number c.left c.right, c.last) (seam_of t c) in
      let even : size w t ≡ size w u = omega (arith, below, above, seam_measure t c, seam_measure u d) in
      let lower = c.first.lowest d.symbol d.outer d.number d.left d.right d.last (seam_of u d) (sym (seam_measure u d) ∙ sym even) in
      let higher = d.first.lowest c.symbol c.outer c.number c.left c.right c.last (seam_of t c) (sym (seam_measure t c) ∙ even) in
      let same_number : c.number ≡ d.number = ⊎_elim
      (λ l. ⊎_elim (λ h. absurd (omega (arith, l, h))) (λ h. omega (arith, h.0)) higher)
      (λ l. l.0) lower in
      let same_place : count c.left ≡ count d.left = ⊎_elim
      (λ l. absurd (omega (arith, l, same_number)))
      (λ l. ⊎_elim (λ h. absurd (omega (arith, h, same_number))) (λ h. omega (arith, l.1, h.1)) higher) lower in
      let same_rule = one_rule g c.number d.number c.rule d.rule same_number c.is_rule d.is_rule in
      let placed : length c.before ≡ length d.before = sym (count_is g c.left c.before (AreTrees-chosen w g c.left c.before c.left_chosen)) ∙ same_place ∙ count_is g d.left d.before (AreTrees-chosen w g d.left d.before d.left_chosen) in
      let split = one_split c.before d.before c.symbol d.symbol c.behind d.behind (sym c.right_side ∙ ap (λ (p : Production). p.right) same_rule ∙ d.right_side) placed in
      let lefts = all_chosen w g c.left d.left c.before c.left_chosen (subst (λ (xs : List Symbol). AreChosen w g xs d.left) (sym split.before) d.left_chosen) in
      let rights = all_of_kind w g c.right d.right (Begins b) c.behind c.right_chosen (subst (λ (ys : List Symbol). AreChosenOfKind w g (Begins b) ys d.right) (sym split.behind) d.right_chosen) in
      let lasts = one_of_kind w g c.last d.last (Ends a) c.symbol c.last_chosen (subst (λ x. IsChosenOfKind w g (Ends a) x d.last) (sym split.here) d.last_chosen) in
      let outers = one_chosen_context w g c.outer d.outer (Nonterminal c.rule.left) c.around (subst (λ (p : Production). IsChosenContext w g (Nonterminal p.left) d.outer) (sym same_rule) d.around) in
      let whole = c.whole in
      let other = d.whole in
      let contexts : Under c.outer c.number c.left c.right ≡ Under d.outer d.number d.left d.right = cc in
      cc

  -- its parts are chosen
  pub record IsChosenAt (r i : ℕ) (s : SeamAt g a b r i) : Type 0 where
    pub rule : Production
    pub is_rule : IsRule g r rule
    pub before : List Symbol
    pub behind : List Symbol
    pub right_side : rule.right ≡ before ++ s.symbol ∷ behind
    pub around : IsChosenContext w g (Nonterminal rule.left) s.outer
    pub left_chosen : AreChosen w g before s.left
    pub last_chosen : IsChosenOfKind w g (Ends a) s.symbol s.last
    pub right_chosen : AreChosenOfKind w g (Begins b) behind s.right

  module _ (r : ℕ) (p : Production) (rule : IsRule g r p) where
    -- the parts of a seam at a place, by the rule's symbols there
    pub record PartsAt (i : ℕ) (x : Symbol) (s : SeamAt g a b r i) : Type 0 where
      pub same : s.symbol ≡ x
      pub lefts : AreTrees g (take i p.right) s.left
      pub rights : AreTreesOfKind g (Begins b) (drop (i + 1) p.right) s.right
      pub outers : IsContext g (Nonterminal p.left) s.outer
      pub lasts : IsTreeOfKind g (Ends a) x s.last

    pub place_within : (i : ℕ) → SeamAt g a b r i → i < length p.right
    place_within i s =
        let it = s.is_seam.0.0 in
        let same = one_rule g r r it.0 p refl it.3 rule in
        let counted = count_is g s.left it.1 it.5 in
        omega (arith, counted, s.placed, ap (λ (o : Production). length o.right) same, ap (λ (l : List Symbol). length l) it.4, length-append it.1 (s.symbol ∷ it.2))

    pub parts_at : (i : ℕ) (x : Symbol) → slice_get p.right i ≡ Some x → (s : SeamAt g a b r i) → PartsAt i x s
    parts_at i x at s =
        let it = s.is_seam.0.0 in
        let same = one_rule g r r it.0 p refl it.3 rule in
        let within = slice_get_within p.right i x at in
        let even : length it.1 ≡ length (take i p.right) = sym (count_is g s.left it.1 it.5) ∙ s.placed ∙ sym (length-take-le i p.right (omega (arith, within))) in
        let split = one_split it.1 (take i p.right) s.symbol x it.2 (drop (i + 1) p.right) (sym it.4 ∙ ap (λ (o : Production). o.right) same ∙ split_at p.right i x at) even in
        record {
          same = split.here;
          lefts = subst (λ (l : List Symbol). AreTrees g l s.left) split.before it.5;
          rights = (subst (λ (l : List Symbol). AreTrees g l s.right) split.behind it.6, s.is_seam.0.1);
          outers = subst (λ (o : Production). IsContext g (Nonterminal o.left) s.outer) same it.7;
          lasts = subst (λ y. IsTreeOfKind g (Ends a) y s.last) split.here s.is_seam.1;
        }

    -- a seam of chosen parts is the least at its place
    module _ (i : ℕ) (x : Symbol) (at : slice_get p.right i ≡ Some x) (o : LeastContext w g (Nonterminal p.left)) (f : LeastForest w g (take i p.right)) (t : Tree) (is_t : IsChosenOfKind w g (Ends a) x t) (h : Forest) (is_h : AreChosenOfKind w g (Begins b) (drop (i + 1) p.right) h) where
      made : SeamAt g a b r i
      made =
          let right = AreTrees-of_kind w g h (Begins b) (drop (i + 1) p.right) is_h in
          let left = AreTrees-chosen w g f.trees (take i p.right) f.chosen in
          record {
            symbol = x;
            outer = o.context;
            left = f.trees;
            right = h;
            last = t;
            is_seam = (
              ((p, take i p.right, drop (i + 1) p.right, rule, split_at p.right i x at, left, right.0, IsContext-chosen w g o.context (Nonterminal p.left) o.chosen), right.1),
              IsTree-of_kind w g t (Ends a) x is_t,
            );
            placed = count_is g f.trees (take i p.right) left ∙ length-take-le i p.right (omega (arith, slice_get_within p.right i x at));
          }

      made_chosen : IsChosenAt r i made
      unfolding made
      made_chosen = record {
        rule = p;
        is_rule = rule;
        before = take i p.right;
        behind = drop (i + 1) p.right;
        right_side = split_at p.right i x at;
        around = o.chosen;
        left_chosen = f.chosen;
        last_chosen = is_t;
        right_chosen = is_h;
      }

      made_least : (s : SeamAt g a b r i) → size_at w g a b r i made ≤ size_at w g a b r i s
      unfolding made
      made_least s =
          let parts = parts_at i x at s in
          omega (arith, o.least s.outer parts.outers, f.least s.left parts.lefts, of_kind_least w g (Ends a) x t s.last parts.lasts is_t, list_least w g h s.right (Begins b) (drop (i + 1) p.right) parts.rights is_h)

    place_settled : (n i : ℕ) → IsSettledAt (IsChosenAt r) (size_at w g a b r) n i
    place_settled n i =
        ⊎_elim
        (λ within.
        let x = get_or p.right i (Token 0) in
        let at = slice_get-get_or p.right i (Token 0) within in
        ⊎_elim
        (λ none. inl (λ s. let parts = parts_at i x at s in omega (arith, none s.outer parts.outers)))
        (λ o. ⊎_elim
        (λ none. inl (λ s. let parts = parts_at i x at s in omega (arith, none s.left parts.lefts)))
        (λ f. ⊎_elim
        (λ none. inl (λ s. let parts = parts_at i x at s in omega (arith, none s.last parts.lasts)))
        (λ t. ⊎_elim
        (λ none. inl (λ s. let parts = parts_at i x at s in omega (arith, none s.right parts.rights)))
        (λ h. inr (made i x at o f t.0 t.1 h.0 h.1, made_chosen i x at o f t.0 t.1 h.0 h.1, made_least i x at o f t.0 t.1 h.0 h.1))
        (list_settled w g n (settled w g n) (Begins b) (drop (i + 1) p.right)))
        (settled w g n (Ends a) x))
        (forest_settled w g n (tree_settled w g n) (take i p.right)))
        (context_settled w g n p.left))
        (λ past. inl (λ s. absurd (omega (arith, place_within i s, past))))
        (cases_lt i (length p.right))

  -- a seam of a rule, at some place
  abbrev SeamOf : ℕ → Type 0
  SeamOf i = (k : ℕ) × SeamAt g a b (suc i) k

  abbrev size_of : (i : ℕ) → SeamOf i → ℕ
  size_of i s = size_at w g a b (suc i) s.0 s.1

  -- its parts are chosen, and no seam of the rule of its size has a lower place
  record IsFirstIn (i : ℕ) (s : SeamOf i) : Type 0 where
    parts : IsChosenAt (suc i) s.0 s.1
    lowest : (k : ℕ) → (u : SeamAt g a b (suc i) k) → size_at w g a b (suc i) k u ≡ size_of i s → s.0 ≤ k

  rule_settled : (n i : ℕ) → IsSettledAt IsFirstIn size_of n i
  rule_settled n i =
      ⊎_elim
      (λ within.
      let there = some_rule g i within in
      let p = there.0 in
      let rule = there.1 in
      ⊎_elim
      (λ large. inl (λ s. large s.0 (place_within (suc i) p rule s.0 s.1) s.1))
      (λ best. inr (
        (best.number, best.thing),
        record { parts = best.good; lowest = λ k u e. best.lowest k (place_within (suc i) p rule k u) u e },
        λ s. best.least s.0 (place_within (suc i) p rule s.0 s.1) s.1,
      ))
      (first_least (IsChosenAt (suc i)) (size_at w g a b (suc i)) n (place_settled (suc i) p rule n) (length p.right)))
      (λ past. inl (λ s. absurd (omega (arith, rule_within i s, past))))
      (cases_lt i (length g.rules))
    where
      rule_within : (i : ℕ) → SeamOf i → i < length g.rules
      rule_within i s = let it = s.1.is_seam.0.0 in let e : suc i - 1 ≡ i = omega arith in omega (arith, slice_get_within g.rules (suc i - 1) it.0 it.3.at, e)

  -- each seam is one of a rule
  record Placed (x : Symbol) (o : Context) (q : ℕ) (f h : Forest) (u : Tree) : Type 0 where
    index : ℕ
    within : index < length g.rules
    is_number : q ≡ suc index
    seam : SeamAt g a b (suc index) (count f)
    measure : size_at w g a b (suc index) (count f) seam ≡ seam_size w (Under o q f h, u)

  placed_seam : (x : Symbol) (o : Context) (q : ℕ) (f h : Forest) (u : Tree) → IsSeam g a b x (Under o q f h, u) → Placed x o q f h u
  placed_seam x o zero f h u is = absurd (omega (arith, is.0.0.3.above_zero))
  placed_seam x o (suc i) f h u is =
      let e : suc i - 1 ≡ i = omega arith in
      record {
        index = i;
        within = omega (arith, slice_get_within g.rules (suc i - 1) is.0.0.0 is.0.0.3.at, e);
        is_number = refl;
        seam = record { symbol = x; outer = o; left = f; right = h; last = u; is_seam = is; placed = refl };
        measure = refl;
      }

  -- where there is a seam there is a chosen tree
  pub seam_exists : (x : Symbol) (s : Context × Tree) → IsSeam g a b x s → (t : Tree) × IsChosenSeam w g a b t
  seam_exists x (Hole, u) is = absurd is.0.1
  seam_exists x (Under o q f h, u) is =
      let it = placed_seam x o q f h u is in
      ⊎_elim
      (λ large. absurd (omega (arith, large it.index it.within (count f, it.seam), it.measure)))
      (λ best.
      let s = best.thing.1 in
      let parts = best.good.parts in
      let t = plug (Under s.outer (suc best.number) s.left s.right) s.last in
      let measured : size w t ≡ size_of best.number best.thing = size-plug w (Under s.outer (suc best.number) s.left s.right) s.last in (
        t,
        record {
          number = suc best.number;
          rule = parts.rule;
          is_rule = parts.is_rule;
          before = parts.before;
          symbol = s.symbol;
          behind = parts.behind;
          right_side = parts.right_side;
          outer = s.outer;
          left = s.left;
          last = s.last;
          right = s.right;
          around = parts.around;
          left_chosen = parts.left_chosen;
          last_chosen = parts.last_chosen;
          right_chosen = parts.right_chosen;
          first = record {
            least = λ y v is'. least best t measured y v is';
            lowest = λ y o' q' f' h' u' is' e. lowest best t measured y o' q' f' h' u' is' e;
          };
          whole = refl;
        },
      ))
      (first_least IsFirstIn size_of (seam_size w (Under o q f h, u)) (rule_settled (seam_size w (Under o q f h, u))) (length g.rules))
    where
      least : (best : FirstLeast IsFirstIn size_of (seam_size w (Under o q f h, u)) (length g.rules)) (t : Tree) → size w t ≡ size_of best.number best.thing → (y : Symbol) (v : Context × Tree) → IsSeam g a b y v → size w t ≤ seam_size w v
      least best t measured y (Hole, v) is' = absurd is'.0.1
      least best t measured y (Under o' q' f' h', v) is' =
          let it = placed_seam y o' q' f' h' v is' in
          omega (arith, best.least it.index it.within (count f', it.seam), it.measure, measured)

      lowest : (best : FirstLeast IsFirstIn size_of (seam_size w (Under o q f h, u)) (length g.rules)) (t : Tree) → size w t ≡ size_of best.number best.thing → (y : Symbol) (o' : Context) (q' : ℕ) (f' h' : Forest) (v : Tree) → IsSeam g a b y (Under o' q' f' h', v) → seam_size w (Under o' q' f' h', v) ≡ size w t → IsAtMost (suc best.number) (count best.thing.1.left) q' (count f')
      lowest best t measured y o' q' f' h' v is' e =
          let it = placed_seam y o' q' f' h' v is' in
          let even : size_of it.index (count f', it.seam) ≡ size_of best.number best.thing = it.measure ∙ e ∙ measured in
          let lower = best.lowest it.index it.within (count f', it.seam) even in
          ⊎_elim
          (λ before. inl (omega (arith, before, it.is_number)))
          (λ not_before.
          let same : it.index ≡ best.number = omega (arith, lower, not_before) in
          inr (omega (arith, same, it.is_number), omega (arith, at_rule best it.index same (count f') it.seam even, best.thing.1.placed)))
          (cases_lt best.number it.index)
        where
          at_rule : (best : FirstLeast IsFirstIn size_of (seam_size w (Under o q f h, u)) (length g.rules)) (i : ℕ) → i ≡ best.number → (k : ℕ) (s : SeamAt g a b (suc i) k) → size_at w g a b (suc i) k s ≡ size_of best.number best.thing → best.thing.0 ≤ k
          at_rule best i same k = subst (λ m. (s : SeamAt g a b (suc m) k) → size_at w g a b (suc m) k s ≡ size_of best.number best.thing → best.thing.0 ≤ k) (sym same) (best.good.lowest k)
