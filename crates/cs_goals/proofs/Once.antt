-- Each goal stands in the list of goals once, and the goals in it are the grammar's goals of the chosen criteria.
use Rattle.std.proofs.Common.{◌≡◌, ◌≢◌, ℕ, ◌-◌, true, cond, eqb, [], ◌∷◌, ◌++◌, length, get_or, Some, refl, sym, ap, ◌∙◌, subst, ⊎_elim, inl, inr, ◌↔◌, arith}
use Rattle.std.specs.Prelude.{slice_get}
use Rattle.std.specs.List.{AllPairs, Contains, filter, flat_map, enumerate_from, range_with_len}
use Rattle.std.proofs.lemmas.Bool.Decides.{nat_tests}
use Rattle.std.proofs.lemmas.Option.{slice_get_within, slice_get-get_or}
use Rattle.cs_grammar.specs.declared.symbol.Symbol.{Symbol}
use Rattle.cs_grammar.specs.declared.symbol.Symbol.TheVariants.{Token as OfToken, Nonterminal}
use Rattle.cs_grammar.specs.declared.symbol.Mark.{Mark}
use Rattle.cs_grammar.specs.declared.symbol.Mark.TheVariants.{Begin, Token, End}
use Rattle.cs_grammar.specs.Grammar.{Production, PlainGrammar, IsRule, IsNumberOf}
use Rattle.cs_goals.specs.declared.goal.Goal.{Goal}
use Rattle.cs_goals.specs.declared.goal.Goal.TheVariants.{Rule, Context, Pair}
use Rattle.cs_choices.specs.declared.criteria.Criteria.{Criteria}
use Rattle.cs_goals.specs.Goal.{IsOccurrence, IsLeft, IsRight, IsGoal, IsWanted}
use Rattle.cs_goals.specs.Goals.{rule_goals, numbered_rules, rules_of, goals_at, goals_in, context_goals, token_marks, left_marks, right_marks, goals_after, pair_goals, goals}
use Rattle.cs_goals.proofs.Members.{Among, Apart, Contains-from_Among, Among-from_Contains, AllPairs-from_Apart, Among-left, Among-right, Among-cases, Apart-append, Among-cond, Among-chosen, Apart-cond, Among-filter, Among-passes, Among-map, Among-mapped, Apart-map, Apart-map-filter, Among-flat_map, Among-joined, Apart-flat_map, Among-range, Among-in_range, Apart-range, Among-enumerate_from, Among-enumerated, Apart-numbers}

module _ (g : PlainGrammar) where
  -- rule goals
  in_rules : (goal : Goal) → Among goal (rule_goals g) → (r : ℕ) × (goal ≡ Rule r) × ((p : Production) × IsRule g r p)
  in_rules goal h =
      let m = Among-map Rule goal (range_with_len 1 (length g.rules)) h in
      let r = m.0 in
      let range = Among-range r 1 (length g.rules) m.1 in
      let low = range.0 in
      let high = range.1 in
      let d : Production = record { left = 0; right = [] } in
      (r, m.2, (get_or g.rules (r - 1) d, record { above_zero = omega arith; at = slice_get-get_or g.rules (r - 1) d (omega arith) }))

  rules_in : (r : ℕ) (p : Production) → IsRule g r p → Among (Rule r) (rule_goals g)
  rules_in r p rule =
      let above = rule.above_zero in
      let within = slice_get_within g.rules (r - 1) p rule.at in
      Among-mapped Rule r (range_with_len 1 (length g.rules)) (Among-in_range r 1 (length g.rules) (omega arith) (omega arith))

  Apart-rules : Apart (rule_goals g)
  Apart-rules = Apart-map Rule (λ x y e. cc) (range_with_len 1 (length g.rules)) (Apart-range 1 (length g.rules))

  -- the rules of a left side
  in_rules_of : (n q : ℕ) → Among q (rules_of (numbered_rules g) n) → (p : Production) × IsRule g q p × (p.left ≡ n)
  in_rules_of n q h =
      let test = λ (r : ℕ × Production). eqb r.1.left n in
      let m = Among-map (λ (r : ℕ × Production). r.0) q (filter test (numbered_rules g)) h in
      let e = m.0 in
      let f = Among-filter test e (numbered_rules g) m.1 in
      let at = Among-enumerate_from e 1 g.rules f.0 in
      let low = at.0 in
      let same : q ≡ e.0 = m.2 in
      let passes : eqb e.1.left n ≡ true = f.1 in
      (e.1, record { above_zero = omega arith; at = ap (λ k. slice_get g.rules (k - 1)) same ∙ at.1 }, grind (arith, nat_tests))

  rules_of_in : (n q : ℕ) (p : Production) → IsRule g q p → p.left ≡ n → Among q (rules_of (numbered_rules g) n)
  rules_of_in n q p rule same =
      let test = λ (r : ℕ × Production). eqb r.1.left n in
      let passes : eqb p.left n ≡ true = grind (arith, nat_tests) in
      let above = rule.above_zero in
      Among-mapped (λ (r : ℕ × Production). r.0) (q, p) (filter test (numbered_rules g))
      (Among-passes test (q, p) (numbered_rules g) (Among-enumerated q 1 p g.rules (omega arith) rule.at) passes)

  Apart-rules_of : (n : ℕ) → Apart (rules_of (numbered_rules g) n)
  Apart-rules_of n = Apart-map-filter (λ (r : ℕ × Production). r.0) (λ (r : ℕ × Production). eqb r.1.left n) (numbered_rules g) (Apart-numbers 1 g.rules)

  -- context goals at a place
  in_place : (p i : ℕ) (x : Symbol) (goal : Goal) → Among goal (goals_at g p (i, x)) → (n : ℕ) × (q : ℕ) × (x ≡ Nonterminal n) × (goal ≡ Context p i q) × Among q (rules_of (numbered_rules g) n)
  in_place p i (OfToken t) goal h = absurd h
  in_place p i (Nonterminal n) goal h =
      let m = Among-map (Context p i) goal (rules_of (numbered_rules g) n) h in
      (n, m.0, refl, m.2, m.1)

  Apart-place : (p i : ℕ) (x : Symbol) → Apart (goals_at g p (i, x))
  Apart-place p i (OfToken t) = tt
  Apart-place p i (Nonterminal n) = Apart-map (Context p i) (λ x y e. cc) (rules_of (numbered_rules g) n) (Apart-rules_of n)

  in_contexts : (goal : Goal) → Among goal (context_goals g) → (p : ℕ) × (i : ℕ) × (q : ℕ) × (goal ≡ Context p i q) × IsOccurrence g p i q
  in_contexts goal h =
      let outer = Among-flat_map (goals_in g) goal (numbered_rules g) h in
      let p = outer.0.0 in
      let rule = outer.0.1 in
      let number = Among-enumerate_from outer.0 1 g.rules outer.1 in
      let low = number.0 in
      let place = Among-flat_map (goals_at g p) goal (enumerate_from 1 rule.right) outer.2 in
      let i = place.0.0 in
      let at = Among-enumerate_from place.0 1 rule.right place.1 in
      let above = at.0 in
      let inner = in_place p i place.0.1 goal place.2 in
      let r = in_rules_of inner.0 inner.1 inner.4 in (
        p,
        i,
        inner.1,
        inner.3,
        record {
          outer = rule;
          inner = r.0;
          is_outer = record { above_zero = omega arith; at = number.1 };
          is_inner = r.1;
          above_zero = omega arith;
          at = at.1 ∙ ap (λ (x : Symbol). Some x) inner.2 ∙ ap (λ n. Some (Nonterminal n)) (sym r.2);
        },
      )

  contexts_in : (p i q : ℕ) → IsOccurrence g p i q → Among (Context p i q) (context_goals g)
  contexts_in p i q o =
      let outer = o.is_outer in
      let above_outer = outer.above_zero in
      let above = o.above_zero in
      let inner = rules_of_in o.inner.left q o.inner o.is_inner refl in
      Among-joined (goals_in g) (Context p i q) (p, o.outer) (numbered_rules g) (Among-enumerated p 1 o.outer g.rules (omega arith) outer.at)
      (Among-joined (goals_at g p) (Context p i q) (i, Nonterminal o.inner.left) (enumerate_from 1 o.outer.right) (Among-enumerated i 1 (Nonterminal o.inner.left) o.outer.right (omega arith) o.at)
      (Among-mapped (Context p i) q (rules_of (numbered_rules g) o.inner.left) inner))

  outer_of : Goal → ℕ
  outer_of (Context p i q) = p
  outer_of (Rule r) = 0
  outer_of (Pair a b) = 0

  place_of : Goal → ℕ
  place_of (Context p i q) = i
  place_of (Rule r) = 0
  place_of (Pair a b) = 0

  shows_place : (p : ℕ) (e : ℕ × Symbol) (goal : Goal) → Among goal (goals_at g p e) → (place_of goal ≡ e.0) × (outer_of goal ≡ p)
  unfolding place_of outer_of
  shows_place p e goal h =
      let inner = in_place p e.0 e.1 goal h in
      (ap place_of inner.3, ap outer_of inner.3)

  shows_outer : (e : ℕ × Production) (goal : Goal) → Among goal (goals_in g e) → outer_of goal ≡ e.0
  shows_outer e goal h =
      let place = Among-flat_map (goals_at g e.0) goal (enumerate_from 1 e.1.right) h in
      (shows_place e.0 place.0 goal place.2).1

  Apart-in : (e : ℕ × Production) → Apart (goals_in g e)
  Apart-in e =
      Apart-flat_map (goals_at g e.0) (λ (x : ℕ × Symbol). x.0) place_of (λ x. Apart-place e.0 x.0 x.1) (λ x goal h. (shows_place e.0 x goal h).0)
      (enumerate_from 1 e.1.right) (Apart-numbers 1 e.1.right)

  Apart-contexts : Apart (context_goals g)
  Apart-contexts =
      Apart-flat_map (goals_in g) (λ (x : ℕ × Production). x.0) outer_of Apart-in shows_outer (numbered_rules g) (Apart-numbers 1 g.rules)

-- pair goals
module _ (tokens : ℕ) where
  in_token_marks : (m : Mark) → Among m (token_marks tokens) → (t : ℕ) × (m ≡ Token t) × IsNumberOf tokens t
  in_token_marks m h =
      let r = Among-map Token m (range_with_len 1 tokens) h in
      let range = Among-range r.0 1 tokens r.1 in
      let low = range.0 in
      let high = range.1 in
      (r.0, r.2, (omega arith, omega arith))

  token_marks_in : (t : ℕ) → IsNumberOf tokens t → Among (Token t) (token_marks tokens)
  token_marks_in t h =
      let low = h.0 in
      let high = h.1 in
      Among-mapped Token t (range_with_len 1 tokens) (Among-in_range t 1 tokens (omega arith) (omega arith))

  Apart-token_marks : Apart (token_marks tokens)
  Apart-token_marks = Apart-map Token (λ x y e. cc) (range_with_len 1 tokens) (Apart-range 1 tokens)

  in_lefts : (m : Mark) → Among m (left_marks tokens) → IsLeft tokens m
  in_lefts m h =
      ⊎_elim (λ here. subst (IsLeft tokens) (sym here) tt)
      (λ later. let r = in_token_marks m later in subst (IsLeft tokens) (sym r.1) r.2)
      h

  lefts_in : (m : Mark) → IsLeft tokens m → Among m (left_marks tokens)
  lefts_in Begin h = inl refl
  lefts_in (Token t) h = inr (token_marks_in t h)
  lefts_in End h = absurd h

  Apart-lefts : Apart (left_marks tokens)
  Apart-lefts = (λ again. (let r = in_token_marks Begin again in let e = r.1 in cc), Apart-token_marks)

  in_rights : (m : Mark) → Among m (right_marks tokens) → IsRight tokens m
  in_rights m h =
      ⊎_elim (λ early. let r = in_token_marks m early in subst (IsRight tokens) (sym r.1) r.2)
      (λ last. ⊎_elim (λ here. subst (IsRight tokens) (sym here) tt) (λ none. absurd none) last)
      (Among-cases m (token_marks tokens) (End ∷ []) h)

  rights_in : (m : Mark) → IsRight tokens m → Among m (right_marks tokens)
  rights_in Begin h = absurd h
  rights_in (Token t) h = Among-left (Token t) (token_marks tokens) (End ∷ []) (token_marks_in t h)
  rights_in End h = Among-right End (token_marks tokens) (End ∷ []) (inl refl)

  Apart-rights : Apart (right_marks tokens)
  Apart-rights =
      Apart-append (token_marks tokens) (End ∷ []) Apart-token_marks (λ none. none, tt)
      (λ m early last.
      let r = in_token_marks m early in
      let e = r.1 in
      ⊎_elim (λ here. cc) (λ none. none) last)

  left_of : Goal → Mark
  left_of (Pair a b) = a
  left_of (Rule r) = Begin
  left_of (Context p i q) = Begin

  shows_left : (a : Mark) (goal : Goal) → Among goal (goals_after tokens a) → left_of goal ≡ a
  unfolding left_of
  shows_left a goal h = ap left_of (Among-map (Pair a) goal (right_marks tokens) h).2

  Apart-after : (a : Mark) → Apart (goals_after tokens a)
  Apart-after a = Apart-map (Pair a) (λ x y e. cc) (right_marks tokens) Apart-rights

  Apart-pairs : Apart (flat_map (goals_after tokens) (left_marks tokens))
  Apart-pairs =
      Apart-flat_map (goals_after tokens) (λ (a : Mark). a) left_of Apart-after shows_left (left_marks tokens)
      (Apart-map (λ (a : Mark). a) (λ x y e. e) (left_marks tokens) Apart-lefts)

  in_pairs : (goal : Goal) → Among goal (flat_map (goals_after tokens) (left_marks tokens)) → (a : Mark) × (b : Mark) × (goal ≡ Pair a b) × IsLeft tokens a × IsRight tokens b
  in_pairs goal h =
      let r = Among-flat_map (goals_after tokens) goal (left_marks tokens) h in
      let m = Among-map (Pair r.0) goal (right_marks tokens) r.2 in
      (r.0, m.0, m.2, in_lefts r.0 r.1, in_rights m.0 m.1)

  pairs_in : (a b : Mark) → IsLeft tokens a → IsRight tokens b → Among (Pair a b) (flat_map (goals_after tokens) (left_marks tokens))
  pairs_in a b is_left is_right =
      Among-joined (goals_after tokens) (Pair a b) a (left_marks tokens) (lefts_in a is_left)
      (Among-mapped (Pair a) b (right_marks tokens) (rights_in b is_right))

module _ (g : PlainGrammar) (c : Criteria) where
  pub once : AllPairs (λ a b. a ≢ b) (goals g c)
  once =
      AllPairs-from_Apart (goals g c)
      (Apart-append (cond c.rule (rule_goals g) [] ++ cond c.cdrc (context_goals g) []) (cond c.pair (pair_goals g) [])
      (Apart-append (cond c.rule (rule_goals g) []) (cond c.cdrc (context_goals g) [])
      (Apart-cond c.rule (rule_goals g) (Apart-rules g)) (Apart-cond c.cdrc (context_goals g) (Apart-contexts g))
      (λ goal a b.
      let r = in_rules g goal (Among-cond goal c.rule (rule_goals g) a).1 in
      let x = in_contexts g goal (Among-cond goal c.cdrc (context_goals g) b).1 in
      different_context goal r.0 x.0 x.1 x.2 r.1 x.3))
      (Apart-cond c.pair (pair_goals g) (Apart-pairs g.tokens))
      (λ goal a b.
      let y = in_pairs g.tokens goal (Among-cond goal c.pair (pair_goals g) b).1 in
      ⊎_elim
      (λ early. let r = in_rules g goal (Among-cond goal c.rule (rule_goals g) early).1 in different_pair goal r.0 y.0 y.1 r.1 y.2)
      (λ later. let x = in_contexts g goal (Among-cond goal c.cdrc (context_goals g) later).1 in different_kinds goal x.0 x.1 x.2 y.0 y.1 x.3 y.2)
      (Among-cases goal (cond c.rule (rule_goals g) []) (cond c.cdrc (context_goals g) []) a)))
    where
      different_context : (goal : Goal) (r p i q : ℕ) → goal ≡ Rule r → goal ≡ Context p i q → ⊥
      different_context goal r p i q e f = cc

      different_pair : (goal : Goal) (r : ℕ) (a b : Mark) → goal ≡ Rule r → goal ≡ Pair a b → ⊥
      different_pair goal r a b e f = cc

      different_kinds : (goal : Goal) (p i q : ℕ) (a b : Mark) → goal ≡ Context p i q → goal ≡ Pair a b → ⊥
      different_kinds goal p i q a b e f = cc

  is_goal : (goal : Goal) → Among goal (goals g c) → IsWanted c goal × IsGoal g goal
  is_goal goal h =
      ⊎_elim
      (λ early.
      ⊎_elim
      (λ a.
      let chosen = Among-cond goal c.rule (rule_goals g) a in
      let r = in_rules g goal chosen.1 in
      subst (λ k. IsWanted c k × IsGoal g k) (sym r.1) (chosen.0, r.2))
      (λ b.
      let chosen = Among-cond goal c.cdrc (context_goals g) b in
      let x = in_contexts g goal chosen.1 in
      subst (λ k. IsWanted c k × IsGoal g k) (sym x.3) (chosen.0, x.4))
      (Among-cases goal (cond c.rule (rule_goals g) []) (cond c.cdrc (context_goals g) []) early))
      (λ later.
      let chosen = Among-cond goal c.pair (pair_goals g) later in
      let y = in_pairs g.tokens goal chosen.1 in
      subst (λ k. IsWanted c k × IsGoal g k) (sym y.2) (chosen.0, (y.3, y.4)))
      (Among-cases goal (cond c.rule (rule_goals g) [] ++ cond c.cdrc (context_goals g) []) (cond c.pair (pair_goals g) []) h)

  among : (goal : Goal) → IsWanted c goal → IsGoal g goal → Among goal (goals g c)
  among (Rule r) chosen is =
      Among-left (Rule r) (cond c.rule (rule_goals g) [] ++ cond c.cdrc (context_goals g) []) (cond c.pair (pair_goals g) [])
      (Among-left (Rule r) (cond c.rule (rule_goals g) []) (cond c.cdrc (context_goals g) [])
      (Among-chosen (Rule r) c.rule (rule_goals g) chosen (rules_in g r is.0 is.1)))
  among (Context p i q) chosen is =
      Among-left (Context p i q) (cond c.rule (rule_goals g) [] ++ cond c.cdrc (context_goals g) []) (cond c.pair (pair_goals g) [])
      (Among-right (Context p i q) (cond c.rule (rule_goals g) []) (cond c.cdrc (context_goals g) [])
      (Among-chosen (Context p i q) c.cdrc (context_goals g) chosen (contexts_in g p i q is)))
  among (Pair a b) chosen is =
      Among-right (Pair a b) (cond c.rule (rule_goals g) [] ++ cond c.cdrc (context_goals g) []) (cond c.pair (pair_goals g) [])
      (Among-chosen (Pair a b) c.pair (pair_goals g) chosen (pairs_in g.tokens a b is.0 is.1))

  pub all : (goal : Goal) → Contains (goals g c) goal ↔ (IsWanted c goal × IsGoal g goal)
  all goal = (
    λ h. is_goal goal (Among-from_Contains goal (goals g c) h),
    λ h. Contains-from_Among goal (goals g c) (among goal h.0 h.1),
  )
