-- What is left of the list of goals, a goal at a time.
use Rattle.std.proofs.Common.{◌≡◌, ◌≢◌, ℕ, zero, suc, ◌+◌, ◌<◌, ◌≤◌, List, [], ◌∷◌, ◌++◌, map, length, drop, get_or, cond, eqb, Bool, true, false, refl, sym, ap, ◌∙◌, arith, ⊎_elim, inl, inr, ◌⊎◌}
use Rattle.std.specs.List.{enumerate_from, flat_map}
use Rattle.std.proofs.lemmas.List.{drop_all, drop-append-le, drop_at}
use Rattle.std.proofs.lemmas.List.FromFn.{length-map-range_with_len}
use Rattle.std.proofs.lemmas.Bool.Decides.{nat_tests}
use Rattle.cs_grammar.specs.declared.symbol.Symbol.{Symbol}
use Rattle.cs_grammar.specs.declared.symbol.Symbol.TheVariants.{Token as OfToken, Nonterminal}
use Rattle.cs_grammar.specs.declared.symbol.Mark.{Mark}
use Rattle.cs_grammar.specs.declared.symbol.Mark.TheVariants.{Begin, Token, End}
use Rattle.cs_grammar.specs.Grammar.{Production, PlainGrammar}
use Rattle.cs_goals.specs.declared.goal.Goal.{Goal}
use Rattle.cs_goals.specs.declared.goal.Goal.TheVariants.{Rule, Context, Pair}
use Rattle.cs_goals.specs.Goals.{rule_goals, numbered_rules, rules_of, goals_at, goals_in, context_goals, token_marks, left_marks, right_marks, goals_after, pair_goals}
use Rattle.cs_goals.specs.Rest.{left_mark, rules_left, places_left, outers_left, contexts_left, lefts_left, pairs_left}
use Rattle.cs_goals.proofs.Numbered.{drop-enumerate_from, drop-enumerate_from_past, drop-map-range, drop-map-range_past}

-- rule goals
pub rules_left_more : (g : PlainGrammar) (n : ℕ) → n < length g.rules → rules_left g n ≡ Rule (n + 1) ∷ rules_left g (n + 1)
rules_left_more g n within = drop-map-range Rule 1 (length g.rules) n (n + 1) within (omega arith)

pub rules_left_past : (g : PlainGrammar) (n : ℕ) → length g.rules ≤ n → rules_left g n ≡ []
rules_left_past g n past = drop-map-range_past Rule 1 (length g.rules) n past

-- the rules of a left side
pub rules_of_hit : (rules : List Production) (d : Production) (left i : ℕ) → i < length rules → (get_or rules i d).left ≡ left → rules_of (drop i (enumerate_from 1 rules)) left ≡ (i + 1) ∷ rules_of (drop (i + 1) (enumerate_from 1 rules)) left
rules_of_hit rules d left i within same =
    let test : eqb (get_or rules i d).left left ≡ true = grind (arith, nat_tests) in
    rw (drop-enumerate_from rules 1 i (i + 1) d within (omega arith), test) refl

pub rules_of_miss : (rules : List Production) (d : Production) (left i : ℕ) → i < length rules → (get_or rules i d).left ≢ left → rules_of (drop i (enumerate_from 1 rules)) left ≡ rules_of (drop (i + 1) (enumerate_from 1 rules)) left
rules_of_miss rules d left i within other =
    let test : eqb (get_or rules i d).left left ≡ false = grind (arith, nat_tests) in
    rw (drop-enumerate_from rules 1 i (i + 1) d within (omega arith), test) refl

pub rules_of_past : (rules : List Production) (left i : ℕ) → length rules ≤ i → rules_of (drop i (enumerate_from 1 rules)) left ≡ []
rules_of_past rules left i past = rw (drop-enumerate_from_past rules 1 i past) refl

symbol_cases : (x : Symbol) → ((t : ℕ) × (x ≡ OfToken t)) ⊎ ((n : ℕ) × (x ≡ Nonterminal n))
symbol_cases (OfToken t) = inl (t, refl)
symbol_cases (Nonterminal n) = inr (n, refl)

module _ (g : PlainGrammar) (p : ℕ) where
  -- the places of a rule
  pub places_left_none : (places : List (ℕ × Symbol)) → places_left g p places 0 ≡ flat_map (goals_at g p) places
  places_left_none [] = refl
  places_left_none ((i, OfToken t) ∷ places) = refl
  places_left_none ((i, Nonterminal n) ∷ places) = refl

  module _ (right : List Symbol) (i : ℕ) (within : i < length right) where
    places_left_token : (q t : ℕ) → get_or right i (OfToken 0) ≡ OfToken t → places_left g p (drop i (enumerate_from 1 right)) q ≡ places_left g p (drop (i + 1) (enumerate_from 1 right)) 0
    places_left_token q t is =
        ap (λ (l : List (ℕ × Symbol)). places_left g p l q) (drop-enumerate_from right 1 i (i + 1) (OfToken 0) within (omega arith))
        ∙ ap (λ (x : Symbol). places_left g p ((i + 1, x) ∷ drop (i + 1) (enumerate_from 1 right)) q) is
        ∙ sym (places_left_none (drop (i + 1) (enumerate_from 1 right)))

    pub places_left_skip : (q : ℕ) → ((n : ℕ) → get_or right i (OfToken 0) ≡ Nonterminal n → ⊥) → places_left g p (drop i (enumerate_from 1 right)) q ≡ places_left g p (drop (i + 1) (enumerate_from 1 right)) 0
    places_left_skip q never = ⊎_elim (λ t. places_left_token q t.0 t.1) (λ n. absurd (never n.0 n.1)) (symbol_cases (get_or right i (OfToken 0)))

    opened : (q n : ℕ) → get_or right i (OfToken 0) ≡ Nonterminal n → places_left g p (drop i (enumerate_from 1 right)) q ≡ map (Context p (i + 1)) (rules_of (drop q (numbered_rules g)) n) ++ flat_map (goals_at g p) (drop (i + 1) (enumerate_from 1 right))
    opened q n is =
        ap (λ (l : List (ℕ × Symbol)). places_left g p l q) (drop-enumerate_from right 1 i (i + 1) (OfToken 0) within (omega arith))
        ∙ ap (λ (x : Symbol). places_left g p ((i + 1, x) ∷ drop (i + 1) (enumerate_from 1 right)) q) is

    pub places_left_no_rule : (q n : ℕ) → get_or right i (OfToken 0) ≡ Nonterminal n → rules_of (drop q (numbered_rules g)) n ≡ [] → places_left g p (drop i (enumerate_from 1 right)) q ≡ places_left g p (drop (i + 1) (enumerate_from 1 right)) 0
    places_left_no_rule q n is none =
        opened q n is
        ∙ ap (λ (l : List ℕ). map (Context p (i + 1)) l ++ flat_map (goals_at g p) (drop (i + 1) (enumerate_from 1 right))) none
        ∙ sym (places_left_none (drop (i + 1) (enumerate_from 1 right)))

    pub places_left_more : (q n at : ℕ) → get_or right i (OfToken 0) ≡ Nonterminal n → rules_of (drop q (numbered_rules g)) n ≡ (at + 1) ∷ rules_of (drop (at + 1) (numbered_rules g)) n → places_left g p (drop i (enumerate_from 1 right)) q ≡ Context p (i + 1) (at + 1) ∷ places_left g p (drop i (enumerate_from 1 right)) (at + 1)
    places_left_more q n at is more =
        opened q n is
        ∙ ap (λ (l : List ℕ). map (Context p (i + 1)) l ++ flat_map (goals_at g p) (drop (i + 1) (enumerate_from 1 right))) more
        ∙ ap (λ (l : List Goal). Context p (i + 1) (at + 1) ∷ l) (sym (opened (at + 1) n is))

  pub places_left_past : (right : List Symbol) (i q : ℕ) → length right ≤ i → places_left g p (drop i (enumerate_from 1 right)) q ≡ []
  places_left_past right i q past =
      ap (λ (l : List (ℕ × Symbol)). places_left g p l q) (drop-enumerate_from_past right 1 i past)

module _ (g : PlainGrammar) where
  -- the context goals
  outers_left_none : (rules : List (ℕ × Production)) → outers_left g rules 0 0 ≡ flat_map (goals_in g) rules
  outers_left_none [] = refl
  outers_left_none ((p, rule) ∷ rules) =
      ap (λ (l : List Goal). l ++ flat_map (goals_in g) rules) (places_left_none g p (enumerate_from 1 rule.right))

  pub contexts_left_none : contexts_left g 0 0 0 ≡ context_goals g
  contexts_left_none = outers_left_none (numbered_rules g)

  pub contexts_left_past : (p i q : ℕ) → length g.rules ≤ p → contexts_left g p i q ≡ []
  contexts_left_past p i q past =
      ap (λ (l : List (ℕ × Production)). outers_left g l i q) (drop-enumerate_from_past g.rules 1 p past)

  module _ (p : ℕ) (d : Production) (within : p < length g.rules) where
    at_rule : (i q : ℕ) → contexts_left g p i q ≡ places_left g (p + 1) (drop i (enumerate_from 1 (get_or g.rules p d).right)) q ++ flat_map (goals_in g) (drop (p + 1) (numbered_rules g))
    at_rule i q = ap (λ (l : List (ℕ × Production)). outers_left g l i q) (drop-enumerate_from g.rules 1 p (p + 1) d within (omega arith))

    pub contexts_left_no_place : (i q : ℕ) → places_left g (p + 1) (drop i (enumerate_from 1 (get_or g.rules p d).right)) q ≡ [] → contexts_left g p i q ≡ contexts_left g (p + 1) 0 0
    contexts_left_no_place i q none =
        at_rule i q
        ∙ ap (λ (l : List Goal). l ++ flat_map (goals_in g) (drop (p + 1) (numbered_rules g))) none
        ∙ sym (outers_left_none (drop (p + 1) (numbered_rules g)))

    pub contexts_left_more : (i q j r : ℕ) → places_left g (p + 1) (drop i (enumerate_from 1 (get_or g.rules p d).right)) q ≡ Context (p + 1) (j + 1) (r + 1) ∷ places_left g (p + 1) (drop j (enumerate_from 1 (get_or g.rules p d).right)) (r + 1) → contexts_left g p i q ≡ Context (p + 1) (j + 1) (r + 1) ∷ contexts_left g p j (r + 1)
    contexts_left_more i q j r more =
        at_rule i q
        ∙ ap (λ (l : List Goal). l ++ flat_map (goals_in g) (drop (p + 1) (numbered_rules g))) more
        ∙ ap (λ (l : List Goal). Context (p + 1) (j + 1) (r + 1) ∷ l) (sym (at_rule j (r + 1)))

-- the left mark behind so many
pub left_mark_first : (a : ℕ) → a ≡ 0 → left_mark a ≡ Begin
left_mark_first zero e = refl
left_mark_first (suc a) e = absurd (omega (arith, e))

pub left_mark_token : (a : ℕ) → a ≢ 0 → left_mark a ≡ Token a
left_mark_token zero e = absurd (e refl)
left_mark_token (suc a) e = refl

-- the pair goals
module _ (tokens : ℕ) where
  lefts_left_none : (marks : List Mark) → lefts_left tokens marks 0 ≡ flat_map (goals_after tokens) marks
  lefts_left_none [] = refl
  lefts_left_none (a ∷ marks) = refl

  pub pairs_left_none : pairs_left tokens 0 0 ≡ flat_map (goals_after tokens) (left_marks tokens)
  pairs_left_none = lefts_left_none (left_marks tokens)

  many : length (token_marks tokens) ≡ tokens
  many = length-map-range_with_len Token 1 tokens

  pub pairs_left_past : (a b : ℕ) → tokens < a → pairs_left tokens a b ≡ []
  pairs_left_past a b past =
      let long = many in
      ap (λ (l : List Mark). lefts_left tokens l b) (drop_all a (left_marks tokens) (omega arith))

  lefts : (a : ℕ) → a ≤ tokens → drop a (left_marks tokens) ≡ left_mark a ∷ drop (a + 1) (left_marks tokens)
  lefts zero within = refl
  lefts (suc a) within =
      let same : suc a + 1 ≡ suc (a + 1) = omega arith in
      rw same (drop-map-range Token 1 tokens a (suc a) (omega arith) (omega arith))

  rights : (b : ℕ) → b < tokens → drop b (right_marks tokens) ≡ Token (b + 1) ∷ drop (b + 1) (right_marks tokens)
  rights b within =
      let long = many in
      drop-append-le b (token_marks tokens) (End ∷ []) (omega arith)
      ∙ ap (λ (l : List Mark). l ++ End ∷ []) (drop-map-range Token 1 tokens b (b + 1) within (omega arith))
      ∙ ap (λ (l : List Mark). Token (b + 1) ∷ l) (sym (drop-append-le (b + 1) (token_marks tokens) (End ∷ []) (omega arith)))

  last_right : (b : ℕ) → b ≡ tokens → drop b (right_marks tokens) ≡ End ∷ []
  last_right b all = drop_at (token_marks tokens) (End ∷ []) b (many ∙ sym all)

  at_left : (a b : ℕ) → a ≤ tokens → pairs_left tokens a b ≡ map (Pair (left_mark a)) (drop b (right_marks tokens)) ++ flat_map (goals_after tokens) (drop (a + 1) (left_marks tokens))
  at_left a b within = ap (λ (l : List Mark). lefts_left tokens l b) (lefts a within)

  pub pairs_left_more : (a b : ℕ) → a ≤ tokens → b < tokens → pairs_left tokens a b ≡ Pair (left_mark a) (Token (b + 1)) ∷ pairs_left tokens a (b + 1)
  pairs_left_more a b within more =
      at_left a b within
      ∙ ap (λ (l : List Mark). map (Pair (left_mark a)) l ++ flat_map (goals_after tokens) (drop (a + 1) (left_marks tokens))) (rights b more)
      ∙ ap (λ (l : List Goal). Pair (left_mark a) (Token (b + 1)) ∷ l) (sym (at_left a (b + 1) within))

  pub pairs_left_last : (a b : ℕ) → a ≤ tokens → b ≡ tokens → pairs_left tokens a b ≡ Pair (left_mark a) End ∷ pairs_left tokens (a + 1) 0
  pairs_left_last a b within all =
      at_left a b within
      ∙ ap (λ (l : List Mark). map (Pair (left_mark a)) l ++ flat_map (goals_after tokens) (drop (a + 1) (left_marks tokens))) (last_right b all)
      ∙ ap (λ (l : List Goal). Pair (left_mark a) End ∷ l) (sym (lefts_left_none (drop (a + 1) (left_marks tokens))))

-- where the list of a criterion begins
module _ (g : PlainGrammar) (b : Bool) (n : ℕ) where
  pub rules_chosen : b ≡ true → n ≡ 0 → rules_left g n ≡ cond b (rule_goals g) []
  rules_chosen chosen begin = rw (begin, chosen) refl

  pub rules_left_out : b ≡ false → n ≡ length g.rules → rules_left g n ≡ cond b (rule_goals g) []
  rules_left_out chosen last = rw chosen (rules_left_past g n (omega (arith, last)))

  pub contexts_chosen : b ≡ true → n ≡ 0 → contexts_left g n 0 0 ≡ cond b (context_goals g) []
  contexts_chosen chosen begin = rw (begin, chosen) (contexts_left_none g)

  pub contexts_left_out : b ≡ false → n ≡ length g.rules → contexts_left g n 0 0 ≡ cond b (context_goals g) []
  contexts_left_out chosen last = rw chosen (contexts_left_past g n 0 0 (omega (arith, last)))

  pub pairs_chosen : b ≡ true → n ≡ 0 → pairs_left g.tokens n 0 ≡ cond b (pair_goals g) []
  pairs_chosen chosen begin = rw (begin, chosen) (pairs_left_none g.tokens)

  pub pairs_left_out : b ≡ false → n ≡ g.tokens + 1 → pairs_left g.tokens n 0 ≡ cond b (pair_goals g) []
  pairs_left_out chosen last = rw chosen (pairs_left_past g.tokens n 0 (omega (arith, last)))
