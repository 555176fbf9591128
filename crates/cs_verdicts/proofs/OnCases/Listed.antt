-- The list of goals that a tree meets has these and no others.
use Rattle.std.proofs.Common.{◌≡◌, ℕ, zero, suc, ◌+◌, ◌-◌, ◌<◌, ◌≤◌, ◌||◌, ◌⊎◌, inl, inr, ⊎_elim, Bool, true, false, eqb, List, [], ◌∷◌, ◌++◌, map, refl, sym, ap, ◌∙◌, subst, append-nil, arith}
use Rattle.std.specs.Prelude.{Some, slice_get, Contains}
use Rattle.std.specs.List.{list_any}
use Rattle.std.proofs.lemmas.Bool.{or_cases, false≢true, eqb-true, eq-eqb, cases_eq}
use Rattle.std.proofs.lemmas.List.Elements.{Contains-append_left, Contains-append_right, Contains-append_cases, Contains-push_cases}
use Rattle.cs_grammar.specs.declared.symbol.Symbol.TheVariants.{Nonterminal}
use Rattle.cs_grammar.specs.declared.symbol.Mark.{Mark}
use Rattle.cs_grammar.specs.declared.symbol.Mark.TheVariants.{Begin, Token, End}
use Rattle.cs_grammar.specs.Grammar.{PlainGrammar}
use Rattle.cs_grammar.specs.Tree.{Tree, Leaf, Node, Forest, Bare, Grown, IsTree, code, yield}
use Rattle.cs_grammar.specs.Leftmost.{IsYield}
use Rattle.cs_grammar.specs.Sentence.{framed, IsFollowed}
use Rattle.cs_grammar.proofs.OneTree.{one_tree}
use Rattle.cs_goals.specs.declared.goal.Goal.{Goal}
use Rattle.cs_goals.specs.declared.goal.Goal.TheVariants.{Rule, Context, Pair}
use Rattle.cs_goals.specs.Goals.{HasExactly}
use Rattle.cs_goals.specs.Meets.{trees, IsChild, UsesRuleIn, SomeUsesRuleIn, IsMeeting}
use Rattle.cs_goals.proofs.Decided.{rule_met}
use Rattle.cs_verdicts.specs.Cases.Met.{pairs_after, framed_pairs, contexts_at, contexts_from, contexts_of, AreContexts}

-- ---- lists

module _ {A : Type 0} where
  here : (x : A) (xs : List A) (y : A) → x ≡ y → Contains (x ∷ xs) y
  here x xs y e = (0, omega arith, e)

  there : (x : A) (xs : List A) (y : A) → Contains xs y → Contains (x ∷ xs) y
  there x xs y h = Contains-append_right (x ∷ []) xs y h

  pub nothing : (y : A) → Contains [] y → ⊥
  nothing y h = let lt = h.1 in omega (arith, lt)

  head_or_tail : (x : A) (xs : List A) (y : A) → Contains (x ∷ xs) y → (x ≡ y) ⊎ Contains xs y
  head_or_tail x xs y h =
      ⊎_elim (λ first. ⊎_elim (λ none. absurd (nothing y none)) (λ e. inl e) (Contains-push_cases [] x y first)) (λ later. inr later)
      (Contains-append_cases (x ∷ []) xs y h)

-- ---- rules

or_left : (a b : Bool) → a ≡ true → (a || b) ≡ true
or_left true b e = refl
or_left false b e = absurd (false≢true e)

or_right : (a b : Bool) → b ≡ true → (a || b) ≡ true
or_right true b e = refl
or_right false b e = e

any_from : (r : ℕ) (rules : List ℕ) → Contains (map Rule rules) (Rule r) → list_any (λ y. eqb y r) rules ≡ true
any_from r [] h = absurd (nothing (Rule r) h)
any_from r (x ∷ xs) h =
    ⊎_elim (λ first. let e : x ≡ r = cc in or_left (eqb x r) (list_any (λ y. eqb y r) xs) (eq-eqb x r e))
    (λ later. or_right (eqb x r) (list_any (λ y. eqb y r) xs) (any_from r xs later))
    (head_or_tail (Rule x) (map Rule xs) (Rule r) h)

any_to : (r : ℕ) (rules : List ℕ) → list_any (λ y. eqb y r) rules ≡ true → Contains (map Rule rules) (Rule r)
any_to r [] h = absurd (false≢true h)
any_to r (x ∷ xs) h =
    ⊎_elim (λ first. here (Rule x) (map Rule xs) (Rule r) (ap Rule (eqb-true x r first))) (λ later. there (Rule x) (map Rule xs) (Rule r) (any_to r xs later))
    (or_cases (eqb x r) (list_any (λ y. eqb y r) xs) h)

-- ---- pairs

module _ (a b : Mark) where
  abbrev behind : Mark → List ℕ → List Mark
  behind left tokens = left ∷ (map Token tokens ++ End ∷ [])

  followed_from : (left : Mark) (tokens : List ℕ) → Contains (pairs_after left tokens) (Pair a b) → IsFollowed a b (behind left tokens)
  followed_from left [] h =
      ⊎_elim (λ first. ([], [], cc)) (λ later. absurd (nothing (Pair a b) later)) (head_or_tail (Pair left End) [] (Pair a b) h)
  followed_from left (t ∷ ts) h =
      ⊎_elim (λ first. let rest = map Token ts ++ End ∷ [] in ([], rest, cc))
      (λ later. let f = followed_from (Token t) ts later in (left ∷ f.0, f.1, ap (λ (l : List Mark). left ∷ l) f.2))
      (head_or_tail (Pair left (Token t)) (pairs_after (Token t) ts) (Pair a b) h)

  not_empty : (xs ys : List Mark) → [] ≡ xs ++ a ∷ b ∷ ys → ⊥
  not_empty [] ys e = cc
  not_empty (x ∷ xs) ys e = cc

  not_one : (m : Mark) (xs ys : List Mark) → m ∷ [] ≡ xs ++ a ∷ b ∷ ys → ⊥
  not_one m [] ys e = cc
  not_one m (x ∷ xs) ys e = let rest : [] ≡ xs ++ a ∷ b ∷ ys = cc in not_empty xs ys rest

  followed_to : (left : Mark) (tokens : List ℕ) (xs ys : List Mark) → behind left tokens ≡ xs ++ a ∷ b ∷ ys → Contains (pairs_after left tokens) (Pair a b)
  followed_to left [] [] ys e = here (Pair left End) [] (Pair a b) cc
  followed_to left [] (x ∷ xs) ys e = let rest : End ∷ [] ≡ xs ++ a ∷ b ∷ ys = cc in absurd (not_one End xs ys rest)
  followed_to left (t ∷ ts) [] ys e = here (Pair left (Token t)) (pairs_after (Token t) ts) (Pair a b) cc
  followed_to left (t ∷ ts) (x ∷ xs) ys e =
      let rest : behind (Token t) ts ≡ xs ++ a ∷ b ∷ ys = cc in
      there (Pair left (Token t)) (pairs_after (Token t) ts) (Pair a b) (followed_to (Token t) ts xs ys rest)

-- ---- contexts

get_later : {A : Type 0} (x : A) (l : List A) (n : ℕ) → 0 < n → slice_get (x ∷ l) n ≡ slice_get l (n - 1)
get_later x l zero h = absurd (omega arith)
get_later x l (suc n) h = let e : suc n - 1 ≡ n = omega arith in ap (λ k. slice_get l k) (sym e)

module _ (i q : ℕ) where
  -- the tree stands at place i and is a node with rule q; so is one of these trees, of which the first stands at place k
  abbrev IsNodeAt : ℕ → Tree → Type 0
  IsNodeAt k (Leaf t) = ⊥
  IsNodeAt k (Node r f) = (k ≡ i) × (r ≡ q)

  abbrev HasNodeAt : ℕ → Forest → Type 0
  HasNodeAt k Bare = ⊥
  HasNodeAt k (Grown t f) = IsNodeAt k t ⊎ HasNodeAt (k + 1) f

  node_child : (k j : ℕ) (t : Tree) (f : Forest) → k + j ≡ i + 1 → IsNodeAt k t → IsChild j q (Grown t f)
  node_child k j (Leaf s) f e h = absurd h
  node_child k j (Node r c) f e h =
      let same = h.0 in
      let first : j - 1 ≡ 0 = omega (arith, same) in
      record {
        grandchildren = c;
        above_zero = omega (arith, same);
        at = ap (λ n. slice_get (Node r c ∷ trees f) n) first ∙ ap (λ n. Some (Node n c)) h.1;
      }

  node_above : (k : ℕ) (t : Tree) → IsNodeAt k t → k ≤ i
  node_above k (Leaf s) h = absurd h
  node_above k (Node r f) h = let same = h.0 in omega (arith, same)

  above : (k : ℕ) (f : Forest) → HasNodeAt k f → k ≤ i
  above k Bare h = absurd h
  above k (Grown t f) h = ⊎_elim (λ first. node_above k t first) (λ later. let more = above (k + 1) f later in omega (arith, more)) h

  child_from : (k j : ℕ) (f : Forest) → 0 < j → k + j ≡ i + 1 → HasNodeAt k f → IsChild j q f
  child_from k j Bare some e h = absurd h
  child_from k j (Grown t f) some e h =
      ⊎_elim (λ first. node_child k j t f e first)
      (λ later.
      let after = above (k + 1) f later in
      ⊎_elim (λ one. absurd (omega (arith, e, one, after)))
      (λ more.
      let c = child_from (k + 1) (j - 1) f (omega (arith, some, more)) (omega (arith, some, e)) later in
      record {
        grandchildren = c.grandchildren;
        above_zero = some;
        at = get_later t (trees f) (j - 1) c.above_zero ∙ c.at;
      })
      (cases_eq j 1))
      h

  child_to : (k j : ℕ) (f : Forest) → k + j ≡ i + 1 → IsChild j q f → HasNodeAt k f
  child_to k j Bare e h = let at = h.at in absurd cc
  child_to k j (Grown t f) e h =
      let above = h.above_zero in
      ⊎_elim
      (λ one.
      let first : j - 1 ≡ 0 = omega (arith, one) in
      let is : Some t ≡ Some (Node q h.grandchildren) = ap (λ n. slice_get (t ∷ trees f) n) (sym first) ∙ h.at in
      let same : Node q h.grandchildren ≡ t = cc in
      let place : k ≡ i = omega (arith, one, e) in
      inl (subst (IsNodeAt k) same (place, refl)))
      (λ more.
      let later : 0 < j - 1 = omega (arith, above, more) in
      inr (child_to (k + 1) (j - 1) f (omega (arith, e, later)) (record {
        grandchildren = h.grandchildren;
        above_zero = later;
        at = sym (get_later t (trees f) (j - 1) later) ∙ h.at;
      })))
      (cases_eq j 1)

first_child : (i q : ℕ) (f : Forest) → HasNodeAt i q 1 f → IsChild i q f
first_child i q f h = let more = above i q 1 f h in child_from i q 1 i f (omega (arith, more)) (omega arith) h

module _ (p i q : ℕ) where
  mutual
    at_from : (o k : ℕ) (t : Tree) → Contains (contexts_at o k t) (Context p i q) → ((o ≡ p) × IsNodeAt i q k t) ⊎ UsesRuleIn p i q t
    at_from o k (Leaf s) h = absurd (nothing (Context p i q) h)
    at_from o k (Node r f) h =
        ⊎_elim (λ first. let outer : o ≡ p = cc in let place : k ≡ i = cc in let rule : r ≡ q = cc in inl (outer, (place, rule)))
        (λ later. ⊎_elim (λ child. inr (inl (child.0, first_child i q f child.1))) (λ inside. inr (inr inside)) (some_from r 1 f later))
        (head_or_tail (Context o k r) (contexts_from r 1 f) (Context p i q) h)

    some_from : (o k : ℕ) (f : Forest) → Contains (contexts_from o k f) (Context p i q) → ((o ≡ p) × HasNodeAt i q k f) ⊎ SomeUsesRuleIn p i q f
    some_from o k Bare h = absurd (nothing (Context p i q) h)
    some_from o k (Grown t f) h =
        ⊎_elim (λ first. ⊎_elim (λ node. inl (node.0, inl node.1)) (λ inside. inr (inl inside)) (at_from o k t first))
        (λ later. ⊎_elim (λ node. inl (node.0, inr node.1)) (λ inside. inr (inr inside)) (some_from o (k + 1) f later))
        (Contains-append_cases (contexts_at o k t) (contexts_from o (k + 1) f) (Context p i q) h)

  mutual
    at_to : (o k : ℕ) (t : Tree) → ((o ≡ p) × IsNodeAt i q k t) ⊎ UsesRuleIn p i q t → Contains (contexts_at o k t) (Context p i q)
    at_to o k (Leaf s) h = ⊎_elim (λ node. absurd node.1) (λ inside. absurd inside) h
    at_to o k (Node r f) h =
        ⊎_elim (λ node. let outer = node.0 in let place = node.1.0 in let rule = node.1.1 in here (Context o k r) (contexts_from r 1 f) (Context p i q) cc)
        (λ inside.
        there (Context o k r) (contexts_from r 1 f) (Context p i q)
        (some_to r 1 f (⊎_elim (λ child. inl (child.0, child_to i q 1 i f (omega arith) child.1)) (λ deeper. inr deeper) inside)))
        h

    some_to : (o k : ℕ) (f : Forest) → ((o ≡ p) × HasNodeAt i q k f) ⊎ SomeUsesRuleIn p i q f → Contains (contexts_from o k f) (Context p i q)
    some_to o k Bare h = ⊎_elim (λ node. absurd node.1) (λ inside. absurd inside) h
    some_to o k (Grown t f) h =
        let left = λ (c : Contains (contexts_at o k t) (Context p i q)). Contains-append_left (contexts_at o k t) (contexts_from o (k + 1) f) (Context p i q) c in
        let right = λ (c : Contains (contexts_from o (k + 1) f) (Context p i q)). Contains-append_right (contexts_at o k t) (contexts_from o (k + 1) f) (Context p i q) c in
        ⊎_elim
        (λ node. ⊎_elim (λ first. left (at_to o k t (inl (node.0, first)))) (λ later. right (some_to o (k + 1) f (inl (node.0, later)))) node.1)
        (λ inside. ⊎_elim (λ first. left (at_to o k t (inr first))) (λ later. right (some_to o (k + 1) f (inr later))) inside)
        h

  whole_from : (t : Tree) → Contains (contexts_of t) (Context p i q) → UsesRuleIn p i q t
  whole_from (Leaf s) h = absurd (nothing (Context p i q) h)
  whole_from (Node r f) h =
      ⊎_elim (λ child. inl (child.0, first_child i q f child.1)) (λ inside. inr inside) (some_from r 1 f h)

  whole_to : (t : Tree) → UsesRuleIn p i q t → Contains (contexts_of t) (Context p i q)
  whole_to (Leaf s) h = absurd h
  whole_to (Node r f) h = some_to r 1 f (⊎_elim (λ child. inl (child.0, child_to i q 1 i f (omega arith) child.1)) (λ deeper. inr deeper) h)

-- ---- each list has goals of one kind

abbrev kind : Goal → ℕ
kind (Rule r) = 0
kind (Context p i q) = 1
kind (Pair a b) = 2

rules_kind : (rules : List ℕ) (goal : Goal) → Contains (map Rule rules) goal → kind goal ≡ 0
rules_kind [] goal h = absurd (nothing goal h)
rules_kind (x ∷ xs) goal h = ⊎_elim (λ first. ap kind (sym first)) (λ later. rules_kind xs goal later) (head_or_tail (Rule x) (map Rule xs) goal h)

pairs_kind : (left : Mark) (tokens : List ℕ) (goal : Goal) → Contains (pairs_after left tokens) goal → kind goal ≡ 2
pairs_kind left [] goal h = ⊎_elim (λ first. ap kind (sym first)) (λ later. absurd (nothing goal later)) (head_or_tail (Pair left End) [] goal h)
pairs_kind left (t ∷ ts) goal h =
    ⊎_elim (λ first. ap kind (sym first)) (λ later. pairs_kind (Token t) ts goal later) (head_or_tail (Pair left (Token t)) (pairs_after (Token t) ts) goal h)

module _ (goal : Goal) where
  mutual
    at_kind : (o k : ℕ) (t : Tree) → Contains (contexts_at o k t) goal → kind goal ≡ 1
    at_kind o k (Leaf s) h = absurd (nothing goal h)
    at_kind o k (Node r f) h = ⊎_elim (λ first. ap kind (sym first)) (λ later. some_kind r 1 f later) (head_or_tail (Context o k r) (contexts_from r 1 f) goal h)

    some_kind : (o k : ℕ) (f : Forest) → Contains (contexts_from o k f) goal → kind goal ≡ 1
    some_kind o k Bare h = absurd (nothing goal h)
    some_kind o k (Grown t f) h =
        ⊎_elim (λ first. at_kind o k t first) (λ later. some_kind o (k + 1) f later) (Contains-append_cases (contexts_at o k t) (contexts_from o (k + 1) f) goal h)

  whole_kind : (t : Tree) → Contains (contexts_of t) goal → kind goal ≡ 1
  whole_kind (Leaf s) h = absurd (nothing goal h)
  whole_kind (Node r f) h = some_kind r 1 f h

-- ---- all of them

module _ (g : PlainGrammar) (rules : List ℕ) where
  same_tree : (t u : Tree) → IsTree g (Nonterminal g.start) t → IsTree g (Nonterminal g.start) u → rules ≡ code t → rules ≡ code u → t ≡ u
  same_tree t u h k e f =
      (one_tree g t u (Nonterminal g.start) (Nonterminal g.start) [] [] refl h k (append-nil (code t) ∙ sym e ∙ f ∙ sym (append-nil (code u)))).0

  module _ (tree : Tree) (is_tree : IsTree g (Nonterminal g.start) tree) (of_code : rules ≡ code tree) where
    abbrev goals_of : List Goal
    goals_of = (map Rule rules ++ contexts_of tree) ++ framed_pairs (yield tree)

    met_from : (goal : Goal) → Contains goals_of goal → IsMeeting g goal rules
    met_from (Rule r) h =
        ⊎_elim
        (λ front.
        ⊎_elim (λ rule. (rule_met r g rules (list_any (λ y. eqb y r) rules) (tree, is_tree, of_code) refl).0 (any_from r rules rule))
        (λ context. let e = whole_kind (Rule r) tree context in absurd (omega (arith, e)))
        (Contains-append_cases (map Rule rules) (contexts_of tree) (Rule r) front))
        (λ pair. let e = pairs_kind Begin (yield tree) (Rule r) pair in absurd (omega (arith, e)))
        (Contains-append_cases (map Rule rules ++ contexts_of tree) (framed_pairs (yield tree)) (Rule r) h)
    met_from (Context p i q) h =
        ⊎_elim
        (λ front.
        ⊎_elim (λ rule. let e = rules_kind rules (Context p i q) rule in absurd (omega (arith, e)))
        (λ context. record { tree = tree; is_tree = is_tree; code = of_code; meets = whole_from p i q tree context })
        (Contains-append_cases (map Rule rules) (contexts_of tree) (Context p i q) front))
        (λ pair. let e = pairs_kind Begin (yield tree) (Context p i q) pair in absurd (omega (arith, e)))
        (Contains-append_cases (map Rule rules ++ contexts_of tree) (framed_pairs (yield tree)) (Context p i q) h)
    met_from (Pair a b) h =
        ⊎_elim
        (λ front.
        ⊎_elim (λ rule. let e = rules_kind rules (Pair a b) rule in absurd (omega (arith, e)))
        (λ context. let e = whole_kind (Pair a b) tree context in absurd (omega (arith, e)))
        (Contains-append_cases (map Rule rules) (contexts_of tree) (Pair a b) front))
        (λ pair. record { tree = tree; is_tree = is_tree; code = of_code; meets = followed_from a b Begin (yield tree) pair })
        (Contains-append_cases (map Rule rules ++ contexts_of tree) (framed_pairs (yield tree)) (Pair a b) h)

    met_to : (goal : Goal) → IsMeeting g goal rules → Contains goals_of goal
    met_to (Rule r) m =
        let any = (rule_met r g rules (list_any (λ y. eqb y r) rules) (tree, is_tree, of_code) refl).1 m in
        Contains-append_left (map Rule rules ++ contexts_of tree) (framed_pairs (yield tree)) (Rule r)
        (Contains-append_left (map Rule rules) (contexts_of tree) (Rule r) (any_to r rules any))
    met_to (Context p i q) m =
        let meets = subst (UsesRuleIn p i q) (same_tree m.tree tree m.is_tree is_tree m.code of_code) m.meets in
        Contains-append_left (map Rule rules ++ contexts_of tree) (framed_pairs (yield tree)) (Context p i q)
        (Contains-append_right (map Rule rules) (contexts_of tree) (Context p i q) (whole_to p i q tree meets))
    met_to (Pair a b) m =
        let f = subst (λ (t : Tree). IsFollowed a b (framed (yield t))) (same_tree m.tree tree m.is_tree is_tree m.code of_code) m.meets in
        Contains-append_right (map Rule rules ++ contexts_of tree) (framed_pairs (yield tree)) (Pair a b) (followed_to a b Begin (yield tree) f.0 f.1 f.2)

  pub all_met : (tokens : List ℕ) (goals with_contexts : List Goal) → AreContexts g rules (map Rule rules) with_contexts → IsYield g rules tokens → goals ≡ with_contexts ++ framed_pairs tokens → HasExactly goals (λ goal. IsMeeting g goal rules)
  all_met tokens goals with_contexts contexts y e goal =
      let t = contexts.tree in
      let same = same_tree y.tree t y.is_tree contexts.is_tree y.code contexts.of_code in
      let tokens_is : tokens ≡ yield t = y.yield ∙ ap yield same in
      let goals_is : goals ≡ goals_of t contexts.is_tree contexts.of_code = e ∙ ap (λ (l : List Goal). l ++ framed_pairs tokens) contexts.behind ∙ ap (λ (ts : List ℕ). (map Rule rules ++ contexts_of t) ++ framed_pairs ts) tokens_is in (
        λ h. met_from t contexts.is_tree contexts.of_code goal (subst (λ (l : List Goal). Contains l goal) goals_is h),
        λ m. subst (λ (l : List Goal). Contains l goal) (sym goals_is) (met_to t contexts.is_tree contexts.of_code goal m),
      )
