-- Nonterminals that have empty trees.
use Rattle.std.proofs.Common.{◌≡◌, ℕ, zero, suc, ◌+◌, ◌<◌, ◌⊎◌, inl, inr, List, [], ◌∷◌, ◌++◌, Some, length, get_or, cond, eqb, Option, None, refl, sym, ap, ◌∙◌, subst, arith}
use Rattle.std.specs.Prelude.{All, IfSome, IfNone, IsSome, slice_get}
use Rattle.std.specs.List.{count_by}
use Rattle.std.proofs.Math.ListN.{set, length-set}
use Rattle.std.proofs.lemmas.List.{get_or-set_other, get_or-set_same}
use Rattle.cs_grammar.proofs.OneTree.{one_rule}
use Rattle.std.proofs.lemmas.Bool.{cases_eq, cond-true, cond-false, eq-eqb, ne_eqb}
use Rattle.std.proofs.lemmas.List.Sums.{sum_by-set}
use Rattle.std.proofs.lemmas.Option.{same_Some, slice_get_within, get_or_from_slice_get}
use Rattle.cs_grammar.specs.declared.symbol.Symbol.{Symbol}
use Rattle.cs_grammar.specs.declared.symbol.Symbol.TheVariants.{Token, Nonterminal}
use Rattle.cs_grammar.specs.Grammar.{Production, PlainGrammar, IsRule}
use Rattle.cs_grammar.specs.Tree.{Tree, Leaf, Node, Forest, Bare, Grown, IsTree, AreTrees, yield, yields}
use Rattle.cs_member.specs.declared.tables.empties.Found.{Found}
use Rattle.cs_member.specs.Tables.Item.{IsEmpty}
use Rattle.cs_member.specs.Tables.Tables.{HasEmpty, AreTrue, IsSaturated, IsFoundBefore, IsFurther, IsKeptRule, AreEmpties}
use Rattle.std.proofs.lemmas.List.Elements.{All-weaker}
use Rattle.cs_member.proofs.OnTables.Places.{at_set, at_set_cases, at_set_other}

all_head : {X : Type 0} (P : X → Type 0) (x : X) (xs : List X) → All P (x ∷ xs) → P x
all_head P x xs all = all 0 x (omega arith)

all_tail : {X : Type 0} (P : X → Type 0) (x : X) (xs : List X) → All P (x ∷ xs) → All P xs
all_tail P x xs all = λ k d lt. all (suc k) d (omega arith)

all_grown : {X : Type 0} (P : X → Type 0) (x : X) (xs : List X) → P x → All P xs → All P (x ∷ xs)
all_grown P x xs h all zero d lt = h
all_grown P x xs h all (suc k) d lt = all k d (omega arith)

no_first : (xs ys : List ℕ) → xs ++ ys ≡ [] → xs ≡ []
no_first [] ys e = refl
no_first (x ∷ xs) ys e = absurd cc

no_second : (xs ys : List ℕ) → xs ++ ys ≡ [] → ys ≡ []
no_second [] ys e = e
no_second (x ∷ xs) ys e = absurd cc

-- what has an empty tree has one when a further rule is kept
has_more : (empties : List ℕ) (a r : ℕ) → a < length empties → 0 < r → (s : Symbol) → HasEmpty empties s → HasEmpty (set empties a r) s
has_more empties a r lt above (Token t) h = absurd h
has_more empties a r lt above (Nonterminal b) h = elim (cases_eq b a) [
  | inl same ↦ (r, ap (λ n. slice_get (set empties a r) n) same ∙ at_set empties a r lt, above)
  | inr other ↦ (h.0, at_set_other empties a b r h.0 other h.1, h.2)
]

kept_more : (g : PlainGrammar) (empties : List ℕ) (a r : ℕ) → a < length empties → 0 < r → (b q : ℕ) → IsKeptRule g empties b q → IsKeptRule g (set empties a r) b q
kept_more g empties a r lt above b q kept = record {
  rule = kept.rule;
  number = kept.number;
  left = kept.left;
  all = All-weaker (HasEmpty empties) (HasEmpty (set empties a r)) (has_more empties a r lt above) kept.rule.right kept.all;
}

-- trees of symbols that have empty trees
module _ (g : PlainGrammar) (empties : List ℕ) (is : AreTrue g empties) where
  pub empty_forest : (xs : List Symbol) → All (HasEmpty empties) xs → (f : Forest) × AreTrees g xs f × (yields f ≡ [])
  empty_forest [] all = (Bare, tt, refl)
  empty_forest (Token t ∷ xs) all = absurd (all_head (HasEmpty empties) (Token t) xs all)
  empty_forest (Nonterminal a ∷ xs) all =
      let here = all_head (HasEmpty empties) (Nonterminal a) xs all in
      let t = is.some a here.0 here.1 here.2 in
      let f = empty_forest xs (all_tail (HasEmpty empties) (Nonterminal a) xs all) in
      (Grown t.0 f.0, (t.1, f.1), ap (λ (l : List ℕ). l ++ yields f.0) t.2 ∙ f.2)

  -- a rule is kept for its left side
  pub true_set : (r : ℕ) (p : Production) → IsRule g r p → p.left < length empties → All (HasEmpty empties) p.right → AreTrue g (set empties p.left r)
  true_set r p rule lt all = record {
    size = length-set empties p.left r ∙ is.size;
    some = λ a q at above. elim (at_set_cases empties p.left a r q at) [
      | inl here ↦
          let f = empty_forest p.right all in
          let t : IsTree g (Nonterminal p.left) (Node r f.0) = (p, rule, refl, f.1) in
          subst (λ n. IsEmpty g n) (sym here.0) (Node r f.0, t, f.2)
      | inr there ↦ is.some a q there above
    ];
    rules = λ a q at above. elim (at_set_cases empties p.left a r q at) [
      | inl here ↦ record {
        rule = p;
        number = subst (λ n. IsRule g n p) here.1 rule;
        left = sym here.0;
        all = All-weaker (HasEmpty empties) (HasEmpty (set empties p.left r)) (has_more empties p.left r lt rule.above_zero) p.right all;
      }
      | inr there ↦ kept_more g empties p.left r lt rule.above_zero a q (is.rules a q there above)
    ];
  }

-- where no rule leads further each nonterminal with an empty tree is there
module _ (g : PlainGrammar) (empties : List ℕ) (saturated : IsSaturated g empties) where
  mutual
    tree_kept : (t : Tree) (a : ℕ) → IsTree g (Nonterminal a) t → yield t ≡ [] → HasEmpty empties (Nonterminal a)
    tree_kept (Leaf t) a tree e = absurd cc
    tree_kept (Node r f) a tree e =
        let p = tree.0 in
        let left : p.left ≡ a = (let h = tree.2 in cc) in
        subst (λ n. HasEmpty empties (Nonterminal n)) left (saturated r p tree.1 (forest_kept f p.right tree.3 e))

    forest_kept : (f : Forest) (xs : List Symbol) → AreTrees g xs f → yields f ≡ [] → All (HasEmpty empties) xs
    forest_kept Bare [] trees e = λ k d lt. absurd (omega arith)
    forest_kept Bare (x ∷ xs) trees e = absurd trees
    forest_kept (Grown t f) [] trees e = absurd trees
    forest_kept (Grown (Leaf n) f) (x ∷ xs) trees e = absurd cc
    forest_kept (Grown (Node r h) f) (Token n ∷ xs) trees e = (let h = trees.0.2 in absurd cc)
    forest_kept (Grown (Node r h) f) (Nonterminal a ∷ xs) trees e =
        all_grown (HasEmpty empties) (Nonterminal a) xs
        (tree_kept (Node r h) a trees.0 (no_first (yields h) (yields f) e))
        (forest_kept f xs trees.1 (no_second (yields h) (yields f) e))

  pub are_empties : AreTrue g empties → AreEmpties g empties
  are_empties is = record {
    size = is.size;
    none = λ a at empty. (let kept = tree_kept empty.0 a empty.1 empty.2 in let same = same_Some kept.0 0 (sym kept.1 ∙ at) in let above = kept.2 in omega arith);
    some = is.some;
    rules = is.rules;
  }

-- of the rules up to one, those whose symbols have empty trees are known
pub seen_more : (g : PlainGrammar) (empties : List ℕ) (i : ℕ) (p : Production) → slice_get g.rules i ≡ Some p → (All (HasEmpty empties) p.right → HasEmpty empties (Nonterminal p.left))
    → ((k : ℕ) (q : Production) → k < i → slice_get g.rules k ≡ Some q → All (HasEmpty empties) q.right → HasEmpty empties (Nonterminal q.left))
    → (k : ℕ) (q : Production) → k < i + 1 → slice_get g.rules k ≡ Some q → All (HasEmpty empties) q.right → HasEmpty empties (Nonterminal q.left)
seen_more g empties i p at here before k q lt at_k all = elim (cases_eq k i) [
  | inl same ↦
      let one : p ≡ q = same_Some p q (sym at ∙ (ap (λ n. slice_get g.rules n) (sym same) ∙ at_k)) in
      subst (λ (r : Production). HasEmpty empties (Nonterminal r.left)) one (here (subst (λ (r : Production). All (HasEmpty empties) r.right) (sym one) all))
  | inr other ↦ before k q (omega arith) at_k all
]

pub if_none : {X : Type 0} (o : Option X) (P : Type 0) → (o ≡ None → P) → IfNone o P
if_none None P h = h refl
if_none (Some x) P h = tt

-- the lesser of what was found before and now
pub lesser_some : (g : PlainGrammar) (empties : List ℕ) (old new : Option Found) (found : Found) → IsFurther g empties found.rule → (new ≡ Some found) ⊎ (IsSome old × (new ≡ old))
    → IfSome old (λ f. IsFurther g empties f.rule) → IfSome new (λ f. IsFurther g empties f.rule)
lesser_some g empties old new found further is was = elim is [
  | inl now ↦ subst (λ (o : Option Found). IfSome o (λ f. IsFurther g empties f.rule)) (sym now) further
  | inr same ↦ subst (λ (o : Option Found). IfSome o (λ f. IsFurther g empties f.rule)) (sym same.1) was
]

some_not_none : {X : Type 0} (o : Option X) → IsSome o → o ≡ None → ⊥
some_not_none None some is = absurd cc
some_not_none (Some x) some is = cc

pub lesser_not_none : (old new : Option Found) (found : Found) → (new ≡ Some found) ⊎ (IsSome old × (new ≡ old)) → new ≡ None → ⊥
lesser_not_none old new found is none = elim is [
  | inl now ↦ cc
  | inr same ↦ some_not_none old same.0 (sym same.1 ∙ none)
]

abbrev one_if_zero : ℕ → ℕ
one_if_zero n = cond (eqb n 0) 1 0

-- how many have no rule kept falls where one is kept
pub fewer : (empties : List ℕ) (a r : ℕ) → slice_get empties a ≡ Some 0 → 0 < r → count_by (λ n. eqb n 0) (set empties a r) < count_by (λ n. eqb n 0) empties
fewer empties a r at above =
    let within = slice_get_within empties a 0 at in
    let sum : count_by (λ n. eqb n 0) (set empties a r) + one_if_zero (get_or empties a 0) ≡ count_by (λ n. eqb n 0) empties + one_if_zero r = sum_by-set one_if_zero empties a r 0 within in
    let was : one_if_zero (get_or empties a 0) ≡ 1 = cond-true (eqb (get_or empties a 0) 0) 1 0 (eq-eqb _ 0 (get_or_from_slice_get empties a 0 0 at)) in
    let now : one_if_zero r ≡ 0 = cond-false (eqb r 0) 1 0 (ne_eqb r 0 (λ e. omega arith)) in
    omega arith

-- the rounds so far: each found nonterminal has one below this
pub record AreRoundsTo (g : PlainGrammar) (empties rounds : List ℕ) (round : ℕ) : Type 0 where
  pub size : length rounds ≡ length empties
  pub below : (a : ℕ) → HasEmpty empties (Nonterminal a) → get_or rounds a 0 < round
  pub earlier : (a r : ℕ) (p : Production) → slice_get empties a ≡ Some r → 0 < r → IsRule g r p → All (IsFoundBefore rounds (get_or rounds a 0)) p.right

module _ (g : PlainGrammar) (empties rounds : List ℕ) (round : ℕ) (is_true : AreTrue g empties) (is : AreRoundsTo g empties rounds round) (left r : ℕ) (p : Production) (number : IsRule g r p) (is_left : p.left ≡ left)
    (none : slice_get empties left ≡ Some 0) (all : All (HasEmpty empties) p.right) where
  -- a symbol that was found before isn't the new one
  other_left : (b : ℕ) → HasEmpty empties (Nonterminal b) → b ≡ left → ⊥
  other_left b h same = (let zero = same_Some h.0 0 (sym h.1 ∙ (ap (λ n. slice_get empties n) same ∙ none)) in let above = h.2 in omega arith)

  before_round : (n : ℕ) (s : Symbol) → HasEmpty empties s → IsFoundBefore rounds n s → IsFoundBefore (set rounds left round) n s
  before_round n (Token t) h found = tt
  before_round n (Nonterminal b) h found = subst (λ m. m < n) (sym (get_or-set_other rounds left b round 0 (other_left b h))) found

  found_here : (s : Symbol) → HasEmpty empties s → IsFoundBefore (set rounds left round) round s
  found_here (Token t) h = tt
  found_here (Nonterminal b) h = before_round round (Nonterminal b) h (is.below b h)

  pub rounds_more : AreRoundsTo g (set empties left r) (set rounds left round) (round + 1)
  rounds_more =
      let within = slice_get_within empties left 0 none in
      let size = is.size in
      let here : get_or (set rounds left round) left 0 ≡ round = get_or-set_same rounds left round 0 (omega arith) in
      record {
        size = length-set rounds left round ∙ (is.size ∙ sym (length-set empties left r));
        below = λ a h. elim (at_set_cases empties left a r h.0 h.1) [
          | inl same ↦ (let e = ap (λ n. get_or (set rounds left round) n 0) same.0 ∙ here in omega arith)
          | inr was ↦
              let old = is.below a (h.0, was, h.2) in
              let e = get_or-set_other rounds left a round 0 (other_left a (h.0, was, h.2)) in
              omega arith
        ];
        earlier = λ a q t at above rule. elim (at_set_cases empties left a r q at) [
          | inl same ↦
              let one : p ≡ t = one_rule g r q p t same.1 number rule in
              let first : All (IsFoundBefore (set rounds left round) round) p.right = All-weaker (HasEmpty empties) (IsFoundBefore (set rounds left round) round) found_here p.right all in
              let round_is : get_or (set rounds left round) a 0 ≡ round = ap (λ n. get_or (set rounds left round) n 0) same.0 ∙ here in
              subst (λ n. All (IsFoundBefore (set rounds left round) n) t.right) (sym round_is) (subst (λ (u : Production). All (IsFoundBefore (set rounds left round) round) u.right) one first)
          | inr was ↦
              let kept = is_true.rules a q was above in
              let one : kept.rule ≡ t = one_rule g q q kept.rule t refl kept.number rule in
              let empty : All (HasEmpty empties) t.right = subst (λ (u : Production). All (HasEmpty empties) u.right) one kept.all in
              let before = is.earlier a q t was above rule in
              let e = get_or-set_other rounds left a round 0 (other_left a (q, was, above)) in
              subst (λ n. All (IsFoundBefore (set rounds left round) n) t.right) (sym e)
              (λ k d lt. before_round (get_or rounds a 0) (get_or t.right k d) (empty k d lt) (before k d lt))
        ];
      }
