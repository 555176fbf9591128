-- Rule goals and pair goals, decided on the code and on the yield.
use Rattle.std.proofs.Common.{◌≡◌, ℕ, Bool, true, false, ◌||◌, eqb, List, [], ◌∷◌, ◌++◌, refl, sym, ap, ◌∙◌, subst, ⊎_elim, inl, inr, ◌↔◌, append-nil, arith}
use Rattle.std.specs.Prelude.{IsTrue}
use Rattle.std.specs.List.{list_any}
use Rattle.std.proofs.lemmas.Bool.{or_cases}
use Rattle.std.proofs.lemmas.Bool.Decides.{nat_tests}
use Rattle.cs_grammar.specs.declared.symbol.Symbol.TheVariants.{Nonterminal}
use Rattle.cs_grammar.specs.declared.symbol.Mark.{Mark}
use Rattle.cs_grammar.specs.Grammar.{PlainGrammar}
use Rattle.cs_grammar.specs.Tree.{Tree, Leaf, Node, Forest, Bare, Grown, code, codes_of, yield, IsDerivation}
use Rattle.cs_grammar.specs.Leftmost.{IsYield}
use Rattle.cs_grammar.specs.Sentence.{framed, IsFollowed}
use Rattle.cs_grammar.specs.Uses.{UsesRule, SomeUsesRule}
use Rattle.cs_grammar.proofs.OneTree.{one_tree}
use Rattle.cs_goals.specs.declared.goal.Goal.TheVariants.{Rule, Pair}
use Rattle.cs_goals.specs.Meets.{IsMeeting}

list_any-append : (p : ℕ → Bool) (xs ys : List ℕ) → list_any p (xs ++ ys) ≡ (list_any p xs || list_any p ys)
list_any-append p [] ys = refl
list_any-append p (x ∷ xs) ys = or_assoc (p x) (list_any p xs) (list_any p ys) (list_any p (xs ++ ys)) (list_any-append p xs ys)
  where
    or_assoc : (a b c d : Bool) → d ≡ (b || c) → (a || d) ≡ ((a || b) || c)
    or_assoc true b c d e = refl
    or_assoc false b c d e = e

or_left : (a b : Bool) → a ≡ true → (a || b) ≡ true
or_left true b e = refl
or_left false b e = absurd cc

or_right : (a b : Bool) → b ≡ true → (a || b) ≡ true
or_right true b e = refl
or_right false b e = e

module _ (r : ℕ) where
  abbrev pub listed : List ℕ → Bool
  listed rules = list_any (λ y. eqb y r) rules

  mutual
    uses_from : (t : Tree) → listed (code t) ≡ true → UsesRule r t
    uses_from (Leaf s) h = absurd cc
    uses_from (Node q f) h =
        ⊎_elim
        (λ here. inl (grind (arith, nat_tests)))
        (λ inside. inr (some_uses_from f inside))
        (or_cases (eqb q r) (listed (codes_of f)) h)

    some_uses_from : (f : Forest) → listed (codes_of f) ≡ true → SomeUsesRule r f
    some_uses_from Bare h = absurd cc
    some_uses_from (Grown t f) h =
        ⊎_elim (λ here. inl (uses_from t here)) (λ later. inr (some_uses_from f later))
        (or_cases (listed (code t)) (listed (codes_of f)) (sym (list_any-append (λ y. eqb y r) (code t) (codes_of f)) ∙ h))

  mutual
    listed_from : (t : Tree) → UsesRule r t → listed (code t) ≡ true
    listed_from (Leaf s) h = absurd h
    listed_from (Node q f) h =
        ⊎_elim
        (λ here. or_left (eqb q r) (listed (codes_of f)) (grind (arith, nat_tests)))
        (λ inside. or_right (eqb q r) (listed (codes_of f)) (some_listed_from f inside))
        h

    some_listed_from : (f : Forest) → SomeUsesRule r f → listed (codes_of f) ≡ true
    some_listed_from Bare h = absurd h
    some_listed_from (Grown t f) h =
        list_any-append (λ y. eqb y r) (code t) (codes_of f)
        ∙ ⊎_elim
        (λ here. or_left (listed (code t)) (listed (codes_of f)) (listed_from t here))
        (λ later. or_right (listed (code t)) (listed (codes_of f)) (some_listed_from f later))
        h

  pub rule_met : (g : PlainGrammar) (rules : List ℕ) (met : Bool) → IsDerivation g (Nonterminal g.start) rules → met ≡ list_any (λ y. eqb y r) rules → IsTrue met ↔ IsMeeting g (Rule r) rules
  rule_met g rules met d is = (
    λ yes. record {
      tree = d.0;
      is_tree = d.1;
      code = d.2;
      meets = uses_from d.0 (ap (λ (l : List ℕ). listed l) (sym d.2) ∙ sym is ∙ yes);
    },
    λ m. is ∙ ap (λ (l : List ℕ). listed l) m.code ∙ listed_from m.tree m.meets,
  )

pub pair_met : (g : PlainGrammar) (rules tokens : List ℕ) (a b : Mark) (met : Bool) → IsYield g rules tokens → (IsTrue met ↔ IsFollowed a b (framed tokens)) → IsTrue met ↔ IsMeeting g (Pair a b) rules
pair_met g rules tokens a b met y h = (
  λ yes. record {
    tree = y.tree;
    is_tree = y.is_tree;
    code = y.code;
    meets = subst (λ (l : List ℕ). IsFollowed a b (framed l)) y.yield (h.0 yes);
  },
  λ m.
      let same = (one_tree g m.tree y.tree (Nonterminal g.start) (Nonterminal g.start) [] [] refl m.is_tree y.is_tree (append-nil (code m.tree) ∙ sym m.code ∙ y.code ∙ sym (append-nil (code y.tree)))).0 in
      h.1 (subst (λ (l : List ℕ). IsFollowed a b (framed l)) (ap yield same ∙ sym y.yield) m.meets),
)
