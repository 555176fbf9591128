-- What trees of reachable symbols show is in closed sets: their rules, the rules of their children, and their neighbours.
use Rattle.std.proofs.Common.{◌≡◌, ℕ, zero, suc, ◌-◌, List, [], ◌∷◌, ◌++◌, Some, sym, subst, ⊎_elim}
use Rattle.std.specs.Prelude.{All, slice_get}
use Rattle.std.proofs.lemmas.List.Elements.{All-head, All-tail}
use Rattle.cs_grammar.specs.declared.symbol.Symbol.{Symbol}
use Rattle.cs_grammar.specs.declared.symbol.Symbol.TheVariants.{Nonterminal}
use Rattle.cs_grammar.specs.declared.symbol.Mark.{Mark}
use Rattle.cs_grammar.specs.declared.symbol.Mark.TheVariants as mark
use Rattle.cs_grammar.specs.Grammar.{PlainGrammar, IsRule}
use Rattle.cs_grammar.specs.Tree.{Tree, Leaf, Node, Forest, Bare, Grown, IsTree, AreTrees, yield, yields}
use Rattle.cs_grammar.specs.Sentence.{framed, IsFollowed}
use Rattle.cs_grammar.specs.Uses.{UsesRule, SomeUsesRule}
use Rattle.cs_goals.specs.declared.goal.Goal.{Goal}
use Rattle.cs_goals.specs.declared.goal.Goal.TheVariants.{Rule, Context, Pair}
use Rattle.cs_goals.specs.Meets.{trees, UsesRuleIn, SomeUsesRuleIn, Meets}
use Rattle.cs_closed.specs.Closed.Sets.{PlainSets, IsReachableSymbol, IsNext}
use Rattle.cs_closed.specs.Closed.Closed.{AreClosed, MayMeet, IsUsed, IsLiveRule, IsUsedRule, Allows}
use Rattle.cs_closed.proofs.OnClosed.Lists as lists
use Rattle.cs_closed.proofs.OnClosed.Lists.{neighbours, not_alone, in_frame}
use Rattle.cs_closed.proofs.OnClosed.Among.{meet_here, meet_later}
use Rattle.cs_closed.proofs.OnClosed.Shown.{closed_under, shown, shown_among}

module _ (s : PlainSets) (g : PlainGrammar) (closed : AreClosed g s) where
  used_node : (r : ℕ) (x : Symbol) (f : Forest) → (h : IsTree g x (Node r f)) → IsReachableSymbol s x → IsUsed s h.0
  used_node r x f h reached = ((shown_among s g closed f h.0.right h.3).live, subst (IsReachableSymbol s) h.2 reached)

  below : (r : ℕ) (x : Symbol) (f : Forest) → (h : IsTree g x (Node r f)) → IsReachableSymbol s x → All (IsReachableSymbol s) h.0.right
  below r x f h reached = (closed_under s g closed r h.0 h.1).reachable (used_node r x f h reached)

  -- the neighbours in yields
  mutual
    held : (t : Tree) (x : Symbol) → IsTree g x t → IsReachableSymbol s x → (a b : ℕ) → IsFollowed a b (yield t) → IsNext s (mark.Token a) (mark.Token b)
    held (Leaf t) x h reached a b e = absurd (not_alone t a b e)
    held (Node r f) x h reached a b e =
        held_among f h.0.right h.3 (below r x f h reached) a b ((closed_under s g closed r h.0 h.1).next (used_node r x f h reached) a b) e

    held_among : (f : Forest) (xs : List Symbol) → AreTrees g xs f → All (IsReachableSymbol s) xs → (a b : ℕ) → (MayMeet s xs a b → IsNext s (mark.Token a) (mark.Token b)) → IsFollowed a b (yields f) → IsNext s (mark.Token a) (mark.Token b)
    held_among Bare xs h reached a b meets e = elim e.0 as (λ (l : List ℕ). [] ≡ l ++ a ∷ b ∷ e.1 → IsNext s (mark.Token a) (mark.Token b)) [ [] ↦ (λ e. absurd cc) | x ∷ l ↦ (λ e. absurd cc) ] e.2
    held_among (Grown t f) [] h reached a b meets e = absurd h
    held_among (Grown t f) (x ∷ xs) h reached a b meets e =
        elim (neighbours a b (yield t) (yields f) e) [
          | lists.InFirst e1 ↦ held t x h.0 (All-head (IsReachableSymbol s) x xs reached) a b e1
          | lists.InSecond e2 ↦
              held_among f xs h.1 (All-tail (IsReachableSymbol s) x xs reached) a b (λ m. meets (meet_later s x xs a b m)) e2
          | lists.AtSeam seam ↦
              meets (meet_here s x xs a b ((shown s g closed t x h.0).last seam.init a seam.ends) ((shown_among s g closed f xs h.1).first b seam.rest seam.begins))
        ]

  -- the rules
  mutual
    used : (r : ℕ) (t : Tree) (x : Symbol) → IsTree g x t → IsReachableSymbol s x → UsesRule r t → IsUsedRule g s r
    used r (Leaf t) x h reached e = absurd e
    used r (Node q f) x h reached e =
        ⊎_elim
        (λ same. (h.0, subst (λ (n : ℕ). IsRule g n h.0) same h.1, used_node q x f h reached))
        (λ inside. used_among r f h.0.right h.3 (below q x f h reached) inside)
        e

    used_among : (r : ℕ) (f : Forest) (xs : List Symbol) → AreTrees g xs f → All (IsReachableSymbol s) xs → SomeUsesRule r f → IsUsedRule g s r
    used_among r Bare xs h reached e = absurd e
    used_among r (Grown t f) [] h reached e = absurd h
    used_among r (Grown t f) (x ∷ xs) h reached e =
        ⊎_elim
        (λ here. used r t x h.0 (All-head (IsReachableSymbol s) x xs reached) here)
        (λ later. used_among r f xs h.1 (All-tail (IsReachableSymbol s) x xs reached) later)
        e

  -- the rules of children
  live_child : (f : Forest) (xs : List Symbol) (k q : ℕ) (children : Forest) → AreTrees g xs f → slice_get (trees f) k ≡ Some (Node q children) → IsLiveRule g s q
  live_child Bare xs k q children h at = absurd cc
  live_child (Grown t f) [] k q children h at = absurd h
  live_child (Grown t f) (x ∷ xs) zero q children h at =
      let is = subst (IsTree g x) (the_same at) h.0 in (is.0, is.1, (shown_among s g closed children is.0.right is.3).live)
    where
      the_same : Some t ≡ Some (Node q children) → t ≡ Node q children
      the_same e = cc
  live_child (Grown t f) (x ∷ xs) (suc k) q children h at = live_child f xs k q children h.1 at

  mutual
    used_in : (p i q : ℕ) (t : Tree) (x : Symbol) → IsTree g x t → IsReachableSymbol s x → UsesRuleIn p i q t → IsUsedRule g s p × IsLiveRule g s q
    used_in p i q (Leaf t) x h reached e = absurd e
    used_in p i q (Node r f) x h reached e =
        ⊎_elim
        (λ here. (
          (h.0, subst (λ (n : ℕ). IsRule g n h.0) here.0 h.1, used_node r x f h reached),
          live_child f h.0.right (i - 1) q here.1.grandchildren h.3 here.1.at,
        ))
        (λ inside. used_in_among p i q f h.0.right h.3 (below r x f h reached) inside)
        e

    used_in_among : (p i q : ℕ) (f : Forest) (xs : List Symbol) → AreTrees g xs f → All (IsReachableSymbol s) xs → SomeUsesRuleIn p i q f → IsUsedRule g s p × IsLiveRule g s q
    used_in_among p i q Bare xs h reached e = absurd e
    used_in_among p i q (Grown t f) [] h reached e = absurd h
    used_in_among p i q (Grown t f) (x ∷ xs) h reached e =
        ⊎_elim
        (λ here. used_in p i q t x h.0 (All-head (IsReachableSymbol s) x xs reached) here)
        (λ later. used_in_among p i q f xs h.1 (All-tail (IsReachableSymbol s) x xs reached) later)
        e

  -- the neighbours in framed yields
  pub held_framed : (t : Tree) → IsTree g (Nonterminal g.start) t → (a b : Mark) → IsFollowed a b (framed (yield t)) → IsNext s a b
  held_framed t h a b e =
      let root = shown s g closed t (Nonterminal g.start) h in
      elim (in_frame (yield t) a b e) [
        | lists.Whole none is_a is_b ↦ there a b mark.Begin mark.End is_a is_b (closed.nothing (root.empty none))
        | lists.AtFront d rest is is_a is_b ↦ there a b mark.Begin (mark.Token d) is_a is_b (closed.begin d (root.first d rest is))
        | lists.Inside c d inner is_a is_b ↦
            there a b (mark.Token c) (mark.Token d) is_a is_b (held t (Nonterminal g.start) h closed.start c d inner)
        | lists.AtBack c init is is_a is_b ↦ there a b (mark.Token c) mark.End is_a is_b (closed.end c (root.last init c is))
      ]
    where
      there : (a b c d : Mark) → a ≡ c → b ≡ d → IsNext s c d → IsNext s a b
      there a b c d is_a is_b h = subst (λ (m : Mark). IsNext s m b) (sym is_a) (subst (IsNext s c) (sym is_b) h)

  -- a goal that a tree of the start symbol meets is allowed
  pub allowed : (goal : Goal) (t : Tree) → IsTree g (Nonterminal g.start) t → Meets goal t → Allows g s goal
  allowed (Rule r) t h m = used r t (Nonterminal g.start) h closed.start m
  allowed (Context p i q) t h m = used_in p i q t (Nonterminal g.start) h closed.start m
  allowed (Pair a b) t h m = held_framed t h a b m
