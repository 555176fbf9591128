-- What trees show of their symbols is in closed sets: that they are productive, empty yields, and the ends of yields.
use Rattle.std.proofs.Common.{◌≡◌, ℕ, ◌-◌, List, [], ◌∷◌, ◌++◌, refl, sym, ap, ◌∙◌, subst, append_assoc, append-nil}
use Rattle.std.specs.Prelude.{All}
use Rattle.std.proofs.lemmas.List.{same_from_push}
use Rattle.std.proofs.lemmas.List.Elements.{All-nil, All-cons}
use Rattle.cs_grammar.specs.declared.symbol.Symbol.{Symbol}
use Rattle.cs_grammar.specs.declared.symbol.Symbol.TheVariants.{Token, Nonterminal}
use Rattle.cs_grammar.specs.Grammar.{Production, PlainGrammar, IsRule}
use Rattle.cs_grammar.specs.Tree.{Tree, Leaf, Node, Forest, Bare, Grown, IsTree, AreTrees, yield, yields}
use Rattle.cs_grammar.proofs.Measures.{All-at}
use Rattle.cs_closed.specs.Closed.Sets.{PlainSets, IsProductiveSymbol, IsEmptySymbol, IsFirstOf, IsLastOf}
use Rattle.cs_closed.specs.Closed.Closed.{IsFirstAmong, IsLastAmong, AreClosedUnder, AreClosed}
use Rattle.cs_closed.proofs.OnClosed.Lists as lists
use Rattle.cs_closed.proofs.OnClosed.Lists.{back}
use Rattle.cs_closed.proofs.OnClosed.Among.{first_here, first_later, last_here, last_later}

-- the sets have of a symbol what these tokens show, which a tree of it yields
pub record Shown (s : PlainSets) (x : Symbol) (tokens : List ℕ) : Type 0 where
  pub productive : IsProductiveSymbol s x
  pub empty : tokens ≡ [] → IsEmptySymbol s x
  pub first : (b : ℕ) (rest : List ℕ) → tokens ≡ b ∷ rest → IsFirstOf s x b
  pub last : (init : List ℕ) (a : ℕ) → tokens ≡ init ++ a ∷ [] → IsLastOf s x a

-- and of symbols, of which trees yield them
pub record ShownAmong (s : PlainSets) (xs : List Symbol) (tokens : List ℕ) : Type 0 where
  pub live : All (IsProductiveSymbol s) xs
  pub empties : tokens ≡ [] → All (IsEmptySymbol s) xs
  pub first : (b : ℕ) (rest : List ℕ) → tokens ≡ b ∷ rest → IsFirstAmong s xs b
  pub last : (init : List ℕ) (a : ℕ) → tokens ≡ init ++ a ∷ [] → IsLastAmong s xs a

no_end : (init : List ℕ) (a : ℕ) → [] ≡ init ++ a ∷ [] → ⊥
no_end [] a e = absurd cc
no_end (x ∷ init) a e = absurd cc

left_nil : (l m : List ℕ) → l ++ m ≡ [] → l ≡ []
left_nil [] m e = refl
left_nil (x ∷ l) m e = absurd cc

right_nil : (l m : List ℕ) → l ++ m ≡ [] → m ≡ []
right_nil [] m e = e
right_nil (x ∷ l) m e = absurd cc

module _ (s : PlainSets) where
  shown_leaf : (t : ℕ) → Shown s (Token t) (t ∷ [])
  shown_leaf t = record {
    productive = tt;
    empty = λ e. absurd cc;
    first = λ b rest e. cc;
    last = λ init a e. (same_from_push [] init t a e).1;
  }

  shown_none : ShownAmong s [] []
  shown_none = record {
    live = All-nil (IsProductiveSymbol s);
    empties = λ e. All-nil (IsEmptySymbol s);
    first = λ b rest e. absurd cc;
    last = λ init a e. absurd (no_end init a e);
  }

  module _ (x : Symbol) (xs : List Symbol) where
    first_of_two : (l m : List ℕ) → Shown s x l → ShownAmong s xs m → (b : ℕ) (rest : List ℕ) → l ++ m ≡ b ∷ rest → IsFirstAmong s (x ∷ xs) b
    first_of_two [] m h hs b rest e = first_later s x xs b (h.empty refl) (hs.first b rest e)
    first_of_two (c ∷ l) m h hs b rest e = first_here s x xs b (h.first b l (cc))

    last_of_two : (l m : List ℕ) → Shown s x l → ShownAmong s xs m → (init : List ℕ) (a : ℕ) → l ++ m ≡ init ++ a ∷ [] → IsLastAmong s (x ∷ xs) a
    last_of_two l m h hs init a e =
        elim (back m) [
          | lists.Bare none ↦
              last_here s x xs a (hs.empties none) (h.last init a (sym (append-nil l) ∙ ap (λ (k : List ℕ). l ++ k) (sym none) ∙ e))
          | lists.Ended front y ends ↦
              (let same = (same_from_push (l ++ front) init y a (append_assoc l front (y ∷ []) ∙ ap (λ (k : List ℕ). l ++ k) (sym ends) ∙ e)).1 in
              last_later s x xs a (hs.last front a (ends ∙ ap (λ (n : ℕ). front ++ n ∷ []) same)))
        ]

    shown_two : (l m : List ℕ) → Shown s x l → ShownAmong s xs m → ShownAmong s (x ∷ xs) (l ++ m)
    shown_two l m h hs = record {
      live = All-cons (IsProductiveSymbol s) x xs h.productive hs.live;
      empties = λ e. All-cons (IsEmptySymbol s) x xs (h.empty (left_nil l m e)) (hs.empties (right_nil l m e));
      first = first_of_two l m h hs;
      last = last_of_two l m h hs;
    }

  shown_node : (p : Production) (tokens : List ℕ) → AreClosedUnder s p → ShownAmong s p.right tokens → Shown s (Nonterminal p.left) tokens
  shown_node p tokens c h = record {
    productive = c.productive h.live;
    empty = λ e. c.empty (h.empties e);
    first = λ b rest e. c.first h.live b (h.first b rest e);
    last = λ init a e. c.last h.live a (h.last init a e);
  }

  module _ (g : PlainGrammar) (closed : AreClosed g s) where
    pub closed_under : (r : ℕ) (p : Production) → IsRule g r p → AreClosedUnder s p
    closed_under r p h = All-at (AreClosedUnder s) g.rules (r - 1) p closed.rules h.at

    mutual
      pub shown : (t : Tree) (x : Symbol) → IsTree g x t → Shown s x (yield t)
      shown (Leaf t) x h = subst (λ (y : Symbol). Shown s y (t ∷ [])) (sym h) (shown_leaf t)
      shown (Node r f) x h =
          subst (λ (y : Symbol). Shown s y (yields f)) (sym h.2)
          (shown_node h.0 (yields f) (closed_under r h.0 h.1) (shown_among f h.0.right h.3))

      pub shown_among : (f : Forest) (xs : List Symbol) → AreTrees g xs f → ShownAmong s xs (yields f)
      shown_among Bare [] h = shown_none
      shown_among Bare (x ∷ xs) h = absurd h
      shown_among (Grown t f) [] h = absurd h
      shown_among (Grown t f) (x ∷ xs) h = shown_two x xs (yield t) (yields f) (shown t x h.0) (shown_among f xs h.1)
