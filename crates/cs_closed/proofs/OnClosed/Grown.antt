-- Trees that show what exact sets hold.
use Rattle.std.proofs.Common.{◌≡◌, ℕ, zero, suc, List, [], ◌∷◌, ◌++◌, Some, refl, sym, ap, ◌∙◌, subst, append_assoc, append-nil, inl, inr}
use Rattle.std.specs.Prelude.{All, slice_get}
use Rattle.std.proofs.lemmas.List.Elements.{All-head, All-tail}
use Rattle.cs_grammar.specs.declared.symbol.Symbol.{Symbol}
use Rattle.cs_grammar.specs.declared.symbol.Symbol.TheVariants.{Token, Nonterminal}
use Rattle.cs_grammar.specs.Grammar.{PlainGrammar}
use Rattle.cs_grammar.specs.Tree.{Tree, Leaf, Node, Forest, Bare, Grown, IsTree, AreTrees, yield, yields}
use Rattle.cs_grammar.specs.Context.{Context, Hole, Under, join, plug}
use Rattle.cs_grammar.specs.Sentence.{IsFollowed}
use Rattle.cs_grammar.proofs.Forests.{AreTrees-join, yields-join}
use Rattle.cs_goals.specs.Meets.{trees, UsesRuleIn, SomeUsesRuleIn}
use Rattle.cs_closed.specs.Closed.Sets.{PlainSets, IsProductiveSymbol, IsEmptySymbol, IsFirstOf, IsLastOf}
use Rattle.cs_closed.specs.Closed.Closed.{IsFirstAmong, IsLastAmong, MayMeet}
use Rattle.cs_closed.specs.Closed.Exact.{AreExact}
use Rattle.cs_closed.proofs.OnClosed.Closes.{front, rest}

-- a list of trees with such a yield
pub record HasForest (g : PlainGrammar) (xs : List Symbol) (Shows : List ℕ → Type 0) : Type 0 where
  pub forest : Forest
  pub are : AreTrees g xs forest
  pub shows : Shows (yields forest)

pub record HasTreeOf (g : PlainGrammar) (x : Symbol) (Shows : List ℕ → Type 0) : Type 0 where
  pub tree : Tree
  pub is : IsTree g x tree
  pub shows : Shows (yield tree)

abbrev pub IsAny : List ℕ → Type 0
IsAny tokens = Unit {0}

abbrev pub IsNone : List ℕ → Type 0
IsNone tokens = tokens ≡ []

abbrev pub Begins : ℕ → List ℕ → Type 0
Begins b tokens = (more : List ℕ) × (tokens ≡ b ∷ more)

abbrev pub Ends : ℕ → List ℕ → Type 0
Ends a tokens = (init : List ℕ) × (tokens ≡ init ++ a ∷ [])

-- neighbours stay so between other lists
pub between : {A : Type 0} (a b : A) (l m r : List A) → IsFollowed a b m → IsFollowed a b (l ++ (m ++ r))
between {A} a b l m r h = (
  l ++ h.0,
  h.1 ++ r,
  ap (λ (k : List A). l ++ (k ++ r)) h.2 ∙ ap (λ (k : List A). l ++ k) (append_assoc h.0 (a ∷ b ∷ h.1) r) ∙ sym (append_assoc l h.0 (a ∷ b ∷ (h.1 ++ r))),
)

pub followed-plug : (a b : ℕ) (c : Context) (t : Tree) → IsFollowed a b (yield t) → IsFollowed a b (yield (plug c t))
followed-plug a b Hole t h = h
followed-plug a b (Under outer r left right) t h =
    followed-plug a b outer (Node r (join left (Grown t right)))
    (subst (IsFollowed a b) (sym (yields-join left (Grown t right))) (between a b (yields left) (yield t) (yields right) h))

-- a rule's child stays so in a context
SomeUsesRuleIn-join : (p i q : ℕ) (f : Forest) (t : Tree) (right : Forest) → UsesRuleIn p i q t → SomeUsesRuleIn p i q (join f (Grown t right))
SomeUsesRuleIn-join p i q Bare t right h = inl h
SomeUsesRuleIn-join p i q (Grown u f) t right h = inr (SomeUsesRuleIn-join p i q f t right h)

pub UsesRuleIn-plug : (p i q : ℕ) (c : Context) (t : Tree) → UsesRuleIn p i q t → UsesRuleIn p i q (plug c t)
UsesRuleIn-plug p i q Hole t h = h
UsesRuleIn-plug p i q (Under outer r left right) t h =
    UsesRuleIn-plug p i q outer (Node r (join left (Grown t right))) (inr (SomeUsesRuleIn-join p i q left t right h))

module _ (g : PlainGrammar) (s : PlainSets) (exact : AreExact g s) where
  pub any_tree : (x : Symbol) → IsProductiveSymbol s x → HasTreeOf g x IsAny
  any_tree (Token t) h = record { tree = Leaf t; is = refl; shows = tt }
  any_tree (Nonterminal n) h = let has = (exact.productive n).0 h in record { tree = has.0; is = has.1; shows = tt }

  pub any_forest : (xs : List Symbol) → All (IsProductiveSymbol s) xs → HasForest g xs IsAny
  any_forest [] h = record { forest = Bare; are = tt; shows = tt }
  any_forest (x ∷ xs) h =
      let t = any_tree x (All-head (IsProductiveSymbol s) x xs h) in
      let f = any_forest xs (All-tail (IsProductiveSymbol s) x xs h) in
      record { forest = Grown t.tree f.forest; are = (t.is, f.are); shows = tt }

  pub bare_tree : (x : Symbol) → IsEmptySymbol s x → HasTreeOf g x IsNone
  bare_tree (Token t) h = absurd h
  bare_tree (Nonterminal n) h = let has = (exact.empty n).0 h in record { tree = has.0; is = has.1; shows = sym has.2 }

  pub bare_forest : (xs : List Symbol) → All (IsEmptySymbol s) xs → HasForest g xs IsNone
  bare_forest [] h = record { forest = Bare; are = tt; shows = refl }
  bare_forest (x ∷ xs) h =
      let t = bare_tree x (All-head (IsEmptySymbol s) x xs h) in
      let f = bare_forest xs (All-tail (IsEmptySymbol s) x xs h) in
      record {
        forest = Grown t.tree f.forest;
        are = (t.is, f.are);
        shows = ap (λ (l : List ℕ). l ++ yields f.forest) t.shows ∙ f.shows;
      }

  pub first_tree : (x : Symbol) (b : ℕ) → IsFirstOf s x b → HasTreeOf g x (Begins b)
  first_tree (Token t) b h = record { tree = Leaf t; is = refl; shows = ([], ap (λ (n : ℕ). n ∷ []) h) }
  first_tree (Nonterminal n) b h = let has = (exact.first n b).0 h in record { tree = has.1.0; is = has.1.1; shows = (has.0, sym has.1.2) }

  pub last_tree : (x : Symbol) (a : ℕ) → IsLastOf s x a → HasTreeOf g x (Ends a)
  last_tree (Token t) a h = record { tree = Leaf t; is = refl; shows = ([], ap (λ (n : ℕ). n ∷ []) h) }
  last_tree (Nonterminal n) a h = let has = (exact.last n a).0 h in record { tree = has.1.0; is = has.1.1; shows = (has.0, sym has.1.2) }

  -- a list of trees, one among them with others before and behind
  together : (before : List Symbol) (x : Symbol) (behind : List Symbol) (f : Forest) (t : Tree) (k : Forest) → AreTrees g before f → IsTree g x t → AreTrees g behind k → AreTrees g (before ++ x ∷ behind) (join f (Grown t k))
  together before x behind f t k hf ht hk = AreTrees-join g f (Grown t k) before (x ∷ behind) hf (ht, hk)

  pub first_forest : (xs : List Symbol) (b : ℕ) → All (IsProductiveSymbol s) xs → IsFirstAmong s xs b → HasForest g xs (Begins b)
  first_forest xs b live h =
      let live' = subst (λ (l : List Symbol). All (IsProductiveSymbol s) l) h.place live in
      let f = bare_forest h.before h.empties in
      let t = first_tree h.symbol b h.is_first in
      let k = any_forest h.behind (rest (IsProductiveSymbol s) h.before h.symbol h.behind live') in
      let f' = join f.forest (Grown t.tree k.forest) in
      record {
        forest = f';
        are = subst (λ (l : List Symbol). AreTrees g l f') (sym h.place) (together h.before h.symbol h.behind f.forest t.tree k.forest f.are t.is k.are);
        shows = (
          t.shows.0 ++ yields k.forest,
          yields-join f.forest (Grown t.tree k.forest)
              ∙ ap (λ (l : List ℕ). l ++ (yield t.tree ++ yields k.forest)) f.shows
              ∙ ap (λ (l : List ℕ). l ++ yields k.forest) t.shows.1,
        );
      }

  pub last_forest : (xs : List Symbol) (a : ℕ) → All (IsProductiveSymbol s) xs → IsLastAmong s xs a → HasForest g xs (Ends a)
  last_forest xs a live h =
      let live' = subst (λ (l : List Symbol). All (IsProductiveSymbol s) l) h.place live in
      let f = any_forest h.before (front (IsProductiveSymbol s) h.before (h.symbol ∷ h.behind) live') in
      let t = last_tree h.symbol a h.is_last in
      let k = bare_forest h.behind h.empties in
      let f' = join f.forest (Grown t.tree k.forest) in
      record {
        forest = f';
        are = subst (λ (l : List Symbol). AreTrees g l f') (sym h.place) (together h.before h.symbol h.behind f.forest t.tree k.forest f.are t.is k.are);
        shows = (
          yields f.forest ++ t.shows.0,
          yields-join f.forest (Grown t.tree k.forest)
              ∙ ap (λ (l : List ℕ). yields f.forest ++ (yield t.tree ++ l)) k.shows
              ∙ ap (λ (l : List ℕ). yields f.forest ++ l) (append-nil (yield t.tree) ∙ t.shows.1)
              ∙ sym (append_assoc (yields f.forest) t.shows.0 (a ∷ [])),
        );
      }

  pub meeting_forest : (xs : List Symbol) (a b : ℕ) → All (IsProductiveSymbol s) xs → MayMeet s xs a b → HasForest g xs (IsFollowed a b)
  meeting_forest xs a b live h =
      let live' = subst (λ (l : List Symbol). All (IsProductiveSymbol s) l) h.place live in
      let f = any_forest h.before (front (IsProductiveSymbol s) h.before (h.symbol ∷ h.behind) live') in
      let t = last_tree h.symbol a h.is_last in
      let k = first_forest h.behind b (rest (IsProductiveSymbol s) h.before h.symbol h.behind live') h.is_first in
      let f' = join f.forest (Grown t.tree k.forest) in
      record {
        forest = f';
        are = subst (λ (l : List Symbol). AreTrees g l f') (sym h.place) (together h.before h.symbol h.behind f.forest t.tree k.forest f.are t.is k.are);
        shows = (
          yields f.forest ++ t.shows.0,
          k.shows.0,
          yields-join f.forest (Grown t.tree k.forest)
              ∙ ap (λ (l : List ℕ). yields f.forest ++ (l ++ yields k.forest)) t.shows.1
              ∙ ap (λ (l : List ℕ). yields f.forest ++ ((t.shows.0 ++ a ∷ []) ++ l)) k.shows.1
              ∙ ap (λ (l : List ℕ). yields f.forest ++ l) (append_assoc t.shows.0 (a ∷ []) (b ∷ k.shows.0))
              ∙ sym (append_assoc (yields f.forest) t.shows.0 (a ∷ b ∷ k.shows.0)),
        );
      }

  -- a list of trees with this tree at a place
  pub record HasChildAt (xs : List Symbol) (k : ℕ) (t : Tree) : Type 0 where
    pub forest : Forest
    pub are : AreTrees g xs forest
    pub at : slice_get (trees forest) k ≡ Some t

  pub child_at : (xs : List Symbol) (k : ℕ) (x : Symbol) (t : Tree) → All (IsProductiveSymbol s) xs → slice_get xs k ≡ Some x → IsTree g x t → HasChildAt xs k t
  child_at [] k x t live e h = absurd cc
  child_at (y ∷ xs) zero x t live e h =
      let f = any_forest xs (All-tail (IsProductiveSymbol s) y xs live) in
      record { forest = Grown t f.forest; are = (subst (λ (z : Symbol). IsTree g z t) (same_symbol e) h, f.are); at = refl }
    where
      same_symbol : Some y ≡ Some x → x ≡ y
      same_symbol e = cc
  child_at (y ∷ xs) (suc k) x t live e h =
      let u = any_tree y (All-head (IsProductiveSymbol s) y xs live) in
      let f = child_at xs k x t (All-tail (IsProductiveSymbol s) y xs live) e h in
      record { forest = Grown u.tree f.forest; are = (u.is, f.are); at = f.at }
