-- The chosen tree of a pair of marks.
use Rattle.std.specs.Prelude.{◌≡◌, ℕ, ◌≤◌, List, ◌∷◌, ◌++◌}
use Rattle.cs_grammar.specs.declared.symbol.Mark.{Mark}
use Rattle.cs_grammar.specs.declared.symbol.Mark.TheVariants.{Begin, Token, End}
use Rattle.cs_grammar.specs.declared.symbol.Symbol.{Symbol}
use Rattle.cs_grammar.specs.declared.symbol.Symbol.TheVariants.{Nonterminal}
use Rattle.cs_grammar.specs.Grammar.{Production, PlainGrammar, IsRule}
use Rattle.cs_grammar.specs.Places.{IsAtMost}
use Rattle.cs_grammar.specs.Weights.{Measure}
use Rattle.cs_grammar.specs.Tree.{Tree, Forest, size, code}
use Rattle.cs_grammar.specs.Context.{Context, Under, plug}
use Rattle.cs_least.specs.declared.cost.cost.Cost.TheVariants.{Least}
use Rattle.cs_least.specs.Cost.Least.{IsCost}
use Rattle.cs_least.specs.Cost.Chosen.{AreChosen}
use Rattle.cs_least.specs.Embed.ChosenContext.{count, IsChosenContext}
use Rattle.cs_pairs.specs.declared.kinds.kind.TreeKind.{TreeKind}
use Rattle.cs_pairs.specs.declared.kinds.kind.TreeKind.TheVariants.{Empty, Begins, Ends}
use Rattle.cs_pairs.specs.Kinds.ChosenKind.{IsChosenOfKind, AreChosenOfKind}
use Rattle.cs_pairs.specs.declared.pairs.meeting.Meeting.{Meeting}
use Rattle.cs_pairs.specs.Pairs.Beside.{IsSeam, seam_size}
use Rattle.cs_pairs.specs.Pairs.Pairs.{HasPair}

-- No seam of these two tokens is smaller than so much. Of those of that size none has a lower rule around its hole than that of
-- the meeting, or the same rule and its hole at a lower place.
pub record IsFirstSeam (w : Measure) (g : PlainGrammar) (a b : ℕ) (at : Meeting) (least_size : ℕ) : Type 0 where
  pub least : (x : Symbol) → (s : Context × Tree) → IsSeam g a b x s → least_size ≤ seam_size w s
  pub lowest : (x : Symbol) → (outer : Context) → (q : ℕ) → (left right : Forest) → (u : Tree) → IsSeam g a b x (Under outer q left right, u) → seam_size w (Under outer q left right, u) ≡ least_size → IsAtMost at.rule at.place q (count left)

-- The chosen tree of two tokens: a least one, where the rule of the node at which they meet is the lowest, and then the place of
-- the child that ends with the first; this child is chosen to end with it, those behind it are chosen to begin with the second,
-- those before it are chosen trees, and the node stands in the chosen context of its rule's left side.
--
-- Of the rules 1 `e : e '*' f`, 2 `e : f`, 3 `f : NUMBER`, 4 `f : '(' e ')'` the tokens `*` and `(` have the chosen tree of
-- `NUMBER * ( NUMBER )`. They meet at the node of rule 1, and the place is 1, that of the leaf `*`.
--
--        e                    the node of rule 1: its outer context is a bare hole
--      / | \
--     e  *  f                 left: the tree of `e`; last: the leaf `*`; right: the tree of `f`
--     |    /|\
--     f   ( e )
--     |     |
--   NUMBER  f
--           |
--         NUMBER
pub record IsChosenSeam (w : Measure) (g : PlainGrammar) (a b : ℕ) (t : Tree) : Type 0 where
  pub number : ℕ
  pub rule : Production
  pub is_rule : IsRule g number rule
  pub before : List Symbol
  pub symbol : Symbol
  pub behind : List Symbol
  pub right_side : rule.right ≡ before ++ symbol ∷ behind
  pub outer : Context
  pub left : Forest
  pub last : Tree
  pub right : Forest
  pub around : IsChosenContext w g (Nonterminal rule.left) outer
  pub left_chosen : AreChosen w g before left
  pub last_chosen : IsChosenOfKind w g (Ends a) symbol last
  pub right_chosen : AreChosenOfKind w g (Begins b) behind right
  pub first : IsFirstSeam w g a b (record { rule = number; place = count left }) (size w t)
  pub whole : t ≡ plug (Under outer number left right) last

-- A pair with a mark has the start symbol's chosen tree of the kind: that begins with the token, ends with it, is empty.
abbrev pub IsChosenPair : Measure → PlainGrammar → Mark → Mark → Tree → Type 0
IsChosenPair w g Begin (Token b) t = IsChosenOfKind w g (Begins b) (Nonterminal g.start) t
IsChosenPair w g Begin End t = IsChosenOfKind w g Empty (Nonterminal g.start) t
IsChosenPair w g (Token a) (Token b) t = IsChosenSeam w g a b t
IsChosenPair w g (Token a) End t = IsChosenOfKind w g (Ends a) (Nonterminal g.start) t
IsChosenPair w g Begin Begin t = ⊥
IsChosenPair w g (Token a) Begin t = ⊥
IsChosenPair w g End b t = ⊥

-- the least tree with the pair is within the limit
abbrev pub HasLeastPair : Measure → PlainGrammar → Mark → Mark → Type 0
HasLeastPair w g a b = (n : ℕ) × IsCost w.limit (HasPair g a b) (size w) (Least n)

-- the code of the chosen tree of the pair
abbrev pub IsCodeOfPair : Measure → PlainGrammar → Mark → Mark → List ℕ → Type 0
IsCodeOfPair w g a b rules = (t : Tree) × IsChosenPair w g a b t × (rules ≡ code t)

-- the code of the chosen tree of a kind and a symbol
abbrev pub IsCodeOfKind : Measure → PlainGrammar → TreeKind → Symbol → List ℕ → Type 0
IsCodeOfKind w g k x rules = (t : Tree) × IsChosenOfKind w g k x t × (rules ≡ code t)

-- the chosen tree of two tokens is within the limit, and they meet in it at this rule and place
pub record IsChosenMeeting (w : Measure) (g : PlainGrammar) (a b r k : ℕ) : Type 0 where
  pub tree : Tree
  pub chosen : IsChosenSeam w g a b tree
  pub at_rule : chosen.number ≡ r
  pub at_place : count chosen.left ≡ k
  pub small : size w tree ≤ w.limit
