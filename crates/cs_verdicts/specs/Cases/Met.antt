-- The goals that a tree meets, as one list, each of which gets a number where it has none.
use Rattle.std.specs.Prelude.{◌≡◌, ℕ, ◌+◌, List, [], ◌∷◌, ◌++◌, map}
use Rattle.cs_grammar.specs.declared.symbol.Symbol.{Symbol}
use Rattle.cs_grammar.specs.declared.symbol.Symbol.TheVariants as symbol
use Rattle.cs_grammar.specs.declared.symbol.Symbol.TheVariants.{Nonterminal}
use Rattle.cs_grammar.specs.declared.symbol.Mark.{Mark}
use Rattle.cs_grammar.specs.declared.symbol.Mark.TheVariants.{Begin, Token, End}
use Rattle.cs_grammar.specs.Grammar.{PlainGrammar}
use Rattle.cs_grammar.specs.Tree.{Tree, Leaf, Node, Forest, Bare, Grown, IsTree, code}
use Rattle.cs_goals.specs.declared.goal.Goal.{Goal}
use Rattle.cs_goals.specs.declared.goal.Goal.TheVariants.{Rule, Context, Pair}
use Rattle.cs_goals.specs.Goals.{HasExactly}
use Rattle.cs_goals.specs.Meets.{IsMeeting}
use Rattle.cs_verdicts.specs.declared.cases.met.Spot.{Spot}
use Rattle.cs_verdicts.specs.Cases.Table.{AreAllAdded}

-- the pairs of a mark, the tokens behind it and the end mark
abbrev pub pairs_after : Mark → List ℕ → List Goal
pairs_after left [] = Pair left End ∷ []
pairs_after left (t ∷ ts) = Pair left (Token t) ∷ pairs_after (Token t) ts

abbrev pub framed_pairs : List ℕ → List Goal
framed_pairs tokens = pairs_after Begin tokens

-- the context goals of a tree that stands at a place of a rule, and of trees that stand there from this place on
abbrev mutual
  pub contexts_at : ℕ → ℕ → Tree → List Goal
  contexts_at outer place (Leaf t) = []
  contexts_at outer place (Node r f) = Context outer place r ∷ contexts_from r 1 f

  pub contexts_from : ℕ → ℕ → Forest → List Goal
  contexts_from outer place Bare = []
  contexts_from outer place (Grown t f) = contexts_at outer place t ++ contexts_from outer (place + 1) f

-- those of a whole tree
abbrev pub contexts_of : Tree → List Goal
contexts_of (Leaf t) = []
contexts_of (Node r f) = contexts_from r 1 f

-- those of the tree of this code come behind what stood there
pub record AreContexts (g : PlainGrammar) (rules : List ℕ) (old new : List Goal) : Type 0 where
  pub tree : Tree
  pub is_tree : IsTree g (Nonterminal g.start) tree
  pub of_code : rules ≡ code tree
  pub behind : new ≡ old ++ contexts_of tree

-- where the nonterminals of these symbols stand, which begin at a place of a rule
abbrev pub spots_from : ℕ → ℕ → List Symbol → List Spot
spots_from outer place [] = []
spots_from outer place (symbol.Token t ∷ xs) = spots_from outer (place + 1) xs
spots_from outer place (symbol.Nonterminal n ∷ xs) = record { outer = outer; place = place } ∷ spots_from outer (place + 1) xs

-- the first open nonterminal, if there is one, is taken away, and its context with this rule comes behind the goals
abbrev pub TakesFirst : List Spot → List Spot → ℕ → List Goal → List Goal → Type 0
TakesFirst [] spots r old new = (spots ≡ []) × (new ≡ old)
TakesFirst (spot ∷ others) spots r old new = (spots ≡ others) × (new ≡ old ++ Context spot.outer spot.place r ∷ [])

-- the open nonterminals below the first, and its context with this rule
abbrev pub below : List Spot → List Spot
below [] = []
below (spot ∷ others) = others

abbrev pub context_on : List Spot → ℕ → List Goal
context_on [] r = []
context_on (spot ∷ others) r = Context spot.outer spot.place r ∷ []

-- what a node with this rule shows, where these are open before it
abbrev pub goals_on : List Spot → ℕ → List Goal
goals_on spots r = Rule r ∷ context_on spots r

-- ---- what gets a number where it has none

-- the rules and the contexts of the tree of this code
pub record AreInsideAdded (g : PlainGrammar) (rules : List ℕ) (n : ℕ) (old new : List (Goal × ℕ)) : Type 0 where
  pub contexts : List Goal
  pub are : AreContexts g rules [] contexts
  pub added : AreAllAdded old (map Rule rules ++ contexts) n new

-- all goals that the tree of this code meets, and no others
pub record AreMetAdded (g : PlainGrammar) (rules : List ℕ) (n : ℕ) (old new : List (Goal × ℕ)) : Type 0 where
  pub goals : List Goal
  pub are : HasExactly goals (λ goal. IsMeeting g goal rules)
  pub added : AreAllAdded old goals n new
