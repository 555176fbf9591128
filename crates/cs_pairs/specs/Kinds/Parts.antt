-- Parts of a code that is still to be written: kinds and symbols whose chosen trees follow.
use Rattle.std.specs.Prelude.{◌≡◌, ℕ, ◌+◌, ◌<◌, ◌≤◌, List, [], ◌∷◌, ◌++◌, reverse, All, nat_lt, nat_eq, if◌then◌else◌}
use Rattle.cs_grammar.specs.declared.symbol.Symbol.{Symbol}
use Rattle.cs_grammar.specs.declared.symbol.Symbol.TheVariants.{Token, Nonterminal}
use Rattle.cs_grammar.specs.Grammar.{Production, PlainGrammar, IsRule, IsSymbol}
use Rattle.cs_grammar.specs.Weights.{Measure}
use Rattle.cs_grammar.specs.Tree.{Tree, Node, Forest, Bare, Grown, size, sizes, code, codes_of}
use Rattle.cs_pairs.specs.declared.kinds.kind.TreeKind.{TreeKind}
use Rattle.cs_pairs.specs.declared.kinds.writing.Part.{Part}
use Rattle.cs_pairs.specs.Kinds.Kinds.{IsTreeOfKind, AreTreesOfKind, before, behind, IsKind}
use Rattle.cs_pairs.specs.Kinds.ChosenKind.{IsChosenOfKind}

-- the kind of the tree at an index of a list that is of kind k, where the tree at a place is of the kind itself
abbrev pub kind_at : TreeKind → ℕ → ℕ → TreeKind
kind_at k place i = if nat_lt i place then before k else (if nat_eq i place then k else behind k)

-- the parts of such a list, where the first has this index
abbrev pub parts_from : TreeKind → ℕ → ℕ → List Symbol → List Part
parts_from k place i [] = []
parts_from k place i (x ∷ xs) = record { kind = kind_at k place i; symbol = x } ∷ parts_from k place (i + 1) xs

-- a part in front of others, where its symbol is a nonterminal
abbrev pub in_front : Symbol → Part → List Part → List Part
in_front (Token t) part parts = parts
in_front (Nonterminal n) part parts = part ∷ parts

-- the parts that aren't tokens: a leaf has no code
abbrev pub inner : List Part → List Part
inner [] = []
inner (part ∷ parts) = in_front part.symbol part (inner parts)

-- the trees are the chosen ones of the parts
abbrev pub AreChosenParts : Measure → PlainGrammar → List Part → Forest → Type 0
AreChosenParts w g [] Bare = Unit {0}
AreChosenParts w g (part ∷ parts) (Grown t f) = IsChosenOfKind w g part.kind part.symbol t × AreChosenParts w g parts f
AreChosenParts w g [] (Grown t f) = ⊥
AreChosenParts w g (part ∷ parts) Bare = ⊥

-- a part of a grammar
abbrev pub IsPartOf : PlainGrammar → Part → Type 0
IsPartOf g part = IsKind g.tokens part.kind × IsSymbol g.tokens g.nonterminals part.symbol

-- some tree of x that is of the kind is within the limit
abbrev pub HasSmallOfKind : Measure → PlainGrammar → TreeKind → Symbol → Type 0
HasSmallOfKind w g k x = (t : Tree) × IsTreeOfKind g k x t × (size w t ≤ w.limit)

-- some trees of these symbols that are of the kind are within the limit together
abbrev pub HaveSmallOfKind : Measure → PlainGrammar → TreeKind → List Symbol → Type 0
HaveSmallOfKind w g k xs = (f : Forest) × AreTreesOfKind g k xs f × (sizes w f ≤ w.limit)

-- the rule at the root of the chosen tree of a kind and a nonterminal
pub record IsRootOf (w : Measure) (g : PlainGrammar) (k : TreeKind) (left r : ℕ) : Type 0 where
  pub rule : Production
  pub number : IsRule g r rule
  pub of_left : rule.left ≡ left
  pub root : (q : ℕ) → (f : Forest) → IsChosenOfKind w g k (Nonterminal left) (Node q f) → q ≡ r

-- A part is taken on: with its chosen tree and those of the parts behind it, what is written then and what is pending then make
-- the same code, and less is pending.
pub record TakesOn (w : Measure) (g : PlainGrammar) (part : Part) (pending_old pending_new : List Part) (old new : List ℕ) : Type 0 where
  pub fits : All (IsPartOf g) (reverse pending_old) → All (IsPartOf g) (reverse pending_new)
  pub rest : (t : Tree) → (f : Forest) → IsChosenOfKind w g part.kind part.symbol t → size w t ≤ w.limit → AreChosenParts w g (reverse pending_old) f → (h : Forest) × AreChosenParts w g (reverse pending_new) h × (sizes w h < size w t + sizes w f) × (new ++ codes_of h ≡ old ++ (code t ++ codes_of f))
