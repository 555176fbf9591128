-- The closed sets of a grammar: its productive and reachable symbols and its sets of empty, first, last and next symbols (Aho, Lam,
-- Sethi and Ullman 2006, "Compilers"), over all trees, contexts and sentences.
use Rattle.std.specs.Prelude.{◌≡◌, ◌⊎◌, ℕ, List, [], ◌∷◌}
use Rattle.std.specs.List.{AllZip, range_with_len}
use Rattle.cs_grammar.specs.declared.symbol.Mark.{Mark}
use Rattle.cs_grammar.specs.declared.symbol.Mark.TheVariants.{Begin, Token}
use Rattle.cs_grammar.specs.declared.symbol.Symbol.TheVariants.{Nonterminal}
use Rattle.cs_grammar.specs.Grammar.{PlainGrammar}
use Rattle.cs_least.specs.Cost.Chosen as chosen
pub use Rattle.cs_least.specs.Embed.Around.{HasContext}
use Rattle.cs_goals.specs.Goals.{right_marks}
pub use Rattle.cs_pairs.specs.Pairs.Closed.{IsFirstOf, IsLastOf, YieldsNothing}
pub use Rattle.cs_pairs.specs.Pairs.Pairs.{IsAdjacent}

-- The lists of such sets, in the order of numbers; lists of lists have one for each nonterminal, or for each token.
pub record ClosedSets : Type 0 where
  pub productive : List ℕ
  pub reachable : List ℕ
  pub empty : List ℕ
  pub first : List (List ℕ)
  pub last : List (List ℕ)
  pub begin : List Mark
  pub next : List (List Mark)

-- the nonterminal has a tree
abbrev pub HasTree : PlainGrammar → ℕ → Type 0
HasTree g n = chosen.HasTree g (Nonterminal n)

-- those of a list that are so, in order
abbrev pub AreThose : {A : Type 0} → (A → Type 0) → List A → List A → Type 0
AreThose IsSo [] those = those ≡ []
AreThose {A} IsSo (x ∷ xs) those =
    (IsSo x × ((rest : List A) × (those ≡ x ∷ rest) × AreThose IsSo xs rest)) ⊎ ((IsSo x → ⊥) × AreThose IsSo xs those)

-- the numbers from 1 to the last
abbrev pub numbers : ℕ → List ℕ
numbers last = range_with_len 1 last

-- for each nonterminal the tokens that stand so in its yields
abbrev pub AreEdges : PlainGrammar → (ℕ → ℕ → Type 0) → List (List ℕ) → Type 0
AreEdges g IsEdge sets = AllZip (λ n. AreThose (IsEdge n) (numbers g.tokens)) (numbers g.nonterminals) sets

-- the marks that are adjacent behind a mark
abbrev pub AreNext : PlainGrammar → Mark → List Mark → Type 0
AreNext g mark marks = AreThose (IsAdjacent g mark) (right_marks g.tokens) marks

-- the closed sets of the grammar
pub record AreClosedSets (g : PlainGrammar) (c : ClosedSets) : Type 0 where
  pub productive : AreThose (HasTree g) (numbers g.nonterminals) c.productive
  pub reachable : AreThose (HasContext g) (numbers g.nonterminals) c.reachable
  pub empty : AreThose (YieldsNothing g) (numbers g.nonterminals) c.empty
  pub first : AreEdges g (IsFirstOf g) c.first
  pub last : AreEdges g (IsLastOf g) c.last
  pub begin : AreNext g Begin c.begin
  pub next : AllZip (λ t. AreNext g (Token t)) (numbers g.tokens) c.next
