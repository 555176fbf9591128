-- Where a token may directly follow a child: the rule and place of the child, and what stands around it.
use Rattle.std.specs.Prelude.{◌≡◌, ℕ, ◌+◌, ◌*◌, ◌≤◌, List, length, reverse}
use Rattle.cs_grammar.specs.declared.symbol.Symbol.{Symbol}
use Rattle.cs_grammar.specs.Grammar.{PlainGrammar}
use Rattle.cs_grammar.specs.Places.{IsAtMost, SymbolAt}
use Rattle.cs_grammar.specs.Weights.{Measure, Weighed}
use Rattle.cs_grammar.specs.Tree.{Forest, sizes}
use Rattle.cs_grammar.specs.Context.{Context}
use Rattle.cs_least.specs.declared.cost.cost.Cost.{Cost}
use Rattle.cs_least.specs.Cost.Least.{IsCost}
use Rattle.cs_least.specs.Cost.Rank.{rank}
use Rattle.cs_least.specs.declared.ways.step.Source.{Source}
use Rattle.cs_least.specs.Ways.Placed.{ArePlaced}
use Rattle.cs_pairs.specs.declared.kinds.kind.TreeKind.TheVariants.{Begins}
use Rattle.cs_pairs.specs.Kinds.Kinds.{AreTreesOfKind}
use Rattle.cs_pairs.specs.Kinds.Numbers.{symbol_number}
use Rattle.cs_pairs.specs.declared.pairs.meeting.Meeting.{Meeting}
use Rattle.cs_pairs.specs.declared.pairs.sources.Sources.{Sources}
use Rattle.cs_pairs.specs.Pairs.Fronts.{AreFront, front_size}

-- what stands around a child that b directly follows: a context of its rule's left side, trees of the symbols before it, and trees
-- of those behind it that begin with b; the node is counted with them
abbrev pub AreRound : PlainGrammar → ℕ → ℕ → List Symbol → List Symbol → (Context × Forest) × Forest → Type 0
AreRound g b left xs ys q = AreFront g left xs q.0 × AreTreesOfKind g (Begins b) ys q.1

abbrev pub round_size : Measure → (Context × Forest) × Forest → ℕ
round_size w q = front_size w q.0 + sizes w q.1

-- the source is the symbol at this place of a rule, and costs what stands around it
pub record IsSourceAt (w : Measure) (g : PlainGrammar) (b : ℕ) (a : Meeting) (s : Source) : Type 0 where
  pub here : SymbolAt g a.rule a.place
  pub node : s.node ≡ symbol_number g.tokens here.symbol
  pub others : Cost
  pub is_others : IsCost w.limit (AreRound g b here.production.left here.before here.behind) (round_size w) others
  pub cost : s.cost ≡ rank w.limit others
  pub low : rank w.limit others ≤ w.limit + 1

-- something can stand around the symbol at this place of a rule
pub record HasRound (g : PlainGrammar) (b r k : ℕ) : Type 0 where
  pub here : SymbolAt g r k
  pub round : (Context × Forest) × Forest
  pub are : AreRound g b here.production.left here.before here.behind round

abbrev pub at_rule : Meeting → ℕ
at_rule a = a.rule

abbrev pub at_place : Meeting → ℕ
at_place a = a.place

-- the lists have, in order, the places and the sources from a place of a rule on, but those around which nothing can stand
pub record AreSourcesFrom (w : Measure) (g : PlainGrammar) (b q j : ℕ) (places : List Meeting) (sources : List Source) : Type 0 where
  pub few : length sources + (128 * q + j) ≤ 128 * (length g.rules + 1)
  pub placed : ArePlaced at_rule at_place (IsSourceAt w g b) (HasRound g b) (λ r k. IsAtMost q j r k) places sources

-- while they are made, in reverse
abbrev pub AreSourcesBack : Weighed → ℕ → ℕ → Sources → Type 0
AreSourcesBack v b q s = AreSourcesFrom v.weights v.grammar b q 0 (reverse s.places.items) (reverse s.list.items)

-- all of a grammar
abbrev pub AreAllSources : Weighed → ℕ → Sources → Type 0
AreAllSources v b s = AreSourcesFrom v.weights v.grammar b 1 0 s.places.items s.list.items
