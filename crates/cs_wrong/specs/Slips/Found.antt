-- What is told of the list of a slip. Working words of proofs.
use Rattle.std.specs.Prelude.{ℕ, All, List, [], ◌++◌, map}
use Rattle.cs_grammar.specs.Grammar.{IsNumberOf, IsRule, PlainGrammar, Production}
use Rattle.cs_grammar.specs.Leftmost.{Derives, form, from_start}
use Rattle.cs_grammar.specs.Weights.{Weighed}
use Rattle.cs_grammar.specs.declared.symbol.Symbol.{Symbol}
use Rattle.cs_grammar.specs.declared.symbol.Symbol.TheVariants as symbols
use Rattle.cs_least.specs.declared.cost.cost.Cost.TheVariants as costs
use Rattle.cs_wrong.specs.Slips.Lists.{HasLarge, HasNone, IsListOf, IsPlacedCost, IsPlacedList}
use Rattle.cs_wrong.specs.Slips.Slips.{IsChangeOf}
use Rattle.cs_wrong.specs.declared.slips.lists.SlipList.{SlipList}
use Rattle.cs_wrong.specs.declared.slips.lists.SlipList.TheVariants.{Nothing, Large, Tokens}
use Rattle.cs_wrong.specs.declared.slips.slip.Slip.{Slip}
use Rattle.cs_wrong.specs.declared.slips.slip.Slip.TheVariants.{Empty, Of}

-- the slip is of a rule of the grammar, of whichever kinds
abbrev pub IsFitting : PlainGrammar → Slip → Type 0
IsFitting g Empty = Unit {0}
IsFitting g (Of r change) = (p : Production) × IsRule g r p × IsChangeOf p.right change

-- what the slip has
abbrev pub TellsList : Weighed → Slip → SlipList → Type 0
TellsList v slip Nothing = HasNone v slip
TellsList v slip Large = HasLarge v slip
TellsList v slip (Tokens list) = IsListOf v slip list.items

-- what the rule has with these symbols as its right side
abbrev pub TellsRule : Weighed → ℕ → List Symbol → SlipList → Type 0
TellsRule v r symbols Nothing = (p : Production) × IsRule v.grammar r p × IsPlacedCost v p.left symbols costs.Never
TellsRule v r symbols Large = (p : Production) × IsRule v.grammar r p × IsPlacedCost v p.left symbols costs.Large
TellsRule v r symbols (Tokens list) = (p : Production) × IsRule v.grammar r p × IsPlacedList v r p.left symbols list.items

-- the tokens of what is told are the grammar's
abbrev pub tokens_in : SlipList → List ℕ
tokens_in Nothing = []
tokens_in Large = []
tokens_in (Tokens list) = list.items

abbrev pub AreTokensOf : PlainGrammar → SlipList → Type 0
AreTokensOf g list = All (IsNumberOf g.tokens) (tokens_in list)

-- the least context with least trees is within the limit
abbrev pub HasLeastPlaced : Weighed → ℕ → List Symbol → Type 0
HasLeastPlaced v left symbols = (n : ℕ) × IsPlacedCost v left symbols (costs.Least n)

-- the tokens of the chosen context and of the chosen trees, whichever rule has the node
abbrev pub ArePlacedTokens : Weighed → ℕ → List Symbol → List ℕ → Type 0
ArePlacedTokens v left symbols list = (r : ℕ) → IsPlacedList v r left symbols list

-- The rules before a hole lead to it, and those behind lead from the symbols that stand in it to the tokens.
pub record Fills (g : PlainGrammar) (before : List ℕ) (inside : List Symbol) (rules tokens : List ℕ) : Type 0 where
  pub done : List ℕ
  pub left : ℕ
  pub rest : List Symbol
  pub to_hole : Derives g (from_start g) before (form done left rest)
  pub to_end : Derives g (map symbols.Token done ++ (inside ++ rest)) rules (map symbols.Token tokens)

-- they lead to some tokens
abbrev pub CanFill : PlainGrammar → List ℕ → List Symbol → List ℕ → Type 0
CanFill g before inside rules = (tokens : List ℕ) × Fills g before inside rules tokens
