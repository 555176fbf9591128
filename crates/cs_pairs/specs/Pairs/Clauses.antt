-- What the contracts of parts say, of a grammar and its weights. They are the other modules' facts, with what the parts hold.
use Rattle.std.specs.Prelude.{ℕ, List}
use Rattle.cs_grammar.specs.declared.symbol.Symbol.TheVariants.{Nonterminal}
use Rattle.cs_grammar.specs.declared.symbol.Mark.{Mark}
use Rattle.cs_grammar.specs.declared.symbol.Mark.TheVariants.{Token}
use Rattle.cs_grammar.specs.Weights.{Weighed}
use Rattle.cs_grammar.specs.Tree.{size}
use Rattle.cs_least.specs.declared.cost.cost.Cost.{Cost}
use Rattle.cs_least.specs.Cost.Least.{IsCost}
use Rattle.cs_pairs.specs.declared.kinds.kind.TreeKind.{TreeKind}
use Rattle.cs_pairs.specs.Kinds.Parts.{HasSmallOfKind}
use Rattle.cs_pairs.specs.Kinds.KindCost.{IsKindCost}
use Rattle.cs_pairs.specs.declared.pairs.meeting.TokenPair.{TokenPair}
use Rattle.cs_pairs.specs.declared.pairs.meeting.Meeting.{Meeting}
use Rattle.cs_pairs.specs.Pairs.Pairs.{HasPair}
use Rattle.cs_pairs.specs.Pairs.ChosenPair.{HasLeastPair, IsChosenMeeting, IsCodeOfKind, IsCodeOfPair}

-- what the least tree with a pair costs
abbrev pub IsPairCost : Weighed → Mark → Mark → Cost → Type 0
IsPairCost v a b cost = IsCost v.weights.limit (HasPair v.grammar a b) (size v.weights) cost

-- two tokens in their chosen tree: where they meet, that it is within the limit, and its code
abbrev pub IsMeetingOf : Weighed → TokenPair → Meeting → Type 0
IsMeetingOf v t at = IsChosenMeeting v.weights v.grammar t.first t.second at.rule at.place

abbrev pub HasLeastOf : Weighed → TokenPair → Type 0
HasLeastOf v t = HasLeastPair v.weights v.grammar (Token t.first) (Token t.second)

abbrev pub IsCodeOfTokens : Weighed → TokenPair → List ℕ → Type 0
IsCodeOfTokens v t codes = IsCodeOfPair v.weights v.grammar (Token t.first) (Token t.second) codes

-- the chosen tree of the start symbol that is of a kind: that it is within the limit, and its code
abbrev pub HasSmallWhole : Weighed → TreeKind → Type 0
HasSmallWhole v k = HasSmallOfKind v.weights v.grammar k (Nonterminal v.grammar.start)

abbrev pub IsCodeOfWhole : Weighed → TreeKind → List ℕ → Type 0
IsCodeOfWhole v k codes = IsCodeOfKind v.weights v.grammar k (Nonterminal v.grammar.start) codes

-- what the least tree of the start symbol costs that is of a kind
abbrev pub IsWholeCost : Weighed → TreeKind → Cost → Type 0
IsWholeCost v k cost = IsKindCost v k (Nonterminal v.grammar.start) cost
