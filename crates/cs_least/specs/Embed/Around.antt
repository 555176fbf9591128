-- A nonterminal's contexts, and the chosen one as two lists of rule numbers.
use Rattle.std.specs.Prelude.{◌≡◌, ℕ, ◌+◌, ◌≤◌, List, ◌++◌}
use Rattle.cs_grammar.specs.declared.symbol.Symbol.TheVariants.{Nonterminal}
use Rattle.cs_grammar.specs.Grammar.{PlainGrammar}
use Rattle.cs_grammar.specs.Laws.{AtLeastOne}
use Rattle.cs_grammar.specs.declared.symbol.Symbol.{Symbol}
use Rattle.cs_grammar.specs.Weights.{Measure, Weighed}
use Rattle.cs_grammar.specs.Tree.{Tree, IsTree, size, code}
use Rattle.cs_grammar.specs.Context.{Context, IsContext, context_size, code_before, code_after}
use Rattle.cs_least.specs.declared.cost.cost.Cost.{Cost}
use Rattle.cs_least.specs.declared.cost.cost.Cost.TheVariants.{Least}
use Rattle.cs_least.specs.declared.embed.context.Context.{Context as Written}
use Rattle.cs_least.specs.Cost.Least.{IsLeast, IsCost}
use Rattle.cs_least.specs.Embed.ChosenContext.{IsChosenContext}

-- the kind of a nonterminal's contexts
abbrev pub IsContextOf : PlainGrammar → ℕ → Context → Type 0
IsContextOf g n c = IsContext g (Nonterminal n) c

-- the least of them is within the limit
abbrev pub HasLeastContext : Measure → PlainGrammar → ℕ → Type 0
HasLeastContext w g n = (m : ℕ) × IsCost w.limit (IsContextOf g n) (context_size w) (Least m)

-- what the least of them costs
abbrev pub IsContextCost : Weighed → ℕ → Cost → Type 0
IsContextCost v n cost = IsCost v.weights.limit (IsContextOf v.grammar n) (context_size v.weights) cost

-- the lists are the rule numbers of the chosen context, before its hole and behind it
pub record IsAround (w : Measure) (g : PlainGrammar) (n : ℕ) (before after : List ℕ) : Type 0 where
  pub context : Context
  pub chosen : IsChosenContext w g (Nonterminal n) context
  pub before_hole : before ≡ code_before context
  pub behind_hole : after ≡ code_after context

-- The tree's code between the lists is the code of a tree of the start symbol, whose size is the tree's and that of a least
-- context of n.
pub record Fills (w : Measure) (g : PlainGrammar) (n : ℕ) (before after : List ℕ) (t : Tree) : Type 0 where
  pub whole : Tree
  pub is_tree : IsTree g (Nonterminal g.start) whole
  pub text : code whole ≡ before ++ code t ++ after
  pub around : ℕ
  pub least : IsLeast (IsContextOf g n) (context_size w) around
  pub measure : size w whole ≡ around + size w t

-- the written context is the chosen one of the nonterminal
abbrev pub IsChosenAround : Weighed → ℕ → Written → Type 0
IsChosenAround v n context = IsAround v.weights v.grammar n context.before.items context.after.items

-- it fills up each tree of the nonterminal
abbrev pub FillsEach : Weighed → ℕ → Written → Type 0
FillsEach v n context =
    (t : Tree) → IsTree v.grammar (Nonterminal n) t → Fills v.weights v.grammar n context.before.items context.after.items t

-- the nonterminal has a context, and has a chosen one
abbrev pub HasContext : PlainGrammar → ℕ → Type 0
HasContext g n = AtLeastOne (IsContextOf g n)

abbrev pub HasChosenFor : Measure → PlainGrammar → ℕ → Type 0
HasChosenFor w g n = AtLeastOne (IsChosenContext w g (Nonterminal n))

-- a context of b, and no context of b is smaller
pub record IsLeastContext (w : Measure) (g : PlainGrammar) (b : Symbol) (d : Context) : Type 0 where
  pub is_context : IsContext g b d
  pub least : (c : Context) → IsContext g b c → context_size w d ≤ context_size w c

abbrev pub ChosenContextIsLeast : Measure → PlainGrammar → Symbol → Type 0
ChosenContextIsLeast w g b = (d : Context) → IsChosenContext w g b d → IsLeastContext w g b d
