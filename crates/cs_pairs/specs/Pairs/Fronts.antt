-- What stands before the places of a rule.
use Rattle.std.specs.Prelude.{◌≡◌, ℕ, ◌+◌, ◌-◌, List, length, take, drop}
use Rattle.cs_grammar.specs.declared.symbol.Symbol.{Symbol}
use Rattle.cs_grammar.specs.declared.symbol.Symbol.TheVariants.{Nonterminal}
use Rattle.cs_grammar.specs.Grammar.{Production, PlainGrammar, IsRule}
use Rattle.cs_grammar.specs.Weights.{Measure, Weighed}
use Rattle.cs_grammar.specs.Tree.{Forest, AreTrees, sizes}
use Rattle.cs_grammar.specs.Context.{Context, IsContext, context_size}
use Rattle.cs_least.specs.declared.cost.cost.Cost.{Cost}
use Rattle.cs_pairs.specs.declared.kinds.kind.TreeKind.TheVariants.{Any}
use Rattle.cs_pairs.specs.Kinds.Kinds.{AreTreesOfKind}
use Rattle.cs_pairs.specs.Kinds.Filled.{IsFilled}
use Rattle.cs_pairs.specs.Kinds.Tables.{row_in}
use Rattle.cs_pairs.specs.declared.pairs.fronts.Around.{Around}

-- a context of a rule's left side, and trees of the symbols before a place of its right side
abbrev pub AreFront : PlainGrammar → ℕ → List Symbol → Context × Forest → Type 0
AreFront g left xs p = IsContext g (Nonterminal left) p.0 × AreTrees g xs p.1

-- the rule's node is counted with them
abbrev pub front_size : Measure → Context × Forest → ℕ
front_size w p = 1 + (context_size w p.0 + sizes w p.1)

-- what stands before each place of the rule costs; the first place has number 1
abbrev pub AreFronts : Measure → PlainGrammar → Production → List Cost → Type 0
AreFronts w g p row = IsFilled w.limit (λ n. AreFront g p.left (take (n - 1) p.right)) (front_size w) (length p.right) row

-- what any trees of the symbols behind each place of the rule cost; the first place has number 1
abbrev pub AreBehinds : Measure → PlainGrammar → Production → List Cost → Type 0
AreBehinds w g p row = IsFilled w.limit (λ n. AreTreesOfKind g Any (drop n p.right)) (sizes w) (length p.right) row

-- both of a grammar and its weights
abbrev pub AreFrontsIn : Weighed → Production → List Cost → Type 0
AreFrontsIn v p row = AreFronts v.weights v.grammar p row

abbrev pub AreBehindsIn : Weighed → Production → List Cost → Type 0
AreBehindsIn v p row = AreBehinds v.weights v.grammar p row

-- such rows for the rule of this number
abbrev pub IsRowOf : (Production → List Cost → Type 0) → PlainGrammar → ℕ → List Cost → Type 0
IsRowOf Are g r row = (p : Production) → IsRule g r p → Are p row

abbrev pub AreFrontsOf : Measure → PlainGrammar → ℕ → List Cost → Type 0
AreFrontsOf w g r row = IsRowOf (AreFronts w g) g r row

abbrev pub AreBehindsOf : Measure → PlainGrammar → ℕ → List Cost → Type 0
AreBehindsOf w g r row = IsRowOf (AreBehinds w g) g r row

-- such a row for each rule
pub record AreRuleRows (Are : Production → List Cost → Type 0) (g : PlainGrammar) (rows : List (List Cost)) : Type 0 where
  pub many : length rows ≡ length g.rules
  pub each : (r : ℕ) (p : Production) → IsRule g r p → Are p (row_in rows r)

-- the fronts of all rules, and what is behind their places
pub record IsAround (v : Weighed) (around : Around) : Type 0 where
  pub fronts : AreRuleRows (AreFronts v.weights v.grammar) v.grammar around.fronts.items
  pub behinds : AreRuleRows (AreBehinds v.weights v.grammar) v.grammar around.behinds.items
