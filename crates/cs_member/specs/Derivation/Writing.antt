-- What tasks write of a derivation.
use Rattle.std.specs.Prelude.{◌≡◌, ℕ, List, [], ◌∷◌, ◌++◌, Option, None, Some, All, slice_get, slice_index, take, drop, ◌+◌, ◌*◌, ◌^◌, ◌≤◌, ◌<◌, length}
use Rattle.std.specs.Option.{option_to_list}
use Rattle.cs_grammar.specs.declared.symbol.Symbol.{Symbol}
use Rattle.cs_grammar.specs.declared.symbol.Symbol.TheVariants.{Token, Nonterminal}
use Rattle.cs_grammar.specs.Grammar.{Production, PlainGrammar, IsRule}
use Rattle.cs_grammar.specs.Tree.{Tree, Forest, IsTree, AreTrees, code, codes_of, yield, yields}
use Rattle.cs_grammar.specs.Leftmost.{IsYield}
use Rattle.cs_member.specs.declared.tables.item.Item.{Item}
use Rattle.cs_member.specs.declared.chart.chart.Position.{Position}
use Rattle.cs_member.specs.declared.chart.now.Span.{Span}
use Rattle.cs_member.specs.declared.tables.tables.Tables.{Tables}
use Rattle.cs_member.specs.declared.derivation.writing.Task.{Task}
use Rattle.cs_member.specs.declared.derivation.writing.Task.TheVariants.{Rule, Empty, Trees, Tree as TreeOf}
use Rattle.cs_member.specs.Derivation.Back.{IsAt, IsChild}
use Rattle.cs_member.specs.Tables.Tables.{HasEmpty}

-- the tokens between two positions are these
abbrev pub Between : List ℕ → ℕ → ℕ → List ℕ → Type 0
Between tokens from at these = drop from tokens ≡ these ++ drop at tokens

-- trees of the symbols before the item's place, which yield the tokens between two positions
pub record AreTreesTo (g : PlainGrammar) (tokens : List ℕ) (x : Item) (from at : ℕ) (f : Forest) : Type 0 where
  pub rule : Production
  pub number : IsRule g x.rule rule
  pub are : AreTrees g (take x.place rule.right) f
  pub between : Between tokens from at (yields f)

-- a tree of the nonterminal, which yields the tokens between two positions
abbrev pub IsTreeTo : PlainGrammar → List ℕ → ℕ → ℕ → ℕ → Tree → Type 0
IsTreeTo g tokens a from at t = IsTree g (Nonterminal a) t × Between tokens from at (yield t)

-- the rule numbers are a way to do the task
abbrev pub Writes : PlainGrammar → List ℕ → List Position → Task → List ℕ → Type 0
Writes g tokens chart (Rule r) rules = rules ≡ r ∷ []
Writes g tokens chart (Empty a) rules = (t : Tree) × IsTree g (Nonterminal a) t × (yield t ≡ []) × (rules ≡ code t)
Writes g tokens chart (Trees x from at) rules = (f : Forest) × AreTreesTo g tokens x from at f × (rules ≡ x.rule ∷ codes_of f)
Writes g tokens chart (TreeOf n at) rules =
    (p : Position) × (s : Span) × (t : Tree) × (slice_get chart at ≡ Some p) × (slice_get p.spans.items n ≡ Some s)
    × IsTreeTo g tokens s.nonterminal s.from at t × (rules ≡ code t)

-- and to do the tasks, one after another
abbrev pub WritesAll : PlainGrammar → List ℕ → List Position → List Task → List ℕ → Type 0
WritesAll g tokens chart [] rules = rules ≡ []
WritesAll g tokens chart (task ∷ tasks) rules =
    (a : List ℕ) × (b : List ℕ) × Writes g tokens chart task a × WritesAll g tokens chart tasks b × (rules ≡ a ++ b)

-- what the task speaks of is there
abbrev pub IsTask : PlainGrammar → Tables → List Position → Task → Type 0
IsTask g tables chart (Rule r) = Unit {0}
IsTask g tables chart (Empty a) = HasEmpty tables.empties.items (Nonterminal a)
IsTask g tables chart (Trees x from at) = IsAt g chart x from at
IsTask g tables chart (TreeOf n at) = IsChild chart at (Some n)

-- tasks for the empty trees of symbols
abbrev pub empty_tasks : List Symbol → List Task
empty_tasks [] = []
empty_tasks (Token t ∷ xs) = empty_tasks xs
empty_tasks (Nonterminal a ∷ xs) = Empty a ∷ empty_tasks xs

-- what a task leaves has lower ranks: earlier positions, spans that were found before, earlier rounds
abbrev pub rank_of : List ℕ → Task → ℕ
rank_of rounds (Rule r) = 0
rank_of rounds (Empty a) = 1 + slice_index rounds a
rank_of rounds (Trees x from at) = 2000 + at * 2 ^ 66 + 2 ^ 65
rank_of rounds (TreeOf n at) = 2000 + at * 2 ^ 66 + n

-- other tasks are left in place of this one, few and of ranks below a limit, and what is written behind what they write
pub record IsTakenBelow (g : PlainGrammar) (tokens : List ℕ) (tables : Tables) (chart : List Position) (limit : ℕ) (task : Task) (written : Option ℕ) (old new : List Task) : Type 0 where
  pub more : List Task
  pub grown : new ≡ old ++ more
  pub few : length more ≤ 130
  pub lower : All (λ t. rank_of tables.rounds.items t < limit) more
  pub tasks : All (IsTask g tables chart) more
  pub writes : (rules : List ℕ) → WritesAll g tokens chart more rules → Writes g tokens chart task (rules ++ option_to_list written)

-- the same, with ranks below the task's
abbrev pub IsTaken : PlainGrammar → List ℕ → Tables → List Position → Task → Option ℕ → List Task → List Task → Type 0
IsTaken g tokens tables chart task written old new = IsTakenBelow g tokens tables chart (rank_of tables.rounds.items task) task written old new

-- the limit is above the ranks of what stands at earlier positions, and of the child up to this one
pub record IsAbove (at : ℕ) (child : Option ℕ) (limit : ℕ) : Type 0 where
  pub positions : 2000 + at * 2 ^ 66 ≤ limit
  pub children : (m : ℕ) → child ≡ Some m → 2000 + at * 2 ^ 66 + m < limit

-- tasks for a child
abbrev pub child_tasks : ℕ → Option ℕ → List Task
child_tasks at None = []
child_tasks at (Some n) = TreeOf n at ∷ []

-- the rule of the item is left, and the empty trees of the symbols before its place
pub record LeavesFront (g : PlainGrammar) (x : Item) (old new : List Task) : Type 0 where
  pub rule : Production
  pub number : IsRule g x.rule rule
  pub grown : new ≡ old ++ Rule x.rule ∷ empty_tasks (take x.place rule.right)

-- a task whose rule numbers derive the whole list
pub record IsWhole (g : PlainGrammar) (tokens : List ℕ) (tables : Tables) (chart : List Position) (task : Task) : Type 0 where
  pub there : IsTask g tables chart task
  pub yields : (rules : List ℕ) → Writes g tokens chart task rules → IsYield g rules tokens
