-- What is left of the list of chains, and how one more is taken from it. Working words of proofs.
use Rattle.std.specs.Prelude.{◌≡◌, ℕ, ◌+◌, ◌<◌, List, [], ◌∷◌, ◌++◌, Option, None, Some, MatchOption, length, drop}
use Rattle.std.specs.List.{flat_map, enumerate_from}
use Rattle.cs_grammar.specs.Grammar.{PlainGrammar, IsRule}
use Rattle.cs_goals.specs.declared.goal.Goal.{Goal}
use Rattle.cs_goals.specs.Rest.{places_left}
use Rattle.cs_chain.specs.declared.chains.chain.Chain.{Chain}
use Rattle.cs_chain.specs.declared.chains.chains.Open.{Open}
use Rattle.cs_chain.specs.Chains.Chains.{chained, chains_from}

-- the rule is that of its number
abbrev pub IsOpen : PlainGrammar → Open → Type 0
IsOpen g o = IsRule g o.middle o.rule.now

-- what is open is, and something is open as long as context goals are left
abbrev pub IsKept : PlainGrammar → Option Open → List Goal → Type 0
IsKept g opened contexts = MatchOption opened (contexts ≡ []) (IsOpen g)

-- the context goals that are left of the middle rule
abbrev pub links_left : PlainGrammar → Open → List Goal
links_left g o = places_left g o.middle (drop o.spot (enumerate_from 1 o.rule.now.right)) o.inner

-- the chains that are left of an open context goal
abbrev pub under_left : PlainGrammar → Open → List Chain
under_left g o = flat_map (chained o.outer o.place o.middle) (links_left g o)

-- the chains of what is open, where something is
abbrev pub open_left : PlainGrammar → Option Open → List Chain
open_left g None = []
open_left g (Some o) = under_left g o

-- the chains of what is open, and then those that begin with the context goals that are left
abbrev pub chains_left : PlainGrammar → Option Open → List Goal → List Chain
chains_left g opened contexts = open_left g opened ++ flat_map (chains_from g) contexts

-- the first of what was left is given, and the others are left; or nothing was left, and nothing is
abbrev pub Gives : List Chain → List Chain → Option Chain → Type 0
Gives old new given = MatchOption given ((old ≡ []) × (new ≡ [])) (λ chain. old ≡ chain ∷ new)

-- the same of what was open and left, and of what is then
abbrev pub GivesNext : PlainGrammar → Option Open → List Goal → Option Open → List Goal → Option Chain → Type 0
GivesNext g opened contexts next rest given = Gives (chains_left g opened contexts) (chains_left g next rest) given

-- the first chain of an open context goal, and what is open behind it
abbrev pub GivesUnder : PlainGrammar → Open → Option (Chain × Open) → Type 0
GivesUnder g o found = MatchOption found (under_left g o ≡ []) (λ next. under_left g o ≡ next.0 ∷ under_left g next.1)

-- the chains that begin with the context goals before are those of what is open now, and of the fewer that are left
abbrev pub Opens : PlainGrammar → List Goal → List Goal → Option Open → Type 0
Opens g old new opened =
    MatchOption opened
    ((flat_map (chains_from g) old ≡ []) × (new ≡ []))
    (λ o. (flat_map (chains_from g) old ≡ under_left g o ++ flat_map (chains_from g) new) × (length new < length old))

-- how many context goals are open or left
abbrev pub steps_left : Option Open → List Goal → ℕ
steps_left None contexts = 0
steps_left (Some o) contexts = 1 + length contexts
