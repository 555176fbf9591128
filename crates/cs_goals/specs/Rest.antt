-- What is left of the list of goals, and how one more is taken from it.
use Rattle.std.specs.Prelude.{◌≡◌, ℕ, zero, suc, ◌+◌, ◌<◌, List, [], ◌∷◌, ◌++◌, Option, MatchOption, map, length, drop}
use Rattle.std.specs.List.{flat_map, enumerate_from, range_with_len}
use Rattle.cs_grammar.specs.declared.symbol.Symbol.{Symbol}
use Rattle.cs_grammar.specs.declared.symbol.Symbol.TheVariants.{Token, Nonterminal}
use Rattle.cs_grammar.specs.declared.symbol.Mark.{Mark}
use Rattle.cs_grammar.specs.declared.symbol.Mark.TheVariants.{Begin, Token as TokenMark}
use Rattle.cs_grammar.specs.Grammar.{Production, PlainGrammar}
use Rattle.cs_goals.specs.declared.goal.Goal.{Goal}
use Rattle.cs_goals.specs.declared.goals.GivenPairs.{GivenPairs}
use Rattle.cs_goals.specs.declared.occurrence.ContextIndex.{ContextIndex}
use Rattle.cs_goals.specs.declared.goal.Goal.TheVariants.{Rule, Context, Pair}
use Rattle.cs_goals.specs.Goals.{numbered_rules, rules_of, goals_at, goals_in, left_marks, right_marks, goals_after}

-- the rule goals behind the first n
abbrev pub rules_left : PlainGrammar → ℕ → List Goal
rules_left g n = drop n (map Rule (range_with_len 1 (length g.rules)))

-- the context goals of rule p at these places, without those of the first q rules at the first of them
abbrev pub places_left : PlainGrammar → ℕ → List (ℕ × Symbol) → ℕ → List Goal
places_left g p [] q = []
places_left g p ((i, Token t) ∷ places) q = flat_map (goals_at g p) places
places_left g p ((i, Nonterminal n) ∷ places) q =
    map (Context p i) (rules_of (drop q (numbered_rules g)) n) ++ flat_map (goals_at g p) places

-- the context goals of these rules, from place i of the first of them on, without those of the first q rules there
abbrev pub outers_left : PlainGrammar → List (ℕ × Production) → ℕ → ℕ → List Goal
outers_left g [] i q = []
outers_left g ((p, rule) ∷ rules) i q = places_left g p (drop i (enumerate_from 1 rule.right)) q ++ flat_map (goals_in g) rules

-- the context goals behind the first p rules, the first i places and the first q rules there
abbrev pub contexts_left : PlainGrammar → ℕ → ℕ → ℕ → List Goal
contexts_left g p i q = outers_left g (drop p (numbered_rules g)) i q

-- the left mark behind so many
abbrev pub left_mark : ℕ → Mark
left_mark zero = Begin
left_mark (suc n) = TokenMark (suc n)

-- the pair goals of these left marks, without those of the first b right marks at the first of them
abbrev pub lefts_left : ℕ → List Mark → ℕ → List Goal
lefts_left tokens [] b = []
lefts_left tokens (a ∷ marks) b = map (Pair a) (drop b (right_marks tokens)) ++ flat_map (goals_after tokens) marks

-- the pair goals behind the first a left marks and the first b right marks there
abbrev pub pairs_left : ℕ → ℕ → ℕ → List Goal
pairs_left tokens a b = lefts_left tokens (drop a (left_marks tokens)) b

-- what is left where a context goal's place in the list was reached, or so many marks were given
abbrev pub contexts_at : PlainGrammar → ContextIndex → List Goal
contexts_at g given = contexts_left g given.outer given.place given.inner

abbrev pub pairs_at : PlainGrammar → GivenPairs → List Goal
pairs_at g given = pairs_left g.tokens given.left given.right

-- the first of what was left is given, and the others are left; or nothing was left, and nothing is
abbrev pub Gives : List Goal → List Goal → Option Goal → Type 0
Gives old new given = MatchOption given ((old ≡ []) × (new ≡ [])) (λ goal. old ≡ goal ∷ new)

-- the place of the first rule of a left side, from a place of the rules on
abbrev pub IsNextRule : List Production → ℕ → ℕ → Option ℕ → Type 0
IsNextRule rules left from found =
    MatchOption found
    (rules_of (drop from (enumerate_from 1 rules)) left ≡ [])
    (λ at. (at < length rules) × (rules_of (drop from (enumerate_from 1 rules)) left ≡ (at + 1) ∷ rules_of (drop (at + 1) (enumerate_from 1 rules)) left))

-- the first context goal of rule p from a place of its right side on, there from a place of the rules on: both places
abbrev pub IsNextPlace : PlainGrammar → ℕ → Production → ℕ → ℕ → Option (ℕ × ℕ) → Type 0
IsNextPlace g p rule place inner found =
    MatchOption found
    (places_left g p (drop place (enumerate_from 1 rule.right)) inner ≡ [])
    (λ at. (at.0 < length rule.right) × (at.1 < length g.rules)
    × (places_left g p (drop place (enumerate_from 1 rule.right)) inner
    ≡ Context p (at.0 + 1) (at.1 + 1) ∷ places_left g p (drop at.0 (enumerate_from 1 rule.right)) (at.1 + 1)))

-- the first context goal from a place in the list of them on
abbrev pub IsNextContext : PlainGrammar → ContextIndex → Option ContextIndex → Type 0
IsNextContext g from found =
    MatchOption found
    (contexts_at g from ≡ [])
    (λ at. (at.outer < 8192) × (at.place < 128) × (at.inner < 8192)
    × (contexts_at g from ≡ Context (at.outer + 1) (at.place + 1) (at.inner + 1) ∷ contexts_left g at.outer at.place (at.inner + 1)))
