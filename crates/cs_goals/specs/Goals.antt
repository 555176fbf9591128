-- The list of a grammar's goals.
use Rattle.std.specs.Prelude.{ℕ, List, [], ◌∷◌, ◌++◌, map, length, ◌==◌, if◌then◌else◌, ◌↔◌}
use Rattle.std.specs.List.{Contains, filter, flat_map, enumerate_from, range_with_len}
use Rattle.cs_grammar.specs.declared.symbol.Symbol.{Symbol}
use Rattle.cs_grammar.specs.declared.symbol.Symbol.TheVariants.{Token as OfToken, Nonterminal}
use Rattle.cs_grammar.specs.declared.symbol.Mark.{Mark}
use Rattle.cs_grammar.specs.declared.symbol.Mark.TheVariants.{Begin, Token, End}
use Rattle.cs_grammar.specs.Grammar.{Production, PlainGrammar}
use Rattle.cs_goals.specs.declared.goal.Goal.{Goal}
use Rattle.cs_goals.specs.declared.goal.Goal.TheVariants.{Rule, Context, Pair}
use Rattle.cs_choices.specs.declared.criteria.Criteria.{Criteria}

-- the rule goals: the numbers of the rules
abbrev pub rule_goals : PlainGrammar → List Goal
rule_goals g = map Rule (range_with_len 1 (length g.rules))

-- the rules with their numbers
abbrev pub numbered_rules : PlainGrammar → List (ℕ × Production)
numbered_rules g = enumerate_from 1 g.rules

-- the numbers of those that have this nonterminal on their left sides
abbrev pub rules_of : List (ℕ × Production) → ℕ → List ℕ
rules_of rules n = map (λ (r : ℕ × Production). r.0) (filter (λ (r : ℕ × Production). r.1.left == n) rules)

-- the context goals of rule p at a place of its right side: none where a token stands there, else one for each rule of
-- the nonterminal
abbrev pub goals_at : PlainGrammar → ℕ → ℕ × Symbol → List Goal
goals_at g p (i, OfToken t) = []
goals_at g p (i, Nonterminal n) = map (Context p i) (rules_of (numbered_rules g) n)

-- the context goals of a rule at all places of its right side
abbrev pub goals_in : PlainGrammar → ℕ × Production → List Goal
goals_in g (p, rule) = flat_map (goals_at g p) (enumerate_from 1 rule.right)

-- the context goals: by outer rule, place and inner rule
abbrev pub context_goals : PlainGrammar → List Goal
context_goals g = flat_map (goals_in g) (numbered_rules g)

-- the tokens as marks
abbrev pub token_marks : ℕ → List Mark
token_marks tokens = map Token (range_with_len 1 tokens)

-- the left partners of pairs: the begin mark and then the tokens
abbrev pub left_marks : ℕ → List Mark
left_marks tokens = Begin ∷ token_marks tokens

-- the right partners of pairs: the tokens and then the end mark
abbrev pub right_marks : ℕ → List Mark
right_marks tokens = token_marks tokens ++ End ∷ []

-- the pair goals with this mark on the left
abbrev pub goals_after : ℕ → Mark → List Goal
goals_after tokens a = map (Pair a) (right_marks tokens)

-- the pair goals: by left mark and right mark
abbrev pub pair_goals : PlainGrammar → List Goal
pair_goals g = flat_map (goals_after g.tokens) (left_marks g.tokens)

-- the goals of the chosen criteria
abbrev pub goals : PlainGrammar → Criteria → List Goal
goals g c =
    (if c.rule then rule_goals g else []) ++ (if c.cdrc then context_goals g else []) ++ (if c.pair then pair_goals g else [])

-- the list has the members of the kind, and nothing else
abbrev pub HasExactly : {A : Type 0} → List A → (A → Type 0) → Type 0
HasExactly {A} list IsOne = (a : A) → Contains list a ↔ IsOne a
