-- Slips: changes of one rule's right side, as whoever writes a parser by hand makes them (rule mutation: Raselimo, Taljaard and
-- Fischer 2019, "Breaking Parsers: Mutation-based Generation of Programs with Guaranteed Syntax Errors").
use Rattle.std.specs.Prelude.{◌≢◌, ℕ, ◌+◌, ◌-◌, ◌==◌, Bool, false, not, IsTrue, List, [], ◌∷◌, ◌++◌, drop, if◌then◌else◌, length, map, slice_get, slice_index_or, take}
use Rattle.std.specs.List.{AllPairs, enumerate_from, filter, flat_map, range_with_len}
use Rattle.cs_goals.specs.Goals.{HasExactly}
use Rattle.cs_grammar.specs.Grammar.{IsNumberOf, IsRule, PlainGrammar, Production}
use Rattle.cs_grammar.specs.declared.symbol.Symbol.{Symbol}
use Rattle.cs_grammar.specs.declared.symbol.Symbol.TheVariants.{Token, Nonterminal}
use Rattle.cs_wrong.specs.declared.slips.slip.Change.{Change}
use Rattle.cs_wrong.specs.declared.slips.slip.Change.TheVariants.{Drop, Double, Swap}
use Rattle.cs_choices.specs.declared.slips.Slips.{Slips}
use Rattle.cs_wrong.specs.declared.slips.slip.Slip.{Slip}
use Rattle.cs_wrong.specs.declared.slips.slip.Slip.TheVariants.{Empty, Of}

-- ---- what a change makes of a right side; places are counted from 1

-- the symbol at a place, alone
abbrev pub symbol_at : ℕ → List Symbol → List Symbol
symbol_at i xs = take 1 (drop (i - 1) xs)

-- the symbol at the place is left out, stands twice, or changes places with the one behind it
abbrev pub changed : Change → List Symbol → List Symbol
changed (Drop i) xs = take (i - 1) xs ++ drop i xs
changed (Double i) xs = take i xs ++ drop (i - 1) xs
changed (Swap i) xs = take (i - 1) xs ++ symbol_at (i + 1) xs ++ symbol_at i xs ++ drop (i + 1) xs

-- ---- which changes a right side has

-- the change has its place in a right side; what changes places differs
abbrev pub IsChangeOf : List Symbol → Change → Type 0
IsChangeOf xs (Drop i) = IsNumberOf (length xs) i
IsChangeOf xs (Double i) = IsNumberOf (length xs) i
IsChangeOf xs (Swap i) = IsNumberOf (length xs - 1) i × (slice_get xs (i - 1) ≢ slice_get xs i)

-- the change is of a chosen kind
abbrev pub IsOfChosen : Slips → Change → Type 0
IsOfChosen c (Drop i) = IsTrue c.drops
IsOfChosen c (Double i) = IsTrue c.doubles
IsOfChosen c (Swap i) = IsTrue c.swaps

-- a slip of the grammar by the chosen kinds: the empty one, whatever they are, or a change of a rule
abbrev pub IsSlip : PlainGrammar → Slips → Slip → Type 0
IsSlip g c Empty = Unit {0}
IsSlip g c (Of r change) = (p : Production) × IsRule g r p × IsChangeOf p.right change × IsOfChosen c change

-- ---- the list of all slips

abbrev pub same_symbol : Symbol → Symbol → Bool
same_symbol (Token a) (Token b) = a == b
same_symbol (Token a) (Nonterminal b) = false
same_symbol (Nonterminal a) (Token b) = false
same_symbol (Nonterminal a) (Nonterminal b) = a == b

-- the symbol at the place and the one behind it differ
abbrev pub differ_at : List Symbol → ℕ → Bool
differ_at xs i = not (same_symbol (slice_index_or xs (i - 1) (Token 0)) (slice_index_or xs i (Token 0)))

-- the changes of a right side by the chosen kinds: by kind and place
abbrev pub drops_of : List Symbol → List Change
drops_of xs = map Drop (range_with_len 1 (length xs))

abbrev pub doubles_of : List Symbol → List Change
doubles_of xs = map Double (range_with_len 1 (length xs))

abbrev pub swaps_of : List Symbol → List Change
swaps_of xs = map Swap (filter (differ_at xs) (range_with_len 1 (length xs - 1)))

abbrev pub changes_of : Slips → List Symbol → List Change
changes_of c xs =
    (if c.drops then drops_of xs else []) ++ (if c.doubles then doubles_of xs else []) ++ (if c.swaps then swaps_of xs else [])

-- those of a rule
abbrev pub slips_in : Slips → ℕ × Production → List Slip
slips_in c (r, p) = map (Of r) (changes_of c p.right)

-- the empty one, and then those of each rule
abbrev pub slips : PlainGrammar → Slips → List Slip
slips g c = Empty ∷ flat_map (slips_in c) (enumerate_from 1 g.rules)

-- ---- laws

-- each slip stands in the list once, and nothing else stands there
abbrev pub HasEachSlip : PlainGrammar → Slips → Type 0
HasEachSlip g c = HasExactly (slips g c) (IsSlip g c)

abbrev pub HasNoSlipTwice : PlainGrammar → Slips → Type 0
HasNoSlipTwice g c = AllPairs (λ a b. a ≢ b) (slips g c)
