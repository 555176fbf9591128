-- What the code and the yield of a tree hold, and the numbers of tokens.
use Rattle.std.proofs.Common.{◌≡◌, ℕ, ◌-◌, ◌<◌, ◌≤◌, List, [], ◌∷◌, Some, length, sym, subst, ⊎_elim, arith, length-append}
use Rattle.std.proofs.lemmas.Bool.{cases_lt}
use Rattle.std.proofs.lemmas.List.{get_or_past}
use Rattle.std.specs.Prelude.{All, slice_get}
use Rattle.std.proofs.lemmas.List.Elements.{All-append, All-nil, All-cons, All-head, All-tail}
use Rattle.std.proofs.lemmas.Option.{slice_get_within, get_or_from_slice_get}
use Rattle.cs_grammar.specs.declared.symbol.Symbol.{Symbol}
use Rattle.cs_grammar.specs.declared.symbol.Symbol.TheVariants.{Nonterminal}
use Rattle.cs_grammar.specs.Grammar.{Production, PlainGrammar, IsRule, IsNumberOf, IsSymbol, IsRuleOf, IsGrammar}
use Rattle.cs_grammar.specs.Leftmost.{IsYield}
use Rattle.cs_grammar.specs.Weights.{Measure, IsMeasure, number}
use Rattle.cs_grammar.specs.Tree.{Tree, Leaf, Node, Forest, Bare, Grown, IsTree, AreTrees, size, sizes, code, codes_of, yield, yields}

-- a tree has a node for each entry of its code
module _ (w : Measure) where
  mutual
    pub length-code : (t : Tree) → length (code t) ≤ size w t
    length-code (Leaf t) = omega arith
    length-code (Node r children) = omega (arith, length-codes_of children)

    pub length-codes_of : (f : Forest) → length (codes_of f) ≤ sizes w f
    length-codes_of Bare = omega arith
    length-codes_of (Grown t f) = omega (arith, length-code t, length-codes_of f, length-append (code t) (codes_of f))

-- no token weighs nothing
pub number_above : (w : Measure) (t : ℕ) → IsMeasure w → 0 < number w t
number_above w t is =
    ⊎_elim
    (λ within. (is.numbers (t - 1) 1 within).0)
    (λ past. omega (arith, get_or_past w.numbers (t - 1) 1 past))
    (cases_lt (t - 1) (length w.numbers))

-- a tree has no more tokens than its size
module _ (w : Measure) (is : IsMeasure w) where
  mutual
    pub length-yield : (t : Tree) → length (yield t) ≤ size w t
    length-yield (Leaf t) = omega (arith, number_above w t is)
    length-yield (Node r children) = omega (arith, length-yields children)

    pub length-yields : (f : Forest) → length (yields f) ≤ sizes w f
    length-yields Bare = omega arith
    length-yields (Grown t f) = omega (arith, length-yield t, length-yields f, length-append (yield t) (yields f))

-- and no tree weighs nothing
pub size_above : (w : Measure) (t : Tree) → IsMeasure w → 0 < size w t
size_above w (Leaf t) is = number_above w t is
size_above w (Node r f) is = omega arith

-- what holds of each member of a list holds of the one at a place
pub All-at : {A : Type 0} (P : A → Type 0) (xs : List A) (k : ℕ) (x : A) → All P xs → slice_get xs k ≡ Some x → P x
All-at P xs k x all at = subst P (get_or_from_slice_get xs k x x at) (all k x (slice_get_within xs k x at))

-- a rule of a well-formed grammar is of its tokens and nonterminals
pub IsRuleOf-rule : (g : PlainGrammar) (r : ℕ) (p : Production) → IsGrammar g → IsRule g r p → IsRuleOf g.tokens g.nonterminals p
IsRuleOf-rule g r p well rule = All-at (IsRuleOf g.tokens g.nonterminals) g.rules (r - 1) p well.rules rule.at

-- the number of a rule is one of the numbers of the rules
pub IsNumberOf-rule : (g : PlainGrammar) (r : ℕ) (p : Production) → IsRule g r p → IsNumberOf (length g.rules) r
IsNumberOf-rule g r p rule = let within = slice_get_within g.rules (r - 1) p rule.at in (rule.above_zero, omega (arith, within, rule.above_zero))

-- a rule that was read of the same grammar is a rule of it
pub rule_here : (g h : PlainGrammar) (r : ℕ) (p : Production) → h ≡ g → IsRule h r p → IsRule g r p
rule_here g h r p same rule = subst (λ (k : PlainGrammar). IsRule k r p) same rule

-- and its number is one that may be read there
pub rule_number : (g h : PlainGrammar) (r : ℕ) (p : Production) → h ≡ g → IsRule g r p → IsNumberOf (length h.rules) r
rule_number g h r p same rule = subst (λ (k : PlainGrammar). IsNumberOf (length k.rules) r) (sym same) (IsNumberOf-rule g r p rule)

-- the tokens of a yield are tokens of the grammar
module _ (g : PlainGrammar) (well : IsGrammar g) where
  mutual
    pub IsNumberOf-yield : (t : Tree) (x : Symbol) → IsTree g x t → IsSymbol g.tokens g.nonterminals x → All (IsNumberOf g.tokens) (yield t)
    IsNumberOf-yield (Leaf s) x h within =
        All-cons (IsNumberOf g.tokens) s [] (subst (IsSymbol g.tokens g.nonterminals) h within) (All-nil (IsNumberOf g.tokens))
    IsNumberOf-yield (Node r f) x h within = IsNumberOf-yields f h.0.right h.3 (IsRuleOf-rule g r h.0 well h.1).right

    pub IsNumberOf-yields : (f : Forest) (xs : List Symbol) → AreTrees g xs f → All (IsSymbol g.tokens g.nonterminals) xs → All (IsNumberOf g.tokens) (yields f)
    IsNumberOf-yields Bare [] h within = All-nil (IsNumberOf g.tokens)
    IsNumberOf-yields Bare (x ∷ xs) h within = absurd h
    IsNumberOf-yields (Grown t f) [] h within = absurd h
    IsNumberOf-yields (Grown t f) (x ∷ xs) h within =
        All-append (IsNumberOf g.tokens) (yield t) (yields f)
        (IsNumberOf-yield t x h.0 (All-head (IsSymbol g.tokens g.nonterminals) x xs within))
        (IsNumberOf-yields f xs h.1 (All-tail (IsSymbol g.tokens g.nonterminals) x xs within))

  pub IsNumberOf-IsYield : (rules tokens : List ℕ) → IsYield g rules tokens → All (IsNumberOf g.tokens) tokens
  IsNumberOf-IsYield rules tokens y =
      subst (All (IsNumberOf g.tokens)) (sym y.yield) (IsNumberOf-yield y.tree (Nonterminal g.start) y.is_tree well.start)
