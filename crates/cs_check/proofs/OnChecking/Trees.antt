-- Sizes, yields and codes of trees.
use Rattle.std.proofs.Common.{◌≡◌, ℕ, ◌+◌, ◌-◌, ◌*◌, ◌≤◌, List, [], ◌∷◌, length, get_or, refl, subst, arith}
use Rattle.std.specs.Prelude.{All}
use Rattle.std.specs.List.{sum_by}
use Rattle.std.proofs.lemmas.Option.{slice_get_within, get_or_from_slice_get}
use Rattle.std.proofs.lemmas.List.{length-append}
use Rattle.std.proofs.lemmas.List.Elements.{All-nil, All-cons, All-append, All-get_or}
use Rattle.std.proofs.lemmas.List.Sums.{sum_by-cons, sum_by-append}
use Rattle.cs_grammar.specs.declared.symbol.Symbol.{Symbol}
use Rattle.cs_grammar.specs.Grammar.{Production, PlainGrammar, IsGrammar, IsRule, IsRuleOf}
use Rattle.cs_grammar.specs.Tree.{Tree, Leaf, Node, Forest, Bare, Grown, IsTree, AreTrees, size, sizes, code, codes_of, yield, yields}
use Rattle.cs_grammar.specs.Weights.{Measure, number}

-- the size of a tree: its nodes, and the numbers of its leaves
module _ (w : Measure) where
  mutual
    pub size_parts : (t : Tree) → size w t ≡ length (code t) + sum_by (number w) (yield t)
    size_parts (Leaf t) = let e = sum_by-cons (number w) t [] in omega arith
    size_parts (Node r f) = let e = sizes_parts f in omega arith

    pub sizes_parts : (f : Forest) → sizes w f ≡ length (codes_of f) + sum_by (number w) (yields f)
    sizes_parts Bare = refl
    sizes_parts (Grown t f) =
        let here = size_parts t in
        let later = sizes_parts f in
        let long = length-append (code t) (codes_of f) in
        let sums = sum_by-append (number w) (yield t) (yields f) in
        omega arith

-- a right side has at most 128 symbols
rule_short : (g : PlainGrammar) → IsGrammar g → (r : ℕ) (p : Production) → IsRule g r p → length p.right ≤ 128
rule_short g well r p is =
    let low = slice_get_within g.rules (r - 1) p is.at in
    let fits = All-get_or (IsRuleOf g.tokens g.nonterminals) g.rules (r - 1) p low well.rules in
    let same : get_or g.rules (r - 1) p ≡ p = get_or_from_slice_get g.rules (r - 1) p p is.at in
    (subst (IsRuleOf g.tokens g.nonterminals) same fits).short

rule_number : (g : PlainGrammar) (r : ℕ) (p : Production) → IsRule g r p → r ≤ length g.rules
rule_number g r p is = let low = slice_get_within g.rules (r - 1) p is.at in let some = is.above_zero in omega arith

module _ (g : PlainGrammar) (well : IsGrammar g) where
  mutual
    pub yield_short : (t : Tree) (x : Symbol) → IsTree g x t → length (yield t) ≤ 127 * length (code t) + 1
    yield_short (Leaf t) x h = omega arith
    yield_short (Node r f) x h =
        let few = yields_short f h.0.right h.3 in
        let short = rule_short g well r h.0 h.1 in
        omega arith

    pub yields_short : (f : Forest) (xs : List Symbol) → AreTrees g xs f → length (yields f) ≤ 127 * length (codes_of f) + length xs
    yields_short Bare [] h = omega arith
    yields_short Bare (x ∷ xs) h = absurd h
    yields_short (Grown t f) [] h = absurd h
    yields_short (Grown t f) (x ∷ xs) h =
        let here = yield_short t x h.0 in
        let later = yields_short f xs h.1 in
        let codes = length-append (code t) (codes_of f) in
        let tokens = length-append (yield t) (yields f) in
        omega arith

  -- the numbers of a code are those of rules
  mutual
    pub code_rules : (t : Tree) (x : Symbol) → IsTree g x t → All (λ (r : ℕ). r ≤ length g.rules) (code t)
    code_rules (Leaf t) x h = All-nil (λ (r : ℕ). r ≤ length g.rules)
    code_rules (Node r f) x h =
        All-cons (λ (r : ℕ). r ≤ length g.rules) r (codes_of f) (rule_number g r h.0 h.1) (codes_rules f h.0.right h.3)

    pub codes_rules : (f : Forest) (xs : List Symbol) → AreTrees g xs f → All (λ (r : ℕ). r ≤ length g.rules) (codes_of f)
    codes_rules Bare xs h = All-nil (λ (r : ℕ). r ≤ length g.rules)
    codes_rules (Grown t f) [] h = absurd h
    codes_rules (Grown t f) (x ∷ xs) h =
        All-append (λ (r : ℕ). r ≤ length g.rules) (code t) (codes_of f) (code_rules t x h.0) (codes_rules f xs h.1)
