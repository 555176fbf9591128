-- Symbols numbered in one, and the symbols of rules.
use Rattle.std.proofs.Common.{◌≡◌, ℕ, ◌-◌, ◌<◌, List, [], ◌∷◌, ◌++◌, length, get_or, refl, ap, subst, arith}
use Rattle.std.specs.Prelude.{All}
use Rattle.std.proofs.lemmas.List.{length-append}
use Rattle.std.proofs.lemmas.List.Elements.{All-get_or}
use Rattle.cs_grammar.specs.declared.symbol.Symbol.{Symbol}
use Rattle.cs_grammar.specs.declared.symbol.Symbol.TheVariants.{Token, Nonterminal}
use Rattle.cs_grammar.specs.Grammar.{Production, PlainGrammar, IsRule, IsSymbol, IsSymbolOf, IsGrammar}
use Rattle.cs_least.proofs.OnCost.Rules.{well_formed_at}
use Rattle.cs_pairs.specs.Kinds.Numbers.{symbol_number}

-- symbols of one number are the same
pub same_number : (g : PlainGrammar) (x y : Symbol) → IsSymbolOf g x → IsSymbolOf g y → symbol_number g.tokens x ≡ symbol_number g.tokens y → x ≡ y
same_number g (Token s) (Token t) hx hy e = ap Token e
same_number g (Token s) (Nonterminal n) hx hy e = absurd (omega (arith, e, hx, hy))
same_number g (Nonterminal m) (Token t) hx hy e = absurd (omega (arith, e, hx, hy))
same_number g (Nonterminal m) (Nonterminal n) hx hy e = let same : m ≡ n = omega (arith, e) in ap Nonterminal same

there : (xs ys : List Symbol) (x d : Symbol) → get_or (xs ++ x ∷ ys) (length xs) d ≡ x
there [] ys x d = refl
there (y ∷ xs) ys x d = there xs ys x d

-- the symbols of a rule are the grammar's
pub rule_symbol : (g : PlainGrammar) (r : ℕ) (p : Production) (xs : List Symbol) (x : Symbol) (ys : List Symbol) → IsGrammar g → IsRule g r p → p.right ≡ xs ++ x ∷ ys → IsSymbolOf g x
rule_symbol g r p xs x ys grammar rule e =
    let each = subst (λ (l : List Symbol). All (IsSymbolOf g) l) e (well_formed_at g (r - 1) p grammar rule.at).right in
    let within : length xs < length (xs ++ x ∷ ys) = omega (arith, length-append xs (x ∷ ys)) in
    subst (IsSymbolOf g) (there xs ys x x) (All-get_or (IsSymbolOf g) (xs ++ x ∷ ys) (length xs) x within each)

pub rule_left : (g : PlainGrammar) (r : ℕ) (p : Production) → IsGrammar g → IsRule g r p → IsSymbolOf g (Nonterminal p.left)
rule_left g r p grammar rule = (well_formed_at g (r - 1) p grammar rule.at).left

-- a symbol of a grammar is one within the limits
pub wide : (g : PlainGrammar) (x : Symbol) → IsGrammar g → IsSymbolOf g x → IsSymbol 512 1024 x
wide g (Token t) grammar h = (h.0, omega (arith, h, grammar.tokens))
wide g (Nonterminal n) grammar h = (h.0, omega (arith, h, grammar.nonterminals))
