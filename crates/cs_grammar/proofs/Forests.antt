-- Lists of trees, one after another.
use Rattle.std.proofs.Common.{◌≡◌, ℕ, ◌+◌, List, [], ◌∷◌, ◌++◌, refl, sym, ap, ◌∙◌, arith, append_assoc}
use Rattle.cs_grammar.specs.declared.symbol.Symbol.{Symbol}
use Rattle.cs_grammar.specs.Grammar.{PlainGrammar}
use Rattle.cs_grammar.specs.Weights.{Measure}
use Rattle.cs_grammar.specs.Tree.{Forest, Bare, Grown, AreTrees, sizes, code, codes_of, yield, yields}
use Rattle.cs_grammar.specs.Context.{join}

pub AreTrees-join : (g : PlainGrammar) (f h : Forest) (xs ys : List Symbol) → AreTrees g xs f → AreTrees g ys h → AreTrees g (xs ++ ys) (join f h)
AreTrees-join g Bare h [] ys hf hh = hh
AreTrees-join g Bare h (x ∷ xs) ys hf hh = absurd hf
AreTrees-join g (Grown t f) h [] ys hf hh = absurd hf
AreTrees-join g (Grown t f) h (x ∷ xs) ys hf hh = (hf.0, AreTrees-join g f h xs ys hf.1 hh)

pub sizes-join : (w : Measure) (f h : Forest) → sizes w (join f h) ≡ sizes w f + sizes w h
sizes-join w Bare h = omega arith
sizes-join w (Grown t f) h = omega (arith, sizes-join w f h)

pub codes_of-join : (f h : Forest) → codes_of (join f h) ≡ codes_of f ++ codes_of h
codes_of-join Bare h = refl
codes_of-join (Grown t f) h = ap (λ (s : List ℕ). code t ++ s) (codes_of-join f h) ∙ sym (append_assoc (code t) (codes_of f) (codes_of h))

pub yields-join : (f h : Forest) → yields (join f h) ≡ yields f ++ yields h
yields-join Bare h = refl
yields-join (Grown t f) h = ap (λ (s : List ℕ). yield t ++ s) (yields-join f h) ∙ sym (append_assoc (yield t) (yields f) (yields h))
