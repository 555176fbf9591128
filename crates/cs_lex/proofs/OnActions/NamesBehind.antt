-- Names behind `return`.
use Rattle.std.proofs.Common.{◌≡◌, ℕ, suc, true, false, List, [], ◌∷◌, get_or, take, refl, sym, ap, subst, ◌∙◌, arith}
use Rattle.std.specs.Prelude.{codes}
use Rattle.std.specs.Str.{bytes_eq}
use Rattle.std.proofs.lemmas.Bool.{false≢true}
use Rattle.std.proofs.lemmas.Slice.Eq.{bytes_eq-Decides}
use Rattle.cs_bytes.specs.Classes.{begins_word}
use Rattle.cs_ctext.specs.Literals.{IsLiteral}
use Rattle.cs_ctext.proofs.LiteralValues.{same_literal}
use Rattle.cs_bytes.specs.Places.{front}
use Rattle.cs_lex.specs.Actions.Returns.{Named, word, literal, IsNamed, indexed, pointed, spelled, quoted}

pub literal_named : (text : List ℕ) (b size : ℕ) → IsLiteral text b size → IsNamed text (literal b) size
literal_named text b size is = quoted b is refl

differs : (xs ys : List ℕ) → bytes_eq xs ys ≡ false → xs ≡ ys → ⊥
differs xs ys e f = false≢true (sym e ∙ (bytes_eq-Decides xs ys).1 f)

pub no_named : (text : List ℕ) → bytes_eq (take 9 text) (codes "yytext[0]") ≡ false → bytes_eq (take 7 text) (codes "*yytext") ≡ false → front begins_word text ≡ false → ((b size : ℕ) → ¬ IsLiteral text b size) → (n : Named) (size : ℕ) → ¬ IsNamed text n size
no_named text p q r none n size (indexed e f g) = differs (take 9 text) (codes "yytext[0]") p e
no_named text p q r none n size (pointed e f g) = differs (take 7 text) (codes "*yytext") q e
no_named text p q r none n size (spelled e w f g) = false≢true (sym r ∙ w)
no_named text p q r none n size (quoted b is f) = none b size is

-- the first byte of what the text begins with
first_is : (n : ℕ) (text front : List ℕ) → take (suc n) text ≡ front → get_or text 0 0 ≡ get_or front 0 0
first_is n [] front e = ap (λ (t : List ℕ). get_or t 0 0) e
first_is n (b ∷ text) front e = ap (λ (t : List ℕ). get_or t 0 0) e

indexed_first : (text : List ℕ) → take 9 text ≡ codes "yytext[0]" → get_or text 0 0 ≡ 121
indexed_first text e = first_is 8 text (codes "yytext[0]") e

pointed_first : (text : List ℕ) → take 7 text ≡ codes "*yytext" → get_or text 0 0 ≡ 42
pointed_first text e = first_is 6 text (codes "*yytext") e

quote_first : (text : List ℕ) (b size : ℕ) → IsLiteral text b size → get_or text 0 0 ≡ 39
quote_first text b size is = ap (λ (t : List ℕ). get_or t 0 0) is.spelled

indexed_pointed : (text : List ℕ) → take 9 text ≡ codes "yytext[0]" → take 7 text ≡ codes "*yytext" → ⊥
indexed_pointed text e f = omega (arith, indexed_first text e, pointed_first text f)

word_first : (text : List ℕ) (x : ℕ) → get_or text 0 0 ≡ x → begins_word x ≡ false → front begins_word text ≡ true → ⊥
word_first [] x e f g = false≢true g
word_first (b ∷ text) x e f g = let is : b ≡ x = e in false≢true (sym (subst (λ (y : ℕ). begins_word y ≡ false) (sym is) f) ∙ g)

pointed_word : (text : List ℕ) → take 7 text ≡ codes "*yytext" → front begins_word text ≡ true → ⊥
pointed_word text e f = word_first text 42 (pointed_first text e) refl f

quote_indexed : (text : List ℕ) (b size : ℕ) → IsLiteral text b size → take 9 text ≡ codes "yytext[0]" → ⊥
quote_indexed text b size is e = omega (arith, quote_first text b size is, indexed_first text e)

quote_pointed : (text : List ℕ) (b size : ℕ) → IsLiteral text b size → take 7 text ≡ codes "*yytext" → ⊥
quote_pointed text b size is e = omega (arith, quote_first text b size is, pointed_first text e)

quote_word : (text : List ℕ) (b size : ℕ) → IsLiteral text b size → front begins_word text ≡ true → ⊥
quote_word text b size is e = word_first text 39 (quote_first text b size is) refl e

-- one name stands in front, and has one size
pub named_same : (text : List ℕ) (n m : Named) (a b : ℕ) → IsNamed text n a → IsNamed text m b → (n ≡ m) × (a ≡ b)
named_same text n m a b (indexed e f g) (indexed p q r) = (f ∙ sym q, g ∙ sym r)
named_same text n m a b (indexed e f g) (pointed p q r) = absurd (indexed_pointed text e p)
named_same text n m a b (indexed e f g) (spelled p w q r) = absurd (p e)
named_same text n m a b (indexed e f g) (quoted c is q) = absurd (quote_indexed text c b is e)
named_same text n m a b (pointed e f g) (indexed p q r) = absurd (indexed_pointed text p e)
named_same text n m a b (pointed e f g) (pointed p q r) = (f ∙ sym q, g ∙ sym r)
named_same text n m a b (pointed e f g) (spelled p w q r) = absurd (pointed_word text e w)
named_same text n m a b (pointed e f g) (quoted c is q) = absurd (quote_pointed text c b is e)
named_same text n m a b (spelled e v f g) (indexed p q r) = absurd (e p)
named_same text n m a b (spelled e v f g) (pointed p q r) = absurd (pointed_word text p v)
named_same text n m a b (spelled e v f g) (spelled p w q r) = (g ∙ (ap (λ (k : ℕ). word (take k text)) (f ∙ sym q) ∙ sym r), f ∙ sym q)
named_same text n m a b (spelled e v f g) (quoted c is q) = absurd (quote_word text c b is v)
named_same text n m a b (quoted c is f) (indexed p q r) = absurd (quote_indexed text c a is p)
named_same text n m a b (quoted c is f) (pointed p q r) = absurd (quote_pointed text c a is p)
named_same text n m a b (quoted c is f) (spelled p w q r) = absurd (quote_word text c a is w)
named_same text n m a b (quoted c is f) (quoted d it q) = let s = same_literal text c d a b is it in (f ∙ (ap literal s.0 ∙ sym q), s.1)
