-- What is drawn and written one behind the other.
use Rattle.std.proofs.Common.{◌≡◌, ◌≢◌, ℕ, false, eqb, ◌+◌, List, [], ◌∷◌, ◌++◌, refl, sym, ap, ◌∙◌, append_assoc, add-one}
use Rattle.std.specs.Prelude.{codes}
use Rattle.std.specs.List.{flat_map}
use Rattle.std.proofs.lemmas.List.{append-nil, flat_map_more}
use Rattle.cs_bytes.proofs.Fronts.{false-eqb}
use Rattle.cs_gen.specs.declared.symbol.Symbol.{Symbol}
use Rattle.cs_gen.specs.declared.symbol.Symbol.TheVariants.{Token, Nonterminal}
use Rattle.cs_gen.specs.Draws.{Drawn, draw, one_of, several}
use Rattle.cs_gen.specs.Rules.{symbol, body, bodies, first_body, line, lines}
use Rattle.cs_gen.specs.Texts.{up_to, name, names, alternative, alternatives, declaration, line_text, yacc_text, token_rule, lex_text}

pub several-none : {A : Type 0} (one : ℕ → ℕ → Drawn A) (number : ℕ) → several one 0 number ≡ record { what = []; behind = number }
unfolding several
several-none one number = refl

pub several-more : {A : Type 0} (one : ℕ → ℕ → Drawn A) (n number : ℕ)
    → several one (n + 1) number ≡ (let before = several one n number in let last = one (n + 1) before.behind in record { what = before.what ++ last.what ∷ []; behind = last.behind })
unfolding several
several-more one n number = rw add-one refl

module _ {A : Type 0} (f : A → List ℕ) (one : ℕ → ℕ → Drawn A) where
  -- nothing is drawn yet
  pub written-none : (number : ℕ) (text : List ℕ) → text ≡ text ++ flat_map f (several one 0 number).what
  written-none number text = rw several-none (sym (append-nil text))

  -- one thing more was drawn and written
  pub written-more : (n number at : ℕ) (front old new : List ℕ) (x : A) → old ≡ front ++ flat_map f (several one n number).what → at ≡ (several one n number).behind → x ≡ (one (n + 1) at).what → new ≡ old ++ f x
      → new ≡ front ++ flat_map f (several one (n + 1) number).what
  written-more n number at front old new x o a e w =
      let is : x ≡ (one (n + 1) (several one n number).behind).what = rw a at e in
      w ∙ ap (λ (t : List ℕ). t ++ f x) o ∙ flat_map_more f front (several one n number).what x ∙ rw (several-more one n number, is) refl

pub behind-none : {A : Type 0} (one : ℕ → ℕ → Drawn A) (number : ℕ) → number ≡ (several one 0 number).behind
unfolding several
behind-none one number = refl

pub behind-more : {A : Type 0} (one : ℕ → ℕ → Drawn A) (n number at behind : ℕ) → at ≡ (several one n number).behind → behind ≡ (one (n + 1) at).behind → behind ≡ (several one (n + 1) number).behind
behind-more {A = A} one n number at behind a e = e ∙ ap (λ (k : ℕ). (one (n + 1) k).behind) a ∙ sym (ap (λ (d : Drawn (List A)). d.behind) (several-more one n number))

-- ---- symbols

pub token-drawn : (number kind at which behind : ℕ) → kind ≡ (draw 2 number).what → kind ≡ 0 → at ≡ (draw 2 number).behind → which ≡ (one_of 24 at).what → behind ≡ (one_of 24 at).behind
    → (Token which ≡ (symbol number).what) × (behind ≡ (symbol number).behind)
unfolding symbol
token-drawn number kind at which behind k is a w b =
    let first : (draw 2 number).what ≡ 0 = sym k ∙ is in
    (rw (first, w, a) refl, rw (b, a) refl)

pub nonterminal-drawn : (number kind at which behind : ℕ) → kind ≡ (draw 2 number).what → kind ≢ 0 → at ≡ (draw 2 number).behind → which ≡ (one_of 40 at).what → behind ≡ (one_of 40 at).behind
    → (Nonterminal which ≡ (symbol number).what) × (behind ≡ (symbol number).behind)
unfolding symbol
nonterminal-drawn number kind at which behind k is a w b =
    let first : eqb (draw 2 number).what 0 ≡ false = false-eqb (draw 2 number).what 0 (λ e. is (k ∙ e)) in
    (rw (first, w, a) refl, rw (b, a) refl)

-- ---- bodies and lines

pub body-written : (number n at : ℕ) (text front : List ℕ) → n ≡ (draw 4 number).what → at ≡ (draw 4 number).behind → text ≡ front ++ names (several (λ _. symbol) n at).what → text ≡ front ++ names (body number).what
unfolding body
body-written number n at text front e a w = w ∙ rw (e, a) refl

pub body-behind : (number n at behind : ℕ) → n ≡ (draw 4 number).what → at ≡ (draw 4 number).behind → behind ≡ (several (λ _. symbol) n at).behind → behind ≡ (body number).behind
unfolding body
body-behind number n at behind e a w = w ∙ rw (e, a) refl

-- a body more is written behind a bar
pub alternative-written : (old middle new : List ℕ) (body : List Symbol) → middle ≡ old ++ codes " |" → new ≡ middle ++ names body → new ≡ old ++ alternative body
alternative-written old middle new body m n = n ∙ ap (λ (t : List ℕ). t ++ names body) m ∙ append_assoc old (codes " |") (names body)

pub bodies-written : (number n at : ℕ) (text front : List ℕ) → n ≡ (one_of 3 number).what → at ≡ (one_of 3 number).behind → text ≡ front ++ alternatives (several (λ _. body) n at).what → text ≡ front ++ alternatives (bodies number).what
unfolding bodies
bodies-written number n at text front e a w = w ∙ rw (e, a) refl

pub bodies-behind : (number n at behind : ℕ) → n ≡ (one_of 3 number).what → at ≡ (one_of 3 number).behind → behind ≡ (several (λ _. body) n at).behind → behind ≡ (bodies number).behind
unfolding bodies
bodies-behind number n at behind e a w = w ∙ rw (e, a) refl

five_behind : (front a b c d e : List ℕ) → ((((front ++ a) ++ b) ++ c) ++ d) ++ e ≡ front ++ ((((a ++ b) ++ c) ++ d) ++ e)
five_behind front a b c d e =
    ap (λ (t : List ℕ). ((t ++ c) ++ d) ++ e) (append_assoc front a b) ∙ ap (λ (t : List ℕ). (t ++ d) ++ e) (append_assoc front (a ++ b) c)
    ∙ ap (λ (t : List ℕ). t ++ e) (append_assoc front ((a ++ b) ++ c) d) ∙ append_assoc front (((a ++ b) ++ c) ++ d) e

-- a line is written part by part
pub line-written : (left number : ℕ) (front : List ℕ) {token at : ℕ} {named signed begun going whole : List ℕ} → token ≡ (one_of 24 number).what → at ≡ (one_of 24 number).behind → named ≡ front ++ name (Nonterminal left) → signed ≡ named ++ codes " :"
    → begun ≡ signed ++ names (first_body left token) → going ≡ begun ++ alternatives (bodies at).what → whole ≡ going ++ codes " ;\n" → whole ≡ front ++ line_text (line left number).what
unfolding line
line-written left number front t a n s b g w =
    w ∙ rw (g, b, s, n, t, a) (five_behind front (name (Nonterminal left)) (codes " :") (names (first_body left (one_of 24 number).what)) (alternatives (bodies (one_of 24 number).behind).what) (codes " ;\n"))

pub line-behind : (left number at behind : ℕ) → at ≡ (one_of 24 number).behind → behind ≡ (bodies at).behind → behind ≡ (line left number).behind
unfolding line
line-behind left number at behind a b = b ∙ rw a refl

-- ---- whole files

pub yacc-written : (seed n : ℕ) (front text : List ℕ) → n ≡ 40 → front ≡ [] ++ declaration → text ≡ front ++ flat_map line_text (several line n seed).what → text ≡ yacc_text seed
unfolding yacc_text lines
yacc-written seed n front text e f w = w ∙ rw (f, e) refl

pub lex-written : (n : ℕ) (front text whole : List ℕ) → n ≡ 24 → front ≡ codes "%%\n" → text ≡ front ++ flat_map token_rule (up_to n) → whole ≡ text ++ codes "[ \\n]+ ;\n" → whole ≡ lex_text
unfolding lex_text
lex-written n front text whole e f t w = w ∙ rw (t, f, e) refl
