-- The lines that are drawn: their numbers, and how many parts they have.
use Rattle.std.proofs.Common.{◌≡◌, ℕ, zero, suc, ◌+◌, ◌<◌, ◌≤◌, ◌%◌, Bool, true, false, cond, eqb, List, [], ◌∷◌, length, map, refl, ap, ◌∙◌, arith, length-append}
use Rattle.std.specs.List.{AllByRecursion}
use Rattle.std.proofs.lemmas.List.{map_push}
use Rattle.std.proofs.lemmas.Bool.Decides.{nat_tests}
use Rattle.std.proofs.lemmas.Nat.{mod_below}
use Rattle.std.specs.Prelude.{nat_lt, ◌/◌, ◌^◌}
use Rattle.cs_gen.specs.declared.symbol.Symbol.{Symbol}
use Rattle.cs_gen.specs.declared.symbol.Symbol.TheVariants.{Token, Nonterminal}
use Rattle.cs_gen.specs.Draws.{Drawn, next, draw, one_of, several}
use Rattle.cs_gen.specs.Rules.{symbol, body, bodies, Line, first_body, line, lines}
use Rattle.cs_gen.specs.Texts.{up_to}
use Rattle.cs_gen.proofs.Digits.{all_push}

-- one of the 24 tokens or of the 40 nonterminals
abbrev pub IsKnown : Symbol → Type 0
IsKnown (Token number) = (1 ≤ number) × (number ≤ 24)
IsKnown (Nonterminal number) = (1 ≤ number) × (number ≤ 40)

abbrev pub AreKnown : List Symbol → Type 0
AreKnown = AllByRecursion IsKnown

-- at most three symbols, all known
pub record IsBody (symbols : List Symbol) : Type 0 where
  pub known : AreKnown symbols
  pub few : length symbols ≤ 3

abbrev pub AreBodies : List (List Symbol) → Type 0
AreBodies = AllByRecursion IsBody

pub record IsLine (l : Line) : Type 0 where
  pub left : IsKnown (Nonterminal l.left)
  pub first : IsBody l.first
  pub few_first : length l.first ≤ 2
  pub others : AreBodies l.others
  pub few : length l.others ≤ 3

abbrev pub AreLines : List Line → Type 0
AreLines = AllByRecursion IsLine

-- ---- several

several_all : {A : Type 0} (P : A → Type 0) (one : ℕ → ℕ → Drawn A) (most : ℕ) → ((i number : ℕ) → 1 ≤ i → i ≤ most → P (one i number).what) → (n number : ℕ) → n ≤ most → AllByRecursion P (several one n number).what
unfolding several
several_all P one most h zero number le = tt
several_all P one most h (suc n) number le =
    all_push P (several one n number).what (one (suc n) (several one n number).behind).what (several_all P one most h n number (omega arith)) (h (suc n) (several one n number).behind (omega arith) le)

several_length : {A : Type 0} (one : ℕ → ℕ → Drawn A) (n number : ℕ) → length (several one n number).what ≡ n
unfolding several
several_length one zero number = refl
several_length one (suc n) number = length-append (several one n number).what ((one (suc n) (several one n number).behind).what ∷ []) ∙ ap (λ (k : ℕ). k + 1) (several_length one n number) ∙ (omega arith)

-- ---- parts

within : (most n : ℕ) → 0 < most → (1 ≤ 1 + n % most) × (1 + n % most ≤ most)
within most n some = let lt = mod_below n most some in (omega arith, omega (arith, lt))

one_within : (most number : ℕ) → 0 < most → (1 ≤ (one_of most number).what) × ((one_of most number).what ≤ most)
one_within most number some = within most _ some

known_symbol : (number : ℕ) → IsKnown (symbol number).what
unfolding symbol
known_symbol number = by_kind (eqb (draw 2 number).what 0) (draw 2 number).behind
  where
    by_kind : (b : Bool) (at : ℕ) → IsKnown (cond b (Token (one_of (cond b 24 40) at).what) (Nonterminal (one_of (cond b 24 40) at).what))
    by_kind true at = one_within 24 at (omega arith)
    by_kind false at = one_within 40 at (omega arith)

known_body : (number : ℕ) → IsBody (body number).what
unfolding body
known_body number =
    let lt = mod_below (next number / 2 ^ 33) 4 (omega arith) in
    let n = (draw 4 number).what in
    let at = (draw 4 number).behind in
    record {
      known = several_all IsKnown (λ _. symbol) n (λ i s _ _. known_symbol s) n at (omega arith);
      few = omega (arith, lt, several_length (λ _. symbol) n at);
    }

known_bodies : (number : ℕ) → AreBodies (bodies number).what × (length (bodies number).what ≤ 3)
unfolding bodies
known_bodies number =
    let n = (one_of 3 number).what in
    let at = (one_of 3 number).behind in
    let le = (one_within 3 number (omega arith)).1 in
    (several_all IsBody (λ _. body) n (λ i s _ _. known_body s) n at (omega arith), omega (arith, le, several_length (λ _. body) n at))

known_first : (left token : ℕ) → IsKnown (Token token) → IsBody (first_body left token)
known_first left token known = by_next (nat_lt left 40) refl
  where
    by_next : (b : Bool) → nat_lt left 40 ≡ b → IsBody (Token token ∷ cond b (Nonterminal (left + 1) ∷ []) [])
    by_next true e = let lt : left < 40 = grind (arith, nat_tests) in record { known = (known, ((omega arith, omega (arith, lt)), tt)); few = omega arith }
    by_next false e = record { known = (known, tt); few = omega arith }

few_first : (left token : ℕ) → length (first_body left token) ≤ 2
few_first left token = by_next (nat_lt left 40)
  where
    by_next : (b : Bool) → length (Token token ∷ cond b (Nonterminal (left + 1) ∷ []) []) ≤ 2
    by_next true = omega arith
    by_next false = omega arith

known_line : (left number : ℕ) → 1 ≤ left → left ≤ 40 → IsLine (line left number).what
unfolding line
known_line left number some most =
    let token = one_of 24 number in
    let others = known_bodies token.behind in
    record { left = (some, most); first = known_first left token.what (one_within 24 number (omega arith)); few_first = few_first left token.what; others = others.0; few = others.1 }

-- ---- all lines

pub known_lines : (seed : ℕ) → AreLines (lines seed)
unfolding lines
known_lines seed = several_all IsLine line 40 known_line 40 seed (omega arith)

left_of : (left number : ℕ) → (line left number).what.left ≡ left
unfolding line
left_of left number = refl

lefts_below : (n seed : ℕ) → map (λ (l : Line). l.left) (several line n seed).what ≡ up_to n
unfolding several
lefts_below zero seed = refl
lefts_below (suc n) seed =
    map_push (λ (l : Line). l.left) (several line n seed).what (line (suc n) (several line n seed).behind).what
    ∙ rw (lefts_below n seed, left_of (suc n) (several line n seed).behind) refl

-- the lines are those of the nonterminals, in order
pub lefts_are : (seed : ℕ) → map (λ (l : Line). l.left) (lines seed) ≡ up_to 40
unfolding lines
lefts_are seed = lefts_below 40 seed
