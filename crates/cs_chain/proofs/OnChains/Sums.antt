-- Sums over rules and symbols, and how large they may be.
use Rattle.std.proofs.Common.{◌≡◌, ◌≢◌, ℕ, suc, ◌+◌, ◌-◌, ◌*◌, ◌<◌, ◌≤◌, Bool, true, false, cond, eqb, List, [], ◌∷◌, length, take, get_or, set, refl, sym, ap, ◌∙◌, ⊎_elim, arith}
use Rattle.std.specs.Prelude.{All}
use Rattle.std.proofs.lemmas.List.Sums.{sum_by-cons, sum_by-le, sum_by_more}
use Rattle.std.proofs.lemmas.List.{get_or-set_same, get_or-set_other}
use Rattle.std.proofs.lemmas.Bool.{cases_eq}
use Rattle.std.proofs.lemmas.Bool.Decides.{nat_tests}
use Rattle.cs_grammar.specs.declared.symbol.Symbol.{Symbol}
use Rattle.cs_grammar.specs.declared.symbol.Symbol.TheVariants.{Token, Nonterminal}
use Rattle.cs_grammar.specs.Grammar.{Production, IsSymbol, IsNumberOf}
use Rattle.cs_chain.specs.Chains.Counts.{of_symbol, weight, of_rule, of_left, in_table, AreAtMost}

-- the numbers of the symbols
of_symbol-le : (f : ℕ → ℕ) (most : ℕ) → ((n : ℕ) → f n ≤ most) → (x : Symbol) → of_symbol f x ≤ most
of_symbol-le f most h (Token t) = omega arith
of_symbol-le f most h (Nonterminal n) = h n

pub weight-le : (f : ℕ → ℕ) (most : ℕ) → ((n : ℕ) → f n ≤ most) → (xs : List Symbol) → weight f xs ≤ length xs * most
weight-le f most h xs = sum_by-le (of_symbol f) most xs (λ k d within. of_symbol-le f most h (get_or xs k d))

of_symbol-same : (f h : ℕ → ℕ) (tokens last : ℕ) → ((n : ℕ) → IsNumberOf last n → f n ≡ h n) → (x : Symbol) → IsSymbol tokens last x → of_symbol f x ≡ of_symbol h x
of_symbol-same f h tokens last same (Token t) is = refl
of_symbol-same f h tokens last same (Nonterminal n) is = same n is

pub weight-same : (f h : ℕ → ℕ) (tokens last : ℕ) → ((n : ℕ) → IsNumberOf last n → f n ≡ h n) → (xs : List Symbol) → All (IsSymbol tokens last) xs → weight f xs ≡ weight h xs
weight-same f h tokens last same [] are = refl
weight-same f h tokens last same (x ∷ xs) are =
    sum_by-cons (of_symbol f) x xs
    ∙ ap (λ n. n + weight f xs) (of_symbol-same f h tokens last same x (are 0 x (omega arith)))
    ∙ ap (λ n. of_symbol h x + n) (weight-same f h tokens last same xs (λ k d within. are (suc k) d (omega arith)))
    ∙ sym (sum_by-cons (of_symbol h) x xs)

-- the numbers of the rules
cond-le : (b : Bool) (n most : ℕ) → n ≤ most → cond b n 0 ≤ most
cond-le true n most h = h
cond-le false n most h = omega arith

pub of_left-le : (f : Production → ℕ) (most : ℕ) (rules : List Production) → All (λ p. f p ≤ most) rules → (n : ℕ) → of_left f rules n ≤ length rules * most
of_left-le f most rules are n =
    sum_by-le (of_rule f n) most rules (λ k d within. cond-le (eqb (get_or rules k d).left n) (f (get_or rules k d)) most (are k d within))

of_rule_hit : (f : Production → ℕ) (n : ℕ) (p : Production) → p.left ≡ n → of_rule f n p ≡ f p
of_rule_hit f n p same = let test : eqb p.left n ≡ true = grind (arith, nat_tests) in rw test refl

of_rule_miss : (f : Production → ℕ) (n : ℕ) (p : Production) → p.left ≢ n → of_rule f n p ≡ 0
of_rule_miss f n p other = let test : eqb p.left n ≡ false = grind (arith, nat_tests) in rw test refl

-- a table with the number of one more rule
module _ (f : Production → ℕ) (rules : List Production) (i : ℕ) (p : Production) (table : List ℕ) (last : ℕ) where
  pub grown : i < length rules → p ≡ get_or rules i p → length table ≡ last → IsNumberOf last p.left → ((n : ℕ) → IsNumberOf last n → in_table table n ≡ of_left f (take i rules) n) → (n : ℕ) → IsNumberOf last n → in_table (set table (p.left - 1) (get_or table (p.left - 1) 0 + f p)) n ≡ of_left f (take (i + 1) rules) n
  grown within is long left each n number =
      let above = left.0 in
      let below = left.1 in
      let positive = number.0 in
      let more : of_left f (take (i + 1) rules) n ≡ of_left f (take i rules) n + of_rule f n p =
      sum_by_more (of_rule f n) rules i p within ∙ ap (λ r. of_left f (take i rules) n + of_rule f n r) (sym is) in
      ⊎_elim
      (λ same.
      let at : n - 1 ≡ p.left - 1 = omega (arith, same) in
      ap (λ k. get_or (set table (p.left - 1) (get_or table (p.left - 1) 0 + f p)) k 0) at
      ∙ get_or-set_same table (p.left - 1) (get_or table (p.left - 1) 0 + f p) 0 (omega arith)
      ∙ ap (λ k. get_or table k 0 + f p) (sym at)
      ∙ ap (λ k. k + f p) (each n number)
      ∙ ap (λ k. of_left f (take i rules) n + k) (sym (of_rule_hit f n p same))
      ∙ sym more)
      (λ other.
      let apart : n - 1 ≢ p.left - 1 = λ e. other (omega arith) in
      let nothing : of_left f (take i rules) n ≡ of_left f (take i rules) n + 0 = omega arith in
      get_or-set_other table (p.left - 1) (n - 1) (get_or table (p.left - 1) 0 + f p) 0 apart
      ∙ each n number
      ∙ nothing
      ∙ ap (λ k. of_left f (take i rules) n + k) (sym (of_rule_miss f n p other))
      ∙ sym more)
      (cases_eq p.left n)

pub grown-most : (table : List ℕ) (at v most more : ℕ) → at < length table → AreAtMost most table → v ≤ more → AreAtMost (most + more) (set table at (get_or table at 0 + v))
grown-most table at v most more within each small n =
    ⊎_elim
    (λ same.
    let here = each n in
    let is : get_or (set table at (get_or table at 0 + v)) (n - 1) 0 ≡ get_or table at 0 + v =
    ap (λ k. get_or (set table at (get_or table at 0 + v)) k 0) same ∙ get_or-set_same table at (get_or table at 0 + v) 0 within in
    let old : get_or table (n - 1) 0 ≡ get_or table at 0 = ap (λ k. get_or table k 0) same in
    omega (arith, is, old, here))
    (λ other.
    let here = each n in
    let is = get_or-set_other table at (n - 1) (get_or table at 0 + v) 0 other in
    omega (arith, is, here))
    (cases_eq (n - 1) at)
