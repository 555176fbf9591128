-- What stands at a place of the head: numbered lines of a kind, and then the others.
use Rattle.std.proofs.Common.{◌≡◌, ℕ, zero, suc, ◌+◌, ◌-◌, ◌*◌, ◌<◌, ◌≤◌, List, ◌∷◌, ◌++◌, length, length-append, map, sym, ap, ◌∙◌, arith, Some}
use Rattle.std.specs.Prelude.{slice_get}
use Rattle.std.specs.List.{range_with_len}
use Rattle.std.proofs.lemmas.List.FromFn.{length-map-range_with_len}
use Rattle.cs_grammar.specs.Grammar.{PlainGrammar}
use Rattle.cs_lines.specs.Lines.Line.{Productive, Reachable, Empty, First, Last, Next}
use Rattle.cs_check.specs.Passing.Head.{Due, TheOpening, TheWeighing, TheToken, TheRule, TheLexeme, TheSet, TheRow, tables, claims, whole_head}

module _ {X : Type 0} (f : ℕ → X) (rest : List X) where
  pub in_range : (first many place : ℕ) → place < many → slice_get (map f (range_with_len first many) ++ rest) place ≡ Some (f (first + place))
  in_range first zero place less = absurd (omega (arith, less))
  in_range first (suc many) zero less = let e : first ≡ first + 0 = omega arith in ap (λ (n : ℕ). Some (f n)) e
  in_range first (suc many) (suc place) less =
      let e : first + 1 + place ≡ first + suc place = omega arith in
      in_range (first + 1) many place (omega (arith, less)) ∙ ap (λ (n : ℕ). Some (f n)) e

  pub behind_range : (first many place : ℕ) → many ≤ place → slice_get (map f (range_with_len first many) ++ rest) place ≡ slice_get rest (place - many)
  behind_range first zero place less = let e : place ≡ place - 0 = omega arith in ap (slice_get rest) e
  behind_range first (suc many) zero less = absurd (omega (arith, less))
  behind_range first (suc many) (suc place) less =
      let e : place - many ≡ suc place - suc many = omega arith in
      behind_range (first + 1) many place (omega (arith, less)) ∙ ap (slice_get rest) e

-- the line of a kind at one of so many places, and the place among the rest behind them
module _ (kind : ℕ → Due) (rest : List Due) (told many place : ℕ) (same : told ≡ many) where
  pub due_within : (number : ℕ) → number ≡ place + 1 → place < told → Some (kind number) ≡ slice_get (map kind (range_with_len 1 many) ++ rest) place
  due_within number is low =
      let one : number ≡ 1 + place = omega arith in
      ap (λ (n : ℕ). Some (kind n)) one ∙ sym (in_range kind rest 1 many place (omega arith))

  pub due_behind : told ≤ place → slice_get rest (place - told) ≡ slice_get (map kind (range_with_len 1 many) ++ rest) place
  due_behind past =
      ap (λ (n : ℕ). slice_get rest (place - n)) same ∙ sym (behind_range kind rest 1 many place (omega arith))

-- how many lines there are
module _ (g : PlainGrammar) where
  pub tables_long : length (tables g) ≡ 2 + 2 * g.tokens + length g.rules
  tables_long =
      let tokens : List Due = TheOpening ∷ TheWeighing ∷ map TheToken (range_with_len 1 g.tokens) in
      let rules = map TheRule (range_with_len 1 (length g.rules)) in
      let lexemes = map TheLexeme (range_with_len 1 g.tokens) in
      let all : length (tables g) ≡ length (tokens ++ rules) + length lexemes = length-append (tokens ++ rules) lexemes in
      let front = length-append tokens rules in
      let t : length tokens ≡ 2 + g.tokens = let n = length-map-range_with_len TheToken 1 g.tokens in omega (arith, n) in
      let r = length-map-range_with_len TheRule 1 (length g.rules) in
      let x = length-map-range_with_len TheLexeme 1 g.tokens in
      omega (arith, all, front, t, r, x)

  pub claims_long : length (claims g) ≡ 4 + 2 * g.nonterminals + g.tokens
  claims_long =
      let first : List Due = TheSet Productive ∷ TheSet Reachable ∷ TheSet Empty ∷ map (TheRow First) (range_with_len 1 g.nonterminals) in
      let last = map (TheRow Last) (range_with_len 1 g.nonterminals) in
      let next = map (TheRow Next) (range_with_len 0 (g.tokens + 1)) in
      let all : length (claims g) ≡ length (first ++ last) + length next = length-append (first ++ last) next in
      let front = length-append first last in
      let f : length first ≡ 3 + g.nonterminals = let n = length-map-range_with_len (TheRow First) 1 g.nonterminals in omega (arith, n) in
      let l = length-map-range_with_len (TheRow Last) 1 g.nonterminals in
      let n = length-map-range_with_len (TheRow Next) 0 (g.tokens + 1) in
      omega (arith, all, front, f, l, n)

  pub whole_long : length (whole_head g) ≡ 2 + 2 * g.tokens + length g.rules + 4 + 2 * g.nonterminals + g.tokens
  whole_long =
      let all = length-append (tables g) (claims g) in
      let front = tables_long in
      let behind = claims_long in
      omega (arith, front, behind, all)
