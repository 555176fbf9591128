-- The numbers of the lines that are due are the grammar's.
use Rattle.std.proofs.Common.{◌≡◌, ℕ, zero, suc, ◌+◌, ◌≤◌, List, [], ◌∷◌, ◌++◌, length, map, subst, arith, Some}
use Rattle.std.specs.Prelude.{All, slice_get}
use Rattle.std.specs.List.{range_with_len}
use Rattle.std.proofs.lemmas.List.Elements.{All-nil, All-cons, All-head, All-tail, All-append}
use Rattle.cs_grammar.specs.Grammar.{PlainGrammar}
use Rattle.cs_lines.specs.Lines.Line.{Productive, Reachable, Empty, First, Last, Next}
use Rattle.cs_check.specs.Passing.Head.{Due, TheOpening, TheWeighing, TheToken, TheRule, TheLexeme, TheSet, TheRow, whole_head, tables, claims}
use Rattle.cs_check.specs.Checking.Head.{IsDueOf}

-- each of these numbers has it, so each of these lines does
all_of : (P : Due → Type 0) (f : ℕ → Due) (first many : ℕ) → ((k : ℕ) → first ≤ k → k + 1 ≤ first + many → P (f k)) → All P (map f (range_with_len first many))
all_of P f first zero each = All-nil P
all_of P f first (suc many) each =
    All-cons P (f first) (map f (range_with_len (first + 1) many)) (each first (omega arith) (omega arith))
    (all_of P f (first + 1) many (λ k low high. each k (omega (arith, low)) (omega (arith, high))))

one_of : (P : Due → Type 0) (ds : List Due) (place : ℕ) (d : Due) → All P ds → slice_get ds place ≡ Some d → P d
one_of P [] zero d all e = absurd cc
one_of P [] (suc place) d all e = absurd cc
one_of P (x ∷ ds) zero d all e = let same : x ≡ d = cc in subst P same (All-head P x ds all)
one_of P (x ∷ ds) (suc place) d all e = one_of P ds place d (All-tail P x ds all) e

module _ (g : PlainGrammar) where
  with_two : (a b : Due) (ds : List Due) → IsDueOf g a → IsDueOf g b → All (IsDueOf g) ds → All (IsDueOf g) (a ∷ b ∷ ds)
  with_two a b ds x y all = All-cons (IsDueOf g) a (b ∷ ds) x (All-cons (IsDueOf g) b ds y all)

  all_tables : All (IsDueOf g) (tables g)
  all_tables =
      let tokens : List Due = map TheToken (range_with_len 1 g.tokens) in
      let rules : List Due = map TheRule (range_with_len 1 (length g.rules)) in
      let lexemes : List Due = map TheLexeme (range_with_len 1 g.tokens) in
      let of_tokens = all_of (IsDueOf g) TheToken 1 g.tokens (λ k low high. (omega (arith, low), omega (arith, high))) in
      let of_rules = all_of (IsDueOf g) TheRule 1 (length g.rules) (λ k low high. (omega (arith, low), omega (arith, high))) in
      let of_lexemes = all_of (IsDueOf g) TheLexeme 1 g.tokens (λ k low high. (omega (arith, low), omega (arith, high))) in
      All-append (IsDueOf g) (TheOpening ∷ TheWeighing ∷ (tokens ++ rules)) lexemes
      (with_two TheOpening TheWeighing (tokens ++ rules) tt tt (All-append (IsDueOf g) tokens rules of_tokens of_rules))
      of_lexemes

  all_claims : All (IsDueOf g) (claims g)
  all_claims =
      let firsts : List Due = map (TheRow First) (range_with_len 1 g.nonterminals) in
      let lasts : List Due = map (TheRow Last) (range_with_len 1 g.nonterminals) in
      let nexts : List Due = map (TheRow Next) (range_with_len 0 (g.tokens + 1)) in
      let of_firsts = all_of (IsDueOf g) (TheRow First) 1 g.nonterminals (λ k low high. (omega (arith, low), omega (arith, high))) in
      let of_lasts = all_of (IsDueOf g) (TheRow Last) 1 g.nonterminals (λ k low high. (omega (arith, low), omega (arith, high))) in
      let of_nexts = all_of (IsDueOf g) (TheRow Next) 0 (g.tokens + 1) (λ k low high. omega (arith, high)) in
      All-append (IsDueOf g) (TheSet Productive ∷ TheSet Reachable ∷ TheSet Empty ∷ (firsts ++ lasts)) nexts
      (All-cons (IsDueOf g) (TheSet Productive) (TheSet Reachable ∷ TheSet Empty ∷ (firsts ++ lasts)) tt
      (with_two (TheSet Reachable) (TheSet Empty) (firsts ++ lasts) tt tt (All-append (IsDueOf g) firsts lasts of_firsts of_lasts)))
      of_nexts

  pub due_of : (place : ℕ) (d : Due) → slice_get (whole_head g) place ≡ Some d → IsDueOf g d
  due_of place d e = one_of (IsDueOf g) (whole_head g) place d (All-append (IsDueOf g) (tables g) (claims g) all_tables all_claims) e
