-- The lines of the head, one behind another, are each the next of its kind.
use Rattle.std.proofs.Common.{◌≡◌, ℕ, zero, suc, ◌+◌, List, [], ◌∷◌, ◌++◌, length, map, refl, sym, ap, ◌∙◌, subst, append_assoc, append-nil, arith}
use Rattle.std.specs.List.{range_with_len}
use Rattle.cs_grammar.specs.Grammar.{PlainGrammar}
use Rattle.cs_lines.specs.Lines.Line.{Productive, Reachable, Empty, First, Last, Next}
use Rattle.cs_check.specs.Passing.Head.{Due, TheOpening, TheWeighing, TheToken, TheRule, TheLexeme, TheSet, TheRow, whole_head}
use Rattle.cs_check.specs.Passing.Dues.{next_on, last_on, first_on, claims_on, lexemes_on, rules_on, tokens_on}
use Rattle.cs_check.specs.Checking.Head.{State, after, IsNextIn, AreNext}

abbrev pub state : ℕ → ℕ → ℕ → ℕ → ℕ → ℕ → ℕ → State
state w p r e f l n = record { weighs = w; productive = p; reachable = r; empty = e; firsts = f; lasts = l; nexts = n }

-- lines of one kind, with numbers from the first on
runs : (f : ℕ → Due) (run : ℕ → State) (first : ℕ) → ((j : ℕ) → IsNextIn (run j) (f (first + j))) → ((j : ℕ) → after (run j) (f (first + j)) ≡ run (j + 1)) → (rest : List Due) (k j n : ℕ) → k ≡ first + j → AreNext (run (j + n)) rest → AreNext (run j) (map f (range_with_len k n) ++ rest)
runs f run first next step rest k j zero e h = let z : j + 0 ≡ j = omega arith in subst (λ (m : ℕ). AreNext (run m) rest) z h
runs f run first next step rest k j (suc n) e h =
    let up : k + 1 ≡ first + (j + 1) = omega arith in
    let all : j + suc n ≡ j + 1 + n = omega arith in
    let more = runs f run first next step rest (k + 1) (j + 1) n up (subst (λ (m : ℕ). AreNext (run m) rest) all h) in
    let one : after (run j) (f k) ≡ run (j + 1) = ap (λ (m : ℕ). after (run j) (f m)) e ∙ step j in (
      subst (λ (m : ℕ). IsNextIn (run j) (f m)) (sym e) (next j),
      subst (λ (s : State). AreNext s (map f (range_with_len (k + 1) n) ++ rest)) (sym one) more,
    )

-- lines of which only the kind counts
same_runs : (f : ℕ → Due) (s : State) → ((k : ℕ) → IsNextIn s (f k)) → ((k : ℕ) → after s (f k) ≡ s) → (rest : List Due) (k n : ℕ) → AreNext s rest → AreNext s (map f (range_with_len k n) ++ rest)
same_runs f s next step rest k zero h = h
same_runs f s next step rest k (suc n) h = (
  next k,
  subst (λ (t : State). AreNext t (map f (range_with_len (k + 1) n) ++ rest)) (sym (step k)) (same_runs f s next step rest (k + 1) n h),
)

module _ (g : PlainGrammar) where
  right_nested : whole_head g ≡ TheOpening ∷ TheWeighing ∷ tokens_on g
  right_nested =
      let tokens : List Due = map TheToken (range_with_len 1 g.tokens) in
      let rules : List Due = map TheRule (range_with_len 1 (length g.rules)) in
      let lexemes : List Due = map TheLexeme (range_with_len 1 g.tokens) in
      let firsts : List Due = map (TheRow First) (range_with_len 1 g.nonterminals) in
      let lasts : List Due = map (TheRow Last) (range_with_len 1 g.nonterminals) in
      let nexts : List Due = map (TheRow Next) (range_with_len 0 (g.tokens + 1)) in
      let claims : List Due = TheSet Productive ∷ TheSet Reachable ∷ TheSet Empty ∷ (firsts ++ lasts ++ nexts) in
      let one : tokens ++ rules ++ lexemes ++ claims ≡ tokens ++ rules ++ (lexemes ++ claims) = append_assoc (tokens ++ rules) lexemes claims in
      let two : tokens ++ rules ++ (lexemes ++ claims) ≡ tokens ++ (rules ++ (lexemes ++ claims)) = append_assoc tokens rules (lexemes ++ claims) in
      let three : firsts ++ lasts ++ nexts ≡ firsts ++ (lasts ++ nexts) = append_assoc firsts lasts nexts in
      ap (λ (x : List Due). TheOpening ∷ TheWeighing ∷ x) (one ∙ two)
      ∙ ap (λ (x : List Due). TheOpening ∷ TheWeighing ∷ (tokens ++ (rules ++ (lexemes ++ (TheSet Productive ∷ TheSet Reachable ∷ TheSet Empty ∷ x))))) three

  nexts_next : (n : ℕ) → AreNext (state 1 1 1 1 n n 0) (next_on g)
  nexts_next n =
      subst (λ (x : List Due). AreNext (state 1 1 1 1 n n 0) x) (append-nil (next_on g))
      (runs (TheRow Next) (λ j. state 1 1 1 1 n n j) 0 (λ j. (omega arith, refl)) (λ j. refl) [] 0 0 (g.tokens + 1) refl refl)

  lasts_next : (n : ℕ) → n ≡ g.nonterminals → AreNext (state 1 1 1 1 n 0 0) (last_on g)
  lasts_next n e =
      let z : n ≡ 0 + g.nonterminals = omega arith in
      runs (TheRow Last) (λ j. state 1 1 1 1 n j 0) 1 (λ j. (omega arith, refl)) (λ j. refl) (next_on g) 1 0 g.nonterminals refl
      (subst (λ (m : ℕ). AreNext (state 1 1 1 1 n m 0) (next_on g)) z (nexts_next n))

  firsts_next : AreNext (state 1 1 1 1 0 0 0) (first_on g)
  firsts_next =
      let z : g.nonterminals ≡ 0 + g.nonterminals = omega arith in
      runs (TheRow First) (λ j. state 1 1 1 1 j 0 0) 1 (λ j. (omega arith, refl)) (λ j. refl) (last_on g) 1 0 g.nonterminals refl
      (lasts_next (0 + g.nonterminals) (sym z))

  claims_next : AreNext (state 1 0 0 0 0 0 0) (claims_on g)
  claims_next = ((refl, refl), (refl, (refl, firsts_next)))

  tokens_next : AreNext (state 1 0 0 0 0 0 0) (tokens_on g)
  tokens_next =
      let s = state 1 0 0 0 0 0 0 in
      same_runs TheToken s (λ k. tt) (λ k. refl) (rules_on g) 1 g.tokens
      (same_runs TheRule s (λ k. tt) (λ k. refl) (lexemes_on g) 1 (length g.rules)
      (same_runs TheLexeme s (λ k. refl) (λ k. refl) (claims_on g) 1 g.tokens claims_next))

  pub all_next : AreNext (state 0 0 0 0 0 0 0) (whole_head g)
  all_next = subst (λ (x : List Due). AreNext (state 0 0 0 0 0 0 0) x) (sym right_nested) (tt, (refl, tokens_next))
