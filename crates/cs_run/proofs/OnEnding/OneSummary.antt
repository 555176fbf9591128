-- A text ends with one end line: it has one list of counts.
use Rattle.std.proofs.Common.{◌≡◌, ◌≢◌, ℕ, ◌+◌, ◌<◌, ◌%◌, ◌^◌, List, [], ◌∷◌, ◌++◌, refl, sym, ap, ◌∙◌, subst, arith, append_assoc, append-nil, Option, None}
use Rattle.std.specs.Prelude.{codes, decimal}
use Rattle.std.specs.List.{AllByRecursion}
use Rattle.std.proofs.lemmas.Fmt.{decimal_by_steps, decimal_injective}
use Rattle.std.proofs.lemmas.List.{append_cancel_right}
use Rattle.cs_gen.proofs.Digits.{all_push}
use Rattle.cs_manifest.specs.Output.Words.{line, numbered_word}
use Rattle.cs_manifest.specs.declared.manifest.counts.Counts.{Counts}
use Rattle.cs_manifest.specs.Manifest.Counts.{end_of}
use Rattle.cs_manifest.specs.Manifest.Lines.{end_words}
use Rattle.cs_run.specs.Ending.Summary.{HasCounts}

-- ---- a number behind its word

abbrev HasNoSpace : List ℕ → Type 0
HasNoSpace text = AllByRecursion (λ b. b ≢ 32) text

no_space : (n : ℕ) → n < 2 ^ 64 → HasNoSpace (decimal n)
no_space n small =
    decimal_by_steps (λ number digits. HasNoSpace digits) (λ d below. ((λ e. omega (arith, e)), tt))
    (λ d digits large h. all_push (λ b. b ≢ 32) digits (48 + d % 10) h (λ e. omega (arith, e))) n small

a_space : (before after : List ℕ) → HasNoSpace (before ++ 32 ∷ after) → ⊥
a_space [] after none = none.0 refl
a_space (b ∷ before) after none = a_space before after none.1

-- what stands behind the last space
split_last : (xs ys d e : List ℕ) → HasNoSpace d → HasNoSpace e → xs ++ 32 ∷ d ≡ ys ++ 32 ∷ e → (xs ≡ ys) × (d ≡ e)
split_last [] [] d e one other same = let behind : d ≡ e = cc in (refl, behind)
split_last [] (y ∷ ys) d e one other same =
    let behind : d ≡ ys ++ 32 ∷ e = cc in absurd (a_space ys e (subst (λ (ds : List ℕ). HasNoSpace ds) behind one))
split_last (x ∷ xs) [] d e one other same =
    let behind : e ≡ xs ++ 32 ∷ d = cc in absurd (a_space xs d (subst (λ (ds : List ℕ). HasNoSpace ds) behind other))
split_last (x ∷ xs) (y ∷ ys) d e one other same =
    let heads : x ≡ y = cc in
    let tails : xs ++ 32 ∷ d ≡ ys ++ 32 ∷ e = cc in
    let rest = split_last xs ys d e one other tails in
    (ap (λ z. z ∷ xs) heads ∙ ap (λ zs. y ∷ zs) rest.0, rest.1)

last_number : (xs ys word : List ℕ) (m n : ℕ) → m < 2 ^ 64 → n < 2 ^ 64 → xs ++ (word ++ 32 ∷ decimal m) ≡ ys ++ (word ++ 32 ∷ decimal n) → (xs ≡ ys) × (m ≡ n)
last_number xs ys word m n small other same =
    let moved : (xs ++ word) ++ 32 ∷ decimal m ≡ (ys ++ word) ++ 32 ∷ decimal n = append_assoc xs word (32 ∷ decimal m) ∙ same ∙ sym (append_assoc ys word (32 ∷ decimal n)) in
    let s = split_last (xs ++ word) (ys ++ word) (decimal m) (decimal n) (no_space m small) (no_space n other) moved in
    (append_cancel_right xs ys word s.0, decimal_injective m n small other s.1)

-- ---- five of them

five : (before a b c d e end : List ℕ) → before ++ (a ++ b ++ c ++ d ++ e ++ end) ≡ before ++ a ++ b ++ c ++ d ++ e ++ end
five before a b c d e end =
    sym (append_assoc before (a ++ b ++ c ++ d ++ e) end)
    ∙ ap (λ xs. xs ++ end)
    (sym (append_assoc before (a ++ b ++ c ++ d) e)
    ∙ ap (λ xs. xs ++ e)
    (sym (append_assoc before (a ++ b ++ c) d)
    ∙ ap (λ xs. xs ++ d) (sym (append_assoc before (a ++ b) c) ∙ ap (λ xs. xs ++ c) (sym (append_assoc before a b)))))

abbrev counts : ℕ → ℕ → ℕ → ℕ → ℕ → Option ℕ → ℕ → Counts
counts goals feasible infeasible large negatives cases bytes =
    record { goals = goals; feasible = feasible; infeasible = infeasible; large = large; negatives = negatives; cases = cases; bytes = bytes }

same_counts : (c d : Counts) → c.goals ≡ d.goals → c.feasible ≡ d.feasible → c.infeasible ≡ d.infeasible → c.large ≡ d.large → c.negatives ≡ d.negatives → c.cases ≡ d.cases → c.bytes ≡ d.bytes → c ≡ d
same_counts c d goals feasible infeasible large negatives cases bytes =
    ap (λ (n : ℕ). counts n c.feasible c.infeasible c.large c.negatives c.cases c.bytes) goals
    ∙ ap (λ (n : ℕ). counts d.goals n c.infeasible c.large c.negatives c.cases c.bytes) feasible
    ∙ ap (λ (n : ℕ). counts d.goals d.feasible n c.large c.negatives c.cases c.bytes) infeasible
    ∙ ap (λ (n : ℕ). counts d.goals d.feasible d.infeasible n c.negatives c.cases c.bytes) large
    ∙ ap (λ (n : ℕ). counts d.goals d.feasible d.infeasible d.large n c.cases c.bytes) negatives
    ∙ ap (λ (k : Option ℕ). counts d.goals d.feasible d.infeasible d.large d.negatives k c.bytes) cases
    ∙ ap (λ (n : ℕ). counts d.goals d.feasible d.infeasible d.large d.negatives d.cases n) bytes

-- what stands before the last number of an end line, and before each of the others
abbrev before_feasible : List ℕ → Counts → List ℕ
before_feasible before c = before ++ numbered_word (codes "end goals ") c.goals

abbrev before_infeasible : List ℕ → Counts → List ℕ
before_infeasible before c = before_feasible before c ++ numbered_word (codes " feasible ") c.feasible

abbrev before_large : List ℕ → Counts → List ℕ
before_large before c = before_infeasible before c ++ numbered_word (codes " infeasible ") c.infeasible

abbrev before_negatives : List ℕ → Counts → List ℕ
before_negatives before c = before_large before c ++ numbered_word (codes " large ") c.large

by_numbers : (before : List ℕ) (c : Counts) → c.cases ≡ None → before ++ end_of c ≡ (before_negatives before c ++ numbered_word (codes " negatives ") c.negatives) ++ 10 ∷ []
by_numbers before c none =
    let one = numbered_word (codes "end goals ") c.goals in
    let two = numbered_word (codes " feasible ") c.feasible in
    let three = numbered_word (codes " infeasible ") c.infeasible in
    let four = numbered_word (codes " large ") c.large in
    let last = numbered_word (codes " negatives ") c.negatives in
    ap (λ (k : Option ℕ). before ++ end_words c.goals c.feasible c.infeasible c.large c.negatives k) none
    ∙ ap (λ (words : List ℕ). before ++ line words) (append-nil (one ++ two ++ three ++ four ++ last))
    ∙ five before one two three four last (10 ∷ [])

by_ends : (xs ys : List ℕ) (c d : Counts) → c.cases ≡ None → d.cases ≡ None → xs ++ end_of c ≡ ys ++ end_of d
    → (before_negatives xs c ++ numbered_word (codes " negatives ") c.negatives) ++ 10 ∷ [] ≡ (before_negatives ys d ++ numbered_word (codes " negatives ") d.negatives) ++ 10 ∷ []
by_ends xs ys c d none no_other same = sym (by_numbers xs c none) ∙ (same ∙ by_numbers ys d no_other)

pub one_counts : (text : List ℕ) (c d : Counts) → HasCounts c text → HasCounts d text → c ≡ d
one_counts text c d is other =
    let lines = by_ends is.before other.before c d is.cases other.cases (sym is.ends ∙ other.ends) in
    let s1 = last_number (before_negatives is.before c) (before_negatives other.before d) (codes " negatives") c.negatives d.negatives is.negatives other.negatives (append_cancel_right _ _ (10 ∷ []) lines) in
    let s2 = last_number (before_large is.before c) (before_large other.before d) (codes " large") c.large d.large is.large other.large s1.0 in
    let s3 = last_number (before_infeasible is.before c) (before_infeasible other.before d) (codes " infeasible") c.infeasible d.infeasible is.infeasible other.infeasible s2.0 in
    let s4 = last_number (before_feasible is.before c) (before_feasible other.before d) (codes " feasible") c.feasible d.feasible is.feasible other.feasible s3.0 in
    let s5 = last_number is.before other.before (codes "end goals") c.goals d.goals is.goals other.goals s4.0 in
    same_counts c d s5.1 s4.1 s3.1 s2.1 s1.1 (is.cases ∙ sym other.cases) (is.bytes ∙ sym other.bytes)
