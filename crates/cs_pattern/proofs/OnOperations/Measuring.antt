-- Measures of parts, one after another.
use Rattle.std.proofs.Common.{◌≡◌, ℕ, ◌+◌, ◌<◌, List, [], ◌∷◌, ◌++◌, length, take, get_or, sym, ap, ◌∙◌, arith}
use Rattle.std.specs.Prelude.{max, sum_by}
use Rattle.std.proofs.lemmas.List.{take_more}
use Rattle.std.proofs.lemmas.List.Sums.{sum_by-append}
use Rattle.cs_pattern.specs.declared.operations.measure.Measure.{Measure}
use Rattle.cs_pattern.specs.Operations.Depth.{in_32_bits}
use Rattle.cs_pattern.specs.Operations.Measures.{greatest_depth, together}

greatest-append : (xs : List Measure) (m : Measure) → greatest_depth (xs ++ m ∷ []) ≡ max (greatest_depth xs) m.depth
greatest-append [] m = omega arith
greatest-append (x ∷ xs) m = omega (arith, greatest-append xs m)

sum-append : (xs : List Measure) (m : Measure) → in_32_bits (sum_by (λ x. x.leaves) (xs ++ m ∷ [])) ≡ in_32_bits (in_32_bits (sum_by (λ x. x.leaves) xs) + m.leaves)
sum-append xs m = omega (arith, sum_by-append (λ (x : Measure). x.leaves) xs (m ∷ []))

same_measure : (d e l k : ℕ) → d ≡ e → l ≡ k → record { depth = d; leaves = l } ≡ (let m : Measure = record { depth = e; leaves = k } in m)
same_measure d e l k f g = ap (λ n. let m : Measure = record { depth = n; leaves = l } in m) f ∙ ap (λ n. let m : Measure = record { depth = e; leaves = n } in m) g

pub together_more : (xs : List Measure) (i d l : ℕ) (m x : Measure) → i < length xs → m ≡ together (take i xs) → d ≡ max m.depth (get_or xs i x).depth → l ≡ in_32_bits (m.leaves + (get_or xs i x).leaves)
    → (let n : Measure = record { depth = d; leaves = l } in n) ≡ together (take (i + 1) xs)
together_more xs i d l m x lt is deep many =
    let more = take_more xs i x lt in
    same_measure d (greatest_depth (take (i + 1) xs)) l (in_32_bits (sum_by (λ y. y.leaves) (take (i + 1) xs)))
    (deep ∙ ap (λ (n : Measure). max n.depth (get_or xs i x).depth) is ∙ sym (greatest-append (take i xs) (get_or xs i x)) ∙ ap greatest_depth (sym more))
    (many ∙ ap (λ (n : Measure). in_32_bits (n.leaves + (get_or xs i x).leaves)) is ∙ sym (sum-append (take i xs) (get_or xs i x)) ∙ ap (λ (ys : List Measure). in_32_bits (sum_by (λ y. y.leaves) ys)) (sym more))
