-- Slips that are put behind others, one more at a time.
use Rattle.std.proofs.Common.{◌≡◌, ℕ, zero, suc, ◌+◌, ◌-◌, ◌<◌, Bool, cond, List, [], ◌∷◌, ◌++◌, map, take, length, get_or, Some, sym, ap, ◌∙◌, arith, append_assoc, append-nil}
use Rattle.std.specs.Prelude.{slice_get}
use Rattle.std.specs.List.{enumerate_from, filter, flat_map, range_with_len}
use Rattle.std.proofs.lemmas.Grind.{flat_map-append}
use Rattle.std.proofs.lemmas.List.{length-take-le, map-append, take_more}
use Rattle.std.proofs.lemmas.Option.{get_or_from_slice_get, slice_get_within}
use Rattle.std.proofs.lemmas.List.Elements.{filter-append}
use Rattle.cs_grammar.specs.declared.symbol.Symbol.{Symbol}
use Rattle.cs_grammar.specs.Grammar.{Production}
use Rattle.cs_wrong.specs.Slips.Slips.{changes_of, differ_at, slips_in}
use Rattle.cs_choices.specs.declared.slips.Slips.{Slips}
use Rattle.cs_wrong.specs.declared.slips.slip.Change.{Change}
use Rattle.cs_wrong.specs.declared.slips.slip.Change.TheVariants.{Swap}
use Rattle.cs_wrong.specs.declared.slips.slip.Slip.{Slip}
use Rattle.cs_wrong.specs.declared.slips.slip.Slip.TheVariants.{Empty, Of}

pub range_more : (a n : ℕ) → range_with_len a (n + 1) ≡ range_with_len a n ++ (a + n) ∷ []
range_more a zero = let e : a ≡ a + 0 = omega arith in ap (λ (k : ℕ). k ∷ []) e
range_more a (suc n) =
    let e : a + 1 + n ≡ a + suc n = omega arith in
    let more : suc n + 1 ≡ suc (n + 1) = omega arith in
    ap (λ (k : ℕ). range_with_len a k) more
    ∙ ap (λ (l : List ℕ). a ∷ l) (range_more (a + 1) n ∙ ap (λ (k : ℕ). range_with_len (a + 1) n ++ k ∷ []) e)

-- one more change of each place
pub pushed : (f : ℕ → Change) (r n j : ℕ) (old mid new : List Slip) → mid ≡ old ++ map (Of r) (map f (range_with_len 1 n)) → 1 + n ≡ j → new ≡ mid ++ Of r (f j) ∷ []
    → new ≡ old ++ map (Of r) (map f (range_with_len 1 (n + 1)))
pushed f r n j old mid new far e more =
    let grown : map (Of r) (map f (range_with_len 1 (n + 1))) ≡ map (Of r) (map f (range_with_len 1 n)) ++ Of r (f (1 + n)) ∷ [] =
    ap (λ (l : List ℕ). map (Of r) (map f l)) (range_more 1 n)
    ∙ ap (λ (l : List Change). map (Of r) l) (map-append f (range_with_len 1 n) ((1 + n) ∷ []))
    ∙ map-append (Of r) (map f (range_with_len 1 n)) (f (1 + n) ∷ []) in
    more ∙ ap (λ (l : List Slip). l ++ Of r (f j) ∷ []) far ∙ ap (λ (k : ℕ). old ++ map (Of r) (map f (range_with_len 1 n)) ++ Of r (f k) ∷ []) (sym e)
    ∙ append_assoc old (map (Of r) (map f (range_with_len 1 n))) (Of r (f (1 + n)) ∷ [])
    ∙ ap (λ (l : List Slip). old ++ l) (sym grown)

-- one more change of neighbours, where they differ
pub swap_more : (xs : List Symbol) (r i : ℕ) (old mid new : List Slip) → 0 < i → mid ≡ old ++ map (Of r) (map Swap (filter (differ_at xs) (range_with_len 1 (i - 1))))
    → new ≡ mid ++ map (Of r) (map Swap (cond (differ_at xs i) (i ∷ []) [])) → new ≡ old ++ map (Of r) (map Swap (filter (differ_at xs) (range_with_len 1 (i + 1 - 1))))
swap_more xs r i old mid new low far more =
    let f = λ (l : List ℕ). map (Of r) (map Swap l) in
    let first : i + 1 - 1 ≡ i - 1 + 1 = omega arith in
    let last : 1 + (i - 1) ≡ i = omega arith in
    let done = filter (differ_at xs) (range_with_len 1 (i - 1)) in
    let grown : filter (differ_at xs) (range_with_len 1 (i + 1 - 1)) ≡ done ++ cond (differ_at xs i) (i ∷ []) [] =
    ap (λ (k : ℕ). filter (differ_at xs) (range_with_len 1 k)) first
    ∙ ap (λ (l : List ℕ). filter (differ_at xs) l) (range_more 1 (i - 1))
    ∙ filter-append (differ_at xs) (range_with_len 1 (i - 1)) ((1 + (i - 1)) ∷ [])
    ∙ ap (λ (k : ℕ). done ++ filter (differ_at xs) (k ∷ [])) last in
    let split : f (done ++ cond (differ_at xs i) (i ∷ []) []) ≡ f done ++ f (cond (differ_at xs i) (i ∷ []) []) =
    ap (λ (l : List Change). map (Of r) l) (map-append Swap done (cond (differ_at xs i) (i ∷ []) [])) ∙ map-append (Of r) (map Swap done) (map Swap (cond (differ_at xs i) (i ∷ []) [])) in
    more ∙ ap (λ (l : List Slip). l ++ f (cond (differ_at xs i) (i ∷ []) [])) far
    ∙ append_assoc old (f done) (f (cond (differ_at xs i) (i ∷ []) []))
    ∙ ap (λ (l : List Slip). old ++ l) (sym split ∙ ap f (sym grown))

-- it is put where they differ
pub swap_put : (xs : List Symbol) (r i : ℕ) (mid new : List Slip) (differ : Bool) → differ_at xs i ≡ differ → new ≡ mid ++ map (Of r) (map Swap (cond differ (i ∷ []) []))
    → new ≡ mid ++ map (Of r) (map Swap (cond (differ_at xs i) (i ∷ []) []))
swap_put xs r i mid new differ is put = put ∙ ap (λ (b : Bool). mid ++ map (Of r) (map Swap (cond b (i ∷ []) []))) (sym is)

-- ---- one rule more

pub enumerated_more : {X : Type 0} (n : ℕ) (xs : List X) (x : X) → enumerate_from n (xs ++ x ∷ []) ≡ enumerate_from n xs ++ (n + length xs, x) ∷ []
enumerated_more {X = X} n [] x = let e : n ≡ n + 0 = omega arith in ap (λ (k : ℕ). (k, x) ∷ []) e
enumerated_more {X = X} n (y ∷ xs) x =
    let e : n + 1 + length xs ≡ n + length (y ∷ xs) = omega arith in
    ap (λ (l : List (ℕ × X)). (n, y) ∷ l) (enumerated_more (n + 1) xs x ∙ ap (λ (k : ℕ). enumerate_from (n + 1) xs ++ (k, x) ∷ []) e)

pub rules_more : (c : Slips) (rules : List Production) (i r : ℕ) (p : Production) (right : List Symbol) (mid new : List Slip) → slice_get rules i ≡ Some p → i + 1 ≡ r → right ≡ p.right
    → mid ≡ Empty ∷ flat_map (slips_in c) (enumerate_from 1 (take i rules)) → new ≡ mid ++ slips_in c (r, record { left = 0; right = right })
    → new ≡ Empty ∷ flat_map (slips_in c) (enumerate_from 1 (take (i + 1) rules))
rules_more c rules i r p right mid new at number side far more =
    let within : i < length rules = slice_get_within rules i p at in
    let here : get_or rules i p ≡ p = get_or_from_slice_get rules i p p at in
    let longer : take (i + 1) rules ≡ take i rules ++ p ∷ [] = take_more rules i p within ∙ ap (λ (q : Production). take i rules ++ q ∷ []) here in
    let many : 1 + length (take i rules) ≡ r = omega (arith, length-take-le i rules (omega (arith, within)), number) in
    let grown : flat_map (slips_in c) (enumerate_from 1 (take (i + 1) rules)) ≡ flat_map (slips_in c) (enumerate_from 1 (take i rules)) ++ slips_in c (r, p) =
    ap (λ (l : List Production). flat_map (slips_in c) (enumerate_from 1 l)) longer
    ∙ ap (λ (l : List (ℕ × Production)). flat_map (slips_in c) l) (enumerated_more 1 (take i rules) p)
    ∙ flat_map-append (slips_in c) (enumerate_from 1 (take i rules)) ((1 + length (take i rules), p) ∷ [])
    ∙ ap (λ (k : ℕ). flat_map (slips_in c) (enumerate_from 1 (take i rules)) ++ flat_map (slips_in c) ((k, p) ∷ [])) many
    ∙ ap (λ (l : List Slip). flat_map (slips_in c) (enumerate_from 1 (take i rules)) ++ l) (append-nil (slips_in c (r, p))) in
    more ∙ ap (λ (l : List Slip). l ++ slips_in c (r, record { left = 0; right = right })) far
    ∙ ap (λ (xs : List Symbol). Empty ∷ flat_map (slips_in c) (enumerate_from 1 (take i rules)) ++ map (Of r) (changes_of c xs)) side
    ∙ ap (λ (l : List Slip). Empty ∷ l) (sym grown)
