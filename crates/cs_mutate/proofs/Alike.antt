-- Counts of alike negatives, and how many there are.
use Rattle.std.proofs.Common.{◌≡◌, ◌≢◌, ◌↔◌, ℕ, zero, suc, ◌+◌, ◌*◌, ◌<◌, ◌≤◌, Bool, true, false, cond, List, [], ◌∷◌, ◌++◌, length, Option, Some, refl, sym, ap, ◌∙◌, subst, ◌⊎◌, inl, inr, ⊎_elim, append-nil, arith}
use Rattle.std.specs.Prelude.{◌&&◌, ◌==◌, IsTrue, MatchOption, count_by, get_or, replicate, slice_index, slice_set}
use Rattle.std.specs.List.{All}
use Rattle.std.proofs.Math.Nat.{mul-suc}
use Rattle.std.proofs.lemmas.Bool.{cases_lt, eq-eqb, eqb-true}
use Rattle.std.proofs.lemmas.List.{get_or-replicate, get_or-set_other}
use Rattle.std.proofs.lemmas.Grind.{get_or-set_at}
use Rattle.std.proofs.lemmas.List.Elements.{All-head, All-tail}
use Rattle.std.proofs.lemmas.List.Sums.{sum_by-append, sum_by-cons}
use Rattle.cs_grammar.specs.declared.symbol.Mark.{Mark}
use Rattle.cs_grammar.specs.declared.symbol.Mark.TheVariants.{Begin, Token, End}
use Rattle.cs_grammar.specs.Grammar.{PlainGrammar}
use Rattle.cs_goals.specs.Goal.{IsLeft}
use Rattle.cs_mutate.specs.declared.edit.Edit.{Edit}
use Rattle.cs_mutate.specs.declared.edit.Edit.TheVariants.{Delete, Insert, Replace, Swap}
use Rattle.cs_mutate.specs.declared.negative.Negative.{Negative}
use Rattle.cs_mutate.specs.Kept.{HasFewAlike, HasLeft, IsBounded, IsKept, IsOnly, StaysFew, is_alike, is_same_mark, operator_of}
use Rattle.cs_mutate.specs.Keeping.{Counters, CountsAlike, Tells, left_number, row_of, slot_of}
use Rattle.cs_mutate.proofs.KeptLists.{behind_more}

-- ---- operators and left marks

both_true : (p q : Bool) → p ≡ true → q ≡ true → (p && q) ≡ true
both_true true true a b = refl
both_true true false a b = b
both_true false q a b = a

first_true : (p q : Bool) → (p && q) ≡ true → p ≡ true
first_true true q h = refl
first_true false q h = h

second_true : (p q : Bool) → (p && q) ≡ true → q ≡ true
second_true true q h = h
second_true false q h = absurd cc

pub left_within : (tokens : ℕ) (a : Mark) → IsLeft tokens a → left_number a ≤ tokens
left_within tokens Begin is = omega arith
left_within tokens (Token t) is = omega (arith, is.1)
left_within tokens End is = absurd is

left_same : (tokens : ℕ) (a b : Mark) → IsLeft tokens a → IsLeft tokens b → left_number a ≡ left_number b → is_same_mark a b ≡ true
left_same tokens Begin Begin is_a is_b same = refl
left_same tokens Begin (Token t) is_a is_b same = absurd (omega (arith, is_b.0, same))
left_same tokens Begin End is_a is_b same = absurd is_b
left_same tokens (Token t) Begin is_a is_b same = absurd (omega (arith, is_a.0, same))
left_same tokens (Token t) (Token u) is_a is_b same = eq-eqb t u same
left_same tokens (Token t) End is_a is_b same = absurd is_b
left_same tokens End b is_a is_b same = absurd is_a

same_left : (a b : Mark) → is_same_mark a b ≡ true → left_number a ≡ left_number b
same_left Begin Begin same = refl
same_left Begin (Token t) same = absurd cc
same_left Begin End same = absurd cc
same_left (Token t) Begin same = absurd cc
same_left (Token t) (Token u) same = eqb-true t u same
same_left (Token t) End same = absurd cc
same_left End Begin same = absurd cc
same_left End (Token t) same = absurd cc
same_left End End same = refl

rows_apart : (tokens a b : ℕ) (e f : Edit) → a ≤ tokens → b ≤ tokens → row_of tokens e + a ≡ row_of tokens f + b → (operator_of e ≡ operator_of f) × (a ≡ b)
rows_apart tokens a b (Delete i) (Delete j) p q same = (refl, omega (arith, same))
rows_apart tokens a b (Delete i) (Insert j t) p q same = absurd (omega (arith, p, q, same))
rows_apart tokens a b (Delete i) (Replace j t) p q same = absurd (omega (arith, p, q, same))
rows_apart tokens a b (Delete i) (Swap j) p q same = absurd (omega (arith, p, q, same))
rows_apart tokens a b (Insert i s) (Delete j) p q same = absurd (omega (arith, p, q, same))
rows_apart tokens a b (Insert i s) (Insert j t) p q same = (refl, omega (arith, same))
rows_apart tokens a b (Insert i s) (Replace j t) p q same = absurd (omega (arith, p, q, same))
rows_apart tokens a b (Insert i s) (Swap j) p q same = absurd (omega (arith, p, q, same))
rows_apart tokens a b (Replace i s) (Delete j) p q same = absurd (omega (arith, p, q, same))
rows_apart tokens a b (Replace i s) (Insert j t) p q same = absurd (omega (arith, p, q, same))
rows_apart tokens a b (Replace i s) (Replace j t) p q same = (refl, omega (arith, same))
rows_apart tokens a b (Replace i s) (Swap j) p q same = absurd (omega (arith, p, q, same))
rows_apart tokens a b (Swap i) (Delete j) p q same = absurd (omega (arith, p, q, same))
rows_apart tokens a b (Swap i) (Insert j t) p q same = absurd (omega (arith, p, q, same))
rows_apart tokens a b (Swap i) (Replace j t) p q same = absurd (omega (arith, p, q, same))
rows_apart tokens a b (Swap i) (Swap j) p q same = (refl, omega (arith, same))

same_row : (tokens : ℕ) (e f : Edit) → operator_of e ≡ operator_of f → row_of tokens e ≡ row_of tokens f
same_row tokens (Delete i) (Delete j) same = refl
same_row tokens (Delete i) (Insert j t) same = absurd cc
same_row tokens (Delete i) (Replace j t) same = absurd cc
same_row tokens (Delete i) (Swap j) same = absurd cc
same_row tokens (Insert i s) (Delete j) same = absurd cc
same_row tokens (Insert i s) (Insert j t) same = refl
same_row tokens (Insert i s) (Replace j t) same = absurd cc
same_row tokens (Insert i s) (Swap j) same = absurd cc
same_row tokens (Replace i s) (Delete j) same = absurd cc
same_row tokens (Replace i s) (Insert j t) same = absurd cc
same_row tokens (Replace i s) (Replace j t) same = refl
same_row tokens (Replace i s) (Swap j) same = absurd cc
same_row tokens (Swap i) (Delete j) same = absurd cc
same_row tokens (Swap i) (Insert j t) same = absurd cc
same_row tokens (Swap i) (Replace j t) same = absurd cc
same_row tokens (Swap i) (Swap j) same = refl

row_within : (tokens : ℕ) (e : Edit) → row_of tokens e ≤ 3 * (tokens + 1)
row_within tokens (Delete i) = omega arith
row_within tokens (Insert i t) = omega arith
row_within tokens (Replace i t) = omega arith
row_within tokens (Swap i) = omega arith

pub slot_within : (tokens : ℕ) (n : Negative) → IsLeft tokens n.left → slot_of tokens n < 4 * (tokens + 1)
slot_within tokens n is = omega (arith, row_within tokens n.edit, left_within tokens n.left is)

-- negatives are alike where they have one count
pub alike_slots : (tokens : ℕ) (n m : Negative) → IsLeft tokens n.left → IsLeft tokens m.left → slot_of tokens n ≡ slot_of tokens m → is_alike n m ≡ true
alike_slots tokens n m is_n is_m same =
    let r = rows_apart tokens (left_number n.left) (left_number m.left) n.edit m.edit (left_within tokens n.left is_n) (left_within tokens m.left is_m) same in
    both_true (operator_of n.edit == operator_of m.edit) (is_same_mark n.left m.left) (eq-eqb (operator_of n.edit) (operator_of m.edit) r.0) (left_same tokens n.left m.left is_n is_m r.1)

pub slots_alike : (tokens : ℕ) (n m : Negative) → is_alike n m ≡ true → slot_of tokens n ≡ slot_of tokens m
slots_alike tokens n m alike =
    let p = operator_of n.edit == operator_of m.edit in
    let q = is_same_mark n.left m.left in
    let rows = same_row tokens n.edit m.edit (eqb-true (operator_of n.edit) (operator_of m.edit) (first_true p q alike)) in
    let lefts = same_left n.left m.left (second_true p q alike) in
    omega (arith, rows, lefts)

-- ---- counts

abbrev one_if : Bool → ℕ
one_if b = cond b 1 0

count_more : (p : Negative → Bool) (before : List Negative) (n : Negative) → count_by p (before ++ n ∷ []) ≡ count_by p before + cond (p n) 1 0
count_more p before n =
    sum_by-append (λ (x : Negative). cond (p x) 1 0) before (n ∷ []) ∙ omega (arith, sum_by-cons (λ (x : Negative). cond (p x) 1 0) n [])

pub counts_none : (tokens : ℕ) → CountsAlike tokens (replicate (4 * (tokens + 1)) 0) []
counts_none tokens n is = get_or-replicate (4 * (tokens + 1)) (slot_of tokens n) 0 0 (slot_within tokens n is)

pub counts_more : (tokens now : ℕ) (counts : List ℕ) (before : List Negative) (n : Negative) → IsLeft tokens n.left → slot_of tokens n < length counts → now ≡ slice_index counts (slot_of tokens n) + 1 → CountsAlike tokens counts before
    → CountsAlike tokens (slice_set counts (slot_of tokens n) now) (before ++ n ∷ [])
counts_more tokens now counts before n is within more told m left = at_test (is_alike m n) refl
  where
    at_test : (b : Bool) → is_alike m n ≡ b → slice_index (slice_set counts (slot_of tokens n) now) (slot_of tokens m) ≡ count_by (is_alike m) (before ++ n ∷ [])
    at_test true alike =
        let same = slots_alike tokens m n alike in
        let set = get_or-set_at counts (slot_of tokens n) (slot_of tokens m) now 0 same within in
        let counted = count_more (is_alike m) before n ∙ ap (λ (b : Bool). count_by (is_alike m) before + cond b 1 0) alike in
        set ∙ more ∙ ap (λ (k : ℕ). slice_index counts k + 1) (sym same) ∙ ap (λ (k : ℕ). k + 1) (told m left) ∙ sym counted
    at_test false apart =
        let differs : slot_of tokens m ≢ slot_of tokens n = λ same. let alike = alike_slots tokens m n left is same in absurd (let e = sym alike ∙ apart in cc) in
        let counted = count_more (is_alike m) before n ∙ ap (λ (b : Bool). count_by (is_alike m) before + cond b 1 0) apart in
        let none : count_by (is_alike m) before + 0 ≡ count_by (is_alike m) before = omega arith in
        get_or-set_other counts (slot_of tokens n) (slot_of tokens m) now 0 differs ∙ told m left ∙ sym (counted ∙ none)

-- counters tell of one more
pub tells_more : (tokens most slot now : ℕ) (counts : List ℕ) (first : Option ℕ) (n : Negative) → first ≡ Some most → IsLeft tokens n.left → slot ≡ slot_of tokens n → slot < length counts → now ≡ slice_index counts slot + 1
    → (before : List Negative) → Tells (record { first = first; tokens = tokens; counts = counts }) before → Tells (record { first = first; tokens = tokens; counts = slice_set counts slot now }) (before ++ n ∷ [])
tells_more tokens most slot now counts first n is left slot_is within now_is before told =
    let here = slot_of tokens n in
    let counted = subst (λ (f : Option ℕ). MatchOption f (Unit {0}) (λ m. CountsAlike tokens counts before)) is told in
    let grown : CountsAlike tokens (slice_set counts here now) (before ++ n ∷ []) =
    counts_more tokens now counts before n left (subst (λ (k : ℕ). k < length counts) slot_is within) (now_is ∙ ap (λ (k : ℕ). slice_index counts k + 1) slot_is) counted in
    let moved = subst (λ (k : ℕ). CountsAlike tokens (slice_set counts k now) (before ++ n ∷ [])) (sym slot_is) grown in
    subst (λ (f : Option ℕ). MatchOption f (Unit {0}) (λ m. CountsAlike tokens (slice_set counts slot now) (before ++ n ∷ []))) (sym is) moved

-- ---- whether a negative is kept, by its count

module _ (g : PlainGrammar) (w : List ℕ) (n : Negative) (most : ℕ) (k : Counters) (first : k.first ≡ Some most) (left : IsLeft k.tokens n.left) (before : List Negative) (told : Tells k before) where
  counts_are : CountsAlike k.tokens k.counts before
  counts_are = subst (λ (f : Option ℕ). MatchOption f (Unit {0}) (λ most. CountsAlike k.tokens k.counts before)) first told

  by_first : IsKept g w (Some most) before n → IsKept g w k.first before n
  by_first is = subst (λ (f : Option ℕ). IsKept g w f before n) (sym first) is

  of_first : IsKept g w k.first before n → IsKept g w (Some most) before n
  of_first is = subst (λ (f : Option ℕ). IsKept g w f before n) first is

  pub not_early : most ≤ slice_index k.counts (slot_of k.tokens n) → IsTrue false ↔ IsKept g w k.first before n
  not_early many = (λ (t : false ≡ true). absurd cc, λ is. absurd (omega (arith, many, counts_are n left, (of_first is).1)))

  pub not_only : (IsOnly g w n → ⊥) → IsTrue false ↔ IsKept g w k.first before n
  not_only more = (λ (t : false ≡ true). absurd cc, λ is. absurd (more (of_first is).0))

  pub both_kept : slice_index k.counts (slot_of k.tokens n) < most → IsOnly g w n → IsTrue true ↔ IsKept g w k.first before n
  both_kept few only = (λ t. by_first (only, omega (arith, few, counts_are n left)), λ is. refl)

-- ---- how many are kept

same_mark : (a b : Mark) → is_same_mark a b ≡ true → a ≡ b
same_mark Begin Begin same = refl
same_mark Begin (Token t) same = absurd cc
same_mark Begin End same = absurd cc
same_mark (Token t) Begin same = absurd cc
same_mark (Token t) (Token u) same = ap Token (eqb-true t u same)
same_mark (Token t) End same = absurd cc
same_mark End Begin same = absurd cc
same_mark End (Token t) same = absurd cc
same_mark End End same = refl

-- what is alike one of two alike ones is alike the other
alike_alike : (x y z : Negative) → is_alike x y ≡ true → is_alike x z ≡ is_alike y z
alike_alike x y z h =
    let p = operator_of x.edit == operator_of y.edit in
    let q = is_same_mark x.left y.left in
    let operators = eqb-true (operator_of x.edit) (operator_of y.edit) (first_true p q h) in
    let lefts = same_mark x.left y.left (second_true p q h) in
    ap (λ (k : ℕ). (k == operator_of z.edit) && is_same_mark x.left z.left) operators
    ∙ ap (λ (a : Mark). (operator_of y.edit == operator_of z.edit) && is_same_mark a z.left) lefts

same_counts : (x y : Negative) (rest : List Negative) → is_alike x y ≡ true → count_by (is_alike x) rest ≡ count_by (is_alike y) rest
same_counts x y [] h = refl
same_counts x y (z ∷ rest) h =
    omega (
      arith,
      sum_by-cons (λ (n : Negative). cond (is_alike x n) 1 0) z rest,
      sum_by-cons (λ (n : Negative). cond (is_alike y n) 1 0) z rest,
      ap one_if (alike_alike x y z h),
      same_counts x y rest h,
    )

few_more : (g : PlainGrammar) (w : List ℕ) (most : ℕ) (before : List Negative) (n : Negative) → HasFewAlike most before → IsKept g w (Some most) before n → HasFewAlike most (before ++ n ∷ [])
few_more g w most before n few kept m = at_test (is_alike m n) refl
  where
    at_test : (b : Bool) → is_alike m n ≡ b → count_by (is_alike m) (before ++ n ∷ []) ≤ most
    at_test true h = omega (arith, count_more (is_alike m) before n, ap one_if h, same_counts m n before h, kept.1)
    at_test false h = omega (arith, count_more (is_alike m) before n, ap one_if h, few m)

pub stays_few : (g : PlainGrammar) (w : List ℕ) (most : ℕ) → StaysFew g w most
stays_few g w most before [] kept few are = subst (HasFewAlike most) (sym (ap (λ (l : List Negative). before ++ l) are ∙ append-nil before)) few
stays_few g w most before (n ∷ ns) kept few are = elim are [
  | inl p ↦ stays_few g w most before ns kept few p.1
  | inr p ↦
      subst (HasFewAlike most) (sym (ap (λ (l : List Negative). before ++ l) p.2 ∙ behind_more before p.1 n))
      (stays_few g w most (before ++ n ∷ []) ns p.1 (few_more g w most before n few p.0) p.3)
]

-- so many members have the numbers below m
abbrev total : (f : Negative → ℕ) (m : ℕ) (xs : List Negative) → ℕ
total f zero xs = 0
total f (suc m) xs = count_by (λ x. f x == m) xs + total f m xs

module _ (f : Negative → ℕ) where
  total_none : (m : ℕ) → total f m [] ≡ 0
  total_none zero = refl
  total_none (suc m) = omega (arith, total_none m)

  -- a member more has the number m, or another
  counted_here : (m : ℕ) (x : Negative) (xs : List Negative) → f x ≡ m → count_by (λ y. f y == m) (x ∷ xs) ≡ suc (count_by (λ y. f y == m) xs)
  counted_here m x xs same = omega (arith, sum_by-cons (λ (y : Negative). cond (f y == m) 1 0) x xs, ap one_if (eq-eqb (f x) m same))

  counted_apart : (m : ℕ) (x : Negative) (xs : List Negative) → f x ≢ m → count_by (λ y. f y == m) (x ∷ xs) ≡ count_by (λ y. f y == m) xs
  counted_apart m x xs differs = omega (arith, sum_by-cons (λ (y : Negative). cond (f y == m) 1 0) x xs, ap one_if (apart_test (f x == m) refl))
    where
      apart_test : (b : Bool) → (f x == m) ≡ b → (f x == m) ≡ false
      apart_test true is = absurd (differs (eqb-true (f x) m is))
      apart_test false is = is

  -- a member with another number isn't counted
  total_past : (m : ℕ) (x : Negative) (xs : List Negative) → m ≤ f x → total f m (x ∷ xs) ≡ total f m xs
  total_past zero x xs past = refl
  total_past (suc m) x xs past =
      omega (arith, counted_apart m x xs (λ same. absurd (omega (arith, past, same))), total_past m x xs (omega (arith, past)))

  total_more : (m : ℕ) (x : Negative) (xs : List Negative) → f x < m → total f m (x ∷ xs) ≡ suc (total f m xs)
  total_more zero x xs below = absurd (omega (arith, below))
  total_more (suc m) x xs below =
      ⊎_elim
      (λ less. omega (arith, counted_apart m x xs (λ same. absurd (omega (arith, less, same))), total_more m x xs less))
      (λ more. omega (arith, counted_here m x xs (omega (arith, more, below)), total_past m x xs more))
      (cases_lt (f x) m)

  -- where each number is below m, these are all
  total_all : (m : ℕ) (xs : List Negative) → All (λ x. f x < m) xs → total f m xs ≡ length xs
  total_all m [] each = total_none m
  total_all m (x ∷ xs) each =
      total_more m x xs (All-head (λ x. f x < m) x xs each) ∙ ap suc (total_all m xs (All-tail (λ x. f x < m) x xs each))

  total_few : (m most : ℕ) (xs : List Negative) → ((v : ℕ) → count_by (λ x. f x == v) xs ≤ most) → total f m xs ≤ most * m
  total_few zero most xs few = omega arith
  total_few (suc m) most xs few = let one = few m in let others = total_few m most xs few in omega (arith, one, others, mul-suc most m)

-- those with one number are alike, so that they are few
module _ (tokens v : ℕ) where
  abbrev numbered : Negative → Bool
  numbered n = slot_of tokens n == v

  -- none has this number, or one has it
  find : (ns : List Negative) → All (HasLeft tokens) ns → (count_by numbered ns ≡ 0) ⊎ ((n : Negative) × HasLeft tokens n × (slot_of tokens n ≡ v))
  find [] lefts = inl refl
  find (n ∷ ns) lefts = at_test (find ns (All-tail (HasLeft tokens) n ns lefts)) (numbered n) refl
    where
      at_test : (count_by numbered ns ≡ 0) ⊎ ((m : Negative) × HasLeft tokens m × (slot_of tokens m ≡ v)) → (b : Bool) → numbered n ≡ b
          → (count_by numbered (n ∷ ns) ≡ 0) ⊎ ((m : Negative) × HasLeft tokens m × (slot_of tokens m ≡ v))
      at_test others true is = inr (n, All-head (HasLeft tokens) n ns lefts, eqb-true (slot_of tokens n) v is)
      at_test (inl none) false is = inl (omega (arith, sum_by-cons (λ (x : Negative). cond (numbered x) 1 0) n ns, ap one_if is, none))
      at_test (inr one) false is = inr one

  -- those with the number are alike
  fewer : (n : Negative) → HasLeft tokens n → slot_of tokens n ≡ v → (ns : List Negative) → All (HasLeft tokens) ns → count_by numbered ns ≤ count_by (is_alike n) ns
  fewer n left is [] lefts = omega arith
  fewer n left is (m ∷ ns) lefts = at_test (fewer n left is ns (All-tail (HasLeft tokens) m ns lefts)) (numbered m) refl
    where
      at_test : count_by numbered ns ≤ count_by (is_alike n) ns → (b : Bool) → numbered m ≡ b → count_by numbered (m ∷ ns) ≤ count_by (is_alike n) (m ∷ ns)
      at_test rest true same =
          let h = alike_slots tokens n m left (All-head (HasLeft tokens) m ns lefts) (is ∙ sym (eqb-true (slot_of tokens m) v same)) in
          omega (
            arith,
            sum_by-cons (λ (x : Negative). cond (numbered x) 1 0) m ns,
            sum_by-cons (λ (x : Negative). cond (is_alike n x) 1 0) m ns,
            ap one_if same,
            ap one_if h,
            rest,
          )
      at_test rest false differs =
          omega (
            arith,
            sum_by-cons (λ (x : Negative). cond (numbered x) 1 0) m ns,
            sum_by-cons (λ (x : Negative). cond (is_alike n x) 1 0) m ns,
            ap one_if differs,
            rest,
          )

few_numbered : (tokens most : ℕ) (ns : List Negative) → All (HasLeft tokens) ns → HasFewAlike most ns → (v : ℕ) → count_by (λ n. slot_of tokens n == v) ns ≤ most
few_numbered tokens most ns lefts few v =
    ⊎_elim (λ none. omega (arith, none))
    (λ one. omega (arith, fewer tokens v one.0 one.1 one.2 ns lefts, few one.0))
    (find tokens v ns lefts)

pub bounded : (tokens most : ℕ) (ns : List Negative) → IsBounded tokens most ns
bounded tokens most ns lefts few =
    let all = total_all (slot_of tokens) (4 * (tokens + 1)) ns (λ i d within. slot_within tokens (get_or ns i d) (lefts i d within)) in
    let few_of = total_few (slot_of tokens) (4 * (tokens + 1)) most ns (few_numbered tokens most ns lefts few) in
    omega (arith, all, few_of)
