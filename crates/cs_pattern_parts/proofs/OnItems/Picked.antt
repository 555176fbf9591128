-- Picked numbers, and membership.
use Rattle.std.proofs.Common.{◌≡◌, ℕ, zero, suc, ◌+◌, ◌<◌, ◌≤◌, Bool, true, false, List, [], ◌∷◌, ◌++◌, length, length-append, inl, inr, refl, sym, subst, ap, ◌∙◌, arith}
use Rattle.std.specs.Prelude.{All, Contains, if◌then◌else◌, ◌==◌, ◌||◌, ◌&&◌, nat_lt, nat_le}
use Rattle.std.proofs.lemmas.List.{append-nil}
use Rattle.std.proofs.lemmas.List.Elements.{All-nil, All-cons, All-head, All-tail, All-append, All-weaker, Contains-append_right, Contains-append_cases}
use Rattle.std.proofs.lemmas.Bool.{false≢true, cases_lt, cases_eq, eq-eqb, eqb-true, false_from_ne_true, lt-ltb, le-ltb, lt-leb, le-leb}
use Rattle.cs_pattern_parts.specs.Items.Members.{picked, bytes_where, has, IsAscending, IsByteSet}

or_assoc : (p q r : Bool) → (p || (q || r)) ≡ ((p || q) || r)
or_assoc true q r = refl
or_assoc false q r = refl

or_nothing : (p : Bool) → (p || false) ≡ p
or_nothing true = refl
or_nothing false = refl

pub or_turned : (p q : Bool) → (p || q) ≡ (q || p)
or_turned true true = refl
or_turned true false = refl
or_turned false true = refl
or_turned false false = refl

pub has-append : (xs ys : List ℕ) (b : ℕ) → has (xs ++ ys) b ≡ (has xs b || has ys b)
has-append [] ys b = refl
has-append (x ∷ xs) ys b = ap (λ v. (x == b) || v) (has-append xs ys b) ∙ or_assoc (x == b) (has xs b) (has ys b)

has_one : (v : Bool) (n b : ℕ) → n ≡ b → has (if v then n ∷ [] else []) b ≡ v
has_one true n b e = ap (λ w. w || false) (eq-eqb n b e)
has_one false n b e = refl

pub not_equal : (n b : ℕ) → (n ≡ b → ⊥) → (n == b) ≡ false
not_equal n b ne = false_from_ne_true (n == b) (λ h. ne (eqb-true n b h))

has_other : (v : Bool) (n b : ℕ) → (n ≡ b → ⊥) → has (if v then n ∷ [] else []) b ≡ false
has_other true n b ne = ap (λ w. w || false) (not_equal n b ne)
has_other false n b ne = refl

pub has_picked_above : (t : ℕ → Bool) (n b : ℕ) → n ≤ b → has (picked t n) b ≡ false
unfolding picked
has_picked_above t zero b le = refl
has_picked_above t (suc n) b le =
    has-append (picked t n) (if t n then n ∷ [] else []) b
    ∙ ap (λ v. v || has (if t n then n ∷ [] else []) b) (has_picked_above t n b (omega arith))
    ∙ has_other (t n) n b (omega arith)

-- a picked number is one that passes
pub has_picked : (t : ℕ → Bool) (n b : ℕ) → b < n → has (picked t n) b ≡ t b
unfolding picked
has_picked t zero b lt = absurd (omega arith)
has_picked t (suc n) b lt =
    elim (cases_lt b n) [
      | inl below ↦
          has-append (picked t n) (if t n then n ∷ [] else []) b
          ∙ ap (λ v. v || has (if t n then n ∷ [] else []) b) (has_picked t n b below)
          ∙ ap (λ v. t b || v) (has_other (t n) n b (omega arith))
          ∙ or_nothing (t b)
      | inr above ↦
          let same : n ≡ b = omega arith in
          has-append (picked t n) (if t n then n ∷ [] else []) b
          ∙ ap (λ v. v || has (if t n then n ∷ [] else []) b) (has_picked_above t n b (omega arith))
          ∙ has_one (t n) n b same
          ∙ ap t same
    ]

-- two tests that agree below n pick the same
pub same_picked : (s t : ℕ → Bool) (n : ℕ) → ((m : ℕ) → m < n → s m ≡ t m) → picked s n ≡ picked t n
unfolding picked
same_picked s t zero h = refl
same_picked s t (suc n) h =
    let before = same_picked s t n (λ m lt. h m (omega (arith, lt))) in
    let here = h n (omega arith) in
    cc

pub picked_none : (t : ℕ → Bool) (n : ℕ) → ((m : ℕ) → m < n → t m ≡ false) → picked t n ≡ []
unfolding picked
picked_none t zero h = refl
picked_none t (suc n) h =
    let before = picked_none t n (λ m lt. h m (omega (arith, lt))) in
    let here = h n (omega arith) in
    cc

-- a set with a member is not empty
pub some_is_no_none : (xs : List ℕ) (b : ℕ) → has xs b ≡ true → xs ≡ [] → ⊥
some_is_no_none xs b h e = false≢true (sym (ap (λ ys. has ys b) e) ∙ h)

pub picked_is_none : (t : ℕ → Bool) (n : ℕ) (xs : List ℕ) → picked t n ≡ xs → ((m : ℕ) → m < n → has xs m ≡ false) → xs ≡ []
picked_is_none t n xs is h = sym is ∙ picked_none t n (λ m lt. sym (has_picked t n m lt) ∙ ap (λ ys. has ys m) is ∙ h m lt)

-- a set that is picked is picked by its own test
pub picked_by_itself : (t : ℕ → Bool) (n : ℕ) (xs : List ℕ) → picked t n ≡ xs → xs ≡ picked (has xs) n
picked_by_itself t n xs is = sym is ∙ same_picked t (has xs) n (λ m lt. sym (has_picked t n m lt) ∙ ap (λ ys. has ys m) is)

-- ---- a loop over the bytes

pub lt_more : (m k : ℕ) → nat_lt m (k + 1) ≡ ((m == k) || nat_lt m k)
lt_more m k =
    elim (cases_lt m (k + 1)) [
      | inl below ↦
          elim (cases_lt m k) [
            | inl lt ↦ let a : nat_lt m (k + 1) ≡ true = lt-ltb m (k + 1) below in let b : nat_lt m k ≡ true = lt-ltb m k lt in a ∙ sym (ap (λ v. (m == k) || v) b ∙ or_yes (m == k))
            | inr ge ↦ let a : nat_lt m (k + 1) ≡ true = lt-ltb m (k + 1) below in let e : m ≡ k = omega arith in a ∙ sym (ap (λ v. v || nat_lt m k) (eq-eqb m k e))
          ]
      | inr ge ↦
          let a : nat_lt m (k + 1) ≡ false = le-ltb m (k + 1) ge in
          let b : nat_lt m k ≡ false = le-ltb m k (omega arith) in
          a ∙ sym (ap (λ v. v || nat_lt m k) (not_equal m k (λ e. omega arith)) ∙ b)
    ]
  where
    or_yes : (v : Bool) → (v || true) ≡ true
    or_yes true = refl
    or_yes false = refl

pub step_in : (p q r : Bool) → (p ≡ true → q ≡ true) → (p || (q && r)) ≡ (q && (p || r))
step_in true q r h = sym (ap (λ v. v && true) (h refl))
step_in false q r h = refl

pub step_out : (p q r : Bool) → (p ≡ true → q ≡ false) → (q && r) ≡ (q && (p || r))
step_out true q r h = ap (λ v. v && r) (h refl) ∙ sym (ap (λ v. v && true) (h refl))
step_out false q r h = refl

pub and_nothing : (q : Bool) → (q && false) ≡ false
and_nothing true = refl
and_nothing false = refl

pub and_all : (q : Bool) → (q && true) ≡ q
and_all true = refl
and_all false = refl

-- the bytes below k that pass a test, and then those below k + 1
pub below_none : (q : ℕ → Bool) → [] ≡ picked (λ b. q b && nat_lt b 0) 256
below_none q = sym (picked_none (λ b. q b && nat_lt b 0) 256 (λ m lt. ap (λ v. q m && v) (le-ltb m 0 (omega arith)) ∙ and_nothing (q m)))

pub below_in : (q : ℕ → Bool) (k : ℕ) (old new : List ℕ) → q k ≡ true → old ≡ picked (λ b. q b && nat_lt b k) 256 → new ≡ picked (λ b. (b == k) || has old b) 256
    → new ≡ picked (λ b. q b && nat_lt b (k + 1)) 256
below_in q k old new pass is made =
    made ∙ same_picked (λ b. (b == k) || has old b) (λ b. q b && nat_lt b (k + 1)) 256 (λ m lt.
    ap (λ v. (m == k) || v) (ap (λ ys. has ys m) is ∙ has_picked (λ b. q b && nat_lt b k) 256 m lt)
    ∙ step_in (m == k) (q m) (nat_lt m k) (λ e. ap q (eqb-true m k e) ∙ pass)
    ∙ ap (λ v. q m && v) (sym (lt_more m k)))

pub below_out : (q : ℕ → Bool) (k : ℕ) (old : List ℕ) → q k ≡ false → old ≡ picked (λ b. q b && nat_lt b k) 256 → old ≡ picked (λ b. q b && nat_lt b (k + 1)) 256
below_out q k old no_pass is =
    is ∙ same_picked (λ b. q b && nat_lt b k) (λ b. q b && nat_lt b (k + 1)) 256 (λ m lt.
    step_out (m == k) (q m) (nat_lt m k) (λ e. ap q (eqb-true m k e) ∙ no_pass)
    ∙ ap (λ v. q m && v) (sym (lt_more m k)))

pub below_all : (q : ℕ → Bool) (old : List ℕ) (k : ℕ) → 256 ≤ k → old ≡ picked (λ b. q b && nat_lt b k) 256 → old ≡ picked q 256
below_all q old k le is =
    is ∙ same_picked (λ b. q b && nat_lt b k) q 256 (λ m lt. ap (λ v. q m && v) (lt-ltb m k (omega arith)) ∙ and_all (q m))

-- the same beside the members that were there before
pub range_none : (first : ℕ) (xs : List ℕ) → xs ≡ bytes_where (has xs) → xs ≡ bytes_where (λ b. (nat_le first b && nat_lt b first) || has xs b)
range_none first xs is =
    is ∙ same_picked (has xs) (λ b. (nat_le first b && nat_lt b first) || has xs b) 256 (λ b lt.
    elim (cases_lt b first) [
      | inl below ↦ let e : nat_le first b ≡ false = lt-leb first b below in sym (ap (λ v. (v && nat_lt b first) || has xs b) e)
      | inr above ↦ let e : nat_lt b first ≡ false = le-ltb b first above in sym (ap (λ v. (nat_le first b && v) || has xs b) e ∙ ap (λ v. v || has xs b) (and_nothing (nat_le first b)))
    ])

pub range_more : (first k : ℕ) (o : ℕ → Bool) (old new : List ℕ) → nat_le first k ≡ true → old ≡ bytes_where (λ b. (nat_le first b && nat_lt b k) || o b) → new ≡ bytes_where (λ b. (b == k) || has old b)
    → new ≡ bytes_where (λ b. (nat_le first b && nat_lt b (k + 1)) || o b)
range_more first k o old new pass is made =
    made ∙ same_picked (λ b. (b == k) || has old b) (λ b. (nat_le first b && nat_lt b (k + 1)) || o b) 256 (λ b lt.
    ap (λ v. (b == k) || v) (ap (λ ys. has ys b) is ∙ has_picked (λ c. (nat_le first c && nat_lt c k) || o c) 256 b lt)
    ∙ or_assoc (b == k) (nat_le first b && nat_lt b k) (o b)
    ∙ ap (λ v. v || o b) (step_in (b == k) (nat_le first b) (nat_lt b k) (λ e. ap (nat_le first) (eqb-true b k e) ∙ pass) ∙ ap (λ v. nat_le first b && v) (sym (lt_more b k))))

lt_le : (b last : ℕ) → nat_lt b (last + 1) ≡ nat_le b last
lt_le b last =
    elim (cases_lt last b) [
      | inl above ↦ let e : nat_lt b (last + 1) ≡ false = le-ltb b (last + 1) (omega arith) in let f : nat_le b last ≡ false = lt-leb b last above in e ∙ sym f
      | inr below ↦ let e : nat_lt b (last + 1) ≡ true = lt-ltb b (last + 1) (omega arith) in let f : nat_le b last ≡ true = le-leb b last below in e ∙ sym f
    ]

in_range : (first last k b : ℕ) → (first ≤ last → k ≡ last + 1) → (last < first → k ≤ first) → (nat_le first b && nat_lt b k) ≡ (nat_le first b && nat_le b last)
in_range first last k b some none =
    elim (cases_lt last first) [
      | inl empty ↦
          let end : k ≤ first = none empty in
          elim (cases_lt b first) [
            | inl below ↦ let e : nat_le first b ≡ false = lt-leb first b below in ap (λ v. v && nat_lt b k) e ∙ sym (ap (λ v. v && nat_le b last) e)
            | inr above ↦ let e : nat_lt b k ≡ false = le-ltb b k (omega arith) in let f : nat_le b last ≡ false = lt-leb b last (omega arith) in ap (λ v. nat_le first b && v) (e ∙ sym f)
          ]
      | inr goes ↦ ap (λ v. nat_le first b && v) (ap (nat_lt b) (some goes) ∙ lt_le b last)
    ]

pub range_all : (first last k : ℕ) (o : ℕ → Bool) (set : List ℕ) → (first ≤ last → k ≡ last + 1) → (last < first → k ≤ first)
    → set ≡ bytes_where (λ b. (nat_le first b && nat_lt b k) || o b) → set ≡ bytes_where (λ b. (nat_le first b && nat_le b last) || o b)
range_all first last k o set some none is =
    is ∙ same_picked (λ b. (nat_le first b && nat_lt b k) || o b) (λ b. (nat_le first b && nat_le b last) || o b) 256 (λ b lt.
    ap (λ v. v || o b) (in_range first last k b some none))

-- one byte put into the empty set
pub only_one : (k b : ℕ) (old new : List ℕ) → old ≡ [] → new ≡ picked (λ c. (c == k) || has old c) 256 → b < 256 → has new b ≡ (b == k)
only_one k b old new is made lt = ap (λ s. has s b) made ∙ has_picked (λ c. (c == k) || has old c) 256 b lt ∙ ap (λ s. (b == k) || has s b) is ∙ or_nothing (b == k)

-- ---- sets as lists

ascending-more : (xs : List ℕ) (n : ℕ) → IsAscending xs → All (λ y. y < n) xs → IsAscending (xs ++ n ∷ [])
ascending-more [] n a h = (All-nil (λ y. n < y), tt)
ascending-more (x ∷ xs) n a h = (
  All-append (λ y. x < y) xs (n ∷ []) a.0 (All-cons (λ y. x < y) n [] (All-head (λ y. y < n) x xs h) (All-nil (λ y. x < y))),
  ascending-more xs n a.1 (All-tail (λ y. y < n) x xs h),
)

below_more : (xs : List ℕ) (n : ℕ) (v : Bool) → All (λ b. b < n) xs → All (λ b. b < suc n) (xs ++ (if v then n ∷ [] else []))
below_more xs n v h = All-append (λ b. b < suc n) xs (if v then n ∷ [] else []) (All-weaker (λ b. b < n) (λ b. b < suc n) (λ b lt. omega arith) xs h) (one v)
  where
    one : (w : Bool) → All (λ b. b < suc n) (if w then n ∷ [] else [])
    one true = All-cons (λ b. b < suc n) n [] (omega arith) (All-nil (λ b. b < suc n))
    one false = All-nil (λ b. b < suc n)

pub picked_below : (t : ℕ → Bool) (n : ℕ) → All (λ b. b < n) (picked t n)
unfolding picked
picked_below t zero = All-nil (λ b. b < 0)
picked_below t (suc n) = below_more (picked t n) n (t n) (picked_below t n)

ascends_more : (xs : List ℕ) (n : ℕ) (v : Bool) → IsAscending xs → All (λ y. y < n) xs → IsAscending (xs ++ (if v then n ∷ [] else []))
ascends_more xs n true a h = ascending-more xs n a h
ascends_more xs n false a h = rw append-nil a

picked_ascends : (t : ℕ → Bool) (n : ℕ) → IsAscending (picked t n)
unfolding picked
picked_ascends t zero = tt
picked_ascends t (suc n) = ascends_more (picked t n) n (t n) (picked_ascends t n) (picked_below t n)

-- the bytes that pass a test are a set
pub bytes_where-set : (t : ℕ → Bool) → IsByteSet (bytes_where t)
bytes_where-set t = record { ascends = picked_ascends t 256; bytes = picked_below t 256 }

has_not : (xs : List ℕ) (b : ℕ) → All (λ y. b < y) xs → has xs b ≡ false
has_not [] b h = refl
has_not (x ∷ xs) b h =
    ap (λ v. v || has xs b) (not_equal x b (λ e. let lt : b < x = All-head (λ y. b < y) x xs h in omega arith))
    ∙ has_not xs b (All-tail (λ y. b < y) x xs h)

has_first : (x : ℕ) (xs : List ℕ) → has (x ∷ xs) x ≡ true
has_first x xs = ap (λ v. v || has xs x) (eq-eqb x x refl)

has_behind : (x b : ℕ) (xs : List ℕ) → (x ≡ b → ⊥) → has (x ∷ xs) b ≡ has xs b
has_behind x b xs ne = ap (λ v. v || has xs b) (not_equal x b ne)

above : (x y : ℕ) (ys : List ℕ) → x < y → All (λ z. y < z) ys → All (λ z. x < z) (y ∷ ys)
above x y ys lt h = All-cons (λ z. x < z) y ys lt (All-weaker (λ z. y < z) (λ z. x < z) (λ z yz. omega (arith, yz, lt)) ys h)

-- ascending lists with the same members are one list
same_ascending : (xs ys : List ℕ) → IsAscending xs → IsAscending ys → ((b : ℕ) → has xs b ≡ has ys b) → xs ≡ ys
same_ascending [] [] a b h = refl
same_ascending [] (y ∷ ys) a b h = absurd (false≢true (h y ∙ has_first y ys))
same_ascending (x ∷ xs) [] a b h = absurd (false≢true (sym (h x) ∙ has_first x xs))
same_ascending (x ∷ xs) (y ∷ ys) a b h =
    elim (cases_lt x y) [
      | inl lt ↦ absurd (false≢true (sym (has_not (y ∷ ys) x (above x y ys lt b.0)) ∙ sym (h x) ∙ has_first x xs))
      | inr ge ↦
          elim (cases_lt y x) [
            | inl lt ↦ absurd (false≢true (sym (has_not (x ∷ xs) y (above y x xs lt a.0)) ∙ h y ∙ has_first y ys))
            | inr le ↦
                let e : x ≡ y = omega arith in
                let tails : (c : ℕ) → has xs c ≡ has ys c = λ c.
                elim (cases_eq x c) [
                  | inl same ↦ has_not xs c (subst (λ z. All (λ w. z < w) xs) same a.0) ∙ sym (has_not ys c (subst (λ z. All (λ w. z < w) ys) (sym e ∙ same) b.0))
                  | inr ne ↦ sym (has_behind x c xs ne) ∙ h c ∙ has_behind y c ys (λ f. ne (e ∙ f))
                ]
                in
                let same : xs ≡ ys = same_ascending xs ys a.1 b.1 tails in
                cc
          ]
    ]

has_no_more : (xs : List ℕ) (b : ℕ) → All (λ y. y < 256) xs → 256 ≤ b → has xs b ≡ false
has_no_more [] b h le = refl
has_no_more (x ∷ xs) b h le =
    ap (λ v. v || has xs b) (not_equal x b (λ e. let lt : x < 256 = All-head (λ y. y < 256) x xs h in omega arith))
    ∙ has_no_more xs b (All-tail (λ y. y < 256) x xs h) le

-- two sets with the same members are one
pub same_set : (xs ys : List ℕ) → IsByteSet xs → IsByteSet ys → ((b : ℕ) → b < 256 → has xs b ≡ has ys b) → xs ≡ ys
same_set xs ys p q h =
    same_ascending xs ys p.ascends q.ascends (λ b.
    elim (cases_lt b 256) [ inl lt ↦ h b lt | inr le ↦ has_no_more xs b p.bytes le ∙ sym (has_no_more ys b q.bytes le) ])

-- ---- one word: to have a byte is to contain it

pub has-contains : (xs : List ℕ) (b : ℕ) → has xs b ≡ true → Contains xs b
has-contains [] b h = absurd (false≢true h)
has-contains (x ∷ xs) b h =
    elim (cases_eq x b) [
      | inl e ↦ (0, omega arith, e)
      | inr ne ↦ Contains-append_right (x ∷ []) xs b (has-contains xs b (sym (has_behind x b xs ne) ∙ h))
    ]

contained_alone : (x b : ℕ) → Contains (x ∷ []) b → x ≡ b
contained_alone x b (zero, lt, e) = e
contained_alone x b (suc k, lt, e) = absurd (omega (arith, lt))

pub contains-has : (xs : List ℕ) (b : ℕ) → Contains xs b → has xs b ≡ true
contains-has [] b i = absurd (omega (arith, i.1))
contains-has (x ∷ xs) b i =
    elim (cases_eq x b) [
      | inl e ↦ ap (λ v. v || has xs b) (eq-eqb x b e)
      | inr ne ↦
          has_behind x b xs ne
          ∙ (elim (Contains-append_cases (x ∷ []) xs b i) [ inl here ↦ absurd (ne (contained_alone x b here)) | inr there ↦ contains-has xs b there ])
    ]

length-more : (xs : List ℕ) (n : ℕ) (v : Bool) → length (xs ++ (if v then n ∷ [] else [])) ≡ length xs + (if v then 1 else 0)
length-more xs n true = length-append xs (n ∷ [])
length-more xs n false = length-append xs []

at_most_one : (v : Bool) → (if v then 1 else 0) ≤ 1
at_most_one true = omega arith
at_most_one false = omega arith

pub length-picked : (t : ℕ → Bool) (n : ℕ) → length (picked t n) ≤ n
unfolding picked
length-picked t zero = omega arith
length-picked t (suc n) = let h = length-picked t n in let k = at_most_one (t n) in let l = length-more (picked t n) n (t n) in omega arith

length-next : (t : ℕ → Bool) (n : ℕ) → length (picked t (suc n)) ≡ length (picked t n) + (if t n then 1 else 0)
unfolding picked
length-next t n = length-more (picked t n) n (t n)

pub length-picked_in : (t : ℕ → Bool) (n : ℕ) → t n ≡ true → length (picked t (n + 1)) ≡ length (picked t n) + 1
length-picked_in t n e = let f : n + 1 ≡ suc n = omega arith in ap (λ k. length (picked t k)) f ∙ length-next t n ∙ ap (λ v. length (picked t n) + (if v then 1 else 0)) e

pub length-picked_out : (t : ℕ → Bool) (n : ℕ) → t n ≡ false → length (picked t (n + 1)) ≡ length (picked t n)
length-picked_out t n e =
    let f : n + 1 ≡ suc n = omega arith in
    let g : length (picked t n) + 0 ≡ length (picked t n) = omega arith in
    ap (λ k. length (picked t k)) f ∙ length-next t n ∙ ap (λ v. length (picked t n) + (if v then 1 else 0)) e ∙ g
