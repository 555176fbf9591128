-- The order of lexemes by numbers.
use Rattle.std.proofs.Common.{◌≡◌, ℕ, suc, ◌<◌, ◌≤◌, ◌⊎◌, arith, List, [], ◌∷◌, ◌++◌, length, sym, ◌∙◌, ap, subst, inl, inr, refl, ⊎_elim, length-append}
use Rattle.std.proofs.lemmas.Bool.{cases_lt}
use Rattle.cs_pattern_parts.specs.Items.StandsFor.{AreBytes}
use Rattle.cs_scanner.specs.Lexeme.Rank.{rank}
use Rattle.cs_scanner.specs.Lexeme.Order.{IsBefore, IsAtMost, IsRankedBefore}
use Rattle.cs_scanner.specs.Lexeme.Number.{with_byte, number_from, number}
use Rattle.cs_scanner.proofs.OnLexeme.Ranking.{rank_within, one_rank}

pub head_byte : (b : ℕ) (text : List ℕ) → AreBytes (b ∷ text) → b < 256
head_byte b text bytes = bytes 0 0 (omega arith)

pub tail_bytes : (b : ℕ) (text : List ℕ) → AreBytes (b ∷ text) → AreBytes text
tail_bytes b text bytes k d less = bytes (suc k) d (omega arith)

-- the digits behind the front's
pub number_behind : (n : ℕ) (front text : List ℕ) → number_from n (front ++ text) ≡ number_from (number_from n front) text
number_behind n [] text = refl
number_behind n (b ∷ front) text = number_behind (with_byte n b) front text

pub number_pushed : (text : List ℕ) (b : ℕ) → number (text ++ b ∷ []) ≡ with_byte (number text) b
number_pushed text b = number_behind 0 text (b ∷ [])

-- a digit more keeps the order
pub with_byte_lower : (m n b c : ℕ) → b < 256 → m < n → with_byte m b < with_byte n c
with_byte_lower m n b c fits less = omega (arith, rank_within b fits)

-- of texts of one length the lower number in front decides
pub lower_in_front : (m n : ℕ) (x y : List ℕ) → AreBytes x → length x ≡ length y → m < n → number_from m x < number_from n y
lower_in_front m n [] [] bytes same less = less
lower_in_front m n [] (c ∷ y) bytes same less = absurd (omega arith)
lower_in_front m n (b ∷ x) [] bytes same less = absurd (omega arith)
lower_in_front m n (b ∷ x) (c ∷ y) bytes same less = lower_in_front (with_byte m b) (with_byte n c) x y (tail_bytes b x bytes) (omega arith) (with_byte_lower m n b c (head_byte b x bytes) less)

-- a shorter text has the lower number
pub shorter_is_lower : (m n : ℕ) (x y : List ℕ) → AreBytes x → length x < length y → m ≤ n → number_from m x < number_from n y
shorter_is_lower m n x [] bytes less le = absurd (omega arith)
shorter_is_lower m n x (c ∷ y) bytes less le = ⊎_elim
    (λ (shorter : length x < length y). shorter_is_lower m (with_byte n c) x y bytes shorter (omega arith))
    (λ (not : length y ≤ length x). lower_in_front m (with_byte n c) x y bytes (omega arith) (omega arith))
    (cases_lt (length x) (length y))

behind_bytes : (front text : List ℕ) → AreBytes (front ++ text) → AreBytes text
behind_bytes [] text bytes = bytes
behind_bytes (b ∷ front) text bytes = behind_bytes front text (tail_bytes b (front ++ text) bytes)

ranked_is_lower : (x y : List ℕ) → AreBytes x → length x ≡ length y → IsRankedBefore x y → number x < number y
ranked_is_lower x y bytes same r =
    let P : List ℕ → Type 0 = λ t. AreBytes t in
    let mine = behind_bytes r.front (r.byte ∷ r.behind) (subst P r.has bytes) in
    let e1 = number_behind 0 r.front (r.byte ∷ r.behind) in
    let e2 = number_behind 0 r.front (r.other ∷ r.others) in
    let l1 = ap length r.has ∙ length-append r.front (r.byte ∷ r.behind) in
    let l2 = ap length r.has_other ∙ length-append r.front (r.other ∷ r.others) in
    let it = lower_in_front (with_byte (number r.front) r.byte) (with_byte (number r.front) r.other) r.behind r.others (tail_bytes r.byte r.behind mine) (omega arith) (omega (arith, r.lower)) in
    let n1 : number x ≡ number_from (with_byte (number r.front) r.byte) r.behind = ap number r.has ∙ e1 in
    let n2 : number y ≡ number_from (with_byte (number r.front) r.other) r.others = ap number r.has_other ∙ e2 in
    omega (arith, n1, n2, it)

pub before_is_lower : (x y : List ℕ) → AreBytes x → IsBefore x y → number x < number y
before_is_lower x y bytes before = ⊎_elim
    (λ (shorter : length x < length y). shorter_is_lower 0 0 x y bytes shorter (omega arith))
    (λ (ranked : (length x ≡ length y) × IsRankedBefore x y). ranked_is_lower x y bytes ranked.0 ranked.1)
    before

-- one of three holds of texts of one length
abbrev Compared : List ℕ → List ℕ → Type 0
Compared x y = (x ≡ y) ⊎ (IsRankedBefore x y ⊎ IsRankedBefore y x)

pub behind_byte : (b : ℕ) (x y : List ℕ) → IsRankedBefore x y → IsRankedBefore (b ∷ x) (b ∷ y)
behind_byte b x y r = record { front = b ∷ r.front; byte = r.byte; other = r.other; behind = r.behind; others = r.others; has = ap (λ t. b ∷ t) r.has; has_other = ap (λ t. b ∷ t) r.has_other; lower = r.lower }

pub first_differs : (b c : ℕ) (x y : List ℕ) → rank b < rank c → IsRankedBefore (b ∷ x) (c ∷ y)
first_differs b c x y less = record { front = []; byte = b; other = c; behind = x; others = y; has = refl; has_other = refl; lower = less }

behind_compared : (b : ℕ) (x y : List ℕ) → Compared x y → Compared (b ∷ x) (b ∷ y)
behind_compared b x y c = ⊎_elim
    (λ (e : x ≡ y). inl (ap (λ t. b ∷ t) e))
    (λ (other : IsRankedBefore x y ⊎ IsRankedBefore y x). ⊎_elim
    (λ (r : IsRankedBefore x y). inr (inl (behind_byte b x y r)))
    (λ (r : IsRankedBefore y x). inr (inr (behind_byte b y x r)))
    other)
    c

compared : (x y : List ℕ) → AreBytes x → AreBytes y → length x ≡ length y → Compared x y
compared [] [] bytes also same = inl refl
compared [] (c ∷ y) bytes also same = absurd (omega arith)
compared (b ∷ x) [] bytes also same = absurd (omega arith)
compared (b ∷ x) (c ∷ y) bytes also same = ⊎_elim
    (λ (less : rank b < rank c). inr (inl (first_differs b c x y less)))
    (λ (not_less : rank c ≤ rank b). ⊎_elim
    (λ (more : rank c < rank b). inr (inr (first_differs c b y x more)))
    (λ (not_more : rank b ≤ rank c).
    let e : b ≡ c = one_rank b c (head_byte b x bytes) (head_byte c y also) (omega arith) in
    let P : ℕ → Type 0 = λ d. Compared (b ∷ x) (d ∷ y) in
    subst P e (behind_compared b x y (compared x y (tail_bytes b x bytes) (tail_bytes c y also) (omega arith))))
    (cases_lt (rank c) (rank b)))
    (cases_lt (rank b) (rank c))

-- of two texts of bytes one is at most the other
pub order_is_total : (x y : List ℕ) → AreBytes x → AreBytes y → IsAtMost x y ⊎ IsBefore y x
order_is_total x y bytes also = ⊎_elim
    (λ (shorter : length x < length y). inl (inr (inl shorter)))
    (λ (not_shorter : length y ≤ length x). ⊎_elim
    (λ (longer : length y < length x). inr (inl longer))
    (λ (not_longer : length x ≤ length y).
    let same : length x ≡ length y = omega arith in
    ⊎_elim
    (λ (e : x ≡ y). inl (inl e))
    (λ (other : IsRankedBefore x y ⊎ IsRankedBefore y x). ⊎_elim
    (λ (r : IsRankedBefore x y). inl (inr (inr (same, r))))
    (λ (r : IsRankedBefore y x). inr (inr (sym same, r)))
    other)
    (compared x y bytes also same))
    (cases_lt (length y) (length x)))
    (cases_lt (length x) (length y))

pub at_most_by_number : (x y : List ℕ) → AreBytes x → AreBytes y → number x ≤ number y → IsAtMost x y
at_most_by_number x y bytes also le = ⊎_elim
    (λ (most : IsAtMost x y). most)
    (λ (before : IsBefore y x). absurd (omega (arith, before_is_lower y x also before)))
    (order_is_total x y bytes also)

pub number_by_at_most : (x y : List ℕ) → AreBytes x → IsAtMost x y → number x ≤ number y
number_by_at_most x y bytes most = ⊎_elim
    (λ (e : x ≡ y). let n = ap number e in omega arith)
    (λ (before : IsBefore x y). omega (arith, before_is_lower x y bytes before))
    most
