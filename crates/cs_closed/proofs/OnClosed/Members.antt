-- What is in sets and in tables of sets, and one step of adding up.
use Rattle.std.proofs.Common.{◌≡◌, ◌≢◌, ℕ, zero, suc, ◌+◌, ◌<◌, ◌≤◌, Bool, true, false, List, [], length, get_or, set, replicate, sym, ap, ◌∙◌, subst, ⊎_elim, inl, inr, ◌⊎◌, ◌↔◌, arith, get_or-set_other, get_or-set_same}
use Rattle.std.proofs.lemmas.List.{get_or_past}
use Rattle.std.proofs.lemmas.Bool.{cases_lt, cases_eq}
use Rattle.cs_closed.specs.Closed.Sets.{IsIn, IsPair}
use Rattle.cs_closed.specs.Closed.Keeping.{AreJoined}

-- a number in a set is one of those that it tells of
pub within : (s : List Bool) (n : ℕ) → IsIn s n → (0 < n) × (n ≤ length s)
within s zero h = absurd cc
within s (suc k) h =
    ⊎_elim (λ (low : k < length s). (omega arith, omega arith))
    (λ (past : length s ≤ k). absurd (let none = get_or_past s k false past in cc))
    (cases_lt k (length s))

pub within_table : (table : List (List Bool)) (n m : ℕ) → IsPair table n m → (0 < m) × (m ≤ length table)
within_table table n zero h = absurd (let k = within [] n h in omega arith)
within_table table n (suc k) h =
    ⊎_elim (λ (low : k < length table). (omega arith, omega arith))
    (λ (past : length table ≤ k). absurd (let l = within [] n (subst (λ (row : List Bool). IsIn row n) (get_or_past table k [] past) h) in omega arith))
    (cases_lt k (length table))

pub none_in_falses : (count n : ℕ) → IsIn (replicate count false) n → ⊥
none_in_falses count zero h = absurd cc
none_in_falses zero (suc k) h = absurd cc
none_in_falses (suc count) (suc zero) h = absurd cc
none_in_falses (suc count) (suc (suc k)) h = none_in_falses count (suc k) h

-- with the first so many of another set
abbrev pub AreJoinedTo : List Bool → List Bool → ℕ → List Bool → Type 0
AreJoinedTo old other i new = (n : ℕ) → IsIn new n ↔ (IsIn old n ⊎ (IsIn other n × (n ≤ i)))

module _ (old other new : List Bool) (i : ℕ) (joined : AreJoinedTo old other i new) where
  pub joined_true : i < length new → get_or other i false ≡ true → AreJoinedTo old other (i + 1) (set new i true)
  joined_true low is zero = (λ h. absurd cc, λ h. ⊎_elim (λ a. absurd cc) (λ b. absurd (let no = b.0 in cc)) h)
  joined_true low is (suc k) =
      ⊎_elim
      (λ (here : k ≡ i). (
        λ h. inr (ap (λ (m : ℕ). get_or other m false) here ∙ is, omega arith),
        λ h. ap (λ (m : ℕ). get_or (set new i true) m false) here ∙ get_or-set_same new i true false low,
      ))
      (λ (other_place : k ≢ i).
      let same : get_or (set new i true) k false ≡ get_or new k false = get_or-set_other new i k true false other_place in (
        λ h. ⊎_elim (λ a. inl a) (λ b. inr (b.0, let le = b.1 in omega arith)) ((joined (suc k)).0 (sym same ∙ h)),
        λ h. same ∙ (joined (suc k)).1 (⊎_elim (λ a. inl a) (λ b. inr (b.0, let le = b.1 in omega arith)) h),
      ))
      (cases_eq k i)

  pub joined_false : get_or other i false ≡ false → AreJoinedTo old other (i + 1) new
  joined_false is zero = (λ h. absurd cc, λ h. ⊎_elim (λ a. absurd cc) (λ b. absurd (let no = b.0 in cc)) h)
  joined_false is (suc k) =
      ⊎_elim
      (λ (here : k ≡ i).
      let no : get_or other k false ≡ false = ap (λ (m : ℕ). get_or other m false) here ∙ is in (
        λ h. ⊎_elim (λ a. inl a) (λ b. absurd (let yes = b.0 in cc)) ((joined (suc k)).0 h),
        λ h. (joined (suc k)).1 (⊎_elim (λ a. inl a) (λ b. absurd (let yes = b.0 in cc)) h),
      ))
      (λ (other_place : k ≢ i). (
        λ h. ⊎_elim (λ a. inl a) (λ b. inr (b.0, let le = b.1 in omega arith)) ((joined (suc k)).0 h),
        λ h. (joined (suc k)).1 (⊎_elim (λ a. inl a) (λ b. inr (b.0, let le = b.1 in omega arith)) h),
      ))
      (cases_eq k i)

pub joined_none : (old other : List Bool) → AreJoinedTo old other 0 old
joined_none old other n = (λ h. inl h, λ h. ⊎_elim (λ a. a) (λ b. absurd (let low = within other n b.0 in let le = b.1 in omega arith)) h)

pub joined_all : (old other new : List Bool) (i : ℕ) → length other ≤ i → AreJoinedTo old other i new → AreJoined old other new
joined_all old other new i past joined n = (
  λ h. ⊎_elim (λ a. inl a) (λ b. inr b.0) ((joined n).0 h),
  λ h. (joined n).1 (⊎_elim (λ a. inl a) (λ b. inr (b, let low = within other n b in omega arith)) h),
)
