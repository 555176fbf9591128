-- Nonterminals that have a last token which hasn't a token in its line, of the first so many last tokens.
use Rattle.std.proofs.Common.{◌≡◌, ◌≢◌, ℕ, suc, ◌+◌, ◌≤◌, Bool, false, List, [], length, get_or, replicate, sym, subst, ⊎_elim, inl, inr, ◌↔◌, arith}
use Rattle.std.proofs.lemmas.Bool.{cases_eq}
use Rattle.cs_grammar.specs.declared.symbol.Mark.TheVariants.{Token}
use Rattle.cs_closed.specs.Closed.Sets.{PlainSets, IsIn, IsPair, IsLast, IsNext}
use Rattle.cs_closed.specs.Closed.Keeping.{AreParted, AreJoined}
use Rattle.cs_closed.proofs.OnClosed.Members.{within_table, none_in_falses}

pub record IsPartedTo (s : PlainSets) (b i n : ℕ) : Type 0 where
  pub token : ℕ
  pub low : token ≤ i
  pub is_last : IsLast s n token
  pub apart : IsNext s (Token token) (Token b) → ⊥

abbrev pub ArePartedTo : PlainSets → ℕ → ℕ → List Bool → Type 0
ArePartedTo s b i set = (n : ℕ) → IsIn set n ↔ IsPartedTo s b i n

module _ (s : PlainSets) (b : ℕ) where
  pub parted_none : (count : ℕ) → ArePartedTo s b 0 (replicate count false)
  parted_none count n = (
    λ h. absurd (none_in_falses count n h),
    λ h. absurd (let bounds = within_table s.last n h.token h.is_last in let low = h.low in omega arith),
  )

  module _ (i m : ℕ) (is_next : m ≡ i + 1) (old : List Bool) (parted : ArePartedTo s b i old) where
    number : m ≡ suc i
    number = omega arith

    wider : (n : ℕ) → IsPartedTo s b i n → IsPartedTo s b (i + 1) n
    wider n h = record { token = h.token; low = (let low = h.low in omega arith); is_last = h.is_last; apart = h.apart }

    narrower : (n : ℕ) (h : IsPartedTo s b (i + 1) n) → h.token ≢ m → IsPartedTo s b i n
    narrower n h ne = record { token = h.token; low = (let low = h.low in omega arith); is_last = h.is_last; apart = h.apart }

    pub parted_skip : IsPair s.next m b → ArePartedTo s b (i + 1) old
    parted_skip stands n = (
      λ h. wider n ((parted n).0 h),
      λ h. ⊎_elim
          (λ (here : h.token ≡ m). absurd (h.apart (subst (λ (a : ℕ). IsPair s.next a b) (sym here) stands)))
          (λ (other : h.token ≢ m). (parted n).1 (narrower n h other))
          (cases_eq h.token m),
    )

    row_from : (n : ℕ) → IsLast s n m → IsIn (get_or s.last i []) n
    row_from n h = subst (λ (a : ℕ). IsLast s n a) number h

    row_to : (n : ℕ) → IsIn (get_or s.last i []) n → IsLast s n m
    row_to n h = subst (λ (a : ℕ). IsLast s n a) (sym number) h

    pub parted_add : (new row : List Bool) → row ≡ get_or s.last i [] → (IsPair s.next m b → ⊥) → AreJoined old row new → ArePartedTo s b (i + 1) new
    parted_add new row is_row apart joined n = (
      λ h. ⊎_elim
          (λ before. wider n ((parted n).0 before))
          (λ now. record { token = m; low = omega arith; is_last = row_to n (subst (λ (l : List Bool). IsIn l n) is_row now); apart = apart })
          ((joined n).0 h),
      λ h. (joined n).1 (⊎_elim
          (λ (here : h.token ≡ m). inr (subst (λ (l : List Bool). IsIn l n) (sym is_row) (row_from n (subst (λ (a : ℕ). IsLast s n a) here h.is_last))))
          (λ (other : h.token ≢ m). inl ((parted n).1 (narrower n h other)))
          (cases_eq h.token m)),
    )

  pub parted_all : (i : ℕ) (set : List Bool) → length s.last ≤ i → ArePartedTo s b i set → AreParted s b set
  parted_all i set past parted n = (
    λ h. let is = (parted n).0 h in (is.token, is.is_last, is.apart),
    λ h. (parted n).1 (record { token = h.0; low = (let bounds = within_table s.last n h.0 h.1 in omega arith); is_last = h.1; apart = h.2 }),
  )
