-- One step of the sweeps over right sides.
use Rattle.std.proofs.Common.{◌≡◌, ℕ, ◌+◌, ◌<◌, Bool, true, false, List, [], ◌∷◌, ◌++◌, take, drop, length, get_or, refl, sym, ap, ◌∙◌, subst, ⊎_elim, ◌⊎◌, ◌↔◌, arith}
use Rattle.std.specs.Prelude.{IsTrue}
use Rattle.std.proofs.lemmas.List.{take_more, drop_more, take-append-drop, drop_all}
use Rattle.cs_grammar.specs.declared.symbol.Symbol.{Symbol}
use Rattle.cs_grammar.specs.declared.symbol.Symbol.TheVariants as symbol
use Rattle.cs_closed.specs.Closed.Sets.{PlainSets, IsEmptySymbol, IsFirstOf, IsLastOf}
use Rattle.cs_closed.specs.Closed.Closed.{IsFirstAmong, IsLastAmong, MayMeet}
use Rattle.cs_closed.specs.Closed.Keeping.{KeepsMeetings, IsPartedSymbol}
use Rattle.cs_closed.proofs.OnClosed.Among.{first_here, first_later, first_cases, first_none, push_last, push_empty, push_cases, meet_here, meet_cases, meet_none, meet_behind}

abbrev pub at : List Symbol → ℕ → Symbol
at xs i = get_or xs i (symbol.Token 0)

-- what isn't false is true
pub not_false : (x : Bool) → ((IsTrue x → ⊥) → ⊥) → IsTrue x
not_false true h = refl
not_false false h = absurd (h (λ e. cc))

module _ (s : PlainSets) (xs : List Symbol) (n p : ℕ) (next : n ≡ p + 1) (within : p < length xs) where
  from : drop p xs ≡ at xs p ∷ drop n xs
  from = drop_more xs p (symbol.Token 0) within ∙ ap (λ (k : ℕ). at xs p ∷ drop k xs) (sym next)

  upto : take n xs ≡ take p xs ++ at xs p ∷ []
  upto = ap (λ (k : ℕ). take k xs) next ∙ take_more xs p (symbol.Token 0) within

  pub first_step : (b : ℕ) → IsFirstAmong s (drop p xs) b ↔ (IsFirstOf s (at xs p) b ⊎ (IsEmptySymbol s (at xs p) × IsFirstAmong s (drop n xs) b))
  first_step b = (
    λ h. first_cases s (at xs p) (drop n xs) b (subst (λ (l : List Symbol). IsFirstAmong s l b) from h),
    λ h. subst (λ (l : List Symbol). IsFirstAmong s l b) (sym from)
        (⊎_elim (λ here. first_here s (at xs p) (drop n xs) b here) (λ later. first_later s (at xs p) (drop n xs) b later.0 later.1) h),
  )

  pub last_step : (a : ℕ) → IsLastAmong s (take n xs) a ↔ (IsLastOf s (at xs p) a ⊎ (IsEmptySymbol s (at xs p) × IsLastAmong s (take p xs) a))
  last_step a = (
    λ h. push_cases s (at xs p) (take p xs) a (subst (λ (l : List Symbol). IsLastAmong s l a) upto h),
    λ h. subst (λ (l : List Symbol). IsLastAmong s l a) (sym upto)
        (⊎_elim (λ here. push_last s (at xs p) (take p xs) a here) (λ later. push_empty s (at xs p) (take p xs) a later.0 later.1) h),
  )

  -- nothing is parted at this place, or the token doesn't stand behind it
  pub keeps_step : (b : ℕ) → (IsFirstAmong s (drop n xs) b → IsPartedSymbol s b (at xs p) → ⊥) → KeepsMeetings s b (drop n xs) → KeepsMeetings s b (drop p xs)
  keeps_step b apart kept a h =
      ⊎_elim
      (λ here. not_false _ (λ no. apart here.1 (a, here.0, no)))
      (λ later. kept a later)
      (meet_cases s (at xs p) (drop n xs) a b (subst (λ (l : List Symbol). MayMeet s l a b) from h))

  pub breaks : (b : ℕ) → IsFirstAmong s (drop n xs) b → IsPartedSymbol s b (at xs p) → KeepsMeetings s b xs → ⊥
  breaks b stands parted kept =
      parted.2 (kept parted.0 (subst (λ (l : List Symbol). MayMeet s l parted.0 b) (take-append-drop p xs)
      (meet_behind s parted.0 b (take p xs) (drop p xs)
      (subst (λ (l : List Symbol). MayMeet s l parted.0 b) (sym from) (meet_here s (at xs p) (drop n xs) parted.0 b parted.1 stands)))))

module _ (s : PlainSets) (xs : List Symbol) (b : ℕ) where
  none : drop (length xs) xs ≡ []
  none = drop_all (length xs) xs (omega arith)

  pub first_end : IsFirstAmong s (drop (length xs) xs) b → ⊥
  first_end h = first_none s b (subst (λ (l : List Symbol). IsFirstAmong s l b) none h)

  pub keeps_end : KeepsMeetings s b (drop (length xs) xs)
  keeps_end a h = absurd (meet_none s a b (subst (λ (l : List Symbol). MayMeet s l a b) none h))
