-- First and last tokens of lists of symbols, one symbol after another.
use Rattle.std.proofs.Common.{◌≡◌, ℕ, List, [], ◌∷◌, ◌++◌, refl, sym, ap, ◌∙◌, subst, inl, inr, ◌⊎◌, append_assoc}
use Rattle.std.proofs.lemmas.List.{same_from_push}
use Rattle.std.specs.Prelude.{All}
use Rattle.std.proofs.lemmas.List.Elements.{All-nil, All-cons, All-head, All-tail, All-push}
use Rattle.cs_grammar.specs.declared.symbol.Symbol.{Symbol}
use Rattle.cs_closed.proofs.OnClosed.Lists as lists
use Rattle.cs_closed.proofs.OnClosed.Lists.{back}
use Rattle.cs_closed.specs.Closed.Sets.{PlainSets, IsEmptySymbol, IsFirstOf, IsLastOf}
use Rattle.cs_closed.specs.Closed.Closed.{IsFirstAmong, IsLastAmong, MayMeet}

module _ (s : PlainSets) (x : Symbol) (xs : List Symbol) where
  pub first_here : (b : ℕ) → IsFirstOf s x b → IsFirstAmong s (x ∷ xs) b
  first_here b h = record { before = []; symbol = x; behind = xs; place = refl; empties = All-nil (IsEmptySymbol s); is_first = h }

  pub first_later : (b : ℕ) → IsEmptySymbol s x → IsFirstAmong s xs b → IsFirstAmong s (x ∷ xs) b
  first_later b e h = record {
    before = x ∷ h.before;
    symbol = h.symbol;
    behind = h.behind;
    place = ap (λ (l : List Symbol). x ∷ l) h.place;
    empties = All-cons (IsEmptySymbol s) x h.before e h.empties;
    is_first = h.is_first;
  }

  pub last_here : (a : ℕ) → All (IsEmptySymbol s) xs → IsLastOf s x a → IsLastAmong s (x ∷ xs) a
  last_here a e h = record { before = []; symbol = x; behind = xs; place = refl; empties = e; is_last = h }

  pub last_later : (a : ℕ) → IsLastAmong s xs a → IsLastAmong s (x ∷ xs) a
  last_later a h = record {
    before = x ∷ h.before;
    symbol = h.symbol;
    behind = h.behind;
    place = ap (λ (l : List Symbol). x ∷ l) h.place;
    empties = h.empties;
    is_last = h.is_last;
  }

  pub meet_here : (a b : ℕ) → IsLastOf s x a → IsFirstAmong s xs b → MayMeet s (x ∷ xs) a b
  meet_here a b l f = record { before = []; symbol = x; behind = xs; place = refl; is_last = l; is_first = f }

  pub meet_later : (a b : ℕ) → MayMeet s xs a b → MayMeet s (x ∷ xs) a b
  meet_later a b h = record {
    before = x ∷ h.before;
    symbol = h.symbol;
    behind = h.behind;
    place = ap (λ (l : List Symbol). x ∷ l) h.place;
    is_last = h.is_last;
    is_first = h.is_first;
  }

  first_at : (b : ℕ) (before : List Symbol) (symbol : Symbol) (behind : List Symbol) → x ∷ xs ≡ before ++ symbol ∷ behind → All (IsEmptySymbol s) before → IsFirstOf s symbol b → IsFirstOf s x b ⊎ (IsEmptySymbol s x × IsFirstAmong s xs b)
  first_at b [] symbol behind e empties h = let same : symbol ≡ x = cc in inl (subst (λ (y : Symbol). IsFirstOf s y b) same h)
  first_at b (y ∷ before) symbol behind e empties h =
      let same : y ≡ x = cc in
      let place : xs ≡ before ++ symbol ∷ behind = cc in
      inr (
        subst (IsEmptySymbol s) same (All-head (IsEmptySymbol s) y before empties),
        record { before = before; symbol = symbol; behind = behind; place = place; empties = All-tail (IsEmptySymbol s) y before empties; is_first = h },
      )

  pub first_cases : (b : ℕ) → IsFirstAmong s (x ∷ xs) b → IsFirstOf s x b ⊎ (IsEmptySymbol s x × IsFirstAmong s xs b)
  first_cases b h = first_at b h.before h.symbol h.behind h.place h.empties h.is_first

  meet_at : (a b : ℕ) (before : List Symbol) (symbol : Symbol) (behind : List Symbol) → x ∷ xs ≡ before ++ symbol ∷ behind → IsLastOf s symbol a → IsFirstAmong s behind b → (IsLastOf s x a × IsFirstAmong s xs b) ⊎ MayMeet s xs a b
  meet_at a b [] symbol behind e l f =
      let same : symbol ≡ x = cc in
      let rest : behind ≡ xs = cc in
      inl (subst (λ (y : Symbol). IsLastOf s y a) same l, subst (λ (ys : List Symbol). IsFirstAmong s ys b) rest f)
  meet_at a b (y ∷ before) symbol behind e l f =
      let place : xs ≡ before ++ symbol ∷ behind = cc in
      inr (record { before = before; symbol = symbol; behind = behind; place = place; is_last = l; is_first = f })

  pub meet_cases : (a b : ℕ) → MayMeet s (x ∷ xs) a b → (IsLastOf s x a × IsFirstAmong s xs b) ⊎ MayMeet s xs a b
  meet_cases a b h = meet_at a b h.before h.symbol h.behind h.place h.is_last h.is_first

  pub push_last : (a : ℕ) → IsLastOf s x a → IsLastAmong s (xs ++ x ∷ []) a
  push_last a h = record { before = xs; symbol = x; behind = []; place = refl; empties = All-nil (IsEmptySymbol s); is_last = h }

  pub push_empty : (a : ℕ) → IsEmptySymbol s x → IsLastAmong s xs a → IsLastAmong s (xs ++ x ∷ []) a
  push_empty a e h = record {
    before = h.before;
    symbol = h.symbol;
    behind = h.behind ++ x ∷ [];
    place = ap (λ (l : List Symbol). l ++ x ∷ []) h.place ∙ append_assoc h.before (h.symbol ∷ h.behind) (x ∷ []);
    empties = All-push (IsEmptySymbol s) h.behind x h.empties e;
    is_last = h.is_last;
  }

  pub push_cases : (a : ℕ) → IsLastAmong s (xs ++ x ∷ []) a → IsLastOf s x a ⊎ (IsEmptySymbol s x × IsLastAmong s xs a)
  push_cases a h =
      elim (back h.behind) [
        | lists.Bare none ↦
            (let e = same_from_push xs h.before x h.symbol (h.place ∙ ap (λ (l : List Symbol). h.before ++ h.symbol ∷ l) none) in
            inl (subst (λ (y : Symbol). IsLastOf s y a) (sym e.1) h.is_last))
        | lists.Ended init y ends ↦
            (let e = same_from_push xs (h.before ++ h.symbol ∷ init) x y (h.place ∙ ap (λ (l : List Symbol). h.before ++ h.symbol ∷ l) ends ∙ sym (append_assoc h.before (h.symbol ∷ init) (y ∷ []))) in
            let empties = subst (λ (l : List Symbol). All (IsEmptySymbol s) l) ends h.empties in
            inr (
              subst (IsEmptySymbol s) (sym e.1) (All-last y init empties),
              record { before = h.before; symbol = h.symbol; behind = init; place = e.0; empties = All-init y init empties; is_last = h.is_last },
            ))
      ]
    where
      All-init : (y : Symbol) (init : List Symbol) → All (IsEmptySymbol s) (init ++ y ∷ []) → All (IsEmptySymbol s) init
      All-init y [] h = All-nil (IsEmptySymbol s)
      All-init y (z ∷ init) h = All-cons (IsEmptySymbol s) z init (All-head (IsEmptySymbol s) z (init ++ y ∷ []) h) (All-init y init (All-tail (IsEmptySymbol s) z (init ++ y ∷ []) h))

      All-last : (y : Symbol) (init : List Symbol) → All (IsEmptySymbol s) (init ++ y ∷ []) → IsEmptySymbol s y
      All-last y [] h = All-head (IsEmptySymbol s) y [] h
      All-last y (z ∷ init) h = All-last y init (All-tail (IsEmptySymbol s) z (init ++ y ∷ []) h)

module _ (s : PlainSets) where
  nothing_at : (before : List Symbol) (symbol : Symbol) (behind : List Symbol) → [] ≡ before ++ symbol ∷ behind → ⊥
  nothing_at [] symbol behind e = absurd cc
  nothing_at (x ∷ before) symbol behind e = absurd cc

  pub first_none : (b : ℕ) → IsFirstAmong s [] b → ⊥
  first_none b h = nothing_at h.before h.symbol h.behind h.place

  pub last_none : (a : ℕ) → IsLastAmong s [] a → ⊥
  last_none a h = nothing_at h.before h.symbol h.behind h.place

  pub meet_none : (a b : ℕ) → MayMeet s [] a b → ⊥
  meet_none a b h = nothing_at h.before h.symbol h.behind h.place

  pub meet_behind : (a b : ℕ) (xs ys : List Symbol) → MayMeet s ys a b → MayMeet s (xs ++ ys) a b
  meet_behind a b [] ys h = h
  meet_behind a b (x ∷ xs) ys h = meet_later s x (xs ++ ys) a b (meet_behind a b xs ys h)
