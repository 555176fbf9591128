-- Tokens that are offered to bases: which are free, and what one more entry makes of the bases of entries.
use Rattle.std.proofs.Common.{◌≡◌, ◌↔◌, ℕ, ◌+◌, ◌<◌, ◌||◌, Bool, true, false, cond, List, [], ◌∷◌, ◌++◌, length, map, take, filter, refl, sym, ap, ◌∙◌, inl, inr, arith}
use Rattle.std.specs.Prelude.{Any, Option, Some, is_some, IsTrue}
use Rattle.std.specs.Global.{Vec}
use Rattle.std.specs.List.{enumerate_from}
use Rattle.std.specs.Map.{lookup}
use Rattle.std.specs.Str.{bytes_eq}
use Rattle.std.proofs.lemmas.Bool.{cases_lt, false≢true}
use Rattle.std.proofs.lemmas.List.{append-nil, length-take, map-append, map_push, take_all, take-append-le, length_push}
use Rattle.std.proofs.lemmas.List.Elements.{filter-append}
use Rattle.std.proofs.lemmas.List.Folds.{Any-from_list_any, list_any-from_Any}
use Rattle.std.proofs.lemmas.Slice.Eq.{bytes_eq-Decides}
use Rattle.cs_manifest.specs.Manifest.Lines.{is_feasible}
use Rattle.cs_manifest.specs.Manifest.Manifest.{GoalEntry, distinct, yields}
use Rattle.cs_writing.specs.Bases.Bases.{PlainBases, IsFree, IsTaken, offered, with_base, bases_of, base_in, bases_in}
use Rattle.cs_writing.proofs.OnBases.Distinct.{has, distinct-push, enumerate_from-push}

-- ---- the test of tokens, and what it says

module _ (tokens : List ℕ) (list : List (ℕ × List ℕ)) where
  pub any_from_has : has tokens list ≡ true → Any (λ base. base.1 ≡ tokens) list
  any_from_has h =
      let a = Any-from_list_any (λ y. bytes_eq tokens y.1) list h in
      (a.0, a.1, a.2, a.3, sym ((bytes_eq-Decides tokens a.1.1).0 a.4))

  pub has_from_any : Any (λ base. base.1 ≡ tokens) list → has tokens list ≡ true
  has_from_any a = list_any-from_Any (λ y. bytes_eq tokens y.1) list (a.0, a.1, a.2, a.3, (bytes_eq-Decides tokens a.1.1).1 (sym a.4))

  pub none_from_has : has tokens list ≡ false → Any (λ base. base.1 ≡ tokens) list → ⊥
  none_from_has h a = false≢true (sym h ∙ has_from_any a)

-- ---- the entries of feasible goals, with one more entry

abbrev number_tokens : ℕ × GoalEntry → ℕ × List ℕ
number_tokens e = (e.0, e.1.tokens)

abbrev feasible : ℕ × GoalEntry → Bool
feasible e = is_feasible e.1.verdict

module _ (entries : List GoalEntry) (entry : GoalEntry) where
  abbrev last : ℕ × GoalEntry
  last = (1 + length entries, entry)

  yields-append : yields (entries ++ entry ∷ []) ≡ yields entries ++ map number_tokens (cond (is_feasible entry.verdict) (last ∷ []) [])
  yields-append =
      ap (λ (l : List (ℕ × GoalEntry)). map number_tokens (filter feasible l)) (enumerate_from-push 1 entries entry)
      ∙ ap (map number_tokens) (filter-append feasible (enumerate_from 1 entries) (last ∷ []))
      ∙ map-append number_tokens (filter feasible (enumerate_from 1 entries)) (filter feasible (last ∷ []))

  pub yields-push : is_feasible entry.verdict ≡ true → yields (entries ++ entry ∷ []) ≡ yields entries ++ (length entries + 1, entry.tokens) ∷ []
  yields-push e =
      let n : 1 + length entries ≡ length entries + 1 = omega arith in
      yields-append ∙ ap (λ b. yields entries ++ map number_tokens (cond b (last ∷ []) [])) e
      ∙ ap (λ (k : ℕ). yields entries ++ (k, entry.tokens) ∷ []) n

  pub yields-same : is_feasible entry.verdict ≡ false → yields (entries ++ entry ∷ []) ≡ yields entries
  yields-same e = yields-append ∙ ap (λ b. yields entries ++ map number_tokens (cond b (last ∷ []) [])) e ∙ append-nil (yields entries)

-- ---- the first of the distinct ones, with one more at the end

module _ (most : ℕ) (ys : List (ℕ × List ℕ)) (y : ℕ × List ℕ) where
  abbrev before : List (ℕ × List ℕ)
  before = take most (distinct ys)

  after : (b : Bool) → has y.1 (distinct ys) ≡ b → take most (distinct (ys ++ y ∷ [])) ≡ take most (cond b (distinct ys) (distinct ys ++ y ∷ []))
  after b e = ap (take most) (distinct-push ys y ∙ ap (λ c. cond c (distinct ys) (distinct ys ++ y ∷ [])) e)

  all_taken : length before < most → before ≡ distinct ys
  all_taken room = take_all most (distinct ys) (let long = length-take most (distinct ys) in omega arith)

  pub taken : (Any (λ base. base.1 ≡ y.1) before → ⊥) → length before < most → take most (distinct (ys ++ y ∷ [])) ≡ before ++ y ∷ []
  taken new room = by (has y.1 (distinct ys)) refl
    where
      same : before ≡ distinct ys
      same = all_taken room

      by : (b : Bool) → has y.1 (distinct ys) ≡ b → take most (distinct (ys ++ y ∷ [])) ≡ before ++ y ∷ []
      by true e = absurd (new (any_from_has y.1 before (ap (has y.1) same ∙ e)))
      by false e =
          let long = length_push (distinct ys) y in
          let short : length (distinct ys) < most = omega (arith, room, ap length same) in
          after false e ∙ take_all most (distinct ys ++ y ∷ []) (omega arith) ∙ ap (λ (l : List (ℕ × List ℕ)). l ++ y ∷ []) (sym same)

  pub passed : ((Any (λ base. base.1 ≡ y.1) before → ⊥) → length before < most → ⊥) → take most (distinct (ys ++ y ∷ [])) ≡ before
  passed not_free = by (has y.1 (distinct ys)) refl
    where
      new_here : has y.1 (distinct ys) ≡ false → length (distinct ys) < most → ⊥
      new_here e short =
          let same : before ≡ distinct ys = take_all most (distinct ys) (omega arith) in
          let long = ap length same in
          not_free (none_from_has y.1 before (ap (has y.1) same ∙ e)) (omega arith)

      by : (b : Bool) → has y.1 (distinct ys) ≡ b → take most (distinct (ys ++ y ∷ [])) ≡ before
      by true e = after true e
      by false e = elim (cases_lt (length (distinct ys)) most) [
        | inl short ↦ absurd (new_here e short)
        | inr full ↦ after false e ∙ take-append-le most (distinct ys) (y ∷ []) full
      ]

-- ---- the laws

module _ (most : ℕ) (entries : List GoalEntry) (entry : GoalEntry) where
  abbrev behind : ℕ × List ℕ
  behind = (length entries + 1, entry.tokens)

  of_yields : (list more : List (ℕ × List ℕ)) → yields (entries ++ entry ∷ []) ≡ list → take most (distinct list) ≡ more → bases_of most (entries ++ entry ∷ []) ≡ record { most = most; list = more }
  of_yields list more e f = ap (λ (l : List (ℕ × List ℕ)). record { most = most; list = l }) (ap (λ (l : List (ℕ × List ℕ)). take most (distinct l)) e ∙ f)

  pub takes_free : IsTaken most entries entry → bases_of most (entries ++ entry ∷ []) ≡ with_base (bases_of most entries) (length entries + 1) entry.tokens
  takes_free h =
      of_yields (yields entries ++ behind ∷ []) (take most (distinct (yields entries)) ++ behind ∷ []) (yields-push entries entry h.feasible)
      (taken most (yields entries) behind h.free.new h.free.room)

  pub passes_others : (IsTaken most entries entry → ⊥) → bases_of most (entries ++ entry ∷ []) ≡ bases_of most entries
  passes_others none = by (is_feasible entry.verdict) refl
    where
      by : (b : Bool) → is_feasible entry.verdict ≡ b → bases_of most (entries ++ entry ∷ []) ≡ bases_of most entries
      by true e =
          of_yields (yields entries ++ behind ∷ []) (take most (distinct (yields entries))) (yields-push entries entry e)
          (passed most (yields entries) behind (λ new room. none (record { feasible = e; free = record { new = new; room = room } })))
      by false e = of_yields (yields entries) (take most (distinct (yields entries))) (yields-same entries entry e) refl

  -- what an offer of a feasible goal's tokens to the bases of the entries before it leaves is the bases of all
  pub bases_after_offer : IsTrue (is_feasible entry.verdict) → (taken : Bool) (new : PlainBases)
      → IsTrue taken ↔ IsFree (bases_of most entries) entry.tokens
      → new ≡ offered (bases_of most entries) (length entries + 1) entry.tokens taken
      → new ≡ bases_of most (entries ++ entry ∷ [])
  bases_after_offer is true new free e = e ∙ sym (takes_free (record { feasible = is; free = free.0 refl }))
  bases_after_offer is false new free e = e ∙ sym (passes_others (λ t. false≢true (free.1 t.free)))

  -- an entry that isn't feasible leaves the bases as they are
  pub bases_without_offer : is_feasible entry.verdict ≡ false → bases_of most entries ≡ bases_of most (entries ++ entry ∷ [])
  bases_without_offer e = sym (passes_others (λ t. false≢true (sym e ∙ t.feasible)))

-- ---- the table

module _ (tokens : List ℕ) where
  found_step : (b : Bool) (v : ℕ) (rest : Option ℕ) (more : Bool) → is_some rest ≡ more → is_some (cond b (Some v) rest) ≡ (b || more)
  found_step true v rest more e = refl
  found_step false v rest more e = e

  -- a look-up tells whether a base has the tokens
  pub is_some-lookup-bases : (entries : List (Vec ℕ × ℕ)) → is_some (lookup (λ (k : Vec ℕ). bytes_eq tokens k.items) entries) ≡ has tokens (bases_in entries)
  is_some-lookup-bases [] = refl
  is_some-lookup-bases (e ∷ es) =
      found_step (bytes_eq tokens e.0.items) e.1 (lookup (λ (k : Vec ℕ). bytes_eq tokens k.items) es) (has tokens (bases_in es)) (is_some-lookup-bases es)

-- one more entry of the table is one more base
pub bases_in-push : (entries : List (Vec ℕ × ℕ)) (v : Vec ℕ) (goal : ℕ) (tokens : List ℕ) → v.items ≡ tokens → bases_in (entries ++ (v, goal) ∷ []) ≡ bases_in entries ++ (goal, tokens) ∷ []
bases_in-push entries v goal tokens e = map_push base_in entries (v, goal) ∙ ap (λ (t : List ℕ). bases_in entries ++ (goal, t) ∷ []) e
