-- The lines of the head with one more.
use Rattle.std.proofs.Common.{◌≡◌, ℕ, zero, suc, ◌+◌, ◌<◌, ◌≤◌, Bool, true, false, List, [], ◌∷◌, ◌++◌, Option, Some, None, length, map, drop, refl, sym, ap, ◌∙◌, subst, ⊎_elim, arith}
use Rattle.std.specs.Prelude.{◌||◌, slice_get, if◌then◌else◌}
use Rattle.std.specs.List.{filter_map, range_with_len}
use Rattle.std.proofs.lemmas.Bool.{cases_eq}
use Rattle.std.proofs.lemmas.List.{length-append, length_push}
use Rattle.std.proofs.lemmas.List.Folds.{list_any-append}
use Rattle.std.proofs.lemmas.Option.{slice_get_within}
use Rattle.cs_grammar.specs.Grammar.{PlainGrammar}
use Rattle.cs_lines.specs.Lines.Line.{Productive, Reachable, Empty, First, Last, Next, Line, Opening, Weighing, TokenLine, RuleLine, LexemeLine, SetLine, RowLine}
use Rattle.cs_check.specs.Passing.Above.{weigh_in, set_in, row_in, is_set, has_sets}
use Rattle.cs_check.specs.Passing.Head.{Due, TheOpening, TheWeighing, TheToken, TheRule, TheLexeme, TheSet, TheRow, Takes, tables, claims, whole_head, head_size}
use Rattle.cs_check.specs.Passing.Places.{IsInHead}
use Rattle.cs_check.specs.Checking.Head.{State, state_of, after, IsNextIn, AreNext, IsPlace}
use Rattle.cs_check.proofs.OnDues.{claims_long}
use Rattle.cs_check.proofs.OnChecking.Told.{kept, added}
use Rattle.cs_check.proofs.OnChecking.HeadNext.{state, all_next}

-- ---- how many lines there are

-- both count the same of each kind
record HaveSameCounts (s t : State) : Type 0 where
  weighs : s.weighs ≡ t.weighs
  productive : s.productive ≡ t.productive
  reachable : s.reachable ≡ t.reachable
  empty : s.empty ≡ t.empty
  firsts : s.firsts ≡ t.firsts
  lasts : s.lasts ≡ t.lasts
  nexts : s.nexts ≡ t.nexts

same_state : (s t : State) → HaveSameCounts s t → s ≡ t
same_state s t same =
    let by_kinds : s ≡ record { weighs = t.weighs; productive = t.productive; reachable = t.reachable; empty = t.empty; firsts = t.firsts; lasts = t.lasts; nexts = t.nexts } =
    rw (← same.weighs, ← same.productive, ← same.reachable, ← same.empty, ← same.firsts, ← same.lasts, ← same.nexts) refl in by_kinds

-- one more, where a line tells something of a kind
abbrev with_told : {X : Type 0} → Option X → ℕ → ℕ
with_told None n = n
with_told (Some x) n = n + 1

abbrev with_line : Line → State → State
with_line l s =
    state (with_told (weigh_in l) s.weighs) (with_told (set_in Productive l) s.productive) (with_told (set_in Reachable l) s.reachable)
    (with_told (set_in Empty l) s.empty) (with_told (row_in First l) s.firsts) (with_told (row_in Last l) s.lasts) (with_told (row_in Next l) s.nexts)

module _ (lines : List Line) (l : Line) where
  count : {X : Type 0} (in_line : Line → Option X) (o : Option X) → in_line l ≡ o → length (filter_map in_line (lines ++ l ∷ [])) ≡ with_told o (length (filter_map in_line lines))
  count {X} in_line None none = ap (λ (x : List X). length x) (kept in_line lines l none)
  count {X} in_line (Some x) some = ap (λ (y : List X). length y) (added in_line lines l x some) ∙ length_push (filter_map in_line lines) x

  state_with : state_of (lines ++ l ∷ []) ≡ with_line l (state_of lines)
  state_with =
      same_state (state_of (lines ++ l ∷ [])) (with_line l (state_of lines)) (record {
        weighs = count weigh_in (weigh_in l) refl;
        productive = count (set_in Productive) (set_in Productive l) refl;
        reachable = count (set_in Reachable) (set_in Reachable l) refl;
        empty = count (set_in Empty) (set_in Empty l) refl;
        firsts = count (row_in First) (row_in First l) refl;
        lasts = count (row_in Last) (row_in Last l) refl;
        nexts = count (row_in Next) (row_in Next l) refl;
      })

  state_by : (same : Line) → l ≡ same → state_of (lines ++ l ∷ []) ≡ with_line same (state_of lines)
  state_by same e = state_with ∙ ap (λ (k : Line). with_line k (state_of lines)) e

-- the line of each place
pub state_of_line : (lines : List Line) (d : Due) (l : Line) → Takes d l → state_of (lines ++ l ∷ []) ≡ after (state_of lines) d
state_of_line lines TheOpening l h = state_by lines l Opening h
state_of_line lines TheWeighing l h = state_by lines l (Weighing h.0) h.1
state_of_line lines (TheToken t) l h = state_by lines l (TokenLine t h.0) h.1
state_of_line lines (TheRule r) l h = state_by lines l (RuleLine r h.0 h.1) h.2
state_of_line lines (TheLexeme t) l h = state_by lines l (LexemeLine h.0 h.1) h.2
state_of_line lines (TheSet Productive) l h = state_by lines l (SetLine Productive h.0) h.1
state_of_line lines (TheSet Reachable) l h = state_by lines l (SetLine Reachable h.0) h.1
state_of_line lines (TheSet Empty) l h = state_by lines l (SetLine Empty h.0) h.1
state_of_line lines (TheRow First number) l h = state_by lines l (RowLine First h.0 h.1) h.2
state_of_line lines (TheRow Last number) l h = state_by lines l (RowLine Last h.0 h.1) h.2
state_of_line lines (TheRow Next number) l h = state_by lines l (RowLine Next h.0 h.1) h.2

-- ---- what is left of the head

drop_at : (ds : List Due) (place : ℕ) (d : Due) → slice_get ds place ≡ Some d → drop place ds ≡ d ∷ drop (place + 1) ds
drop_at [] zero d e = absurd cc
drop_at [] (suc place) d e = absurd cc
drop_at (x ∷ ds) zero d e = let same : x ≡ d = cc in ap (λ (y : Due). y ∷ ds) same
drop_at (x ∷ ds) (suc place) d e =
    let up : suc (place + 1) ≡ suc place + 1 = omega arith in
    drop_at ds place d e ∙ ap (λ (n : ℕ). d ∷ drop n (x ∷ ds)) up

pub drop_all : (ds : List Due) (place : ℕ) → length ds ≤ place → drop place ds ≡ []
drop_all [] zero low = refl
drop_all [] (suc place) low = refl
drop_all (x ∷ ds) zero low = absurd (omega (arith, low))
drop_all (x ∷ ds) (suc place) low = drop_all ds place (omega (arith, low))

drop_front : (xs ys : List Due) → drop (length xs) (xs ++ ys) ≡ ys
drop_front [] ys = refl
drop_front (x ∷ xs) ys = drop_front xs ys

pub claims_left : (g : PlainGrammar) → drop (length (tables g)) (whole_head g) ≡ claims g
claims_left g = drop_front (tables g) (claims g)

behind_first : (xs : List Due) (d : Due) (ys : List Due) → slice_get (xs ++ d ∷ ys) (length xs) ≡ Some d
behind_first [] d ys = refl
behind_first (x ∷ xs) d ys = behind_first xs d ys

one_due : (ds : List Due) (place : ℕ) (d other : Due) → slice_get ds place ≡ Some d → slice_get ds place ≡ Some other → d ≡ other
one_due ds place d other e f = let both : Some d ≡ Some other = sym e ∙ f in cc

-- ---- how many lines the head has

pub size_with : (g : PlainGrammar) (lines : List Line) → has_sets lines ≡ true → head_size g lines ≡ length (whole_head g)
size_with g lines e = ap (λ (b : Bool). if b then length (whole_head g) else length (tables g)) e

pub size_without : (g : PlainGrammar) (lines : List Line) → has_sets lines ≡ false → head_size g lines ≡ length (tables g)
size_without g lines e = ap (λ (b : Bool). if b then length (whole_head g) else length (tables g)) e

claims_some : (g : PlainGrammar) → 0 < length (claims g)
claims_some g = let e = claims_long g in omega arith

-- the first closed line
first_of_claims : (g : PlainGrammar) → slice_get (whole_head g) (length (tables g)) ≡ Some (TheSet Productive)
first_of_claims g =
    let firsts : List Due = map (TheRow First) (range_with_len 1 g.nonterminals) in
    let lasts : List Due = map (TheRow Last) (range_with_len 1 g.nonterminals) in
    let nexts : List Due = map (TheRow Next) (range_with_len 0 (g.tokens + 1)) in
    behind_first (tables g) (TheSet Productive) (TheSet Reachable ∷ TheSet Empty ∷ (firsts ++ lasts ++ nexts))

pub tables_within : (g : PlainGrammar) → length (tables g) < length (whole_head g)
tables_within g =
    let all = length-append (tables g) (claims g) in
    let some : 0 < length (claims g) = claims_some g in
    omega arith

pub sets_more : (lines : List Line) (l : Line) → has_sets (lines ++ l ∷ []) ≡ (has_sets lines || (is_set l || false))
sets_more lines l = list_any-append is_set lines (l ∷ [])

pub sets_stay : (lines : List Line) (l : Line) → has_sets lines ≡ true → has_sets (lines ++ l ∷ []) ≡ true
sets_stay lines l e = sets_more lines l ∙ ap (λ (b : Bool). b || (is_set l || false)) e

pub sets_come : (lines : List Line) (l : Line) → is_set l ≡ true → has_sets (lines ++ l ∷ []) ≡ true
sets_come lines l e = sets_more lines l ∙ come (has_sets lines) (is_set l) e
  where
    come : (b c : Bool) → c ≡ true → (b || (c || false)) ≡ true
    come true c e = refl
    come false true e = refl
    come false false e = absurd cc

pub sets_lack : (lines : List Line) (l : Line) → is_set l ≡ false → has_sets (lines ++ l ∷ []) ≡ has_sets lines
sets_lack lines l e = sets_more lines l ∙ lack (has_sets lines) (is_set l) e
  where
    lack : (b c : Bool) → c ≡ false → (b || (c || false)) ≡ b
    lack true c e = refl
    lack false false e = refl
    lack false true e = absurd cc

-- ---- the next line

module _ (g : PlainGrammar) (lines : List Line) (l : Line) (h : IsInHead g lines l) where
  low : length lines < length (whole_head g)
  low = slice_get_within (whole_head g) (length lines) h.due h.is_due

  -- the first closed line is that of a set
  first_closed : length lines ≡ length (tables g) → is_set l ≡ true
  first_closed e =
      let here : slice_get (whole_head g) (length lines) ≡ Some (TheSet Productive) =
      ap (slice_get (whole_head g)) e ∙ first_of_claims g in
      let due = one_due (whole_head g) (length lines) h.due (TheSet Productive) h.is_due here in
      let takes = subst (λ (d : Due). Takes d l) due h.takes in
      ap is_set takes.1

  within_by : (old new : Bool) → has_sets lines ≡ old → has_sets (lines ++ l ∷ []) ≡ new → length lines + 1 ≤ head_size g (lines ++ l ∷ [])
  within_by old true e f = let s = size_with g (lines ++ l ∷ []) f in let less = low in omega arith
  within_by true false e f = let is = sets_stay lines l e in absurd cc
  within_by false false e f =
      let s = size_without g (lines ++ l ∷ []) f in
      let t = size_without g lines e in
      let most = h.within in
      ⊎_elim (λ same. let is = sets_come lines l (first_closed same) in absurd cc) (λ other. omega arith) (cases_eq (length lines) (length (tables g)))

  within_now : length (lines ++ l ∷ []) ≤ head_size g (lines ++ l ∷ [])
  within_now = let long = length_push lines l in let most = within_by (has_sets lines) (has_sets (lines ++ l ∷ [])) refl refl in omega arith

  module _ (p : IsPlace g lines) where
    now : AreNext (state_of lines) (h.due ∷ drop (length lines + 1) (whole_head g))
    now = subst (λ (ds : List Due). AreNext (state_of lines) ds) (drop_at (whole_head g) (length lines) h.due h.is_due) p.next

    pub place_more : IsPlace g (lines ++ l ∷ [])
    place_more =
        let long = length_push lines l in
        let state = state_of_line lines h.due l h.takes in record {
          within = within_now;
          next =
              subst (λ (n : ℕ). AreNext (state_of (lines ++ l ∷ [])) (drop n (whole_head g))) (sym long)
              (subst (λ (s : State). AreNext s (drop (length lines + 1) (whole_head g))) (sym state) now.1);
        }

    pub next_here : IsNextIn (state_of lines) h.due
    next_here = now.0

pub no_place : (g : PlainGrammar) → IsPlace g []
no_place g = record { within = omega arith; next = all_next g }
