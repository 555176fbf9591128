-- What is seen of states that were met: each state behind the start with its text.
use Rattle.std.proofs.Common.{◌≡◌, ◌≢◌, ℕ, zero, suc, ◌+◌, ◌-◌, ◌<◌, arith, List, [], ◌∷◌, ◌++◌, length, length-append, sym, ◌∙◌, ap, subst, refl, inl, inr, Option, Some, None, get_or, append_assoc}
use Rattle.std.specs.Prelude.{slice_get}
use Rattle.std.proofs.lemmas.Bool.{cases_lt}
use Rattle.std.proofs.lemmas.List.{get_or_append_left, get_or_push}
use Rattle.std.proofs.lemmas.Option.{slice_get_within, get_or_from_slice_get}
use Rattle.cs_pattern_parts.specs.Items.StandsFor.{AreBytes}
use Rattle.cs_scanner.specs.Automaton.Machine.{Machine, StateOf, IsBegun, patterns_of}
use Rattle.cs_scanner.specs.declared.lexeme.steps.Step.{Step}
use Rattle.cs_scanner.specs.declared.lexeme.search.Origin.{Origin}
use Rattle.cs_scanner.specs.declared.lexeme.search.Visit.{Visit}
use Rattle.cs_scanner.specs.Lexeme.Kinds.{first_visit}
use Rattle.cs_scanner.specs.Lexeme.Number.{number}
use Rattle.cs_scanner.specs.Lexeme.Order.{IsAtMost, IsBefore}
use Rattle.cs_scanner.specs.Lexeme.Seen.{text_behind, texts_behind, seen, IsSearched}
use Rattle.cs_scanner.specs.Lexeme.StateTexts.{StateText, IsMetSoon, AreStateTexts, entry_in}
use Rattle.cs_scanner.specs.Lexeme.Steps.{AreRows}
use Rattle.cs_scanner.specs.Lexeme.Visits.{Spells, AreEarlier, AreVisits, AreAllMet}
use Rattle.cs_scanner.proofs.OnLexeme.Lists.{has_at}
use Rattle.cs_scanner.proofs.OnLexeme.Numbers.{at_most_by_number}
use Rattle.cs_scanner.proofs.OnLexeme.Reaching.{spells_one, text_stands, ordered_more, reached_on, not_first, linked_by, IsReachedBy}

-- an element of the front is one of the whole
front_at : {A : Type 0} (xs ys : List A) (x : A) (i : ℕ) → slice_get xs i ≡ Some x → slice_get (xs ++ ys) i ≡ Some x
front_at [] ys x i at = absurd (cc)
front_at (z ∷ xs) ys x zero at = at
front_at (z ∷ xs) ys x (suc i) at = front_at xs ys x i at

back_at : {A : Type 0} (xs ys : List A) (x : A) (i : ℕ) → slice_get ys i ≡ Some x → slice_get (xs ++ ys) (length xs + i) ≡ Some x
back_at [] ys x i at = let e : i ≡ 0 + i = omega arith in subst (λ n. slice_get ys n ≡ Some x) e at
back_at (z ∷ xs) ys x i at = let e : suc (length xs + i) ≡ suc (length xs) + i = omega arith in subst (λ n. slice_get (z ∷ (xs ++ ys)) n ≡ Some x) e (back_at xs ys x i at)

abbrev entry : Visit → List ℕ → StateText
entry v text = record { state = v.state; text = text }

module _ (whole : List Visit) (earlier : AreEarlier whole) where
  -- the texts of the first places
  abbrev AreKnown : ℕ → List (List ℕ) → Type 0
  AreKnown n known = (p : ℕ) → p < n → Spells whole p (get_or known p [])

  spelled : (k : ℕ) (known : List (List ℕ)) (v : Visit) (origin : Option Origin) → slice_get whole k ≡ Some v → v.origin ≡ origin → AreKnown k known → Spells whole k (text_behind known origin)
  spelled k known v None at is are = Spells.begins k v [] at is refl
  spelled k known v (Some o) at is are = Spells.goes_on k v o (get_or known o.place []) (get_or known o.place [] ++ o.byte ∷ []) at is (are o.place (earlier k v o at is)) refl

  known_more : (n : ℕ) (known : List (List ℕ)) (text : List ℕ) → length known ≡ n → AreKnown n known → Spells whole n text → AreKnown (suc n) (known ++ text ∷ [])
  known_more n known text all are here p less =
      elim (cases_lt p n) [
        | inl before ↦ subst (λ t. Spells whole p t) (sym (get_or_append_left known (text ∷ []) [] p (omega (arith, before, all)))) (are p before)
        | inr most ↦
            let same : p ≡ n = omega (arith, most, less) in
            let is : get_or (known ++ text ∷ []) p [] ≡ text = get_or_push known text [] p (omega (arith, same, all)) in
            subst (λ t. Spells whole p t) (sym is) (subst (λ q. Spells whole q text) (sym same) here)
      ]

  record IsSeenAt (n : ℕ) (met : List StateText) (i : ℕ) (v : Visit) : Type 0 where
    pub text : List ℕ
    pub spells : Spells whole (n + i) text
    pub at : slice_get met i ≡ Some (entry v text)

  seen_from : (done vs : List Visit) (known : List (List ℕ)) (n : ℕ) → whole ≡ done ++ vs → length done ≡ n → length known ≡ n → AreKnown n known → (i : ℕ) (v : Visit) → slice_get vs i ≡ Some v → IsSeenAt n (texts_behind known vs) i v
  seen_from done [] known n is all many are i v at = absurd (cc)
  seen_from done (w ∷ vs) known n is all many are zero v at =
      let same : w ≡ v = cc in
      let here : slice_get whole n ≡ Some w = subst (λ t. slice_get t n ≡ Some w) (sym is) (subst (λ q. slice_get (done ++ w ∷ vs) q ≡ Some w) (omega (arith, all)) (back_at done (w ∷ vs) w 0 refl)) in
      let mine = spelled n known w w.origin here refl are in
      let e : n ≡ n + 0 = omega arith in
      record { text = text_behind known w.origin; spells = subst (λ q. Spells whole q (text_behind known w.origin)) e mine; at = ap (λ (u : Visit). Some (entry u (text_behind known w.origin))) same }
  seen_from done (w ∷ vs) known n is all many are (suc i) v at =
      let here : slice_get whole n ≡ Some w = subst (λ t. slice_get t n ≡ Some w) (sym is) (subst (λ q. slice_get (done ++ w ∷ vs) q ≡ Some w) (omega (arith, all)) (back_at done (w ∷ vs) w 0 refl)) in
      let mine = spelled n known w w.origin here refl are in
      let text = text_behind known w.origin in
      let rest = seen_from (done ++ w ∷ []) vs (known ++ text ∷ []) (suc n) (is ∙ sym (append_assoc done (w ∷ []) vs)) (omega (arith, length-append done (w ∷ []), all)) (omega (arith, length-append known (text ∷ []), many)) (known_more n known text many are mine) i v at in
      let e : suc n + i ≡ n + suc i = omega arith in
      record { text = rest.text; spells = subst (λ q. Spells whole q rest.text) e rest.spells; at = rest.at }

length-texts_behind : (known : List (List ℕ)) (vs : List Visit) → length (texts_behind known vs) ≡ length vs
length-texts_behind known [] = refl
length-texts_behind known (v ∷ vs) = ap suc (length-texts_behind (known ++ text_behind known v.origin ∷ []) vs)

pub length-seen : (vs : List Visit) → 0 < length vs → length (seen vs) + 1 ≡ length vs
length-seen [] some = absurd (omega arith)
length-seen (v ∷ vs) some = omega (arith, length-texts_behind ([] ∷ []) vs)

-- the entry of a visit behind the start
pub record IsSeen (visits : List Visit) (place : ℕ) (v : Visit) : Type 0 where
  pub text : List ℕ
  pub spells : Spells visits (place + 1) text
  pub at : slice_get (seen visits) place ≡ Some (entry v text)

pub seen_at : (visits : List Visit) → AreEarlier visits → (place : ℕ) (v : Visit) → slice_get visits (place + 1) ≡ Some v → IsSeen visits place v
seen_at [] earlier place v at = absurd (omega (arith, slice_get_within [] (place + 1) v at))
seen_at (start ∷ vs) earlier place v at =
    let whole = start ∷ vs in
    let e : place + 1 ≡ suc place = omega arith in
    let there : slice_get vs place ≡ Some v = subst (λ q. slice_get whole q ≡ Some v) e at in
    let first : (origin : Option Origin) → start.origin ≡ origin → Spells whole 0 [] = λ origin. elim origin as (λ o. start.origin ≡ o → Spells whole 0 []) [ None ↦ λ is. Spells.begins 0 start [] refl is refl | Some o ↦ λ is. absurd (let less = earlier 0 start o refl is in omega (arith, less)) ] in
    let known : (p : ℕ) → p < 1 → Spells whole p (get_or ([] ∷ []) p []) = λ p less. let same : p ≡ 0 = omega (arith, less) in subst (λ q. Spells whole q (get_or ([] ∷ []) q [])) (sym same) (first start.origin refl) in
    let it = seen_from whole earlier (start ∷ []) vs ([] ∷ []) 1 refl refl refl known place v there in
    let f : 1 + place ≡ place + 1 = omega arith in
    record { text = it.text; spells = subst (λ q. Spells whole q it.text) f it.spells; at = it.at }

pub state_is : (visits : List Visit) → AreEarlier visits → (place : ℕ) (v : Visit) → slice_get visits (place + 1) ≡ Some v → v.state ≡ (entry_in (seen visits) place).state
state_is visits earlier place v at =
    let it = seen_at visits earlier place v at in
    sym (ap (λ (t : StateText). t.state) (get_or_from_slice_get (seen visits) place (entry v it.text) (record { state = 0; text = [] }) it.at))

pub text_is : (visits : List Visit) → AreEarlier visits → (place : ℕ) (text : List ℕ) → place + 1 < length visits → Spells visits (place + 1) text → text ≡ (entry_in (seen visits) place).text
text_is visits earlier place text within spells =
    let v = has_at visits (place + 1) within in
    let it = seen_at visits earlier place v.0 v.1 in
    spells_one visits (place + 1) text it.text spells it.spells ∙ sym (ap (λ (t : StateText). t.text) (get_or_from_slice_get (seen visits) place (entry v.0 it.text) (record { state = 0; text = [] }) it.at))

-- ---- all states that texts lead to

-- the last byte of a list that isn't empty
last_of : (x : List ℕ) → x ≢ [] → (front : List ℕ) × (b : ℕ) × (x ≡ front ++ b ∷ [])
last_of [] some = absurd (some refl)
last_of (b ∷ []) some = ([], b, refl)
last_of (b ∷ c ∷ x) some = let it = last_of (c ∷ x) (λ e. absurd (cc)) in (b ∷ it.0, it.1, ap (λ t. b ∷ t) it.2)

pushed_some : (front : List ℕ) (b : ℕ) → front ++ b ∷ [] ≢ []
pushed_some [] b e = cc
pushed_some (c ∷ front) b e = cc

-- at most and not the same is before
before_by : (x y : List ℕ) → number x < number y → IsAtMost x y → IsBefore x y
before_by x y less (inl same) = absurd (omega (arith, less, ap number same))
before_by x y less (inr before) = before

module _ (m : Machine) (visits : List Visit) (a : AreVisits m visits) where
  earlier_of : AreEarlier visits
  earlier_of k v o at is = (linked_by m visits a k v (Some o) at is).earlier

  some_behind : (place : ℕ) (text : List ℕ) → 0 < place → Spells visits place text → text ≢ []
  some_behind place text behind (Spells.begins _ v _ at none e) = absurd (omega (arith, behind, (linked_by m visits a place v None at none).0))
  some_behind place text behind (Spells.goes_on _ v o front _ at is t e) = λ nothing. pushed_some front o.byte (sym e ∙ nothing)

  -- what stands at a place of the list is the visit behind it
  record IsEntry (k : ℕ) (t : StateText) : Type 0 where
    pub visit : Visit
    pub at : slice_get visits (k + 1) ≡ Some visit
    pub spells : Spells visits (k + 1) t.text
    pub state : visit.state ≡ t.state

  entry_of : 0 < length visits → (k : ℕ) (t : StateText) → slice_get (seen visits) k ≡ Some t → IsEntry k t
  entry_of some k t at =
      let v = has_at visits (k + 1) (omega (arith, slice_get_within (seen visits) k t at, length-seen visits some)) in
      let it = seen_at visits earlier_of k v.0 v.1 in
      let there = it.at in
      let same : entry v.0 it.text ≡ t = cc in
      record { visit = v.0; at = v.1; spells = subst (λ (u : StateText). Spells visits (k + 1) u.text) same it.spells; state = ap (λ (u : StateText). u.state) same }

  module _ (rows : List (List Step)) (r : AreRows m rows) (start : ℕ) (all : AreAllMet m rows 0 (first_visit start ∷ []) visits) (stands : StateOf m start []) where
    some_visit : 0 < length visits
    some_visit = let longer = all.extends.longer in omega (arith, longer)

    root : IsReachedBy m visits a 0 []
    root = let at = all.extends.stay 0 (first_visit start) refl in record { place = 0; visit = first_visit start; at = at; behind = omega arith; stands = stands; least = []; spells = Spells.begins 0 (first_visit start) [] at refl refl; low = omega arith }

    soon_met : (text : List ℕ) → AreBytes text → text ≢ [] → IsBegun (patterns_of m) text → IsMetSoon m (seen visits) text
    soon_met text bytes some begun =
        let it = reached_on m visits a rows r 0 (first_visit start ∷ []) all (omega arith) [] text bytes begun root in
        let last = last_of text some in
        let behind = not_first m visits a it.place last.1 last.0 it.visit it.at (subst (λ t. StateOf m it.visit.state t) last.2 it.stands) in
        by it behind (it.place - 1) (omega (arith, behind))
      where
        by : (it : IsReachedBy m visits a 0 text) → 0 < it.place → (k : ℕ) → k + 1 ≡ it.place → IsMetSoon m (seen visits) text
        by it behind k is =
            let at = subst (λ q. slice_get visits q ≡ Some it.visit) (sym is) it.at in
            let mine = seen_at visits earlier_of k it.visit at in
            let one = spells_one visits it.place mine.text it.least (subst (λ q. Spells visits q mine.text) is mine.spells) it.spells in
            let bytes_too = (text_stands m visits a (k + 1) mine.text mine.spells it.visit at).1 in
            record { place = k; entry = entry it.visit mine.text; at = mine.at; stands = it.stands; soon = at_most_by_number mine.text text bytes_too bytes (omega (arith, it.low, ap number one)) }

    pub state_texts : AreStateTexts m (seen visits)
    state_texts = record {
      each = λ k t at.
          let e = entry_of some_visit k t at in
          let it = text_stands m visits a (k + 1) t.text e.spells e.visit e.at in
          record {
            within = subst (λ q. q < length m.sets) e.state (a.within (k + 1) e.visit e.at);
            stands = subst (λ q. StateOf m q t.text) e.state it.0;
            some = some_behind (k + 1) t.text (omega arith) e.spells;
            bytes = it.1;
          };
      rise = λ j k t u before at there.
          let e = entry_of some_visit j t at in
          let f = entry_of some_visit k u there in
          let less = ordered_more m visits a (j + 1) (k + 1) t.text u.text (omega (arith, before)) e.spells f.spells in
          let bytes = (text_stands m visits a (j + 1) t.text e.spells e.visit e.at).1 in
          let also = (text_stands m visits a (k + 1) u.text f.spells f.visit f.at).1 in
          before_by t.text u.text less (at_most_by_number t.text u.text bytes also (omega (arith, less)));
      all = soon_met;
    }

    pub searched : IsSearched visits
    searched = record { some = some_visit; earlier = earlier_of }
