-- States met one after another.
use Rattle.std.proofs.Common.{◌≡◌, ℕ, suc, ◌+◌, ◌*◌, ◌<◌, ◌≤◌, arith, Bool, true, false, List, [], ◌∷◌, ◌++◌, length, sym, ◌∙◌, ap, subst, refl, ⊎_elim, Option, Some, None, map, eqb, length-append, reverse, append_assoc, append-nil}
use Rattle.std.specs.Prelude.{slice_get, slice_index_or, slice_set}
use Rattle.std.specs.List.{IsDistinct, list_any, AllByRecursion}
use Rattle.std.proofs.lemmas.Bool.{cases_lt, cases_eq, false≢true, or_cases, eqb-true, ne_eqb}
use Rattle.std.proofs.lemmas.List.{length-map, length-set, get_or-set_same, get_or-set_other, reverse-append}
use Rattle.std.proofs.lemmas.Map.Steps.{length-le_from_distinct_below}
use Rattle.std.proofs.lemmas.Option.{slice_get_within}
use Rattle.cs_scanner.specs.Automaton.Machine.{Machine}
use Rattle.cs_scanner.specs.declared.lexeme.steps.Step.{Step}
use Rattle.cs_scanner.specs.declared.lexeme.search.Origin.{Origin}
use Rattle.cs_scanner.specs.declared.lexeme.search.Visit.{Visit}
use Rattle.cs_scanner.specs.Lexeme.Steps.{Goes, IsStep, IsRow}
use Rattle.cs_scanner.specs.Lexeme.Visits.{Spells, weight_of, weight, IsBehind, IsLinked, AreVisits, AreMarked, AreMet, IsMetBy, AreLight, IsClosed, IsFrom, Extends, IsMidRow, IsMidSearch, IsMidText}
use Rattle.cs_scanner.proofs.OnLexeme.Lists.{at_pushed, still_at, at_end, has_at, rises_pushed}
use Rattle.cs_scanner.proofs.OnLexeme.Ranking.{rank_within}

-- a step of the row that leads to a state that was met changes nothing
pub mid_skip : (m : Machine) (place : ℕ) (row : List Step) (old visits : List Visit) (met : List Bool) (i : ℕ) (step : Step) → slice_get row i ≡ Some step → slice_index_or met step.to false ≡ true → IsMidRow m place row old visits met i → IsMidRow m place row old visits met (i + 1)
mid_skip m place row old visits met i step at known mid = record {
  are_met = mid.are_met;
  extends = mid.extends;
  front = λ j k s v le here there. mid.front j k s v (omega arith) here there;
  light = mid.light;
  closed = λ j s less here. ⊎_elim
      (λ (under : j < i). mid.closed j s under here)
      (λ (over : i ≤ j).
      let same : j ≡ i = omega arith in
      let e : s ≡ step = cc in
      let it = mid.are_met.marked.only step.to known in
      let P : Step → Type 0 = λ t. IsMetBy visits t.to (weight_of place t.byte) in
      subst P (sym e) (record { place = it.place; visit = it.visit; at = it.at; is = it.is; soon = omega (arith, mid.front i it.place step it.visit (omega arith) at it.at) }))
      (cases_lt j i);
}

-- the visit by a step from the place
abbrev pub visit_by : ℕ → Step → Visit
visit_by place step = record { state = step.to; origin = Some (record { place = place; byte = step.byte }) }

behind_still : (m : Machine) (visits : List Visit) (new : Visit) (k state : ℕ) (origin : Option Origin) → IsLinked m visits k state origin → IsLinked m (visits ++ new ∷ []) k state origin
behind_still m visits new k state None l = l
behind_still m visits new k state (Some origin) l = record { earlier = l.earlier; byte = l.byte; visit = l.visit; at = still_at visits new l.visit origin.place l.at; goes = l.goes }

visits_pushed : (m : Machine) (place state : ℕ) (visits : List Visit) (met : List Bool) (v : Visit) (step : Step) → slice_get visits place ≡ Some v → v.state ≡ state → IsStep m state step → ((k : ℕ) (u : Visit) → slice_get visits k ≡ Some u → weight u < weight_of place step.byte) → slice_index_or met step.to false ≡ false → AreMet m visits met → AreVisits m (visits ++ visit_by place step ∷ [])
visits_pushed m place state visits met v step at is goes front unmet are =
    let new : Visit = visit_by place step in
    let a = are.visits_are in
    let G : ℕ → Type 0 = λ q. Goes m q step.byte (Some step.to) in
    let link : IsBehind m (visits ++ new ∷ []) (length visits) step.to (record { place = place; byte = step.byte }) = record { earlier = slice_get_within visits place v at; byte = goes.byte; visit = v; at = still_at visits new v place at; goes = subst G (sym is) goes.goes } in
    record {
      within = λ k u here. ⊎_elim
          (λ (o : slice_get visits k ≡ Some u). a.within k u o)
          (λ (n : (k ≡ length visits) × (u ≡ new)). let P : Visit → Type 0 = λ t. t.state < length m.sets in subst P (sym n.1) goes.within)
          (at_pushed visits new u k here);
      linked = λ k u here. ⊎_elim
          (λ (o : slice_get visits k ≡ Some u). behind_still m visits new k u.state u.origin (a.linked k u o))
          (λ (n : (k ≡ length visits) × (u ≡ new)).
          let P : Visit → Type 0 = λ t. IsLinked m (visits ++ new ∷ []) k t.state t.origin in
          let Q : ℕ → Type 0 = λ q. IsLinked m (visits ++ new ∷ []) q new.state new.origin in
          subst P (sym n.1) (subst Q (sym n.0) link))
          (at_pushed visits new u k here);
      rises = rises_pushed weight visits new a.rises front;
      distinct = λ j k u w here there same. ⊎_elim
          (λ (o : slice_get visits j ≡ Some u). ⊎_elim
          (λ (p : slice_get visits k ≡ Some w). a.distinct j k u w o p same)
          (λ (n : (k ≡ length visits) × (w ≡ new)).
          let e : u.state ≡ step.to = same ∙ ap (λ (t : Visit). t.state) n.1 in
          let P : ℕ → Type 0 = λ q. slice_index_or met q false ≡ true in
          absurd (false≢true (sym unmet ∙ subst P e (are.marked.told j u o))))
          (at_pushed visits new w k there))
          (λ (n : (j ≡ length visits) × (u ≡ new)). ⊎_elim
          (λ (p : slice_get visits k ≡ Some w).
          let e : w.state ≡ step.to = sym same ∙ ap (λ (t : Visit). t.state) n.1 in
          let P : ℕ → Type 0 = λ q. slice_index_or met q false ≡ true in
          absurd (false≢true (sym unmet ∙ subst P e (are.marked.told k w p))))
          (λ (q : (k ≡ length visits) × (w ≡ new)). n.0 ∙ sym q.0)
          (at_pushed visits new w k there))
          (at_pushed visits new u j here);
    }

marked_pushed : (count : ℕ) (visits : List Visit) (met : List Bool) (new : Visit) → new.state < count → AreMarked count visits met → AreMarked count (visits ++ new ∷ []) (slice_set met new.state true)
marked_pushed count visits met new fits a =
    let here_now : slice_index_or (slice_set met new.state true) new.state false ≡ true = get_or-set_same met new.state true false (omega (arith, a.all)) in
    record {
      all = length-set met new.state true ∙ a.all;
      told = λ k u here. ⊎_elim
          (λ (o : slice_get visits k ≡ Some u). ⊎_elim
          (λ (e : u.state ≡ new.state). let P : ℕ → Type 0 = λ q. slice_index_or (slice_set met new.state true) q false ≡ true in subst P (sym e) here_now)
          (λ (ne : u.state ≡ new.state → ⊥). get_or-set_other met new.state u.state true false ne ∙ a.told k u o)
          (cases_eq u.state new.state))
          (λ (n : (k ≡ length visits) × (u ≡ new)). let P : Visit → Type 0 = λ t. slice_index_or (slice_set met new.state true) t.state false ≡ true in subst P (sym n.1) here_now)
          (at_pushed visits new u k here);
      only = λ state known. ⊎_elim
          (λ (e : state ≡ new.state). record { place = length visits; visit = new; at = at_end visits new; is = sym e })
          (λ (ne : state ≡ new.state → ⊥).
          let it = a.only state (sym (get_or-set_other met new.state state true false ne) ∙ known) in
          record { place = it.place; visit = it.visit; at = still_at visits new it.visit it.place it.at; is = it.is })
          (cases_eq state new.state);
    }

met_by_still : (visits : List Visit) (new : Visit) (state most : ℕ) → IsMetBy visits state most → IsMetBy (visits ++ new ∷ []) state most
met_by_still visits new state most it = record { place = it.place; visit = it.visit; at = still_at visits new it.visit it.place it.at; is = it.is; soon = it.soon }

-- a step of the row that leads to a state that wasn't met
pub mid_push : (m : Machine) (place state : ℕ) (row : List Step) (old visits : List Visit) (met : List Bool) (i : ℕ) (v : Visit) (step : Step) → IsRow m state row → slice_get visits place ≡ Some v → v.state ≡ state → slice_get row i ≡ Some step → slice_index_or met step.to false ≡ false → IsMidRow m place row old visits met i → IsMidRow m place row old (visits ++ visit_by place step ∷ []) (slice_set met step.to true) (i + 1)
mid_push m place state row old visits met i v step is_row at is here unmet mid =
    let new : Visit = visit_by place step in
    let goes = is_row.steps i step here in
    let fits = rank_within step.byte goes.byte in
    record {
      are_met = record {
        visits_are = visits_pushed m place state visits met v step at is goes (λ k u there. mid.front i k step u (omega arith) here there) unmet mid.are_met;
        marked = marked_pushed (length m.sets) visits met new goes.within mid.are_met.marked;
      };
      extends = record {
        longer = omega (arith, mid.extends.longer, length-append visits (new ∷ []));
        stay = λ k u there. still_at visits new u k (mid.extends.stay k u there);
        later = λ k u le there. ⊎_elim
            (λ (o : slice_get visits k ≡ Some u). mid.extends.later k u le o)
            (λ (n : (k ≡ length visits) × (u ≡ new)). let P : Visit → Type 0 = λ t. IsFrom place t.origin in subst P (sym n.1) (omega arith))
            (at_pushed visits new u k there);
      };
      front = λ j k s u le there also. ⊎_elim
          (λ (o : slice_get visits k ≡ Some u). mid.front j k s u (omega arith) there o)
          (λ (n : (k ≡ length visits) × (u ≡ new)).
          let lower = is_row.rises i j step s (omega arith) here there in
          let P : Visit → Type 0 = λ t. weight t < weight_of place s.byte in
          subst P (sym n.1) (omega (arith, lower)))
          (at_pushed visits new u k also);
      light = λ k u there. ⊎_elim
          (λ (o : slice_get visits k ≡ Some u). mid.light k u o)
          (λ (n : (k ≡ length visits) × (u ≡ new)).
          let P : Visit → Type 0 = λ t. weight t ≤ 4096 * (place + 1) in
          subst P (sym n.1) (omega (arith, fits)))
          (at_pushed visits new u k there);
      closed = λ j s less there. ⊎_elim
          (λ (under : j < i). met_by_still visits new s.to (weight_of place s.byte) (mid.closed j s under there))
          (λ (over : i ≤ j).
          let same : j ≡ i = omega arith in
          let e : s ≡ step = cc in
          let P : Step → Type 0 = λ t. IsMetBy (visits ++ new ∷ []) t.to (weight_of place t.byte) in
          subst P (sym e) (record { place = length visits; visit = new; at = at_end visits new; is = refl; soon = omega arith }))
          (cases_lt j i);
    }

-- the whole row
pub mid_done : (m : Machine) (rows : List (List Step)) (place state : ℕ) (row : List Step) (old visits : List Visit) (met : List Bool) (i : ℕ) (v : Visit) → slice_get old place ≡ Some v → v.state ≡ state → slice_get rows state ≡ Some row → length row ≤ i → IsMidRow m place row old visits met i → IsClosed rows visits place
mid_done m rows place state row old visits met i v at is row_at whole mid u other here there j step within =
    let same : u ≡ v = cc (mid.extends.stay place v at) in
    let e : u.state ≡ state = ap (λ (t : Visit). t.state) same ∙ is in
    let P : ℕ → Type 0 = λ q. slice_get rows q ≡ Some other in
    let f : other ≡ row = cc (subst P e there) in
    let Q : List Step → Type 0 = λ t. slice_get t j ≡ Some step in
    let in_row : slice_get row j ≡ Some step = subst Q f within in
    mid.closed j step (omega (arith, slice_get_within row j step in_row)) in_row

-- ---- the search

-- an origin from a place on is one from any earlier place on
from_weaker : (early late : ℕ) (origin : Option Origin) → early ≤ late → IsFrom late origin → IsFrom early origin
from_weaker early late None le f = f
from_weaker early late (Some origin) le f = omega arith

extends_on : (early late : ℕ) (old mid new : List Visit) → early ≤ late → Extends early old mid → Extends late mid new → Extends early old new
extends_on early late old mid new le one two = record {
  longer = omega (arith, one.longer, two.longer);
  stay = λ k u at. two.stay k u (one.stay k u at);
  later = λ k u past at. ⊎_elim
      (λ (under : k < length mid).
      let it = has_at mid k under in
      let same : u ≡ it.0 = cc (two.stay k it.0 it.1) in
      let P : Visit → Type 0 = λ t. IsFrom early t.origin in
      subst P (sym same) (one.later k it.0 past it.1))
      (λ (over : length mid ≤ k). from_weaker early late u.origin le (two.later k u over at))
      (cases_lt k (length mid));
}

closed_still : (rows : List (List Step)) (place p : ℕ) (visits new : List Visit) → p < length visits → Extends place visits new → IsClosed rows visits p → IsClosed rows new p
closed_still rows place p visits new under ext closed u row here there j step within =
    let it = has_at visits p under in
    let same : u ≡ it.0 = cc (ext.stay p it.0 it.1) in
    let P : Visit → Type 0 = λ t. slice_get rows t.state ≡ Some row in
    let by = closed it.0 row it.1 (subst P same there) j step within in
    record { place = by.place; visit = by.visit; at = ext.stay by.place by.visit by.at; is = by.is; soon = by.soon }

pub search_next : (m : Machine) (rows : List (List Step)) (from place : ℕ) (old visits new : List Visit) (met now : List Bool) → place < length visits → AreMet m new now → AreLight (4096 * (place + 1)) new → Extends place visits new → IsClosed rows new place → IsMidSearch m rows from old visits met place → IsMidSearch m rows from old new now (place + 1)
search_next m rows from place old visits new met now under are light ext closed mid = record {
  are_met = are;
  extends = extends_on from place old visits new mid.behind mid.extends ext;
  light = light;
  behind = omega (arith, mid.behind);
  within = omega (arith, ext.longer);
  closed = λ p le less. ⊎_elim
      (λ (before : p < place). closed_still rows place p visits new (omega arith) ext (mid.closed p le before))
      (λ (over : place ≤ p).
      let same : p ≡ place = omega arith in
      let P : ℕ → Type 0 = λ q. IsClosed rows new q in
      subst P (sym same) closed)
      (cases_lt p place);
}

-- ---- how many states were met

all_other : (x : ℕ) (vs : List Visit) → ((k : ℕ) (v : Visit) → slice_get vs k ≡ Some v → x ≡ v.state → ⊥) → AllByRecursion (λ y. eqb x y ≡ false) (map (λ (v : Visit). v.state) vs)
all_other x [] h = tt
all_other x (v ∷ vs) h = (ne_eqb x v.state (λ e. h 0 v refl e), all_other x vs (λ k w at e. h (suc k) w at e))

distinct_states : (vs : List Visit) → ((j k : ℕ) (v w : Visit) → slice_get vs j ≡ Some v → slice_get vs k ≡ Some w → v.state ≡ w.state → j ≡ k) → IsDistinct eqb (map (λ (v : Visit). v.state) vs)
unfolding IsDistinct
distinct_states [] h = tt
distinct_states (v ∷ vs) h = (all_other v.state vs (λ k w at e. let same = h 0 (suc k) v w refl at e in omega (arith, same)), distinct_states vs (λ j k u w d e f. let same = h (suc j) (suc k) u w d e f in omega (arith, same)))

states_below : (vs : List Visit) (n : ℕ) → ((k : ℕ) (v : Visit) → slice_get vs k ≡ Some v → v.state < n) → (q : ℕ) → list_any (eqb q) (map (λ (v : Visit). v.state) vs) ≡ true → q < n
states_below [] n h q e = absurd (false≢true e)
states_below (v ∷ vs) n h q e = ⊎_elim
    (λ (s : eqb q v.state ≡ true). let same = eqb-true q v.state s in let lt = h 0 v refl in omega (arith, same, lt))
    (λ (t : list_any (eqb q) (map (λ (w : Visit). w.state) vs) ≡ true). states_below vs n (λ k w at. h (suc k) w at) q t)
    (or_cases (eqb q v.state) (list_any (eqb q) (map (λ (w : Visit). w.state) vs)) e)

-- no more than there are
pub few_visits : (m : Machine) (visits : List Visit) → AreVisits m visits → length visits ≤ length m.sets
few_visits m visits a =
    let most = length-le_from_distinct_below (map (λ (v : Visit). v.state) visits) (length m.sets) (distinct_states visits a.distinct) (states_below visits (length m.sets) a.within) in
    omega (arith, most, length-map visits (λ (v : Visit). v.state))

-- ---- texts

pub mid_text : (visits : List Visit) (place : ℕ) → place < length visits → IsMidText visits place place []
mid_text visits place less = record { within = less; spells = λ front s. let P : List ℕ → Type 0 = λ t. Spells visits place t in subst P (sym (append-nil front)) s }

pub text_next : (visits : List Visit) (place at : ℕ) (bytes : List ℕ) (v : Visit) (o : Origin) → slice_get visits at ≡ Some v → v.origin ≡ Some o → o.place < at → IsMidText visits place at bytes → IsMidText visits place o.place (bytes ++ o.byte ∷ [])
text_next visits place at bytes v o here is less mid = record {
  within = omega (arith, mid.within);
  spells = λ front s.
      let P : List ℕ → Type 0 = λ t. Spells visits place t in
      let e : front ++ reverse (bytes ++ o.byte ∷ []) ≡ (front ++ o.byte ∷ []) ++ reverse bytes = ap (λ t. front ++ t) (reverse-append bytes (o.byte ∷ [])) ∙ sym (append_assoc front (o.byte ∷ []) (reverse bytes)) in
      subst P (sym e) (mid.spells (front ++ o.byte ∷ []) (Spells.goes_on at v o front (front ++ o.byte ∷ []) here is s refl));
}

pub text_done : (visits : List Visit) (place at : ℕ) (bytes : List ℕ) (v : Visit) → slice_get visits at ≡ Some v → v.origin ≡ None → IsMidText visits place at bytes → Spells visits place (reverse bytes)
text_done visits place at bytes v here is mid = mid.spells [] (Spells.begins at v [] here is refl)
