-- Each state is met by its least text.
use Rattle.std.proofs.Common.{◌≡◌, ℕ, zero, suc, ◌+◌, ◌<◌, ◌≤◌, arith, List, [], ◌∷◌, ◌++◌, length, sym, ◌∙◌, ap, subst, refl, ⊎_elim, Option, Some, None, append_assoc, append-nil}
use Rattle.std.specs.Prelude.{slice_get}
use Rattle.std.proofs.lemmas.Bool.{cases_lt}
use Rattle.std.proofs.lemmas.List.Elements.{All-push}
use Rattle.std.proofs.lemmas.Option.{slice_get_within}
use Rattle.cs_pattern_parts.specs.Items.StandsFor.{AreBytes}
use Rattle.cs_scanner.specs.Automaton.Machine.{Machine, StateOf, IsBegun, MatchesRule, patterns_of}
use Rattle.cs_scanner.specs.declared.lexeme.steps.Step.{Step}
use Rattle.cs_scanner.specs.declared.lexeme.search.Origin.{Origin}
use Rattle.cs_scanner.specs.declared.lexeme.search.Visit.{Visit}
use Rattle.cs_scanner.specs.Lexeme.Number.{number, with_byte}
use Rattle.cs_scanner.specs.Lexeme.Steps.{Goes, AreRows, HasStep}
use Rattle.cs_scanner.specs.Lexeme.Visits.{Spells, weight_of, weight, origin_weight, IsLinked, AreVisits, AreAllMet}
use Rattle.cs_scanner.proofs.OnLexeme.Lists.{has_at}
use Rattle.cs_scanner.proofs.OnLexeme.Ranking.{rank_within}
use Rattle.cs_scanner.proofs.OnLexeme.Numbers.{number_pushed, head_byte, tail_bytes}

-- a place has at most one text
pub spells_one : (visits : List Visit) (k : ℕ) (x y : List ℕ) → Spells visits k x → Spells visits k y → x ≡ y
spells_one visits k x y (Spells.begins _ v _ at none e) (Spells.begins _ w _ also nothing f) = e ∙ sym f
spells_one visits k x y (Spells.begins _ v _ at none e) (Spells.goes_on _ w o front _ also some s f) =
    let same : v ≡ w = cc in
    absurd (cc (ap (λ (t : Visit). t.origin) same))
spells_one visits k x y (Spells.goes_on _ v o front _ at some s e) (Spells.begins _ w _ also nothing f) =
    let same : v ≡ w = cc in
    absurd (cc (ap (λ (t : Visit). t.origin) same))
spells_one visits k x y (Spells.goes_on _ v o front _ at some s e) (Spells.goes_on _ w p fore _ also same t f) =
    let one : v ≡ w = cc in
    let origins : o ≡ p = cc (ap (λ (u : Visit). u.origin) one) in
    let P : Origin → Type 0 = λ q. Spells visits q.place fore in
    let fronts : front ≡ fore = spells_one visits o.place front fore s (subst P (sym origins) t) in
    cc

module _ (m : Machine) (visits : List Visit) (a : AreVisits m visits) where
  pub linked_by : (k : ℕ) (v : Visit) (origin : Option Origin) → slice_get visits k ≡ Some v → v.origin ≡ origin → IsLinked m visits k v.state origin
  linked_by k v origin at e = let P : Option Origin → Type 0 = λ o. IsLinked m visits k v.state o in subst P e (a.linked k v at)

  -- a place has a text
  text_behind : (k : ℕ) → ((p : ℕ) → p < k → (x : List ℕ) × Spells visits p x) → (v : Visit) (origin : Option Origin) → slice_get visits k ≡ Some v → v.origin ≡ origin → (x : List ℕ) × Spells visits k x
  text_behind k below v None at e = ([], Spells.begins k v [] at e refl)
  text_behind k below v (Some o) at e =
      let front = below o.place (linked_by k v (Some o) at e).earlier in
      (front.0 ++ o.byte ∷ [], Spells.goes_on k v o front.0 (front.0 ++ o.byte ∷ []) at e front.1 refl)

  some_text_below : (n k : ℕ) → k < n → k < length visits → (x : List ℕ) × Spells visits k x
  some_text_below zero k less within = absurd (omega arith)
  some_text_below (suc n) k less within =
      let it = has_at visits k within in
      text_behind k (λ p under. some_text_below n p (omega arith) (omega arith)) it.0 it.0.origin it.1 refl

  pub some_text : (k : ℕ) → k < length visits → (x : List ℕ) × Spells visits k x
  some_text k within = some_text_below (suc k) k (omega arith) within

  -- and only one
  pub one_text : (k : ℕ) (x y : List ℕ) → Spells visits k x → Spells visits k y → x ≡ y
  one_text k x y s t = spells_one visits k x y s t

  -- the state stands for its text, which is bytes
  pub text_stands : (k : ℕ) (x : List ℕ) → Spells visits k x → (v : Visit) → slice_get visits k ≡ Some v → StateOf m v.state x × AreBytes x
  text_stands k x (Spells.begins _ w _ at none e) v here =
      let same : w ≡ v = cc in
      let l = linked_by k v None here (cc (ap (λ (u : Visit). u.origin) same)) in
      let P : List ℕ → Type 0 = λ t. StateOf m v.state t × AreBytes t in
      subst P (sym e) (l.1, λ i d less. absurd (omega arith))
  text_stands k x (Spells.goes_on _ w o front _ at some s e) v here =
      let same : w ≡ v = cc in
      let l = linked_by k v (Some o) here (cc (ap (λ (u : Visit). u.origin) same)) in
      let before = text_stands o.place front s l.visit l.at in
      let next = l.goes front before.0 in
      let P : List ℕ → Type 0 = λ t. StateOf m v.state t × AreBytes t in
      subst P (sym e) (next.1, All-push (λ b. b < 256) front o.byte before.1 l.byte)

  abbrev Ordered : ℕ → Type 0
  Ordered n = (j k : ℕ) (x y : List ℕ) → j < k → k < n → Spells visits j x → Spells visits k y → number x < number y

  -- of a state that was met with at most a weight, or less, the text is not above, or below
  soon_below : (n d place byte : ℕ) (z : List ℕ) → d ≤ 1 → Ordered n → place < n → byte < 256 → Spells visits place z → (j : ℕ) (w : Visit) (x : List ℕ) → slice_get visits j ≡ Some w → weight w + d ≤ weight_of place byte → Spells visits j x → number x + d ≤ with_byte (number z) byte
  soon_below n d place byte z slack ordered less fits s j w x at le (Spells.begins _ u _ here none e) = omega (arith, ap number e)
  soon_below n d place byte z slack ordered less fits s j w x at le (Spells.goes_on _ u o front _ here some t e) =
      let same : u ≡ w = cc in
      let is : w.origin ≡ Some o = cc (ap (λ (q : Visit). q.origin) same) in
      let l = linked_by j w (Some o) at is in
      let P : Option Origin → Type 0 = λ q. origin_weight q + d ≤ weight_of place byte in
      let most : weight_of o.place o.byte + d ≤ weight_of place byte = subst P is le in
      let low = rank_within o.byte l.byte in
      let high = rank_within byte fits in
      let it : number x ≡ with_byte (number front) o.byte = ap number e ∙ number_pushed front o.byte in
      ⊎_elim
      (λ (before : o.place < place). let lower = ordered o.place place front z before less t s in omega (arith, lower, it))
      (λ (not : place ≤ o.place).
      let here_too : o.place ≡ place = omega (arith, most, low, high) in
      let Q : ℕ → Type 0 = λ q. Spells visits q front in
      let fronts : front ≡ z = one_text place front z (subst Q here_too t) s in
      omega (arith, it, ap number fronts, most))
      (cases_lt o.place place)

  ordered_below : (n : ℕ) → Ordered n
  ordered_below zero j k x y less within s t = absurd (omega arith)
  ordered_below (suc n) j k x y less within s (Spells.begins _ v _ at none e) = let l = linked_by k v None at none in absurd (omega (arith, l.0))
  ordered_below (suc n) j k x y less within s (Spells.goes_on _ v o front _ at some t e) =
      let l = linked_by k v (Some o) at some in
      let it : number y ≡ with_byte (number front) o.byte = ap number e ∙ number_pushed front o.byte in
      let u = has_at visits j (omega (arith, less, slice_get_within visits k v at)) in
      let rises = a.rises j k u.0 v less u.1 at in
      let P : Option Origin → Type 0 = λ q. weight u.0 < origin_weight q in
      let lighter : weight u.0 < weight_of o.place o.byte = subst P some rises in
      let low = soon_below n 1 o.place o.byte front (omega arith) (ordered_below n) (omega (arith, l.earlier)) l.byte t j u.0 x u.1 (omega (arith, lighter)) s in
      omega (arith, low, it)

  pub ordered_more : (j k : ℕ) (x y : List ℕ) → j < k → Spells visits j x → Spells visits k y → number x < number y
  ordered_more j k x y less s t = ordered_below (suc k) j k x y less (omega arith) s t

  -- the texts come in the order of their places
  pub ordered : (j k : ℕ) (x y : List ℕ) → j ≤ k → Spells visits j x → Spells visits k y → number x ≤ number y
  ordered j k x y le s t = ⊎_elim
      (λ (less : j < k). let it = ordered_below (suc k) j k x y less (omega arith) s t in omega arith)
      (λ (not : k ≤ j).
      let same : j ≡ k = omega arith in
      let P : ℕ → Type 0 = λ q. Spells visits q x in
      omega (arith, ap number (one_text k x y (subst P same s) t)))
      (cases_lt j k)

  pub soon : (place byte : ℕ) (z : List ℕ) → byte < 256 → Spells visits place z → (j : ℕ) (w : Visit) (x : List ℕ) → slice_get visits j ≡ Some w → weight w ≤ weight_of place byte → Spells visits j x → number x ≤ with_byte (number z) byte
  soon place byte z fits s j w x at le t = omega (arith, soon_below (suc place) 0 place byte z (omega arith) (ordered_below (suc place)) (omega arith) fits s j w x at (omega arith) t)

  -- the start stands for no other text
  start_alone : (state byte : ℕ) (z : List ℕ) → StateOf m state [] → StateOf m state (z ++ byte ∷ []) → ⊥
  start_alone zero byte [] s t = absurd (cc)
  start_alone zero byte (b ∷ z) s t = absurd (cc)
  start_alone (suc k) byte z s t = s.2 refl

  first_is_start : (v : Visit) (origin : Option Origin) → slice_get visits 0 ≡ Some v → v.origin ≡ origin → StateOf m v.state []
  first_is_start v None at e = (linked_by 0 v None at e).1
  first_is_start v (Some o) at e = absurd (omega (arith, (linked_by 0 v (Some o) at e).earlier))

  pub not_first : (k byte : ℕ) (z : List ℕ) (v : Visit) → slice_get visits k ≡ Some v → StateOf m v.state (z ++ byte ∷ []) → 0 < k
  not_first zero byte z v at s = absurd (start_alone v.state byte z (first_is_start v v.origin at refl) s)
  not_first (suc k) byte z v at s = omega arith

  -- a state that a text leads to was met by a text that isn't above it
  pub record IsReachedBy (from : ℕ) (text : List ℕ) : Type 0 where
    pub place : ℕ
    pub visit : Visit
    pub at : slice_get visits place ≡ Some visit
    pub behind : from ≤ place
    pub stands : StateOf m visit.state text
    pub least : List ℕ
    pub spells : Spells visits place least
    pub low : number least ≤ number text

  module _ (rows : List (List Step)) (r : AreRows m rows) (from : ℕ) (old : List Visit) (all : AreAllMet m rows from old visits) (few : from ≤ 1) where
    one_step : (z : List ℕ) (byte : ℕ) → byte < 256 → IsBegun (patterns_of m) (z ++ byte ∷ []) → IsReachedBy from z → IsReachedBy from (z ++ byte ∷ [])
    one_step z byte fits begun it =
        let within = slice_get_within visits it.place it.visit it.at in
        let row = has_at rows it.visit.state (omega (arith, r.all, a.within it.place it.visit it.at)) in
        let is_row = r.each it.visit.state row.0 row.1 in
        ⊎_elim
        (λ (none : Goes m it.visit.state byte None). absurd (none z it.stands begun))
        (λ (some : (to : ℕ) × Goes m it.visit.state byte (Some to) × HasStep row.0 byte to).
        let has = some.2 in
        let step = is_row.steps has.place has.step has.at in
        let by = all.closed it.place it.behind within it.visit row.0 it.at row.1 has.place has.step has.at in
        let text = some_text by.place (slice_get_within visits by.place by.visit by.at) in
        let S : ℕ → Type 0 = λ q. StateOf m q (z ++ byte ∷ []) in
        let stands = subst S (sym (by.is ∙ has.leads)) (some.1 z it.stands).1 in
        let low = soon it.place has.step.byte it.least step.byte it.spells by.place by.visit text.0 by.at by.soon text.1 in
        let later = not_first by.place byte z by.visit by.at stands in
        record { place = by.place; visit = by.visit; at = by.at; behind = omega arith; stands = stands; least = text.0; spells = text.1; low = omega (arith, low, it.low, has.low, number_pushed z byte) })
        (is_row.covered byte fits)

    begun_front : (x y : List ℕ) → IsBegun (patterns_of m) (x ++ y) → IsBegun (patterns_of m) x
    begun_front x y b =
        let P : List ℕ → Type 0 = λ t. MatchesRule (patterns_of m) b.0 t in
        (b.0, y ++ b.1, subst P (append_assoc x y b.1) b.2)

    pub reached_on : (z y : List ℕ) → AreBytes y → IsBegun (patterns_of m) (z ++ y) → IsReachedBy from z → IsReachedBy from (z ++ y)
    reached_on z [] bytes begun it = let P : List ℕ → Type 0 = λ t. IsReachedBy from t in subst P (sym (append-nil z)) it
    reached_on z (b ∷ y) bytes begun it =
        let e : (z ++ b ∷ []) ++ y ≡ z ++ b ∷ y = append_assoc z (b ∷ []) y in
        let P : List ℕ → Type 0 = λ t. IsReachedBy from t in
        let Q : List ℕ → Type 0 = λ t. IsBegun (patterns_of m) t in
        let longer = subst Q (sym e) begun in
        subst P e (reached_on (z ++ b ∷ []) y (tail_bytes b y bytes) longer (one_step z b (head_byte b y bytes) (begun_front (z ++ b ∷ []) y longer) it))
