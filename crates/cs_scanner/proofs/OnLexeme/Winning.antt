-- The least text of each token.
use Rattle.std.proofs.Common.{◌≡◌, ◌≢◌, ℕ, zero, suc, ◌+◌, ◌-◌, ◌<◌, ◌≤◌, ◌⊎◌, arith, List, [], ◌∷◌, ◌++◌, length, sym, ◌∙◌, ap, subst, inl, inr, refl, ⊎_elim, Option, Some, None, take, append-nil, length-append, Vec, Global}
use Rattle.std.specs.Prelude.{slice_get, slice_index, slice_index_or, slice_set}
use Rattle.std.proofs.lemmas.Bool.{cases_lt, cases_eq}
use Rattle.std.proofs.lemmas.Bool.Decides.{nat_tests}
use Rattle.std.proofs.lemmas.List.{take_all, get_or-set_same, get_or-set_other, length-set, get_or_append_left, get_or_push, get_or_past}
use Rattle.std.proofs.lemmas.Option.{slice_get_within}
use Rattle.cs_pattern_parts.specs.Items.StandsFor.{AreBytes}
use Rattle.cs_pattern_parts.specs.declared.kind.Kind.{Kind}
use Rattle.cs_pattern_parts.specs.declared.kind.Kind.TheVariants.{Token, OwnByte, Skip, Foreign}
use Rattle.cs_scanner.specs.Automaton.Machine.{Machine, StateOf, IsBegun, MatchesRule, patterns_of}
use Rattle.cs_scanner.specs.Scan.Scan.{Scanning, literal_token, given, IsMatch}
use Rattle.cs_scanner.specs.declared.lexeme.steps.Step.{Step}
use Rattle.cs_scanner.specs.declared.lexeme.search.Origin.{Origin}
use Rattle.cs_scanner.specs.declared.lexeme.search.Visit.{Visit}
use Rattle.cs_scanner.specs.Lexeme.Order.{IsAtMost, IsBefore}
use Rattle.cs_scanner.specs.Lexeme.Lexeme.{IsOneMatch, IsLexemeOf, AreLexemes, lexeme_in}
use Rattle.cs_scanner.specs.Lexeme.Texts.{text_of, texts_of}
use Rattle.cs_scanner.specs.Lexeme.Steps.{Goes, AreRows}
use Rattle.cs_scanner.specs.Lexeme.Visits.{Spells, weight, AreVisits, AreAllMet, AreLight, IsFrom, IsBehind, IsLinked}
use Rattle.cs_scanner.specs.Lexeme.Kinds.{IsReached, IsWonBy, IsKindOf, IsNamed, IsOwn, IsOwnBelow, IsGiven, IsLeast, AreLeast, IsWonAt, IsLostAt, IsFoundText, IsFound, AreFound, AreNamed, AreEmpty, first_visit, second_visit, KeepsLeast, KeepsText, IsOpen}
use Rattle.cs_scanner.proofs.OnLexeme.Lists.{has_at}
use Rattle.cs_scanner.proofs.OnLexeme.Ranking.{rank_within}
use Rattle.cs_scanner.proofs.OnLexeme.Numbers.{at_most_by_number, order_is_total, number_by_at_most, head_byte, tail_bytes}
use Rattle.cs_scanner.proofs.OnLexeme.Reaching.{some_text, text_stands, one_text, ordered, reached_on, not_first, IsReachedBy, linked_by}

-- ---- kinds

-- a text is won by one kind alone
pub one_kind : (s : Scanning) (x : List ℕ) (k l : Kind) → IsWonBy s x k → IsWonBy s x l → k ≡ l
one_kind s x k l a b =
    let e : a.rule ≡ b.rule = omega (arith, a.lowest b.rule b.matches, b.lowest a.rule a.matches) in
    let P : ℕ → Type 0 = λ q. slice_get s.kinds (q - 1) ≡ Some k in
    cc (subst P e a.at)

module _ (s : Scanning) (m : Machine) (visits : List Visit) where
  pub reached : AreVisits m visits → (k : ℕ) (v : Visit) → slice_get visits k ≡ Some v → IsReached m v.state
  reached a k v at =
      let t = some_text m visits a k (slice_get_within visits k v at) in
      (t.0, (text_stands m visits a k t.0 t.1 v at).0)

  pub won_at : (place : ℕ) (v : Visit) (kind : Kind) → slice_get visits place ≡ Some v → ((x : List ℕ) → StateOf m v.state x → IsKindOf s x (Some kind)) → IsWonAt s m visits place kind
  won_at place v kind at won u x here stands =
      let same : u ≡ v = cc in
      let P : Visit → Type 0 = λ t. StateOf m t.state x in
      won x (subst P same stands)

  pub lost_at : (place : ℕ) (v : Visit) (found : Option Kind) (kind : Kind) → slice_get visits place ≡ Some v → ((x : List ℕ) → StateOf m v.state x → IsKindOf s x found) → (found ≡ Some kind → ⊥) → IsLostAt s m visits place kind
  lost_at place v None kind at of other u x here stands won =
      let same : u ≡ v = cc in
      let P : Visit → Type 0 = λ t. StateOf m t.state x in
      of x (subst P same stands) won.rule won.matches
  lost_at place v (Some found) kind at of other u x here stands won =
      let same : u ≡ v = cc in
      let P : Visit → Type 0 = λ t. StateOf m t.state x in
      other (ap Some (one_kind s x found kind (of x (subst P same stands)) won))

  -- one more place where no text is won by the kind
  pub lost_more : (place : ℕ) (kind : Kind) → ((j : ℕ) → 0 < j → j < place → IsLostAt s m visits j kind) → IsLostAt s m visits place kind → (j : ℕ) → 0 < j → j < place + 1 → IsLostAt s m visits j kind
  lost_more place kind before here j some less = ⊎_elim
      (λ (under : j < place). before j some under)
      (λ (over : place ≤ j).
      let e : j ≡ place = omega arith in
      let P : ℕ → Type 0 = λ q. IsLostAt s m visits q kind in
      subst P (sym e) here)
      (cases_lt j place)

  -- what was found stays, and what wasn't is lost at the place
  pub found_kept : (place : ℕ) (kind : Kind) (entry : Option (List ℕ)) → IsFound s m visits place kind entry → (entry ≡ None → IsLostAt s m visits place kind) → IsFound s m visits (place + 1) kind entry
  found_kept place kind None found lost = lost_more place kind found (lost refl)
  found_kept place kind (Some text) found lost = record { place = found.place; below = omega (arith, found.below); first = found.first; spells = found.spells }

  pub found_now : (place : ℕ) (kind : Kind) (entry : Option (List ℕ)) (text : List ℕ) → 0 < place → entry ≡ None → IsFound s m visits place kind entry → IsWonAt s m visits place kind → Spells visits place text → IsFound s m visits (place + 1) kind (Some text)
  found_now place kind None text some none found won spells = record { place = place; below = omega arith; first = record { behind = some; won = won; lost = found }; spells = spells }
  found_now place kind (Some other) text some none found won spells = absurd (cc)

  -- a found text comes before no other text that leads to a later place
  found_low : (limit from : ℕ) (kind : Kind) (text other : List ℕ) (a : AreVisits m visits) → IsFoundText s m visits limit kind text → AreBytes other → IsWonBy s other kind → (it : IsReachedBy m visits a from other) → 0 < it.place → IsAtMost text other
  found_low limit from kind text other a found bytes won it some =
      ⊎_elim
      (λ (before : it.place < found.place). absurd (found.first.lost it.place some before it.visit other it.at it.stands won))
      (λ (later : found.place ≤ it.place).
      let low = ordered m visits a found.place it.place text it.least later found.spells it.spells in
      let v = has_at visits found.place (omega (arith, later, slice_get_within visits it.place it.visit it.at)) in
      let mine = (text_stands m visits a found.place text found.spells v.0 v.1).1 in
      at_most_by_number text other mine bytes (omega (arith, low, it.low)))
      (cases_lt it.place found.place)

  -- a found text is won by the kind, and isn't empty
  found_won : (limit : ℕ) (kind : Kind) (text : List ℕ) (a : AreVisits m visits) → limit ≤ length visits → IsFoundText s m visits limit kind text → IsWonBy s text kind × AreBytes text
  found_won limit kind text a within found =
      let v = has_at visits found.place (omega (arith, found.below)) in
      let it = text_stands m visits a found.place text found.spells v.0 v.1 in
      (found.first.won v.0 text v.1 it.0, it.1)

  behind_some : (place : ℕ) (text : List ℕ) (a : AreVisits m visits) → 0 < place → Spells visits place text → text ≢ []
  behind_some place text a some (Spells.begins _ v _ at none e) nothing = omega (arith, (linked_by m visits a place v None at none).0)
  behind_some place text a some (Spells.goes_on _ v o front _ at is t e) nothing = pushed front (sym e ∙ nothing)
    where
      pushed : (front : List ℕ) → front ++ o.byte ∷ [] ≡ [] → ⊥
      pushed [] f = absurd (cc)
      pushed (b ∷ front) f = absurd (cc)

-- ---- a text that is won begins some rule

begun : (s : Scanning) (x : List ℕ) (k : Kind) → IsWonBy s x k → IsBegun s.patterns x
begun s x k won = let P : List ℕ → Type 0 = λ t. MatchesRule s.patterns won.rule t in (won.rule, [], subst P (sym (append-nil x)) won.matches)

-- the last byte of a list that isn't empty
last_of : (x : List ℕ) → x ≢ [] → (front : List ℕ) × (b : ℕ) × (x ≡ front ++ b ∷ [])
last_of [] some = absurd (some refl)
last_of (b ∷ []) some = ([], b, refl)
last_of (b ∷ c ∷ x) some = let it = last_of (c ∷ x) (λ e. absurd (cc)) in (b ∷ it.0, it.1, ap (λ t. b ∷ t) it.2)

-- ---- all that start with any byte

module _ (kinds : List Kind) (literals : List ℕ) (m : Machine) where
  abbrev scan_by : Scanning
  scan_by = record { patterns = patterns_of m; kinds = kinds; literals = literals }

  module _ (rows : List (List Step)) (r : AreRows m rows) (start : ℕ) (visits : List Visit) (all : AreAllMet m rows 0 (first_visit start ∷ []) visits) (stands : StateOf m start []) where
    root : IsReachedBy m visits all.visits_are 0 []
    root = let at = all.extends.stay 0 (first_visit start) refl in record { place = 0; visit = first_visit start; at = at; behind = omega arith; stands = stands; least = []; spells = Spells.begins 0 (first_visit start) [] at refl refl; low = omega arith }

    reached_named : (x : List ℕ) (k : Kind) → AreBytes x → IsWonBy scan_by x k → IsReachedBy m visits all.visits_are 0 x
    reached_named x k bytes won = reached_on m visits all.visits_are rows r 0 (first_visit start ∷ []) all (omega arith) [] x bytes (begun scan_by x k won) root

    some_place : (x : List ℕ) → x ≢ [] → (it : IsReachedBy m visits all.visits_are 0 x) → 0 < it.place
    some_place x some it =
        let last = last_of x some in
        let P : List ℕ → Type 0 = λ t. StateOf m it.visit.state t in
        not_first m visits all.visits_are it.place last.1 last.0 it.visit it.at (subst P last.2 it.stands)

    pub least_named : (token : ℕ) (entry : Option (List ℕ)) → IsFound scan_by m visits (length visits) (Token token) entry → IsLeast (IsNamed scan_by token) entry
    least_named token None found = λ x bytes named.
        let it = reached_named x (Token token) bytes named.1 in
        found it.place (some_place x named.0 it) (slice_get_within visits it.place it.visit it.at) it.visit x it.at it.stands named.1
    least_named token (Some text) found =
        let mine = found_won scan_by m visits (length visits) (Token token) text all.visits_are (omega arith) found in (
          mine.1,
          (behind_some scan_by m visits found.place text all.visits_are found.first.behind found.spells, mine.0),
          λ x bytes named.
              let it = reached_named x (Token token) bytes named.1 in
              found_low scan_by m visits (length visits) 0 (Token token) text x all.visits_are found bytes named.1 it (some_place x named.0 it),
        )

  -- ---- all that start with one byte

  module _ (rows : List (List Step)) (r : AreRows m rows) (start byte to : ℕ) (visits : List Visit) (all : AreAllMet m rows 1 (first_visit start ∷ second_visit byte to ∷ []) visits) (fits : byte < 256) (goes : StateOf m to (byte ∷ [])) where
    root_own : IsReachedBy m visits all.visits_are 1 (byte ∷ [])
    root_own =
        let at = all.extends.stay 1 (second_visit byte to) refl in
        let first = all.extends.stay 0 (first_visit start) refl in
        let spells : Spells visits 1 (byte ∷ []) = Spells.goes_on 1 (second_visit byte to) (record { place = 0; byte = byte }) [] (byte ∷ []) at refl (Spells.begins 0 (first_visit start) [] first refl refl) refl in
        record { place = 1; visit = second_visit byte to; at = at; behind = omega arith; stands = goes; least = byte ∷ []; spells = spells; low = omega arith }

    reached_own : (rest : List ℕ) (k : Kind) → AreBytes rest → IsWonBy scan_by (byte ∷ rest) k → IsReachedBy m visits all.visits_are 1 (byte ∷ rest)
    reached_own rest k bytes won = reached_on m visits all.visits_are rows r 1 (first_visit start ∷ second_visit byte to ∷ []) all (omega arith) (byte ∷ []) rest bytes (begun scan_by (byte ∷ rest) k won) root_own

    -- the texts behind the start begin with the byte
    begins_so : (k : ℕ) (x : List ℕ) → 0 < k → Spells visits k x → (rest : List ℕ) × (x ≡ byte ∷ rest)
    begins_so k x some (Spells.begins _ v _ at none e) = absurd (omega (arith, (linked_by m visits all.visits_are k v None at none).0))
    begins_so k x some (Spells.goes_on _ v o front _ at is t e) = ⊎_elim
        (λ (one : k < 2).
        let k_is : k ≡ 1 = omega arith in
        let P : ℕ → Type 0 = λ q. slice_get visits q ≡ Some v in
        let same : v ≡ second_visit byte to = cc (subst P k_is at, all.extends.stay 1 (second_visit byte to) refl) in
        let origin : o ≡ record { place = 0; byte = byte } = cc (ap (λ (u : Visit). u.origin) same) in
        let first = all.extends.stay 0 (first_visit start) refl in
        let Q : Origin → Type 0 = λ q. Spells visits q.place front in
        let empty : front ≡ [] = one_text m visits all.visits_are 0 front [] (subst Q origin t) (Spells.begins 0 (first_visit start) [] first refl refl) in
        let b : o.byte ≡ byte = ap (λ (q : Origin). q.byte) origin in
        ([], e ∙ ap (λ f. f ++ o.byte ∷ []) empty ∙ ap (λ c. c ∷ []) b))
        (λ (more : 2 ≤ k).
        let P : Option Origin → Type 0 = λ q. IsFrom 1 q in
        let from : 1 ≤ o.place = subst P is (all.extends.later k v more at) in
        let it = begins_so o.place front (omega arith) t in
        (it.0 ++ o.byte ∷ [], e ∙ ap (λ f. f ++ o.byte ∷ []) it.1))
        (cases_lt k 2)

    pub least_own : (entry : Option (List ℕ)) → IsFound scan_by m visits (length visits) OwnByte entry → IsLeast (IsOwn scan_by byte) entry
    least_own None found = λ x bytes own.
        let P : List ℕ → Type 0 = λ t. AreBytes t in
        let Q : List ℕ → Type 0 = λ t. IsWonBy scan_by t OwnByte in
        let it = reached_own own.0 OwnByte (tail_bytes byte own.0 (subst P own.1 bytes)) (subst Q own.1 own.2) in
        let S : List ℕ → Type 0 = λ t. StateOf m it.visit.state t in
        found it.place (omega (arith, it.behind)) (slice_get_within visits it.place it.visit it.at) it.visit x it.at (subst S (sym own.1) it.stands) own.2
    least_own (Some text) found =
        let mine = found_won scan_by m visits (length visits) OwnByte text all.visits_are (omega arith) found in
        let begins = begins_so found.place text found.first.behind found.spells in (
          mine.1,
          (begins.0, begins.1, mine.0),
          λ x bytes own.
              let P : List ℕ → Type 0 = λ t. AreBytes t in
              let Q : List ℕ → Type 0 = λ t. IsWonBy scan_by t OwnByte in
              let A : List ℕ → Type 0 = λ t. IsAtMost text t in
              let b = subst P own.1 bytes in
              let w = subst Q own.1 own.2 in
              let it = reached_own own.0 OwnByte (λ k d less. b (suc k) d (omega arith)) w in
              subst A (sym own.1) (found_low scan_by m visits (length visits) 1 OwnByte text (byte ∷ own.0) all.visits_are found b w it (omega (arith, it.behind))),
        )

-- ---- the texts of all tokens

pub set_entry : (texts : List (Option (List ℕ))) (token other : ℕ) (text : Option (List ℕ)) → 0 < token → 0 < other → token ≤ length texts → (other ≡ token → ⊥) → lexeme_in (slice_set texts (token - 1) text) other ≡ lexeme_in texts other
set_entry texts token other text some also within ne = get_or-set_other texts (token - 1) (other - 1) text None (λ e. ne (omega (arith, e)))

pub set_same : (texts : List (Option (List ℕ))) (token : ℕ) (text : Option (List ℕ)) → 0 < token → token ≤ length texts → lexeme_in (slice_set texts (token - 1) text) token ≡ text
set_same texts token text some within = get_or-set_same texts (token - 1) text None (omega arith)

module _ (s : Scanning) (m : Machine) (visits : List Visit) where
  -- the kind names no open token
  pub found_same : (place : ℕ) (v : Visit) (kind : Option Kind) (texts : List (Option (List ℕ))) → slice_get visits place ≡ Some v → ((x : List ℕ) → StateOf m v.state x → IsKindOf s x kind) → ((token : ℕ) → kind ≡ Some (Token token) → IsOpen texts token → ⊥) → AreFound s m visits place texts → AreFound s m visits (place + 1) texts
  found_same place v kind texts at of not_open are token some within =
      found_kept s m visits place (Token token) (lexeme_in texts token) (are token some within) (λ none. lost_at s m visits place v kind (Token token) at of (λ e. not_open token e (some, within, none)))

  -- the kind names an open token, and its text is put
  pub found_put : (place : ℕ) (v : Visit) (kind : Option Kind) (texts : List (Option (List ℕ))) (chosen : ℕ) (text : List ℕ) → 0 < place → slice_get visits place ≡ Some v → ((x : List ℕ) → StateOf m v.state x → IsKindOf s x kind) → kind ≡ Some (Token chosen) → IsOpen texts chosen → Spells visits place text → AreFound s m visits place texts → AreFound s m visits (place + 1) (slice_set texts (chosen - 1) (Some text))
  found_put place v kind texts chosen text behind at of is opened spells are token some within =
      let fits : token ≤ length texts = omega (arith, within, length-set texts (chosen - 1) (Some text)) in
      let P : Option (List ℕ) → Type 0 = λ e. IsFound s m visits (place + 1) (Token token) e in
      let K : Option Kind → Type 0 = λ k. (x : List ℕ) → StateOf m v.state x → IsKindOf s x k in
      let of_token = subst K is of in
      ⊎_elim
      (λ (same : token ≡ chosen).
      let e : lexeme_in (slice_set texts (chosen - 1) (Some text)) token ≡ Some text = let Q : ℕ → Type 0 = λ q. lexeme_in (slice_set texts (chosen - 1) (Some text)) q ≡ Some text in subst Q (sym same) (set_same texts chosen (Some text) opened.0 opened.1) in
      let R : ℕ → Type 0 = λ q. IsWonAt s m visits place (Token q) in
      let won = subst R (sym same) (won_at s m visits place v (Token chosen) at of_token) in
      let none : lexeme_in texts token ≡ None = let S : ℕ → Type 0 = λ q. lexeme_in texts q ≡ None in subst S (sym same) opened.2 in
      subst P (sym e) (found_now s m visits place (Token token) (lexeme_in texts token) text behind none (are token some fits) won spells))
      (λ (ne : token ≡ chosen → ⊥).
      let e = set_entry texts chosen token (Some text) opened.0 some opened.1 ne in
      subst P (sym e) (found_kept s m visits place (Token token) (lexeme_in texts token) (are token some fits) (λ none. lost_at s m visits place v kind (Token token) at of (λ f. ne (cc)))))
      (cases_eq token chosen)

  -- nothing was found in front of the first place behind the start
  pub none_found : (texts : List (Option (List ℕ))) → ((token : ℕ) → lexeme_in texts token ≡ None) → AreFound s m visits 1 texts
  none_found texts none token some within =
      let P : Option (List ℕ) → Type 0 = λ e. IsFound s m visits 1 (Token token) e in
      subst P (sym (none token)) (λ j more less. absurd (omega arith))

pub none_empty : AreEmpty 0 []
none_empty = record { all = refl; none = λ token. refl }

pub empty_pushed : (count : ℕ) (texts : List (Option (List ℕ))) → AreEmpty count texts → AreEmpty (count + 1) (texts ++ None ∷ [])
empty_pushed count texts e = record {
  all = omega (arith, length-append texts (None ∷ []), e.all);
  none = λ token. ⊎_elim
      (λ (within : token - 1 < length texts). get_or_append_left texts (None ∷ []) None (token - 1) within ∙ e.none token)
      (λ (past : length texts ≤ token - 1). ⊎_elim
      (λ (same : token - 1 ≡ length texts). get_or_push texts None None (token - 1) (sym same))
      (λ (ne : token - 1 ≡ length texts → ⊥). get_or_past (texts ++ None ∷ []) (token - 1) None (omega (arith, length-append texts (None ∷ []))))
      (cases_eq (token - 1) (length texts)))
      (cases_lt (token - 1) (length texts));
}

-- ---- own bytes

module _ (m : Machine) (start : ℕ) (within : start < length m.sets) (stands : StateOf m start []) where
  module _ (byte to : ℕ) (fits : byte < 256) (there : to < length m.sets) (next : Goes m start byte (Some to)) where
    abbrev two : List Visit
    two = first_visit start ∷ second_visit byte to ∷ []

    two_at : (k : ℕ) (v : Visit) → slice_get two k ≡ Some v → ((k ≡ 0) × (v ≡ first_visit start)) ⊎ ((k ≡ 1) × (v ≡ second_visit byte to))
    two_at zero v at = inl (refl, cc)
    two_at (suc zero) v at = inr (refl, cc)
    two_at (suc (suc k)) v at = absurd (cc)

    pub behind_start : StateOf m to (byte ∷ [])
    behind_start = (next [] stands).1

    not_start : start ≡ to → ⊥
    not_start e =
        let P : ℕ → Type 0 = λ q. StateOf m q (byte ∷ []) in
        start_alone_here start byte stands (subst P (sym e) behind_start)
      where
        start_alone_here : (state b : ℕ) → StateOf m state [] → StateOf m state (b ∷ []) → ⊥
        start_alone_here zero b s t = absurd (cc)
        start_alone_here (suc k) b s t = s.2 refl

    link_two : IsBehind m two 1 to (record { place = 0; byte = byte })
    link_two = record { earlier = omega arith; byte = fits; visit = first_visit start; at = refl; goes = next }

    pub two_visits : AreVisits m two
    two_visits = record {
      within = λ k v at. ⊎_elim
          (λ (f : (k ≡ 0) × (v ≡ first_visit start)). let P : Visit → Type 0 = λ t. t.state < length m.sets in subst P (sym f.1) within)
          (λ (n : (k ≡ 1) × (v ≡ second_visit byte to)). let P : Visit → Type 0 = λ t. t.state < length m.sets in subst P (sym n.1) there)
          (two_at k v at);
      linked = λ k v at. ⊎_elim
          (λ (f : (k ≡ 0) × (v ≡ first_visit start)). let P : Visit → Type 0 = λ t. IsLinked m two k t.state t.origin in subst P (sym f.1) (f.0, stands))
          (λ (n : (k ≡ 1) × (v ≡ second_visit byte to)).
          let P : Visit → Type 0 = λ t. IsLinked m two k t.state t.origin in
          let Q : ℕ → Type 0 = λ q. IsLinked m two q to (Some (record { place = 0; byte = byte })) in
          subst P (sym n.1) (subst Q (sym n.0) link_two))
          (two_at k v at);
      rises = λ i j x y less at other. ⊎_elim
          (λ (f : (i ≡ 0) × (x ≡ first_visit start)). ⊎_elim
          (λ (g : (j ≡ 0) × (y ≡ first_visit start)). absurd (omega (arith, f.0, g.0)))
          (λ (n : (j ≡ 1) × (y ≡ second_visit byte to)).
          let P : Visit → Type 0 = λ t. weight t < weight y in
          let Q : Visit → Type 0 = λ t. 0 < weight t in
          subst P (sym f.1) (subst Q (sym n.1) (omega arith)))
          (two_at j y other))
          (λ (n : (i ≡ 1) × (x ≡ second_visit byte to)). ⊎_elim
          (λ (g : (j ≡ 0) × (y ≡ first_visit start)). absurd (omega (arith, n.0, g.0)))
          (λ (o : (j ≡ 1) × (y ≡ second_visit byte to)). absurd (omega (arith, n.0, o.0)))
          (two_at j y other))
          (two_at i x at);
      distinct = λ j k v w at other same. ⊎_elim
          (λ (f : (j ≡ 0) × (v ≡ first_visit start)). ⊎_elim
          (λ (g : (k ≡ 0) × (w ≡ first_visit start)). f.0 ∙ sym g.0)
          (λ (n : (k ≡ 1) × (w ≡ second_visit byte to)). absurd (not_start (ap (λ (t : Visit). t.state) (sym f.1) ∙ same ∙ ap (λ (t : Visit). t.state) n.1)))
          (two_at k w other))
          (λ (n : (j ≡ 1) × (v ≡ second_visit byte to)). ⊎_elim
          (λ (g : (k ≡ 0) × (w ≡ first_visit start)). absurd (not_start (ap (λ (t : Visit). t.state) (sym g.1) ∙ sym same ∙ ap (λ (t : Visit). t.state) n.1)))
          (λ (o : (k ≡ 1) × (w ≡ second_visit byte to)). n.0 ∙ sym o.0)
          (two_at k w other))
          (two_at j v at);
    }

    pub two_light : AreLight 4096 two
    two_light k v at = ⊎_elim
        (λ (f : (k ≡ 0) × (v ≡ first_visit start)). let P : Visit → Type 0 = λ t. weight t ≤ 4096 in subst P (sym f.1) (omega arith))
        (λ (n : (k ≡ 1) × (v ≡ second_visit byte to)). let P : Visit → Type 0 = λ t. weight t ≤ 4096 in subst P (sym n.1) (omega (arith, rank_within byte fits)))
        (two_at k v at)

-- ---- the lesser of two

least_same : (P Q : List ℕ → Type 0) → ((x : List ℕ) → AreBytes x → P x → Q x) → ((x : List ℕ) → AreBytes x → Q x → P x) → (entry : Option (List ℕ)) → IsLeast P entry → IsLeast Q entry
least_same P Q forth back None none = λ x bytes q. none x bytes (back x bytes q)
least_same P Q forth back (Some text) least = (least.0, forth text least.0 least.1, λ x bytes q. least.2 x bytes (back x bytes q))

at_most_trans : (x y z : List ℕ) → AreBytes x → AreBytes y → AreBytes z → IsAtMost x y → IsAtMost y z → IsAtMost x z
at_most_trans x y z bx by bz first next = at_most_by_number x z bx bz (omega (arith, number_by_at_most x y bx first, number_by_at_most y z by next))

least_either : (P Q R : List ℕ → Type 0) → ((x : List ℕ) → P x → R x) → ((x : List ℕ) → Q x → R x) → ((x : List ℕ) → AreBytes x → R x → P x ⊎ Q x) → (old : Option (List ℕ)) (text : List ℕ) (new : Option (List ℕ)) → IsLeast P old → IsLeast Q (Some text) → KeepsLeast old text new → IsLeast R new
least_either P Q R left right split None text new none least keeps =
    let S : Option (List ℕ) → Type 0 = λ e. IsLeast R e in
    subst S (sym keeps) (least.0, right text least.1, λ x bytes r. ⊎_elim (λ (p : P x). absurd (none x bytes p)) (λ (q : Q x). least.2 x bytes q) (split x bytes r))
least_either P Q R left right split (Some known) text new old least keeps =
    let S : Option (List ℕ) → Type 0 = λ e. IsLeast R e in
    ⊎_elim
    (λ (lesser : IsBefore text known × (new ≡ Some text)).
    subst S (sym lesser.1) (
      least.0,
      right text least.1,
      λ x bytes r. ⊎_elim
          (λ (p : P x). at_most_trans text known x least.0 old.0 bytes (inr lesser.0) (old.2 x bytes p))
          (λ (q : Q x). least.2 x bytes q)
          (split x bytes r),
    ))
    (λ (kept : (IsBefore text known → ⊥) × (new ≡ Some known)).
    let below : IsAtMost known text = ⊎_elim (λ (most : IsAtMost known text). most) (λ (before : IsBefore text known). absurd (kept.0 before)) (order_is_total known text old.0 least.0) in
    subst S (sym kept.1) (
      old.0,
      left known old.1,
      λ x bytes r. ⊎_elim
          (λ (p : P x). old.2 x bytes p)
          (λ (q : Q x). at_most_trans known text x old.0 least.0 bytes below (least.2 x bytes q))
          (split x bytes r),
    ))
    keeps

module _ (s : Scanning) (byte : ℕ) where
  given_still : (token : ℕ) (x : List ℕ) → IsGiven s byte token x → IsGiven s (byte + 1) token x
  given_still token x g = ⊎_elim (λ (n : IsNamed s token x). inl n) (λ (o : IsOwnBelow s byte token x). inr (record { byte = o.byte; low = omega (arith, o.low); own = o.own; literal = o.literal })) g

  given_or_own : (token : ℕ) (x : List ℕ) → IsGiven s (byte + 1) token x → IsGiven s byte token x ⊎ (IsOwn s byte x × (literal_token s.literals byte ≡ Some (token ∷ [])))
  given_or_own token x g = ⊎_elim
      (λ (n : IsNamed s token x). inl (inl n))
      (λ (o : IsOwnBelow s (byte + 1) token x). ⊎_elim
      (λ (under : o.byte < byte). inl (inr (record { byte = o.byte; low = under; own = o.own; literal = o.literal })))
      (λ (over : byte ≤ o.byte).
      let e : o.byte ≡ byte = omega (arith, o.low) in
      let P : ℕ → Type 0 = λ b. IsOwn s b x × (literal_token s.literals b ≡ Some (token ∷ [])) in
      inr (subst P e (o.own, o.literal)))
      (cases_lt o.byte byte))
      g

  -- no token in range has the byte's literal
  pub own_skip : (texts : List (Option (List ℕ))) → ((token : ℕ) → 0 < token → token ≤ length texts → literal_token s.literals byte ≡ Some (token ∷ []) → ⊥) → AreLeast s byte texts → AreLeast s (byte + 1) texts
  own_skip texts free are token some within =
      least_same (IsGiven s byte token) (IsGiven s (byte + 1) token) (λ x bytes g. given_still token x g) (λ x bytes g. ⊎_elim (λ (o : IsGiven s byte token x). o) (λ (n : IsOwn s byte x × (literal_token s.literals byte ≡ Some (token ∷ []))). absurd (free token some within n.1)) (given_or_own token x g)) (lexeme_in texts token) (are token some within)

  -- no text gives the byte as its own
  pub own_none : (texts : List (Option (List ℕ))) → IsLeast (IsOwn s byte) None → AreLeast s byte texts → AreLeast s (byte + 1) texts
  own_none texts none are token some within =
      least_same (IsGiven s byte token) (IsGiven s (byte + 1) token) (λ x bytes g. given_still token x g) (λ x bytes g. ⊎_elim (λ (o : IsGiven s byte token x). o) (λ (n : IsOwn s byte x × (literal_token s.literals byte ≡ Some (token ∷ []))). absurd (none x bytes n.0)) (given_or_own token x g)) (lexeme_in texts token) (are token some within)

  -- the least text that does is put where it is the lesser one
  pub own_kept : (texts new : List (Option (List ℕ))) (mine : ℕ) (text : List ℕ) → 0 < mine → mine ≤ length texts → literal_token s.literals byte ≡ Some (mine ∷ []) → IsLeast (IsOwn s byte) (Some text) → KeepsText texts mine text new → AreLeast s byte texts → AreLeast s (byte + 1) new
  own_kept texts new mine text first fits literal least keeps are =
      let P : List (Option (List ℕ)) → Type 0 = λ t. AreLeast s (byte + 1) t in
      subst P (sym keeps.2) (λ token some within.
      let inside : token ≤ length texts = omega (arith, within, length-set texts (mine - 1) keeps.0) in
      ⊎_elim
      (λ (same : token ≡ mine).
      let E : ℕ → Type 0 = λ q. IsLeast (IsGiven s (byte + 1) q) (lexeme_in (slice_set texts (mine - 1) keeps.0) q) in
      let F : Option (List ℕ) → Type 0 = λ e. IsLeast (IsGiven s (byte + 1) mine) e in
      subst E (sym same) (subst F (sym (set_same texts mine keeps.0 first fits))
      (least_either (IsGiven s byte mine) (IsOwn s byte) (IsGiven s (byte + 1) mine) (λ x g. given_still mine x g) (λ x o. inr (record { byte = byte; low = omega arith; own = o; literal = literal })) (λ x bytes g. ⊎_elim (λ (o : IsGiven s byte mine x). inl o) (λ (n : IsOwn s byte x × (literal_token s.literals byte ≡ Some (mine ∷ []))). inr n.0) (given_or_own mine x g)) (lexeme_in texts mine) text keeps.0 (are mine first fits) least keeps.1)))
      (λ (ne : token ≡ mine → ⊥).
      let F : Option (List ℕ) → Type 0 = λ e. IsLeast (IsGiven s (byte + 1) token) e in
      subst F (sym (set_entry texts mine token keeps.0 first some fits ne))
      (least_same (IsGiven s byte token) (IsGiven s (byte + 1) token) (λ x bytes g. given_still token x g) (λ x bytes g. ⊎_elim (λ (o : IsGiven s byte token x). o) (λ (n : IsOwn s byte x × (literal_token s.literals byte ≡ Some (token ∷ []))). absurd (ne (cc (n.1, literal)))) (given_or_own token x g)) (lexeme_in texts token) (are token some inside)))
      (cases_eq token mine))

pub own_first : (s : Scanning) (texts : List (Option (List ℕ))) → AreNamed s texts → AreLeast s 0 texts
own_first s texts are token some within =
    least_same (IsNamed s token) (IsGiven s 0 token) (λ x bytes n. inl n) (λ x bytes g. ⊎_elim (λ (n : IsNamed s token x). n) (λ (o : IsOwnBelow s 0 token x). absurd (omega (arith, o.low))) g) (lexeme_in texts token) (are token some within)

-- what a byte's literal is
pub literal_zero : (literals : List ℕ) (byte token : ℕ) → slice_index literals byte ≡ 0 → literal_token literals byte ≡ Some (token ∷ []) → ⊥
literal_zero literals byte token zero_is e = grind (arith, nat_tests)

pub literal_of : (literals : List ℕ) (byte : ℕ) → 0 < slice_index literals byte → literal_token literals byte ≡ Some (slice_index literals byte ∷ [])
literal_of literals byte some = grind (arith, nat_tests)

pub literal_one : (literals : List ℕ) (byte token : ℕ) → literal_token literals byte ≡ Some (token ∷ []) → slice_index literals byte ≡ token
literal_one literals byte token e = ⊎_elim
    (λ (some : 0 < slice_index literals byte). cc (literal_of literals byte some))
    (λ (none : slice_index literals byte ≤ 0). absurd (literal_zero literals byte token (omega arith) e))
    (cases_lt 0 (slice_index literals byte))

-- the text of an entry
pub entry_at : (items : List (Option (Vec ℕ Global))) (i : ℕ) (e : Option (Vec ℕ Global)) → i < length items → e ≡ slice_index_or items i e → slice_index_or (texts_of items) i None ≡ text_of e
entry_at [] i e less is = absurd (omega arith)
entry_at (x ∷ items) zero e less is = ap text_of (sym is)
entry_at (x ∷ items) (suc i) e less is = entry_at items i e (omega arith) is

-- ---- one match

won_from : (s : Scanning) (text : List ℕ) (rule : ℕ) (kind : Kind) → IsMatch s.patterns text rule (length text) → slice_get s.kinds (rule - 1) ≡ Some kind → IsWonBy s text kind
won_from s text rule kind is at =
    let e : take (length text) text ≡ text = take_all (length text) text (omega arith) in
    let P : List ℕ → Type 0 = λ t. MatchesRule s.patterns rule t in
    let Q : List ℕ → Type 0 = λ t. (other : ℕ) → MatchesRule s.patterns other t → rule ≤ other in
    record { rule = rule; matches = subst P e is.matches; lowest = subst Q e is.lowest; at = at }

match_of : (s : Scanning) (text : List ℕ) (kind : Kind) → 0 < length text → (won : IsWonBy s text kind) → IsMatch s.patterns text won.rule (length text)
match_of s text kind some won =
    let e : take (length text) text ≡ text = take_all (length text) text (omega arith) in
    let P : List ℕ → Type 0 = λ t. MatchesRule s.patterns won.rule t in
    let Q : List ℕ → Type 0 = λ t. (other : ℕ) → MatchesRule s.patterns other t → won.rule ≤ other in
    record { some = some; within = omega arith; matches = subst P (sym e) won.matches; longest = λ other n le m. le; lowest = subst Q (sym e) won.lowest }

some_length : (text : List ℕ) → text ≢ [] → 0 < length text
some_length [] some = absurd (some refl)
some_length (b ∷ text) some = omega arith

given_by : (s : Scanning) (token : ℕ) (text : List ℕ) (kind : Kind) → AreBytes text → 0 < length text → IsWonBy s text kind → given s.literals kind text ≡ Some (token ∷ []) → IsGiven s 256 token text
given_by s token [] kind bytes some won gives = absurd (omega arith)
given_by s token (b ∷ text) (Token t) bytes some won gives =
    let e : t ≡ token = cc in
    let P : ℕ → Type 0 = λ q. IsWonBy s (b ∷ text) (Token q) in
    inl ((λ f. absurd (cc)), subst P e won)
given_by s token (b ∷ text) OwnByte bytes some won gives = inr (record { byte = b; low = head_byte b text bytes; own = (text, refl, won); literal = gives })
given_by s token (b ∷ text) Skip bytes some won gives = absurd (cc)
given_by s token (b ∷ text) Foreign bytes some won gives = absurd (cc)

one_match_given : (s : Scanning) (token : ℕ) (text : List ℕ) → AreBytes text → IsOneMatch s token text → IsGiven s 256 token text
one_match_given s token text bytes g = given_by s token text g.kind bytes g.is_match.some (won_from s text g.rule g.kind g.is_match g.at) g.gives

given_one_match : (s : Scanning) (token : ℕ) (text : List ℕ) → IsGiven s 256 token text → IsOneMatch s token text
given_one_match s token text g = ⊎_elim
    (λ (n : IsNamed s token text). record { rule = n.1.rule; kind = Token token; is_match = match_of s text (Token token) (some_length text n.0) n.1; at = n.1.at; gives = refl })
    (λ (o : IsOwnBelow s 256 token text).
    let P : List ℕ → Type 0 = λ t. IsOneMatch s token t in
    let Q : List ℕ → Type 0 = λ t. IsWonBy s t OwnByte in
    let won = subst Q o.own.1 o.own.2 in
    subst P (sym o.own.1) (record { rule = won.rule; kind = OwnByte; is_match = match_of s (o.byte ∷ o.own.0) OwnByte (omega arith) won; at = won.at; gives = o.literal }))
    g

least_lexeme : (s : Scanning) (token : ℕ) (entry : Option (List ℕ)) → IsLeast (IsGiven s 256 token) entry → IsLexemeOf s token entry
least_lexeme s token None none = λ text bytes g. none text bytes (one_match_given s token text bytes g)
least_lexeme s token (Some text) least = record { bytes = least.0; gives = given_one_match s token text least.1; least = λ other bytes g. least.2 other bytes (one_match_given s token other bytes g) }

pub least_all : (s : Scanning) (tokens : ℕ) (texts : List (Option (List ℕ))) → length texts ≡ tokens → AreLeast s 256 texts → AreLexemes s tokens texts
least_all s tokens texts all are = record { all = all; each = λ token some within. least_lexeme s token (lexeme_in texts token) (are token some (omega arith)) }
