-- The text of the first place whose texts are P is the least that is P.
use Rattle.std.proofs.Common.{◌≡◌, ◌≢◌, ℕ, zero, suc, ◌+◌, ◌<◌, ◌≤◌, arith, List, [], length, sym, subst, ⊎_elim, Option, Some, None, append-nil}
use Rattle.std.specs.Prelude.{slice_get, slice_index_or}
use Rattle.std.proofs.lemmas.Bool.{cases_lt}
use Rattle.std.proofs.lemmas.Option.{slice_get-get_or, slice_get_within}
use Rattle.cs_pattern_parts.specs.Items.StandsFor.{AreBytes}
use Rattle.cs_pattern_parts.specs.Tree.Pattern.{Regex}
use Rattle.cs_scanner.specs.Automaton.Machine.{Machine, StateOf, IsBegun, MatchesRule, patterns_of}
use Rattle.cs_scanner.specs.Lexeme.Order.{IsAtMost}
use Rattle.cs_scanner.proofs.OnLexeme.Numbers.{at_most_by_number, before_is_lower, number_by_at_most}
use Rattle.cs_scanner.specs.Lexeme.StateTexts.{AreStateTexts, StateText, entry_in}
use Rattle.cs_lexical.specs.Winning.{IsLeastIfAny}
use Rattle.cs_lexical.specs.Noting.{IsFirst}

-- a text that a rule matches begins some rule
pub begun : (patterns : List Regex) (rule : ℕ) (x : List ℕ) → MatchesRule patterns rule x → IsBegun patterns x
begun patterns rule x matches = let P : List ℕ → Type 0 = λ t. MatchesRule patterns rule t in (rule, [], subst P (sym (append-nil x)) matches)

-- a state of a text that isn't empty stands for no text that is
not_empty_at : (m : Machine) (state : ℕ) (x y : List ℕ) → StateOf m state x → x ≢ [] → StateOf m state y → y ≢ []
not_empty_at m zero x y a some b = absurd (some a)
not_empty_at m (suc k) x y a some b = b.2

module _ (m : Machine) (met : List StateText) (s : AreStateTexts m met) where
  -- the texts of the places aren't empty
  pub not_empty : (q : ℕ) (t : StateText) (x : List ℕ) → slice_get met q ≡ Some t → StateOf m t.state x → x ≢ []
  not_empty q t x at stands = let is = s.each q t at in not_empty_at m t.state t.text x is.stands is.some stands

  -- the entry of a place
  pub entry_is : (q : ℕ) → q < length met → slice_get met q ≡ Some (entry_in met q)
  entry_is q less = slice_get-get_or met q (record { state = 0; text = [] }) less

  -- a text of a later place isn't before one of an earlier place
  in_order : (j k : ℕ) (t u : StateText) (x : List ℕ) → j ≤ k → slice_get met j ≡ Some t → slice_get met k ≡ Some u → AreBytes x → IsAtMost u.text x → IsAtMost t.text x
  in_order j k t u x le at there bytes low = ⊎_elim
      (λ (less : j < k).
      let a = s.each j t at in
      let b = s.each k u there in
      at_most_by_number t.text x a.bytes bytes (omega (arith, before_is_lower t.text u.text a.bytes (s.rise j k t u less at there), number_by_at_most u.text x b.bytes low)))
      (λ (not : k ≤ j).
      let same : j ≡ k = omega (arith, le, not) in
      let Q : ℕ → Type 0 = λ q. slice_get met q ≡ Some t in
      let one : u ≡ t = cc (subst Q same at) in
      let A : StateText → Type 0 = λ v. IsAtMost v.text x in
      subst A one low)
      (cases_lt j k)

  module _ (P : List ℕ → Type 0) (begins : (x : List ℕ) → P x → IsBegun (patterns_of m) x) (some : (x : List ℕ) → P x → x ≢ []) (texts : List (Option (List ℕ))) (start : slice_index_or texts 0 None ≡ None) where
    pub first_is_least : (entry : ℕ) → IsFirst m met P texts (length met) entry → IsLeastIfAny P (slice_index_or texts entry None)
    first_is_least zero first =
        let none : IsLeastIfAny P None = λ x bytes p.
        let it = s.all x bytes (some x p) (begins x p) in
        first it.place (slice_get_within met it.place it.entry it.at) it.entry x it.at it.stands p in
        let L : Option (List ℕ) → Type 0 = λ e. IsLeastIfAny P e in
        subst L (sym start) none
    first_is_least (suc k) first =
        let t = entry_in met k in
        let at = entry_is k first.0 in
        let is = s.each k t at in
        let least : IsLeastIfAny P (Some t.text) = record {
          bytes = is.bytes;
          is = first.1 t t.text at is.stands;
          least = λ other bytes p.
              let it = s.all other bytes (some other p) (begins other p) in
              ⊎_elim
              (λ (before : it.place < k). absurd (first.2 it.place before it.entry other it.at it.stands p))
              (λ (later : k ≤ it.place). in_order k it.place t it.entry other later at it.at bytes it.soon)
              (cases_lt it.place k);
        } in
        let L : Option (List ℕ) → Type 0 = λ e. IsLeastIfAny P e in
        let e : k + 1 ≡ suc k = omega arith in
        let K : ℕ → Type 0 = λ q. slice_index_or texts q None ≡ Some t.text in
        subst L (sym (subst K e first.3)) least
