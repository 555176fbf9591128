-- States that are found, and states that are added.
use Rattle.std.proofs.Common.{◌≡◌, ◌≢◌, ℕ, zero, suc, ◌+◌, ◌*◌, ◌/◌, ◌%◌, ◌<◌, true, false, List, [], ◌∷◌, ◌++◌, ◌⊎◌, inl, inr, Some, None, refl, sym, ap, ◌∙◌, subst, arith, length, get_or, length-append}
use Rattle.std.proofs.lemmas.Bool.{cases_lt, false≢true}
use Rattle.std.proofs.lemmas.List.{get_or_append_left, get_or_push}
use Rattle.std.proofs.lemmas.Nat.Bits.{bit_at-lt, same_from_bits_below}
use Rattle.std.specs.Int.{bit_at}
use Rattle.std.specs.Prelude.{slice_get, Option, ◌==◌, ◌&&◌}
use Rattle.cs_scanner.specs.Automaton.Bits.{bit}
use Rattle.cs_scanner.specs.Automaton.Meaning.{all_classes}
use Rattle.cs_scanner.specs.Automaton.Re.{Re}
use Rattle.cs_scanner.specs.Automaton.Sets.{AddsOnce}
use Rattle.cs_scanner.specs.Automaton.States.{IsReached, IsRow, StandsFor, AreBytes, AreWords, IsState, HasStates, Grows, IsStep, IsReady, AreSteps, IsStepped, Added, RowStep, HasSteps}
use Rattle.cs_scanner.proofs.OnAutomaton.Steps.{on_reaches}

-- an element is an old one, or the one that was pushed
pub at_pushed : {X : Type 0} (xs : List X) (x y : X) (k : ℕ) → slice_get (xs ++ x ∷ []) k ≡ Some y → (slice_get xs k ≡ Some y) ⊎ ((k ≡ length xs) × (x ≡ y))
at_pushed [] x y zero e = inr (refl, cc)
at_pushed [] x y (suc k) e = absurd cc
at_pushed (z ∷ xs) x y zero e = inl e
at_pushed (z ∷ xs) x y (suc k) e =
    elim (at_pushed xs x y k e) [ inl o ↦ inl o | inr n ↦ inr (ap suc n.0, n.1) ]

pub kept : {X : Type 0} (xs : List X) (x y : X) (k : ℕ) → slice_get xs k ≡ Some y → slice_get (xs ++ x ∷ []) k ≡ Some y
kept [] x y k e = absurd cc
kept (z ∷ xs) x y zero e = e
kept (z ∷ xs) x y (suc k) e = kept xs x y k e

-- ---- words with the same bits

same_bit : (a b : ℕ) → a < 2 → b < 2 → (a == 1) ≡ (b == 1) → a ≡ b
same_bit zero zero p q e = refl
same_bit zero (suc zero) p q e = absurd (false≢true e)
same_bit (suc zero) zero p q e = absurd (false≢true (sym e))
same_bit (suc zero) (suc zero) p q e = refl
same_bit (suc (suc a)) b p q e = absurd (omega (arith, p))
same_bit a (suc (suc b)) p q e = absurd (omega (arith, q))

same_list : (xs ys : List ℕ) → length xs ≡ length ys → ((k : ℕ) → get_or xs k 0 ≡ get_or ys k 0) → xs ≡ ys
same_list [] [] e h = refl
same_list [] (y ∷ ys) e h = absurd (omega (arith, e))
same_list (x ∷ xs) [] e h = absurd (omega (arith, e))
same_list (x ∷ xs) (y ∷ ys) e h = let head = h 0 in let tail = same_list xs ys (omega (arith, e)) (λ k. h (suc k)) in cc

pub same_words : (v w : List ℕ) → length v ≡ length w → AreWords v → AreWords w → ((n : ℕ) → bit v n ≡ bit w n) → v ≡ w
same_words v w long p q h =
    same_list v w long (λ k. same_from_bits_below 64 (get_or v k 0) (get_or w k 0) (p k) (q k) (λ i lt. one k i lt))
  where
    one : (k i : ℕ) → i < 64 → bit_at (get_or v k 0) i ≡ bit_at (get_or w k 0) i
    one k i lt =
        let n = 64 * k + i in
        let high : n / 64 ≡ k = omega (arith, lt) in
        let low : n % 64 ≡ i = omega (arith, lt) in
        let f : (u : List ℕ) → bit u n ≡ (bit_at (get_or u k 0) i == 1) = λ u. ap (λ j. bit_at (get_or u j 0) (n % 64) == 1) high ∙ ap (λ j. bit_at (get_or u k 0) j == 1) low in
        same_bit (bit_at (get_or v k 0) i) (bit_at (get_or w k 0) i) (bit_at-lt (get_or v k 0) i) (bit_at-lt (get_or w k 0) i) (sym (f v) ∙ h n ∙ f w)

module _ (rs : List (Re (List ℕ))) where
  -- what stands for a text in more states
  pub stands_grown : (old new : List (List ℕ)) (k : ℕ) (x : List ℕ) → Grows old new → StandsFor rs old k x → StandsFor rs new k x
  stands_grown old new zero x g s = s
  stands_grown old new (suc k) x g s = (s.0, g (suc k) s.0 s.1, s.2, s.3)

  -- and back, for a state that was there
  pub stood : (old new : List (List ℕ)) (k : ℕ) (x ps : List ℕ) → Grows old new → slice_get old k ≡ Some ps → StandsFor rs new k x → StandsFor rs old k x
  stood old new zero x ps g there s = s
  stood old new (suc k) x ps g there s =
      let now = g (suc k) ps there in
      let at = s.1 in
      let same : ps ≡ s.0 = cc in
      (ps, there, s.2, subst (λ t. IsReached rs x (bit t)) (sym same) s.3)

  pub step_grown : (old new : List (List ℕ)) (k byte : ℕ) (to : Option ℕ) (ps : List ℕ) → Grows old new → slice_get old k ≡ Some ps → IsStep rs old k byte to → IsStep rs new k byte to
  step_grown old new k byte None ps g there h = λ x s a next r. h x (stood old new k x ps g there s) a next r
  step_grown old new k byte (Some j) ps g there h = λ x s. stands_grown old new j (x ++ byte ∷ []) g (h x (stood old new k x ps g there s))

  -- a new state
  add : (width : ℕ) (sets : List (List ℕ)) (ps : List ℕ) → HasStates rs width sets → IsState rs ps → length ps ≡ width → AreWords ps → ((k : ℕ) → slice_get sets k ≡ Some ps → ⊥) → HasStates rs width (sets ++ ps ∷ [])
  add width sets ps h is long words new =
      record {
        start = (h.start.0, kept sets ps h.start.0 0 h.start.1, h.start.2);
        wide = λ k qs e. elim (at_pushed sets ps qs k e) [ inl o ↦ h.wide k qs o | inr n ↦ subst (λ t. (length t ≡ width) × AreWords t) n.1 (long, words) ];
        each = λ k qs e. elim (at_pushed sets ps qs (suc k) e) [ inl o ↦ h.each k qs o | inr n ↦ subst (λ t. IsState rs t) n.1 is ];
        apart = apart;
      }
    where
      apart : (j k : ℕ) (qs : List ℕ) → slice_get (sets ++ ps ∷ []) j ≡ Some qs → slice_get (sets ++ ps ∷ []) k ≡ Some qs → j ≡ k
      apart j k qs d e =
          elim (at_pushed sets ps qs j d) [
            | inl o ↦ elim (at_pushed sets ps qs k e) [ inl q ↦ h.apart j k qs o q | inr n ↦ absurd (new j (subst (λ t. slice_get sets j ≡ Some t) (sym n.1) o)) ]
            | inr m ↦ elim (at_pushed sets ps qs k e) [ inl q ↦ absurd (new k (subst (λ t. slice_get sets k ≡ Some t) (sym m.1) q)) | inr n ↦ m.0 ∙ sym n.0 ]
          ]

  -- ---- one step

  pub append_some : (x : List ℕ) (b : ℕ) → x ++ b ∷ [] ≢ []
  append_some [] b e = absurd cc
  append_some (c ∷ x) b e = absurd cc

  bytes_push : (x : List ℕ) (b : ℕ) → AreBytes x → b < 256 → AreBytes (x ++ b ∷ [])
  bytes_push x b h lt k d within =
      elim (cases_lt k (length x)) [
        | inl below ↦ subst (λ n. n < 256) (sym (get_or_append_left x (b ∷ []) d k below)) (h k d below)
        | inr above ↦ subst (λ n. n < 256) (sym (get_or_push x b d k (omega (arith, above, within, length-append x (b ∷ []))))) lt
      ]

  -- each state has a text
  pub has_text : (width : ℕ) (sets : List (List ℕ)) (k : ℕ) (ps : List ℕ) → HasStates rs width sets → slice_get sets k ≡ Some ps → (x : List ℕ) × StandsFor rs sets k x × AreBytes x
  has_text width sets zero ps h at = ([], refl, λ k d lt. absurd (omega (arith, lt)))
  has_text width sets (suc k) ps h at = let e = h.each k ps at in (e.text, (ps, at, e.not_empty, e.reached), e.bytes)

  -- the words are what the state's texts reach by one byte more
  abbrev pub Reach : List (List ℕ) → ℕ → ℕ → List ℕ → Type 0
  Reach sets k byte words = (x : List ℕ) → StandsFor rs sets k x → IsReached rs (x ++ byte ∷ []) (bit words)

  pub reach : (width : ℕ) (sets : List (List ℕ)) (k byte : ℕ) (next row words : List ℕ) → IsReady rs width sets k next → IsRow (all_classes rs) byte row → ((n : ℕ) → bit words n ≡ (bit next n && bit row n)) → Reach sets k byte words
  reach width sets k byte next row words ready is both = λ x s. on_reaches rs x byte next row words (ready.behind x s) is both

  -- where there are none, the byte leads nowhere
  pub step_nowhere : (sets : List (List ℕ)) (k byte : ℕ) (words : List ℕ) → ((n : ℕ) → bit words n ≡ false) → Reach sets k byte words → IsStep rs sets k byte None
  step_nowhere sets k byte words none r = λ x s a next reaches.
      false≢true (sym (none a.number) ∙ (r x s).all a.number (record { place = a; next = next; reaches = reaches; number = refl }))

  step_to : (width : ℕ) (sets : List (List ℕ)) (k byte to n : ℕ) (words : List ℕ) → HasStates rs width sets → bit words n ≡ true → slice_get sets to ≡ Some words → Reach sets k byte words → IsStep rs sets k byte (Some to)
  step_to width sets k byte zero n words h some at r =
      let first = h.start.1 in
      let same : h.start.0 ≡ words = cc in
      absurd (false≢true (sym (h.start.2 n) ∙ ap (λ t. bit t n) same ∙ some))
  step_to width sets k byte (suc j) n words h some at r = λ x s. (words, at, append_some x byte, r x s)

  pub added : (width : ℕ) (old new : List (List ℕ)) (k byte n : ℕ) (words qs : List ℕ) → byte < 256 → HasStates rs width old → slice_get old k ≡ Some qs → bit words n ≡ true → length words ≡ width → AreWords words → Reach old k byte words → AddsOnce old new words → Added rs width old new
  added width old new k byte n words qs fits h at some long are r (inl same) =
      record { states = subst (λ z. HasStates rs width z) (sym same) h; grows = λ j zs e. subst (λ z. slice_get z j ≡ Some zs) (sym same) e }
  added width old new k byte n words qs fits h at some long are r (inr more) =
      let x = has_text width old k qs h at in
      let state : IsState rs words = record { text = x.0 ++ byte ∷ []; bytes = bytes_push x.0 byte x.2 fits; not_empty = append_some x.0 byte; reached = r x.0 x.1; number = n; some = some } in
      record {
        states = subst (λ z. HasStates rs width z) (sym more.0) (add width old words h state long are more.1);
        grows = λ j zs e. subst (λ z. slice_get z j ≡ Some zs) (sym more.0) (kept old words zs j e);
      }

  -- the step by any byte of the row, in the states with the words
  pub step_added : (width : ℕ) (old new : List (List ℕ)) (k byte to n : ℕ) (words qs : List ℕ) → Added rs width old new → slice_get old k ≡ Some qs → bit words n ≡ true → Reach old k byte words → slice_get new to ≡ Some words → IsStep rs new k byte (Some to)
  step_added width old new k byte to n words qs a at some r there = step_to width new k byte to n words a.states some there (λ x s. r x (stood old new k x qs a.grows at s))

  pub ready_grown : (width : ℕ) (old new : List (List ℕ)) (state : ℕ) (next : List ℕ) → IsReady rs width old state next → Added rs width old new → IsReady rs width new state next
  ready_grown width old new state next r a =
      record {
        states = a.states;
        words = r.words;
        there = a.grows state r.words r.there;
        behind = λ x s. r.behind x (stood old new state x r.words a.grows r.there s);
      }

  -- ---- the steps of a state

  pub more_steps : (width : ℕ) (rows old mid new : List (List ℕ)) (state : ℕ) (next : List ℕ) (steps : List (Option ℕ)) (column : ℕ) (row : List ℕ) (to : Option ℕ) → HasSteps rs width rows old mid state next steps → column ≡ length steps → slice_get rows column ≡ Some row → Added rs width mid new → RowStep rs new state row to → HasSteps rs width rows old new state next (steps ++ to ∷ [])
  more_steps width rows old mid new state next steps column row to h e at a step =
      record { ready = ready_grown width mid new state next h.ready a; grows = λ k ps t. a.grows k ps (h.grows k ps t); steps_are = are }
    where
      are : AreSteps rs rows new state (steps ++ to ∷ [])
      are k byte r lt there is =
          elim (cases_lt k (length steps)) [
            | inl below ↦
                let same = get_or_append_left steps (to ∷ []) None k below in
                subst (λ i. IsStep rs new state byte i) (sym same) (step_grown mid new state byte (get_or steps k None) h.ready.words a.grows h.ready.there (h.steps_are k byte r below there is))
            | inr above ↦
                let i : k ≡ column = omega (arith, lt, e, length-append steps (to ∷ [])) in
                let here = subst (λ m. slice_get rows m ≡ Some r) i there in
                let same : r ≡ row = cc in
                let last : get_or (steps ++ to ∷ []) k None ≡ to = get_or_push steps to None k (sym (i ∙ e)) in
                subst (λ t. IsStep rs new state byte t) (sym last) (step byte (subst (λ t. IsRow (all_classes rs) byte t) same is))
          ]

  -- ---- one row more

  pub stepped_more : (rows old new : List (List ℕ)) (all : List (List (Option ℕ))) (steps : List (Option ℕ)) → IsStepped rs rows old all → ((k : ℕ) (r : List (Option ℕ)) → slice_get all k ≡ Some r → (ps : List ℕ) × (slice_get old k ≡ Some ps)) → Grows old new → length steps ≡ length rows → AreSteps rs rows new (length all) steps → IsStepped rs rows new (all ++ steps ∷ [])
  stepped_more rows old new all steps h there g many are k r e =
      elim (at_pushed all steps r k e) [
        | inl o ↦
            let s = h k r o in
            let t = there k r o in
            (s.0, λ j byte row lt at is. step_grown old new k byte (get_or r j None) t.0 g t.1 (s.1 j byte row lt at is))
        | inr n ↦ (subst (λ z. length z ≡ length rows) n.1 many, subst (λ z. AreSteps rs rows new k z) n.1 (subst (λ i. AreSteps rs rows new i steps) (sym n.0) are))
      ]
