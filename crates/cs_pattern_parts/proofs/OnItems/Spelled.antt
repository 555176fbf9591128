-- What is read at the front of a text is what the text spells: escapes, quoted texts, intervals and names.
use Rattle.std.proofs.Common.{◌≡◌, ◌≢◌, ℕ, zero, suc, ◌+◌, ◌<◌, Bool, true, false, cond, List, [], ◌∷◌, length, take, drop, min, refl, sym, ap, ◌∙◌, arith, inl, inr, ◌⊎◌, subst}
use Rattle.std.specs.Prelude.{Option, Some, None, ◌==◌, ◌||◌, slice_get}
use Rattle.std.specs.List.{prefix_len}
use Rattle.std.proofs.lemmas.Bool.{false≢true, eqb-true, eq-eqb}
use Rattle.std.proofs.lemmas.List.{drop-drop}
use Rattle.cs_bytes.proofs.Fronts.{front_got}
use Rattle.cs_bytes.specs.Classes.{is_octal_digit, is_hexadecimal_digit}
use Rattle.cs_bytes.specs.Places.{has_at}
use Rattle.cs_pattern_parts.specs.Items.Character.{octal, hexadecimal, escape}
use Rattle.cs_bytes.specs.Digits.{number_of}
use Rattle.cs_pattern_parts.specs.Items.Parts.{letter, byte_of, Escapes, InTurn}
use Rattle.cs_pattern_parts.specs.Items.Spelling.{StandsFor}
use Rattle.cs_pattern_parts.specs.Items.Steps.{and_more, up_to, steps}
use Rattle.cs_pattern_parts.specs.Items.Quoted as quotes
use Rattle.cs_pattern_parts.proofs.OnItems.Picked.{not_equal}
use Rattle.cs_pattern_parts.proofs.OnItems.Moving.{chosen, run_some, quoted_moves}
use Rattle.cs_pattern_parts.proofs.OnItems.Walking.{Moves, steps_none, steps_more}
use Rattle.cs_bytes.proofs.Fronts.{got_at, has_at-got}

-- ---- escapes

octal_no_newline : (b : ℕ) → is_octal_digit b ≡ true → (b == 10) ≡ false
octal_no_newline b e = not_equal b 10 (λ is. false≢true (sym (ap is_octal_digit is) ∙ e))

pub escape_octal : (b : ℕ) (rest : List ℕ) → is_octal_digit b ≡ true → escape (b ∷ rest) ≡ Some (octal (b ∷ rest))
unfolding escape
escape_octal b rest e = let f = octal_no_newline b e in rw (f, e) refl

octal_is : (text : List ℕ) (n : ℕ) (o : Option ℕ) → n ≡ min (prefix_len is_octal_digit text) 3 → o ≡ byte_of (number_of 8 (take n text)) → octal text ≡ (o, n)
unfolding octal
octal_is text n o is e = ap (λ k. (byte_of (number_of 8 (take k text)), k)) (sym is) ∙ ap (λ v. (v, n)) (sym e)

octal_first : (b : ℕ) (rest : List ℕ) (t : Bool) → is_octal_digit b ≡ t → 0 < min (cond t (1 + prefix_len is_octal_digit rest) 0) 3 → is_octal_digit b ≡ true
octal_first b rest true e lt = e
octal_first b rest false e lt = absurd (omega arith)

complete_octal : (text : List ℕ) (n : ℕ) (o : Option ℕ) → n ≡ min (prefix_len is_octal_digit text) 3 → 0 < n → o ≡ byte_of (number_of 8 (take n text)) → escape text ≡ Some (o, n)
complete_octal [] n o is lt e = absurd (omega (arith, is, lt))
complete_octal (b ∷ rest) n o is lt e =
    let some : 0 < min (prefix_len is_octal_digit (b ∷ rest)) 3 = omega (arith, is, lt) in
    escape_octal b rest (octal_first b rest (is_octal_digit b) refl some) ∙ ap Some (octal_is (b ∷ rest) n o is e)

pub escape_x : (rest : List ℕ) → escape (120 ∷ rest) ≡ Some ((hexadecimal rest).0, (hexadecimal rest).1 + 1)
unfolding escape
escape_x rest = refl

hexadecimal_some : (text : List ℕ) (n : ℕ) (o : Option ℕ) → n ≡ min (prefix_len is_hexadecimal_digit text) 2 → 0 < n → o ≡ byte_of (number_of 16 (take n text)) → hexadecimal text ≡ (o, n)
unfolding hexadecimal
hexadecimal_some text n o is lt e =
    let f : (min (prefix_len is_hexadecimal_digit text) 2 == 0) ≡ false = not_equal (min (prefix_len is_hexadecimal_digit text) 2) 0 (λ z. omega (arith, is, lt, z)) in
    rw f (ap (λ k. (byte_of (number_of 16 (take k text)), k)) (sym is) ∙ ap (λ v. (v, n)) (sym e))

hexadecimal_none : (text : List ℕ) → prefix_len is_hexadecimal_digit text ≡ 0 → hexadecimal text ≡ (Some 120, 0)
unfolding hexadecimal
hexadecimal_none text z =
    let f : (min (prefix_len is_hexadecimal_digit text) 2 == 0) ≡ true = eq-eqb (min (prefix_len is_hexadecimal_digit text) 2) 0 (omega (arith, z)) in
    rw f refl

pub escape_letter : (b : ℕ) (rest : List ℕ) → (b == 10) ≡ false → is_octal_digit b ≡ false → (b == 120) ≡ false → escape (b ∷ rest) ≡ Some (Some (letter b), 1)
unfolding escape
escape_letter b rest e f g = rw (e, f, g) refl

complete_letter : (b : ℕ) (rest : List ℕ) (o : Option ℕ) → is_octal_digit b ≡ false → b ≢ 10 → (b ≡ 120 → prefix_len is_hexadecimal_digit rest ≡ 0) → o ≡ Some (letter b) → (v : Bool) → (b == 120) ≡ v → escape (b ∷ rest) ≡ Some (o, 1)
complete_letter b rest o e ne x is true h =
    let same : b ≡ 120 = eqb-true b 120 h in
    ap (λ c. escape (c ∷ rest)) same ∙ escape_x rest ∙ ap (λ (r : Option ℕ × ℕ). Some (r.0, r.1 + 1)) (hexadecimal_none rest (x same)) ∙ ap (λ v. Some (v, 1)) (sym (is ∙ ap (λ c. Some (letter c)) same))
complete_letter b rest o e ne x is false h = escape_letter b rest (not_equal b 10 ne) e h ∙ ap (λ v. Some (v, 1)) (sym is)

pub complete_escape : (text : List ℕ) (n : ℕ) (o : Option ℕ) → Escapes text n o → escape text ≡ Some (o, n)
complete_escape _ _ _ (Escapes.octal_digits text n o is lt e) = complete_octal text n o is lt e
complete_escape _ _ _ (Escapes.hexadecimal_digits text n o is lt e) = escape_x text ∙ ap (λ (r : Option ℕ × ℕ). Some (r.0, r.1 + 1)) (hexadecimal_some text n o is lt e)
complete_escape _ _ _ (Escapes.itself_or_control b text o e ne x is) = complete_letter b text o e ne x is (b == 120) refl

pub no_some : {A : Type 0} (x : A) → None ≡ Some x → ⊥
no_some x e = absurd cc

pub unsome : {A : Type 0} (x y : A) → Some x ≡ Some y → x ≡ y
unsome x y e = cc

pub true_or_false : (b : Bool) → (b ≡ true) ⊎ (b ≡ false)
true_or_false true = inl refl
true_or_false false = inr refl

pub differ : (a b : ℕ) → (a == b) ≡ false → a ≢ b
differ a b e is = false≢true (sym e ∙ eq-eqb a b is)

octal_size : (text : List ℕ) → (octal text).1 ≡ min (prefix_len is_octal_digit text) 3
unfolding octal
octal_size text = refl

octal_byte : (text : List ℕ) → (octal text).0 ≡ byte_of (number_of 8 (take (min (prefix_len is_octal_digit text) 3) text))
unfolding octal
octal_byte text = refl

sound_octal : (b : ℕ) (rest : List ℕ) (n : ℕ) (o : Option ℕ) → is_octal_digit b ≡ true → octal (b ∷ rest) ≡ (o, n) → Escapes (b ∷ rest) n o
sound_octal b rest n o e is =
    let size : n ≡ min (prefix_len is_octal_digit (b ∷ rest)) 3 = ap (λ (r : Option ℕ × ℕ). r.1) (sym is) ∙ octal_size (b ∷ rest) in
    let some : 0 < prefix_len is_octal_digit (b ∷ rest) = run_some is_octal_digit (b ∷ rest) e in
    Escapes.octal_digits (b ∷ rest) n o size (omega (arith, size, some)) (ap (λ (r : Option ℕ × ℕ). r.0) (sym is) ∙ octal_byte (b ∷ rest) ∙ ap (λ k. byte_of (number_of 8 (take k (b ∷ rest)))) (sym size))

sound_x : (rest : List ℕ) (n : ℕ) (o : Option ℕ) → (hexadecimal rest).0 ≡ o → (hexadecimal rest).1 + 1 ≡ n → (v : Bool) → (min (prefix_len is_hexadecimal_digit rest) 2 == 0) ≡ v → Escapes (120 ∷ rest) n o
sound_x rest n o e f true z =
    let none : prefix_len is_hexadecimal_digit rest ≡ 0 = omega (arith, eqb-true (min (prefix_len is_hexadecimal_digit rest) 2) 0 z) in
    let h : hexadecimal rest ≡ (Some 120, 0) = hexadecimal_none rest none in
    let size : 1 ≡ n = ap (λ (r : Option ℕ × ℕ). r.1 + 1) (sym h) ∙ f in
    subst (λ k. Escapes (120 ∷ rest) k o) size (Escapes.itself_or_control 120 rest o refl (differ 120 10 refl) (λ _. none) (sym e ∙ ap (λ (r : Option ℕ × ℕ). r.0) h))
sound_x rest n o e f false z =
    let m : ℕ = min (prefix_len is_hexadecimal_digit rest) 2 in
    let some : 0 < min (prefix_len is_hexadecimal_digit rest) 2 = omega (arith, differ (min (prefix_len is_hexadecimal_digit rest) 2) 0 z) in
    let h = hexadecimal_some rest (min (prefix_len is_hexadecimal_digit rest) 2) (byte_of (number_of 16 (take (min (prefix_len is_hexadecimal_digit rest) 2) rest))) refl some refl in
    let size : min (prefix_len is_hexadecimal_digit rest) 2 + 1 ≡ n = ap (λ (r : Option ℕ × ℕ). r.1 + 1) (sym h) ∙ f in
    subst (λ k. Escapes (120 ∷ rest) k o) size
    (Escapes.hexadecimal_digits rest (min (prefix_len is_hexadecimal_digit rest) 2) o refl some (sym e ∙ ap (λ (r : Option ℕ × ℕ). r.0) h))

escape_newline : (rest : List ℕ) → escape (10 ∷ rest) ≡ None
unfolding escape
escape_newline rest = refl

escape_none : escape [] ≡ None
unfolding escape
escape_none = refl

pub sound_escape : (text : List ℕ) (n : ℕ) (o : Option ℕ) → escape text ≡ Some (o, n) → Escapes text n o
sound_escape [] n o e = absurd (no_some (o, n) (sym escape_none ∙ e))
sound_escape (b ∷ rest) n o e =
    elim (true_or_false (b == 10)) [
      | inl newline ↦ absurd (no_some (o, n) (sym (escape_newline rest) ∙ ap (λ c. escape (c ∷ rest)) (sym (eqb-true b 10 newline)) ∙ e))
      | inr other ↦
          elim (true_or_false (is_octal_digit b)) [
            | inl digit ↦ sound_octal b rest n o digit (unsome (octal (b ∷ rest)) (o, n) (sym (escape_octal b rest digit) ∙ e))
            | inr no_digit ↦
                elim (true_or_false (b == 120)) [
                  | inl x ↦
                      let same : b ≡ 120 = eqb-true b 120 x in
                      let f : ((hexadecimal rest).0, (hexadecimal rest).1 + 1) ≡ (o, n) = unsome ((hexadecimal rest).0, (hexadecimal rest).1 + 1) (o, n) (sym (escape_x rest) ∙ ap (λ c. escape (c ∷ rest)) (sym same) ∙ e) in
                      subst (λ c. Escapes (c ∷ rest) n o) (sym same)
                      (sound_x rest n o (ap (λ (r : Option ℕ × ℕ). r.0) f) (ap (λ (r : Option ℕ × ℕ). r.1) f) (min (prefix_len is_hexadecimal_digit rest) 2 == 0) refl)
                  | inr no_x ↦
                      let f : (Some (letter b), 1) ≡ (o, n) = unsome (Some (letter b), 1) (o, n) (sym (escape_letter b rest other no_digit no_x) ∙ e) in
                      subst (λ k. Escapes (b ∷ rest) k o) (ap (λ (r : Option ℕ × ℕ). r.1) f)
                      (Escapes.itself_or_control b rest o no_digit (differ b 10 other) (λ x. absurd (differ b 120 no_x x)) (sym (ap (λ (r : Option ℕ × ℕ). r.0) f)))
                ]
          ]
    ]

-- ---- parts, one behind the other

module _ {A : Type 0} (step : List ℕ → Option (A × ℕ)) (Part : List ℕ → ℕ → A → Type 0) (moves : Moves step) (complete : (text : List ℕ) (n : ℕ) (x : A) → Part text n x → step text ≡ Some (x, n)) (sound : (text : List ℕ) (n : ℕ) (x : A) → step text ≡ Some (x, n) → Part text n x) where
  turn : (text : List ℕ) (more : ℕ → List A × ℕ) → ((n : ℕ) → InTurn Part (drop n text) (more n).1 (more n).0) → (o : Option (A × ℕ)) → step text ≡ o → InTurn Part text (and_more o more).1 (and_more o more).0
  turn text more others None e = InTurn.none text
  turn text more others (Some (x, n)) e = InTurn.more text n (more n).1 x (more n).0 (sound text n x e) (others n)

  up_to_in_turn : (k : ℕ) (text : List ℕ) → InTurn Part text (up_to step k text).1 (up_to step k text).0
  up_to_in_turn zero text = InTurn.none text
  up_to_in_turn (suc k) text = turn text (λ n. up_to step k (drop n text)) (λ n. up_to_in_turn k (drop n text)) (step text) refl

  pub steps_in_turn : (text : List ℕ) → InTurn Part text (steps step text).1 (steps step text).0
  unfolding steps
  steps_in_turn text = up_to_in_turn (length text) text

  pub in_turn_steps : (text : List ℕ) (n : ℕ) (xs : List A) → InTurn Part text n xs → step (drop n text) ≡ None → steps step text ≡ (xs, n)
  in_turn_steps _ _ _ (InTurn.none text) e = steps_none step moves text e
  in_turn_steps _ _ _ (InTurn.more text n m x xs part others) e =
      steps_more step moves text x n (complete text n x part)
      ∙ ap (λ (r : List A × ℕ). (x ∷ r.0, n + r.1)) (in_turn_steps (drop n text) m xs others (ap step (drop-drop m n text) ∙ e))

-- ---- quoted texts

pub or_false : (p q : Bool) → (p || q) ≡ false → (p ≡ false) × (q ≡ false)
or_false true q e = absurd (false≢true (sym e))
or_false false q e = (refl, e)

complete_byte : (text : List ℕ) (n b : ℕ) → StandsFor text n b → quotes.quoted_byte text ≡ Some (b, n)
unfolding quotes.quoted_byte
complete_byte _ _ _ (StandsFor.itself b text ne nq nb) =
    let e = not_equal b 10 ne in
    let f = not_equal b 34 nq in
    let g = not_equal b 92 nb in
    rw (e, f, g) refl
complete_byte _ _ _ (StandsFor.escaped text n b e) = ap quotes.escaped (complete_escape text n (Some b) e)

sound_escaped : (text : List ℕ) (n b : ℕ) (o : Option (Option ℕ × ℕ)) → escape text ≡ o → quotes.escaped o ≡ Some (b, n) → StandsFor (92 ∷ text) n b
sound_escaped text n b None e f = absurd cc
sound_escaped text n b (Some (None, m)) e f = absurd cc
sound_escaped text n b (Some (Some c, m)) e f =
    let g : (c, m + 1) ≡ (b, n) = unsome (c, m + 1) (b, n) f in
    let same : c ≡ b = ap (λ (r : ℕ × ℕ). r.0) g in
    subst (λ k. StandsFor (92 ∷ text) k b) (ap (λ (r : ℕ × ℕ). r.1) g) (StandsFor.escaped text m b (sound_escape text m (Some b) (e ∙ ap (λ d. Some (Some d, m)) same)))

quoted_byte_none : (b : ℕ) (rest : List ℕ) → ((b == 10) || (b == 34)) ≡ true → quotes.quoted_byte (b ∷ rest) ≡ None
unfolding quotes.quoted_byte
quoted_byte_none b rest e = rw e refl

quoted_byte_escaped : (rest : List ℕ) → quotes.quoted_byte (92 ∷ rest) ≡ quotes.escaped (escape rest)
unfolding quotes.quoted_byte
quoted_byte_escaped rest = refl

quoted_byte_itself : (b : ℕ) (rest : List ℕ) → ((b == 10) || (b == 34)) ≡ false → (b == 92) ≡ false → quotes.quoted_byte (b ∷ rest) ≡ Some (b, 1)
unfolding quotes.quoted_byte
quoted_byte_itself b rest e f = rw (e, f) refl

quoted_byte_end : quotes.quoted_byte [] ≡ None
unfolding quotes.quoted_byte
quoted_byte_end = refl

sound_byte : (text : List ℕ) (n b : ℕ) → quotes.quoted_byte text ≡ Some (b, n) → StandsFor text n b
sound_byte [] n b e = absurd (no_some (b, n) (sym quoted_byte_end ∙ e))
sound_byte (c ∷ rest) n b e =
    elim (true_or_false ((c == 10) || (c == 34))) [
      | inl none ↦ absurd (no_some (b, n) (sym (quoted_byte_none c rest none) ∙ e))
      | inr some ↦
          elim (true_or_false (c == 92)) [
            | inl back ↦
                let same : c ≡ 92 = eqb-true c 92 back in
                subst (λ d. StandsFor (d ∷ rest) n b) (sym same) (sound_escaped rest n b (escape rest) refl (sym (quoted_byte_escaped rest) ∙ ap (λ d. quotes.quoted_byte (d ∷ rest)) (sym same) ∙ e))
            | inr other ↦
                let f : (c, 1) ≡ (b, n) = unsome (c, 1) (b, n) (sym (quoted_byte_itself c rest some other) ∙ e) in
                let both = or_false (c == 10) (c == 34) some in
                let same : c ≡ b = ap (λ (r : ℕ × ℕ). r.0) f in
                subst (λ k. StandsFor (c ∷ rest) k b) (ap (λ (r : ℕ × ℕ). r.1) f)
                (subst (λ d. StandsFor (c ∷ rest) 1 d) same (StandsFor.itself c rest (differ c 10 both.0) (differ c 34 both.1) (differ c 92 other)))
          ]
    ]

quoted_at_quote : (rest : List ℕ) → quotes.quoted_byte (34 ∷ rest) ≡ None
unfolding quotes.quoted_byte
quoted_at_quote rest = refl

pub complete_quoted : (text : List ℕ) (n : ℕ) (bytes : List ℕ) → InTurn StandsFor text n bytes → slice_get text n ≡ Some 34 → quotes.quoted text ≡ Some (bytes, n + 1)
unfolding quotes.quoted
complete_quoted text n bytes parts e =
    let all : steps quotes.quoted_byte text ≡ (bytes, n) = in_turn_steps quotes.quoted_byte StandsFor quoted_moves complete_byte sound_byte text n bytes parts (ap quotes.quoted_byte (front_got text n 34 e) ∙ quoted_at_quote (drop (n + 1) text)) in
    let at : has_at text n 34 ≡ true = has_at-got text n 34 e in
    rw all (rw at refl)

pub sound_quoted : (text : List ℕ) (n : ℕ) (bytes : List ℕ) → quotes.quoted text ≡ Some (bytes, n) → (m : ℕ) × InTurn StandsFor text m bytes × (slice_get text m ≡ Some 34) × (n ≡ m + 1)
unfolding quotes.quoted
sound_quoted text n bytes e =
    elim (chosen (has_at text (steps quotes.quoted_byte text).1 34) _ _ _ e) [
      | inl there ↦
          let f : ((steps quotes.quoted_byte text).0, (steps quotes.quoted_byte text).1 + 1) ≡ (bytes, n) = unsome ((steps quotes.quoted_byte text).0, (steps quotes.quoted_byte text).1 + 1) (bytes, n) there.1 in (
            (steps quotes.quoted_byte text).1,
            subst (InTurn StandsFor text (steps quotes.quoted_byte text).1) (ap (λ (r : List ℕ × ℕ). r.0) f) (steps_in_turn quotes.quoted_byte StandsFor quoted_moves complete_byte sound_byte text),
            got_at text (steps quotes.quoted_byte text).1 34 there.0,
            sym (ap (λ (r : List ℕ × ℕ). r.1) f),
          )
      | inr missing ↦ absurd (no_some (bytes, n) missing.1)
    ]
