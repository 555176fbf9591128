-- What is read of a bracket is the bracket that its text spells.
use Rattle.std.proofs.Common.{◌≡◌, ◌≢◌, ℕ, zero, suc, ◌+◌, ◌-◌, ◌<◌, Bool, true, false, List, [], ◌∷◌, ◌++◌, length, length-append, append_assoc, take, drop, refl, sym, ap, ◌∙◌, arith, inl, inr, subst, ◌⊎◌, add-one}
use Rattle.std.specs.Prelude.{Option, Some, None, ◌==◌, ◌||◌, ◌&&◌, nat_lt, if◌then◌else◌, slice_get}
use Rattle.std.specs.List.{prefix_len, list_all}
use Rattle.std.proofs.lemmas.Bool.{false≢true, eqb-true, eq-eqb, lt-ltb, ltb-true}
use Rattle.std.proofs.lemmas.List.{take_at, length-take}
use Rattle.std.proofs.lemmas.List.Sums.{prefix_len-le-length}
use Rattle.cs_bytes.proofs.Fronts.{front_got, and_true}
use Rattle.cs_bytes.proofs.Runs.{run-passes}
use Rattle.cs_bytes.specs.Places.{has_at}
use Rattle.cs_bytes.specs.Classes.{is_inner}
use Rattle.cs_pattern_parts.specs.Items.Character.{escape}
use Rattle.cs_pattern_parts.specs.Items.Steps.{steps}
use Rattle.cs_pattern_parts.specs.Items.Marks.{part_of, named_part, or_itself, escape_mark, mark, marks}
use Rattle.cs_pattern_parts.specs.Items.Parts.{Shows, InTurn, BeginsWithByte}
use Rattle.cs_pattern_parts.specs.Items.Brackets.{BracketMark, plain, escaped, class, collating, part, IsBracketPart, IsMark, AreMarks, IsClosed}
use Rattle.cs_pattern_parts.specs.Items.Bracket.{nothing, closed, bracket_in, bracket}
use Rattle.cs_pattern_parts.proofs.OnItems.Picked.{not_equal}
use Rattle.cs_pattern_parts.proofs.OnItems.Moving.{chosen, mark_moves}
use Rattle.cs_pattern_parts.proofs.OnItems.Spelled.{unsome, no_some, true_or_false, differ, or_false, complete_escape, sound_escape, steps_in_turn, in_turn_steps}
use Rattle.cs_pattern_parts.proofs.OnItems.Braces.{has_at_end, run_then, split_run}
use Rattle.cs_bytes.proofs.Fronts.{got_at, has_at-got}

-- ---- named parts

all_more : (p : ℕ → Bool) (xs : List ℕ) (c : ℕ) → list_all p xs ≡ true → p c ≡ true → list_all p (xs ++ c ∷ []) ≡ true
all_more p [] c e f = rw f refl
all_more p (x ∷ xs) c e f = let both = and_true (p x) (list_all p xs) e in rw (both.0, all_more p xs c both.1 f) refl

module _ (kind : ℕ) (name more : List ℕ) (all : list_all is_inner name ≡ true) (inner : is_inner kind ≡ true) where
  abbrev behind : List ℕ
  behind = (name ++ kind ∷ 93 ∷ []) ++ more

  behind_name : behind ≡ name ++ kind ∷ (93 ∷ more)
  behind_name = append_assoc name (kind ∷ 93 ∷ []) more

  behind_kind : behind ≡ (name ++ kind ∷ []) ++ 93 ∷ more
  behind_kind = behind_name ∙ sym (append_assoc name (kind ∷ []) (93 ∷ more))

  run_is : prefix_len is_inner behind ≡ length name + 1
  run_is = ap (prefix_len is_inner) behind_kind ∙ run_then is_inner (name ++ kind ∷ []) 93 more (all_more is_inner name kind all inner) refl ∙ length-append name (kind ∷ [])

  closing_is : has_at behind (length name + 1) 93 ≡ true
  closing_is = ap (λ k. has_at behind k 93) (sym (length-append name (kind ∷ []))) ∙ ap (λ (xs : List ℕ). has_at xs (length (name ++ kind ∷ [])) 93) behind_kind ∙ has_at_end (name ++ kind ∷ []) 93 93 more

  kind_is : has_at behind (length name) kind ≡ true
  kind_is = ap (λ (xs : List ℕ). has_at xs (length name) kind) behind_name ∙ has_at_end name kind kind (93 ∷ more) ∙ eq-eqb kind kind refl

  name_is : take (length name) behind ≡ name
  name_is = ap (take (length name)) behind_name ∙ take_at name (kind ∷ (93 ∷ more)) (length name) refl

  part_by_run : (s : ℕ) → prefix_len is_inner behind ≡ s → nat_lt 0 s ≡ true → has_at behind s 93 ≡ true → has_at behind (s - 1) kind ≡ true → named_part (kind ∷ behind) ≡ part_of kind (take (s - 1) behind) (s + 2)
  unfolding named_part
  part_by_run s e f g h = rw e (rw (f, g, h) refl)

  pub part_read : named_part (kind ∷ behind) ≡ part_of kind name (length name + 3)
  part_read =
      let less : length name + 1 - 1 ≡ length name = omega arith in
      let size : length name + 1 + 2 ≡ length name + 3 = omega arith in
      part_by_run (length name + 1) run_is (lt-ltb 0 (length name + 1) (omega arith)) closing_is (ap (λ k. has_at behind k kind) less ∙ kind_is)
      ∙ ap (λ k. part_of kind (take k behind) (length name + 1 + 2)) less
      ∙ ap (λ (xs : List ℕ). part_of kind xs (length name + 1 + 2)) name_is
      ∙ ap (part_of kind name) size

-- what a part's text is behind its `[`
pub record ReadsPart (text : List ℕ) (n : ℕ) (m : BracketMark) : Type 0 where
  pub rest : List ℕ
  pub is : text ≡ 91 ∷ rest
  pub size : ℕ
  pub read : named_part rest ≡ Some (m, size)
  pub sized : n ≡ size + 1

complete_part_of : (text : List ℕ) (n kind : ℕ) (name : List ℕ) (m : BracketMark) → list_all is_inner name ≡ true → is_inner kind ≡ true → part_of kind name (length name + 3) ≡ Some (m, length name + 3) → Shows text (part kind name) n → ReadsPart text n m
complete_part_of text n kind name m all inner e s = record {
  rest = kind ∷ ((name ++ kind ∷ 93 ∷ []) ++ s.rest);
  is = s.is;
  size = length name + 3;
  read = part_read kind name s.rest all inner ∙ e;
  sized = omega (arith, s.size, length-append name (kind ∷ 93 ∷ []));
}

complete_part : (text : List ℕ) (n : ℕ) (m : BracketMark) → IsBracketPart text n m → ReadsPart text n m
complete_part text n _ (IsBracketPart.of_class name all s) = complete_part_of text n 58 name (class name) all refl refl s
complete_part text n _ (IsBracketPart.of_symbol name all s) = complete_part_of text n 46 name collating all refl refl s
complete_part text n _ (IsBracketPart.of_equivalence name all s) = complete_part_of text n 61 name collating all refl refl s

take_next : (xs : List ℕ) (k c : ℕ) → slice_get xs k ≡ Some c → take (k + 1) xs ≡ take k xs ++ c ∷ []
take_next [] k c e = absurd (no_some c e)
take_next (x ∷ xs) zero c e = ap (λ z. z ∷ []) (unsome x c e)
take_next (x ∷ xs) (suc k) c e = let next : suc k + 1 ≡ suc (k + 1) = omega arith in rw next (ap (λ (ys : List ℕ). x ∷ ys) (take_next xs k c e))

sound_part_of : (kind : ℕ) (name : List ℕ) (size : ℕ) (m : BracketMark) (k : ℕ) (text : List ℕ) → list_all is_inner name ≡ true → Shows text (part kind name) (size + 1) → part_of kind name size ≡ Some (m, k) → IsBracketPart text (k + 1) m
sound_part_of kind name size m k text all s e =
    elim (chosen (kind == 58) _ _ _ e) [
      | inl colon ↦
          let f = unsome (class name, size) (m, k) colon.1 in
          let t : Shows text (part 58 name) (size + 1) = subst (λ c. Shows text (part c name) (size + 1)) (eqb-true kind 58 colon.0) s in
          subst (λ (x : BracketMark). IsBracketPart text (k + 1) x) (ap (λ (r : BracketMark × ℕ). r.0) f) (subst (λ j. IsBracketPart text (j + 1) (class name)) (ap (λ (r : BracketMark × ℕ). r.1) f) (IsBracketPart.of_class name all t))
      | inr other ↦
          elim (chosen ((kind == 46) || (kind == 61)) _ _ _ other.1) [
            | inl two ↦
                let f = unsome (collating, size) (m, k) two.1 in
                let t : IsBracketPart text (size + 1) collating = by_kind (kind == 46) refl two.0 in
                subst (λ (x : BracketMark). IsBracketPart text (k + 1) x) (ap (λ (r : BracketMark × ℕ). r.0) f) (subst (λ j. IsBracketPart text (j + 1) collating) (ap (λ (r : BracketMark × ℕ). r.1) f) t)
            | inr none ↦ absurd (no_some (m, k) none.1)
          ]
    ]
  where
    by_kind : (v : Bool) → (kind == 46) ≡ v → (v || (kind == 61)) ≡ true → IsBracketPart text (size + 1) collating
    by_kind true e f = IsBracketPart.of_symbol name all (subst (λ c. Shows text (part c name) (size + 1)) (eqb-true kind 46 e) s)
    by_kind false e f = IsBracketPart.of_equivalence name all (subst (λ c. Shows text (part c name) (size + 1)) (eqb-true kind 61 f) s)

named_part_none : named_part [] ≡ None
unfolding named_part
named_part_none = refl

named_part_by : (kind : ℕ) (rest : List ℕ) → named_part (kind ∷ rest) ≡ (if nat_lt 0 (prefix_len is_inner rest) && has_at rest (prefix_len is_inner rest) 93 && has_at rest (prefix_len is_inner rest - 1) kind then part_of kind (take (prefix_len is_inner rest - 1) rest) (prefix_len is_inner rest + 2) else None)
unfolding named_part
named_part_by kind rest = refl

sound_part : (rest : List ℕ) (m : BracketMark) (k : ℕ) → named_part rest ≡ Some (m, k) → IsBracketPart (91 ∷ rest) (k + 1) m
sound_part [] m k e = absurd (no_some (m, k) (sym named_part_none ∙ e))
sound_part (kind ∷ rest) m k e =
    elim (chosen (nat_lt 0 (prefix_len is_inner rest) && has_at rest (prefix_len is_inner rest) 93 && has_at rest (prefix_len is_inner rest - 1) kind) _ _ _ (sym (named_part_by kind rest) ∙ e)) [
      | inl there ↦
          let both = and_true (nat_lt 0 (prefix_len is_inner rest) && has_at rest (prefix_len is_inner rest) 93) (has_at rest (prefix_len is_inner rest - 1) kind) there.0 in
          let first = and_true (nat_lt 0 (prefix_len is_inner rest)) (has_at rest (prefix_len is_inner rest) 93) both.0 in
          let some : 0 < prefix_len is_inner rest = ltb-true 0 (prefix_len is_inner rest) first.0 in
          let s : ℕ = prefix_len is_inner rest in
          let next : prefix_len is_inner rest - 1 + 1 ≡ prefix_len is_inner rest = omega arith in
          let name_kind : take (prefix_len is_inner rest) rest ≡ take (prefix_len is_inner rest - 1) rest ++ kind ∷ [] = ap (λ j. take j rest) (sym next) ∙ take_next rest (prefix_len is_inner rest - 1) kind (got_at rest (prefix_len is_inner rest - 1) kind both.1) in
          let whole : rest ≡ (take (prefix_len is_inner rest - 1) rest ++ kind ∷ 93 ∷ []) ++ drop (prefix_len is_inner rest + 1) rest =
          split_run is_inner rest 93 first.1 ∙ ap (λ (xs : List ℕ). xs ++ 93 ∷ drop (prefix_len is_inner rest + 1) rest) name_kind
          ∙ append_assoc (take (prefix_len is_inner rest - 1) rest) (kind ∷ []) (93 ∷ drop (prefix_len is_inner rest + 1) rest)
          ∙ sym (append_assoc (take (prefix_len is_inner rest - 1) rest) (kind ∷ 93 ∷ []) (drop (prefix_len is_inner rest + 1) rest)) in
          let le = prefix_len-le-length is_inner rest in
          sound_part_of kind (take (prefix_len is_inner rest - 1) rest) (prefix_len is_inner rest + 2) m k (91 ∷ kind ∷ rest)
          (run-passes is_inner (prefix_len is_inner rest - 1) rest (omega arith))
          (record {
            rest = drop (prefix_len is_inner rest + 1) rest;
            is = ap (λ (xs : List ℕ). 91 ∷ kind ∷ xs) whole;
            size = omega (arith, length-append (take (prefix_len is_inner rest - 1) rest) (kind ∷ 93 ∷ []), length-take (prefix_len is_inner rest - 1) rest, le, some);
          })
          there.1
      | inr missing ↦ absurd (no_some (m, k) missing.1)
    ]

-- ---- marks

mark_escape : (rest : List ℕ) → mark (92 ∷ rest) ≡ escape_mark (escape rest)
unfolding mark
mark_escape rest = refl

mark_bracket : (rest : List ℕ) → mark (91 ∷ rest) ≡ or_itself (named_part rest)
unfolding mark
mark_bracket rest = refl

mark_plain : (b : ℕ) (rest : List ℕ) → ((b == 10) || (b == 93)) ≡ false → (b == 92) ≡ false → (b == 91) ≡ false → mark (b ∷ rest) ≡ Some (plain b, 1)
unfolding mark
mark_plain b rest e f g = rw (e, f, g) refl

mark_none : (b : ℕ) (rest : List ℕ) → ((b == 10) || (b == 93)) ≡ true → mark (b ∷ rest) ≡ None
unfolding mark
mark_none b rest e = rw e refl

mark_end : mark [] ≡ None
unfolding mark
mark_end = refl

neither : (b : ℕ) → b ≢ 10 → b ≢ 93 → ((b == 10) || (b == 93)) ≡ false
neither b p q = let e = not_equal b 10 p in let f = not_equal b 93 q in rw (e, f) refl

part_or_itself : (rest : List ℕ) → ((n : ℕ) (m : BracketMark) → IsBracketPart (91 ∷ rest) n m → ⊥) → (o : Option (BracketMark × ℕ)) → named_part rest ≡ o → or_itself o ≡ Some (plain 91, 1)
part_or_itself rest never None e = refl
part_or_itself rest never (Some (m, k)) e = absurd (never (k + 1) m (sound_part rest m k e))

complete_itself : (b : ℕ) (rest : List ℕ) → b ≢ 10 → b ≢ 93 → b ≢ 92 → ((n : ℕ) (m : BracketMark) → IsBracketPart (b ∷ rest) n m → ⊥) → (v : Bool) → (b == 91) ≡ v → mark (b ∷ rest) ≡ Some (plain b, 1)
complete_itself b rest p q r never true e =
    let same : b ≡ 91 = eqb-true b 91 e in
    let no_part : (n : ℕ) (m : BracketMark) → IsBracketPart (91 ∷ rest) n m → ⊥ = λ n m h. never n m (subst (λ c. IsBracketPart (c ∷ rest) n m) (sym same) h) in
    ap (λ c. mark (c ∷ rest)) same ∙ mark_bracket rest ∙ part_or_itself rest no_part (named_part rest) refl ∙ ap (λ c. Some (plain c, 1)) (sym same)
complete_itself b rest p q r never false e = mark_plain b rest (neither b p q) (not_equal b 92 r) e

complete_mark : (text : List ℕ) (n : ℕ) (m : BracketMark) → IsMark text n m → mark text ≡ Some (m, n)
complete_mark _ _ _ (IsMark.itself b text p q r never) = complete_itself b text p q r never (b == 91) refl
complete_mark _ _ _ (IsMark.escape text n byte e) = mark_escape text ∙ ap escape_mark (complete_escape text n byte e)
complete_mark _ _ _ (IsMark.named text n m h) =
    let r = complete_part text n m h in
    ap mark r.is ∙ mark_bracket r.rest ∙ ap or_itself r.read ∙ ap (λ k. Some (m, k)) (sym r.sized)

sound_escape_mark : (rest : List ℕ) (n : ℕ) (m : BracketMark) (o : Option (Option ℕ × ℕ)) → escape rest ≡ o → escape_mark o ≡ Some (m, n) → IsMark (92 ∷ rest) n m
sound_escape_mark rest n m None e f = absurd (no_some (m, n) f)
sound_escape_mark rest n m (Some (byte, k)) e f =
    let g = unsome (escaped byte, k + 1) (m, n) f in
    subst (λ (x : BracketMark). IsMark (92 ∷ rest) n x) (ap (λ (r : BracketMark × ℕ). r.0) g) (subst (λ j. IsMark (92 ∷ rest) j (escaped byte)) (ap (λ (r : BracketMark × ℕ). r.1) g) (IsMark.escape rest k byte (sound_escape rest k byte e)))

sound_or_itself : (rest : List ℕ) (n : ℕ) (m : BracketMark) (o : Option (BracketMark × ℕ)) → named_part rest ≡ o → or_itself o ≡ Some (m, n) → IsMark (91 ∷ rest) n m
sound_or_itself rest n m None e f =
    let g = unsome (plain 91, 1) (m, n) f in
    subst (λ (x : BracketMark). IsMark (91 ∷ rest) n x) (ap (λ (r : BracketMark × ℕ). r.0) g) (subst (λ j. IsMark (91 ∷ rest) j (plain 91)) (ap (λ (r : BracketMark × ℕ). r.1) g)
    (IsMark.itself 91 rest (differ 91 10 refl) (differ 91 93 refl) (differ 91 92 refl) (λ k x h. no_part k x (complete_part (91 ∷ rest) k x h))))
  where
    no_part : (k : ℕ) (x : BracketMark) → ReadsPart (91 ∷ rest) k x → ⊥
    no_part k x r =
        let same : rest ≡ r.rest = ap (drop 1) r.is in
        no_some (x, r.size) (sym e ∙ ap named_part same ∙ r.read)
sound_or_itself rest n m (Some (x, k)) e f =
    let g = unsome (x, k + 1) (m, n) f in
    subst (λ (y : BracketMark). IsMark (91 ∷ rest) n y) (ap (λ (r : BracketMark × ℕ). r.0) g) (subst (λ j. IsMark (91 ∷ rest) j x) (ap (λ (r : BracketMark × ℕ). r.1) g) (IsMark.named (91 ∷ rest) (k + 1) x (sound_part rest x k e)))

begins_bracket : (text : List ℕ) (n : ℕ) (m : BracketMark) → IsBracketPart text n m → BeginsWithByte text 91
begins_bracket text n m h = let r = complete_part text n m h in ap (λ (xs : List ℕ). slice_get xs 0) r.is

sound_mark : (text : List ℕ) (n : ℕ) (m : BracketMark) → mark text ≡ Some (m, n) → IsMark text n m
sound_mark [] n m e = absurd (no_some (m, n) (sym mark_end ∙ e))
sound_mark (b ∷ rest) n m e =
    elim (true_or_false ((b == 10) || (b == 93))) [
      | inl none ↦ absurd (no_some (m, n) (sym (mark_none b rest none) ∙ e))
      | inr some ↦
          elim (true_or_false (b == 92)) [
            | inl back ↦
                let same : b ≡ 92 = eqb-true b 92 back in
                subst (λ c. IsMark (c ∷ rest) n m) (sym same) (sound_escape_mark rest n m (escape rest) refl (sym (mark_escape rest) ∙ ap (λ c. mark (c ∷ rest)) (sym same) ∙ e))
            | inr other ↦
                elim (true_or_false (b == 91)) [
                  | inl opening ↦
                      let same : b ≡ 91 = eqb-true b 91 opening in
                      subst (λ c. IsMark (c ∷ rest) n m) (sym same) (sound_or_itself rest n m (named_part rest) refl (sym (mark_bracket rest) ∙ ap (λ c. mark (c ∷ rest)) (sym same) ∙ e))
                  | inr not_opening ↦
                      let g = unsome (plain b, 1) (m, n) (sym (mark_plain b rest some other not_opening) ∙ e) in
                      let both = or_false (b == 10) (b == 93) some in
                      subst (λ (x : BracketMark). IsMark (b ∷ rest) n x) (ap (λ (r : BracketMark × ℕ). r.0) g) (subst (λ j. IsMark (b ∷ rest) j (plain b)) (ap (λ (r : BracketMark × ℕ). r.1) g)
                      (IsMark.itself b rest (differ b 10 both.0) (differ b 93 both.1) (differ b 92 other) (λ k x h. differ b 91 not_opening (unsome b 91 (begins_bracket (b ∷ rest) k x h)))))
                ]
          ]
    ]

-- ---- all marks

mark_closing : (rest : List ℕ) → mark (93 ∷ rest) ≡ None
mark_closing rest = mark_none 93 rest refl

no_more_marks : (text : List ℕ) (n : ℕ) → slice_get text n ≡ Some 93 → mark (drop n text) ≡ None
no_more_marks text n e = ap mark (front_got text n 93 e) ∙ mark_closing (drop (n + 1) text)

marks_closing : (text : List ℕ) → marks (93 ∷ text) ≡ (plain 93 ∷ (steps mark text).0, 1 + (steps mark text).1)
unfolding marks
marks_closing text = refl

marks_others : (text : List ℕ) → has_at text 0 93 ≡ false → marks text ≡ steps mark text
unfolding marks
marks_others text e = rw e refl

no_begin : (text : List ℕ) (b : ℕ) → (BeginsWithByte text b → ⊥) → has_at text 0 b ≡ false
no_begin text b never = by_test (has_at text 0 b) refl
  where
    by_test : (v : Bool) → has_at text 0 b ≡ v → v ≡ false
    by_test true e = absurd (never (got_at text 0 b e))
    by_test false e = refl

no_begins : (text : List ℕ) (b : ℕ) → has_at text 0 b ≡ false → BeginsWithByte text b → ⊥
no_begins text b e h = false≢true (sym e ∙ has_at-got text 0 b h)

complete_marks : (text : List ℕ) (n : ℕ) (ms : List BracketMark) → AreMarks text n ms → slice_get text n ≡ Some 93 → marks text ≡ (ms, n)
complete_marks _ _ _ (AreMarks.closing_first text n ms t) e =
    let there : slice_get text n ≡ Some 93 = ap (slice_get (93 ∷ text)) (sym (add-one n)) ∙ e in
    let size : 1 + n ≡ n + 1 = omega arith in
    marks_closing text ∙ ap (λ (r : List BracketMark × ℕ). (plain 93 ∷ r.0, 1 + r.1)) (in_turn_steps mark IsMark mark_moves complete_mark sound_mark text n ms t (no_more_marks text n there))
    ∙ ap (λ k. (plain 93 ∷ ms, k)) size
complete_marks _ _ _ (AreMarks.others text n ms never t) e =
    marks_others text (no_begin text 93 never) ∙ in_turn_steps mark IsMark mark_moves complete_mark sound_mark text n ms t (no_more_marks text n e)

sound_marks : (text : List ℕ) → AreMarks text (marks text).1 (marks text).0
sound_marks text = by_first text (has_at text 0 93) refl
  where
    turn : (xs : List ℕ) → InTurn IsMark xs (steps mark xs).1 (steps mark xs).0
    turn xs = steps_in_turn mark IsMark mark_moves complete_mark sound_mark xs

    by_first : (xs : List ℕ) (v : Bool) → has_at xs 0 93 ≡ v → AreMarks xs (marks xs).1 (marks xs).0
    by_first [] true e = absurd (false≢true e)
    by_first (b ∷ xs) true e =
        let same : b ≡ 93 = eqb-true b 93 e in
        let size : (steps mark xs).1 + 1 ≡ 1 + (steps mark xs).1 = omega arith in
        subst (λ c. AreMarks (c ∷ xs) (marks (c ∷ xs)).1 (marks (c ∷ xs)).0) (sym same)
        (subst (λ (r : List BracketMark × ℕ). AreMarks (93 ∷ xs) r.1 r.0) (sym (marks_closing xs))
        (subst (λ k. AreMarks (93 ∷ xs) k (plain 93 ∷ (steps mark xs).0)) size (AreMarks.closing_first xs (steps mark xs).1 (steps mark xs).0 (turn xs))))
    by_first xs false e = subst (λ (r : List BracketMark × ℕ). AreMarks xs r.1 r.0) (sym (marks_others xs e)) (AreMarks.others xs (steps mark xs).1 (steps mark xs).0 (no_begins xs 93 e) (turn xs))

-- ---- closed brackets

bracket_in_is : (inverted : Bool) (skipped : ℕ) (text : List ℕ) (n : ℕ) (ms : List BracketMark) → marks text ≡ (ms, n) → slice_get text n ≡ Some 93 → bracket_in inverted skipped text ≡ closed inverted ms (skipped + (n + 1))
bracket_in_is inverted skipped text n ms e f =
    let there : has_at text n 93 ≡ true = has_at-got text n 93 f in
    ap (λ (r : List BracketMark × ℕ). if has_at text r.1 93 then closed inverted r.0 (skipped + (r.1 + 1)) else nothing) e
    ∙ ap (λ v. if v then closed inverted ms (skipped + (n + 1)) else nothing) there

bracket_upright : (text : List ℕ) → has_at text 0 94 ≡ false → bracket text ≡ bracket_in false 0 text
unfolding bracket
bracket_upright text e = rw e refl

bracket_inverted : (text : List ℕ) → bracket (94 ∷ text) ≡ bracket_in true 1 text
unfolding bracket
bracket_inverted text = refl

-- what a closed bracket's text is behind its `[`
pub record ReadsClosed (text : List ℕ) (n : ℕ) (inverted : Bool) (ms : List BracketMark) : Type 0 where
  pub rest : List ℕ
  pub is : text ≡ 91 ∷ rest
  pub size : ℕ
  pub read : bracket rest ≡ closed inverted ms size
  pub sized : n ≡ size + 1

pub complete_closed : (text : List ℕ) (n : ℕ) (inverted : Bool) (ms : List BracketMark) → IsClosed text n inverted ms → ReadsClosed text n inverted ms
complete_closed _ _ _ _ (IsClosed.upright text n ms never are e) = record {
  rest = text;
  is = refl;
  size = 0 + (n + 1);
  read = bracket_upright text (no_begin text 94 never) ∙ bracket_in_is false 0 text n ms (complete_marks text n ms are e) e;
  sized = omega arith;
}
complete_closed _ _ _ _ (IsClosed.inverted text n ms are e) = record {
  rest = 94 ∷ text;
  is = refl;
  size = 1 + (n + 1);
  read = bracket_inverted text ∙ bracket_in_is true 1 text n ms (complete_marks text n ms are e) e;
  sized = omega arith;
}

-- it is no closed bracket, or it is one
pub record FindsClosed (rest : List ℕ) : Type 0 where
  pub inverted : Bool
  pub marks : List BracketMark
  pub size : ℕ
  pub read : bracket rest ≡ closed inverted marks size
  pub closes : IsClosed (91 ∷ rest) (size + 1) inverted marks

in_closes : (inverted : Bool) (skipped : ℕ) (text : List ℕ) → (slice_get text (marks text).1 ≡ Some 93 → bracket_in inverted skipped text ≡ closed inverted (marks text).0 (skipped + ((marks text).1 + 1)))
in_closes inverted skipped text f = bracket_in_is inverted skipped text (marks text).1 (marks text).0 refl f

in_nothing : (inverted : Bool) (skipped : ℕ) (text : List ℕ) → has_at text (marks text).1 93 ≡ false → bracket_in inverted skipped text ≡ nothing
in_nothing inverted skipped text e = ap (λ v. if v then closed inverted (marks text).0 (skipped + ((marks text).1 + 1)) else nothing) e

pub find_closed : (rest : List ℕ) → (bracket rest ≡ nothing) ⊎ FindsClosed rest
find_closed rest = by_caret rest (has_at rest 0 94) refl
  where
    by_caret : (xs : List ℕ) (v : Bool) → has_at xs 0 94 ≡ v → (bracket xs ≡ nothing) ⊎ FindsClosed xs
    by_caret [] true e = absurd (false≢true e)
    by_caret (b ∷ xs) true e =
        let same : b ≡ 94 = eqb-true b 94 e in
        subst (λ c. (bracket (c ∷ xs) ≡ nothing) ⊎ FindsClosed (c ∷ xs)) (sym same)
        (elim (true_or_false (has_at xs (marks xs).1 93)) [
          | inl there ↦
              let f = got_at xs (marks xs).1 93 there in
              let size : (marks xs).1 + 3 ≡ 1 + ((marks xs).1 + 1) + 1 = omega arith in
              inr (record {
                inverted = true;
                marks = (marks xs).0;
                size = 1 + ((marks xs).1 + 1);
                read = bracket_inverted xs ∙ in_closes true 1 xs f;
                closes = subst (λ k. IsClosed (91 ∷ 94 ∷ xs) k true (marks xs).0) size (IsClosed.inverted xs (marks xs).1 (marks xs).0 (sound_marks xs) f);
              })
          | inr missing ↦ inl (bracket_inverted xs ∙ in_nothing true 1 xs missing)
        ])
    by_caret xs false e =
        elim (true_or_false (has_at xs (marks xs).1 93)) [
          | inl there ↦
              let f = got_at xs (marks xs).1 93 there in
              let size : (marks xs).1 + 2 ≡ 0 + ((marks xs).1 + 1) + 1 = omega arith in
              inr (record {
                inverted = false;
                marks = (marks xs).0;
                size = 0 + ((marks xs).1 + 1);
                read = bracket_upright xs e ∙ in_closes false 0 xs f;
                closes = subst (λ k. IsClosed (91 ∷ xs) k false (marks xs).0) size (IsClosed.upright xs (marks xs).1 (marks xs).0 (no_begins xs 94 e) (sound_marks xs) f);
              })
          | inr missing ↦ inl (bracket_upright xs e ∙ in_nothing false 0 xs missing)
        ]
