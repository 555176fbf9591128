-- What front_of tells of the front of a text is what the text spells there.
use Rattle.std.proofs.Common.{◌≡◌, ℕ, ◌+◌, Bool, true, false, List, [], ◌∷◌, ◌++◌, length, length-append, append_assoc, drop, refl, sym, ap, ◌∙◌, arith, inl, inr, subst, ◌⊎◌}
use Rattle.std.specs.Prelude.{Option, Some, None, Result, Ok, Err, IfOk, ◌==◌, ◌||◌, if◌then◌else◌}
use Rattle.std.specs.List.{list_any}
use Rattle.std.proofs.lemmas.Bool.{false≢true, eqb-true}
use Rattle.cs_bytes.proofs.Fronts.{front_got}
use Rattle.cs_pattern_parts.specs.declared.items.item.Repetition.{Repetition}
use Rattle.cs_pattern_parts.specs.declared.items.item.Repetition.TheVariants.{Optional, AtLeast}
use Rattle.cs_pattern_parts.specs.declared.items.front.Stop.{Stop}
use Rattle.cs_pattern_parts.specs.declared.items.front.Stop.TheVariants.{Anchor, Trailing, Collation, Syntax}
use Rattle.cs_pattern_parts.specs.Items.ByteKind.{is_plain}
use Rattle.cs_pattern_parts.specs.Items.Character.{escape}
use Rattle.cs_pattern_parts.specs.Items.Quoted as quotes
use Rattle.cs_pattern_parts.specs.Items.Bracket.{Bracket, set, collation, nothing, set_or_nothing, closed, bracket, is_collating, turned, member_bytes, members}
use Rattle.cs_pattern_parts.specs.Items.Brackets.{BracketMark, Member, IsBracket, BeginsCollation}
use Rattle.cs_pattern_parts.specs.Items.Interval.{interval, name}
use Rattle.cs_pattern_parts.specs.Items.Items.{Item, class, quoted, named, opening, closing, bar, repetition}
use Rattle.cs_pattern_parts.specs.Items.Parts.{Shows, BeginsWithByte}
use Rattle.cs_pattern_parts.specs.Items.Spelling.{Spells, SpellsClass, SpellsRepetition, IsQuoted, braced, BeginsNothing, IsStoppedBy}
use Rattle.cs_pattern_parts.specs.Items.Front.{Front, item, stop, one_byte_item, any_byte, escape_front, quoted_front, bracket_front, name_front, brace_front, sign_front, front}
use Rattle.cs_pattern_parts.specs.declared.items.front.Front as code_fronts
use Rattle.cs_pattern_parts.specs.declared.items.front.Front.TheVariants as front_kinds
use Rattle.cs_pattern_parts.specs.Items.Views.{item_of, front_of, IsFront}
use Rattle.cs_pattern_parts.proofs.OnItems.Picked.{not_equal}
use Rattle.cs_pattern_parts.proofs.OnItems.Moving.{chosen}
use Rattle.cs_pattern_parts.proofs.OnItems.Spelled.{complete_escape, sound_escape, complete_quoted, sound_quoted}
use Rattle.cs_pattern_parts.proofs.OnItems.Bracketed.{complete_closed, find_closed}
use Rattle.cs_pattern_parts.proofs.OnItems.Grouped.{MakesSet, complete_members, sound_members, sound_set, complete_set, sound_collating, complete_collating, allowed_collates_not}
use Rattle.cs_pattern_parts.proofs.OnItems.Braces.{complete_interval, sound_interval, complete_name, sound_name, name_no_interval}

-- ---- what is spelled is found

plain_not : (b c : ℕ) → is_plain b ≡ true → is_plain c ≡ false → (b == c) ≡ false
plain_not b c e f = not_equal b c (λ is. false≢true (sym f ∙ ap is_plain (sym is) ∙ e))

front_plain : (b : ℕ) (rest : List ℕ) → is_plain b ≡ true → front (b ∷ rest) ≡ item (one_byte_item b) 1
unfolding front sign_front
front_plain b rest e =
    let n92 = plain_not b 92 e refl in
    let n34 = plain_not b 34 e refl in
    let n91 = plain_not b 91 e refl in
    let n123 = plain_not b 123 e refl in
    let n46 = plain_not b 46 e refl in
    let n40 = plain_not b 40 e refl in
    let n41 = plain_not b 41 e refl in
    let n124 = plain_not b 124 e refl in
    let n42 = plain_not b 42 e refl in
    let n43 = plain_not b 43 e refl in
    let n63 = plain_not b 63 e refl in
    let n94 = plain_not b 94 e refl in
    let n36 = plain_not b 36 e refl in
    let n47 = plain_not b 47 e refl in
    let n32 = plain_not b 32 e refl in
    let n9 = plain_not b 9 e refl in
    let n13 = plain_not b 13 e refl in
    let n10 = plain_not b 10 e refl in
    rw (n92, n34, n91, n123, n46, n40, n41, n124, n42, n43, n63, n94, n36, n47, n32, n9, n13, n10) refl

front_escape : (rest : List ℕ) → front (92 ∷ rest) ≡ escape_front (escape rest)
unfolding front
front_escape rest = refl

front_quote : (rest : List ℕ) → front (34 ∷ rest) ≡ quoted_front (quotes.quoted rest)
unfolding front
front_quote rest = refl

front_bracket : (rest : List ℕ) → front (91 ∷ rest) ≡ bracket_front (bracket rest)
unfolding front
front_bracket rest = refl

front_brace : (rest : List ℕ) → front (123 ∷ rest) ≡ brace_front (interval rest) (name rest)
unfolding front
front_brace rest = refl

front_full_stop : (rest : List ℕ) → front (46 ∷ rest) ≡ item any_byte 1
unfolding front sign_front
front_full_stop rest = refl

front_opening : (rest : List ℕ) → front (40 ∷ rest) ≡ item opening 1
unfolding front sign_front
front_opening rest = refl

front_closing : (rest : List ℕ) → front (41 ∷ rest) ≡ item closing 1
unfolding front sign_front
front_closing rest = refl

front_bar : (rest : List ℕ) → front (124 ∷ rest) ≡ item bar 1
unfolding front sign_front
front_bar rest = refl

front_star : (rest : List ℕ) → front (42 ∷ rest) ≡ item (repetition (AtLeast 0)) 1
unfolding front sign_front
front_star rest = refl

front_plus : (rest : List ℕ) → front (43 ∷ rest) ≡ item (repetition (AtLeast 1)) 1
unfolding front sign_front
front_plus rest = refl

front_question : (rest : List ℕ) → front (63 ∷ rest) ≡ item (repetition Optional) 1
unfolding front sign_front
front_question rest = refl

-- a sign that is shown is found
shown : (text : List ℕ) (b n : ℕ) (i : Item) → ((rest : List ℕ) → front (b ∷ rest) ≡ item i 1) → Shows text (b ∷ []) n → front text ≡ item i n
shown text b n i h s = ap front s.is ∙ h s.rest ∙ ap (item i) (sym s.size)

braced_text : (text bytes : List ℕ) (n : ℕ) (s : Shows text (braced bytes) n) → text ≡ 123 ∷ (bytes ++ 125 ∷ s.rest)
braced_text text bytes n s = s.is ∙ ap (λ (xs : List ℕ). 123 ∷ xs) (append_assoc bytes (125 ∷ []) s.rest)

braced_size : (text bytes : List ℕ) (n : ℕ) → Shows text (braced bytes) n → length bytes + 1 + 1 ≡ n
braced_size text bytes n s = omega (arith, s.size, length-append bytes (125 ∷ []))

closed_by : (inverted : Bool) (marks : List BracketMark) (size : ℕ) (v : Bool) → list_any is_collating marks ≡ v → closed inverted marks size ≡ (if v then collation else set_or_nothing (turned inverted (member_bytes marks)) size)
closed_by inverted marks size v e = ap (λ w. if w then collation else set_or_nothing (turned inverted (member_bytes marks)) size) e

complete_bracket : (text : List ℕ) (n : ℕ) (s : List ℕ) → IsBracket text n s → front text ≡ item (class s) n
complete_bracket text n s b =
    let c = complete_closed text n b.inverted b.marks b.closed in
    let same : members b.marks ≡ b.members = complete_members b.marks b.members b.grouped in
    let makes : MakesSet b.inverted b.members s = record { allowed = b.allowed; is_set = b.is_set; each = b.each; some = b.some } in
    let made : turned b.inverted (member_bytes b.marks) ≡ Some s = complete_set b.inverted b.marks s (subst (λ (ms : List Member). MakesSet b.inverted ms s) (sym same) makes) in
    ap front c.is ∙ front_bracket c.rest ∙ ap bracket_front c.read
    ∙ ap bracket_front (closed_by b.inverted b.marks c.size false (allowed_collates_not b.marks b.members b.grouped b.allowed) ∙ ap (λ o. set_or_nothing o c.size) made)
    ∙ ap (item (class s)) (sym c.sized)

complete_class : (text : List ℕ) (n : ℕ) (s : List ℕ) → SpellsClass text n s → front text ≡ item (class s) n
complete_class text n _ (SpellsClass.byte b e h) = shown text b n (one_byte_item b) (λ rest. front_plain b rest e) h
complete_class text n _ (SpellsClass.escape rest m b is e size) =
    ap front is ∙ front_escape rest ∙ ap escape_front (complete_escape rest m (Some b) e) ∙ ap (item (one_byte_item b)) (sym size)
complete_class text n _ (SpellsClass.full_stop h) = shown text 46 n any_byte front_full_stop h
complete_class text n _ (SpellsClass.bracket s b) = complete_bracket text n s b

complete_repetition : (text : List ℕ) (n : ℕ) (r : Repetition) → SpellsRepetition text n r → front text ≡ item (repetition r) n
complete_repetition text n _ (SpellsRepetition.star h) = shown text 42 n (repetition (AtLeast 0)) front_star h
complete_repetition text n _ (SpellsRepetition.plus_sign h) = shown text 43 n (repetition (AtLeast 1)) front_plus h
complete_repetition text n _ (SpellsRepetition.question_mark h) = shown text 63 n (repetition Optional) front_question h
complete_repetition text n _ (SpellsRepetition.interval bytes r i h) =
    ap front (braced_text text bytes n h) ∙ front_brace (bytes ++ 125 ∷ h.rest)
    ∙ ap (λ o. brace_front o (name (bytes ++ 125 ∷ h.rest))) (complete_interval bytes h.rest r i)
    ∙ ap (item (repetition r)) (braced_size text bytes n h)

complete_quote : (text : List ℕ) (n : ℕ) (bytes : List ℕ) → IsQuoted text n bytes → front text ≡ item (quoted bytes) n
complete_quote _ _ _ (IsQuoted.closed text n bytes parts e) =
    let size : n + 1 + 1 ≡ n + 2 = omega arith in
    front_quote text ∙ ap quoted_front (complete_quoted text n bytes parts e) ∙ ap (item (quoted bytes)) size

pub complete : (text : List ℕ) (n : ℕ) (i : Item) → Spells text n i → front text ≡ item i n
complete text n (class s) h = complete_class text n s h
complete text n (quoted bytes) h = complete_quote text n bytes h
complete text n (named bytes) h =
    ap front (braced_text text bytes n h.1) ∙ front_brace (bytes ++ 125 ∷ h.1.rest)
    ∙ ap (λ o. brace_front o (name (bytes ++ 125 ∷ h.1.rest))) (name_no_interval bytes h.1.rest h.0)
    ∙ ap name_front (complete_name bytes h.1.rest h.0)
    ∙ ap (item (named bytes)) (braced_size text bytes n h.1)
complete text n opening h = shown text 40 n opening front_opening h
complete text n closing h = shown text 41 n closing front_closing h
complete text n bar h = shown text 124 n bar front_bar h
complete text n (repetition r) h = complete_repetition text n r h

-- ---- what is found is spelled

-- what the front tells is so; of Syntax nothing is told yet
abbrev FrontIs : List ℕ → Front → Type 0
FrontIs text (item i n) = Spells text n i
FrontIs text (stop Anchor) = BeginsWithByte text 94 ⊎ BeginsWithByte text 36
FrontIs text (stop Trailing) = BeginsWithByte text 47
FrontIs text (stop Collation) = BeginsCollation text
FrontIs text (stop Syntax) = Unit {0}

choose : (P : Front → Type 0) (v : Bool) (x y : Front) → (v ≡ true → P x) → (v ≡ false → P y) → P (if v then x else y)
choose P true x y p q = p refl
choose P false x y p q = q refl

shows_one : (b c : ℕ) (rest : List ℕ) → (b == c) ≡ true → Shows (b ∷ rest) (c ∷ []) 1
shows_one b c rest e = record { rest = rest; is = ap (λ d. d ∷ rest) (eqb-true b c e); size = refl }

begins_one : (b c : ℕ) (rest : List ℕ) → (b == c) ≡ true → BeginsWithByte (b ∷ rest) c
begins_one b c rest e = ap Some (eqb-true b c e)

anchor_is : (b : ℕ) (rest : List ℕ) → ((b == 94) || (b == 36)) ≡ true → BeginsWithByte (b ∷ rest) 94 ⊎ BeginsWithByte (b ∷ rest) 36
anchor_is b rest e = by_test (b == 94) refl e
  where
    by_test : (v : Bool) → (b == 94) ≡ v → (v || (b == 36)) ≡ true → BeginsWithByte (b ∷ rest) 94 ⊎ BeginsWithByte (b ∷ rest) 36
    by_test true f g = inl (begins_one b 94 rest f)
    by_test false f g = inr (begins_one b 36 rest g)

sign_is : (b : ℕ) (rest : List ℕ) → FrontIs (b ∷ rest) (sign_front b)
unfolding sign_front
sign_is b rest =
    choose (FrontIs (b ∷ rest)) (b == 46) (item any_byte 1) _ (λ e. SpellsClass.full_stop (shows_one b 46 rest e)) (λ _.
    choose (FrontIs (b ∷ rest)) (b == 40) (item opening 1) _ (shows_one b 40 rest) (λ _.
    choose (FrontIs (b ∷ rest)) (b == 41) (item closing 1) _ (shows_one b 41 rest) (λ _.
    choose (FrontIs (b ∷ rest)) (b == 124) (item bar 1) _ (shows_one b 124 rest) (λ _.
    choose (FrontIs (b ∷ rest)) (b == 42) (item (repetition (AtLeast 0)) 1) _ (λ e. SpellsRepetition.star (shows_one b 42 rest e)) (λ _.
    choose (FrontIs (b ∷ rest)) (b == 43) (item (repetition (AtLeast 1)) 1) _ (λ e. SpellsRepetition.plus_sign (shows_one b 43 rest e)) (λ _.
    choose (FrontIs (b ∷ rest)) (b == 63) (item (repetition Optional) 1) _ (λ e. SpellsRepetition.question_mark (shows_one b 63 rest e)) (λ _.
    choose (FrontIs (b ∷ rest)) ((b == 94) || (b == 36)) (stop Anchor) _ (anchor_is b rest) (λ _.
    choose (FrontIs (b ∷ rest)) (b == 47) (stop Trailing) _ (begins_one b 47 rest) (λ _.
    choose (FrontIs (b ∷ rest)) (is_plain b) (item (one_byte_item b) 1) (stop Syntax) (λ e. SpellsClass.byte b e (record { rest = rest; is = refl; size = refl })) (λ _. tt))))))))))

escape_is : (rest : List ℕ) (o : Option (Option ℕ × ℕ)) → escape rest ≡ o → FrontIs (92 ∷ rest) (escape_front o)
escape_is rest None e = tt
escape_is rest (Some (None, n)) e = tt
escape_is rest (Some (Some b, n)) e = SpellsClass.escape rest n b refl (sound_escape rest n (Some b) e) refl

quoted_is : (rest : List ℕ) (o : Option (List ℕ × ℕ)) → quotes.quoted rest ≡ o → FrontIs (34 ∷ rest) (quoted_front o)
quoted_is rest None e = tt
quoted_is rest (Some (bytes, n)) e =
    let h = sound_quoted rest n bytes e in
    let size : h.0 + 2 ≡ n + 1 = omega (arith, h.3) in
    subst (λ k. IsQuoted (34 ∷ rest) k bytes) size (IsQuoted.closed rest h.0 bytes h.1 h.2)

set_is : (o : Option (List ℕ)) (size n : ℕ) (bytes : List ℕ) → set_or_nothing o size ≡ set bytes n → (o ≡ Some bytes) × (n ≡ size)
set_is None size n bytes e = absurd (apart e)
  where
    apart : nothing ≡ set bytes n → ⊥
    apart f = absurd cc
set_is (Some xs) size n bytes e = (ap Some (bytes_same e), size_same e)
  where
    bytes_same : set xs size ≡ set bytes n → xs ≡ bytes
    bytes_same f = cc

    size_same : set xs size ≡ set bytes n → n ≡ size
    size_same f = cc

no_collation_set : (o : Option (List ℕ)) (size : ℕ) → set_or_nothing o size ≡ collation → ⊥
no_collation_set None size e = absurd cc
no_collation_set (Some xs) size e = absurd cc

no_set_collation : (bytes : List ℕ) (n : ℕ) → collation ≡ set bytes n → ⊥
no_set_collation bytes n e = absurd cc

no_set_nothing : (bytes : List ℕ) (n : ℕ) → nothing ≡ set bytes n → ⊥
no_set_nothing bytes n e = absurd cc

no_collation_nothing : nothing ≡ collation → ⊥
no_collation_nothing e = absurd cc

sound_bracket : (rest bytes : List ℕ) (n : ℕ) → bracket rest ≡ set bytes n → IsBracket (91 ∷ rest) (n + 1) bytes
sound_bracket rest bytes n e =
    elim (find_closed rest) [
      | inl none ↦ absurd (no_set_nothing bytes n (sym none ∙ e))
      | inr f ↦
          elim (chosen (list_any is_collating f.marks) _ _ _ (sym f.read ∙ e)) [
            | inl collating ↦ absurd (no_set_collation bytes n collating.1)
            | inr made ↦
                let s = set_is (turned f.inverted (member_bytes f.marks)) f.size n bytes made.1 in
                let m = sound_set f.inverted f.marks bytes s.0 in
                subst (λ k. IsBracket (91 ∷ rest) (k + 1) bytes) (sym s.1)
                (record {
                  inverted = f.inverted;
                  marks = f.marks;
                  members = members f.marks;
                  closed = f.closes;
                  grouped = sound_members f.marks;
                  allowed = m.allowed;
                  is_set = m.is_set;
                  each = m.each;
                  some = m.some;
                })
          ]
    ]

sound_collation : (rest : List ℕ) → bracket rest ≡ collation → BeginsCollation (91 ∷ rest)
sound_collation rest e =
    elim (find_closed rest) [
      | inl none ↦ absurd (no_collation_nothing (sym none ∙ e))
      | inr f ↦
          elim (chosen (list_any is_collating f.marks) _ _ _ (sym f.read ∙ e)) [
            | inl there ↦ record { size = f.size + 1; inverted = f.inverted; marks = f.marks; closed = f.closes; has = sound_collating f.marks there.0 }
            | inr made ↦ absurd (no_collation_set (turned f.inverted (member_bytes f.marks)) f.size made.1)
          ]
    ]

bracket_is : (rest : List ℕ) (o : Bracket) → bracket rest ≡ o → FrontIs (91 ∷ rest) (bracket_front o)
bracket_is rest (set bytes n) e = SpellsClass.bracket bytes (sound_bracket rest bytes n e)
bracket_is rest collation e = sound_collation rest e
bracket_is rest nothing e = tt

shows_braced : (text bytes rest : List ℕ) (n : ℕ) → text ≡ bytes ++ 125 ∷ rest → n ≡ length bytes + 1 → Shows (123 ∷ text) (braced bytes) (n + 1)
shows_braced text bytes rest n is size = record {
  rest = rest;
  is = ap (λ (xs : List ℕ). 123 ∷ xs) (is ∙ sym (append_assoc bytes (125 ∷ []) rest));
  size = omega (arith, size, length-append bytes (125 ∷ []));
}

name_is : (rest : List ℕ) (o : Option (List ℕ × ℕ)) → name rest ≡ o → FrontIs (123 ∷ rest) (name_front o)
name_is rest None e = tt
name_is rest (Some (bytes, n)) e = let h = sound_name rest bytes n e in (h.name, shows_braced rest bytes h.rest n h.is h.size)

brace_is : (rest : List ℕ) (o : Option (Repetition × ℕ)) → interval rest ≡ o → FrontIs (123 ∷ rest) (brace_front o (name rest))
brace_is rest None e = name_is rest (name rest) refl
brace_is rest (Some (r, n)) e = let h = sound_interval rest r n e in SpellsRepetition.interval h.bytes r h.interval (shows_braced rest h.bytes h.rest n h.is h.size)

at_byte : (b c : ℕ) (rest : List ℕ) (f : Front) → (b == c) ≡ true → FrontIs (c ∷ rest) f → FrontIs (b ∷ rest) f
at_byte b c rest f e h = subst (λ d. FrontIs (d ∷ rest) f) (sym (eqb-true b c e)) h

front_is : (text : List ℕ) → FrontIs text (front text)
unfolding front
front_is [] = tt
front_is (b ∷ rest) =
    choose (FrontIs (b ∷ rest)) (b == 92) (escape_front (escape rest)) _ (λ e. at_byte b 92 rest (escape_front (escape rest)) e (escape_is rest (escape rest) refl)) (λ _.
    choose (FrontIs (b ∷ rest)) (b == 34) (quoted_front (quotes.quoted rest)) _ (λ e. at_byte b 34 rest (quoted_front (quotes.quoted rest)) e (quoted_is rest (quotes.quoted rest) refl)) (λ _.
    choose (FrontIs (b ∷ rest)) (b == 91) (bracket_front (bracket rest)) _ (λ e. at_byte b 91 rest (bracket_front (bracket rest)) e (bracket_is rest (bracket rest) refl)) (λ _.
    choose (FrontIs (b ∷ rest)) (b == 123) (brace_front (interval rest) (name rest)) (sign_front b) (λ e. at_byte b 123 rest (brace_front (interval rest) (name rest)) e (brace_is rest (interval rest) refl)) (λ _. sign_is b rest))))

pub sound : (text : List ℕ) (n : ℕ) (i : Item) → front text ≡ item i n → Spells text n i
sound text n i e = subst (FrontIs text) e (front_is text)

-- ---- where there is no item

no_item_stop : (i : Item) (n : ℕ) (s : Stop) → item i n ≡ stop s → ⊥
no_item_stop i n s e = absurd cc

front_caret : (rest : List ℕ) → front (94 ∷ rest) ≡ stop Anchor
unfolding front sign_front
front_caret rest = refl

front_dollar : (rest : List ℕ) → front (36 ∷ rest) ≡ stop Anchor
unfolding front sign_front
front_dollar rest = refl

front_slash : (rest : List ℕ) → front (47 ∷ rest) ≡ stop Trailing
unfolding front sign_front
front_slash rest = refl

begun : (text : List ℕ) (b : ℕ) (s : Stop) → ((rest : List ℕ) → front (b ∷ rest) ≡ stop s) → BeginsWithByte text b → front text ≡ stop s
begun text b s h e = ap front (front_got text 0 b e) ∙ h (drop 1 text)

collation_front : (text : List ℕ) → BeginsCollation text → front text ≡ stop Collation
collation_front text b =
    let c = complete_closed text b.size b.inverted b.marks b.closed in
    ap front c.is ∙ front_bracket c.rest ∙ ap bracket_front (c.read ∙ closed_by b.inverted b.marks c.size true (complete_collating b.marks b.has))

nothing_front : (text : List ℕ) → BeginsNothing text → (f : Front) → front text ≡ f → FrontIs text f → f ≡ stop Syntax
nothing_front text h (item i n) e p = absurd (h.no_item n i p)
nothing_front text h (stop Anchor) e p = elim p [ inl a ↦ absurd (h.no_caret a) | inr b ↦ absurd (h.no_dollar b) ]
nothing_front text h (stop Trailing) e p = absurd (h.no_slash p)
nothing_front text h (stop Collation) e p = absurd (h.no_collation p)
nothing_front text h (stop Syntax) e p = refl

pub complete_stop : (text : List ℕ) (s : Stop) → IsStoppedBy text s → front text ≡ stop s
complete_stop text Anchor h = elim h [ inl a ↦ begun text 94 Anchor front_caret a | inr b ↦ begun text 36 Anchor front_dollar b ]
complete_stop text Trailing h = begun text 47 Trailing front_slash h
complete_stop text Collation h = collation_front text h
complete_stop text Syntax h = nothing_front text h (front text) refl (front_is text)

two_stops : (s t : Stop) → stop s ≡ stop t → s ≡ t
two_stops s t e = cc

pub sound_stop : (text : List ℕ) (s : Stop) → front text ≡ stop s → IsStoppedBy text s
sound_stop text Anchor e = subst (FrontIs text) e (front_is text)
sound_stop text Trailing e = subst (FrontIs text) e (front_is text)
sound_stop text Collation e = subst (FrontIs text) e (front_is text)
sound_stop text Syntax e = record {
  no_item = λ n i h. no_item_stop i n Syntax (sym (complete text n i h) ∙ e);
  no_caret = λ h. let f : Anchor ≡ Syntax = two_stops Anchor Syntax (sym (begun text 94 Anchor front_caret h) ∙ e) in absurd (apart_anchor f);
  no_dollar = λ h. let f : Anchor ≡ Syntax = two_stops Anchor Syntax (sym (begun text 36 Anchor front_dollar h) ∙ e) in absurd (apart_anchor f);
  no_slash = λ h. let f : Trailing ≡ Syntax = two_stops Trailing Syntax (sym (begun text 47 Trailing front_slash h) ∙ e) in absurd (apart_trailing f);
  no_collation = λ h. let f : Collation ≡ Syntax = two_stops Collation Syntax (sym (collation_front text h) ∙ e) in absurd (apart_collation f);
}
  where
    apart_anchor : Anchor ≡ Syntax → ⊥
    apart_anchor f = absurd cc

    apart_trailing : Trailing ≡ Syntax → ⊥
    apart_trailing f = absurd cc

    apart_collation : Collation ≡ Syntax → ⊥
    apart_collation f = absurd cc

-- ---- at most one

same_item : (i j : Item) (n m : ℕ) → item i n ≡ item j m → (n ≡ m) × (i ≡ j)
same_item i j n m e = (cc, cc)

pub one_spelled : (text : List ℕ) (n m : ℕ) (i j : Item) → Spells text n i → Spells text m j → (n ≡ m) × (i ≡ j)
one_spelled text n m i j p q = same_item i j n m (sym (complete text n i p) ∙ complete text m j q)

pub one_stopped : (text : List ℕ) (s t : Stop) → IsStoppedBy text s → IsStoppedBy text t → s ≡ t
one_stopped text s t p q = two_stops s t (sym (complete_stop text s p) ∙ complete_stop text t q)

pub stopped_no_item : (text : List ℕ) (s : Stop) (n : ℕ) (i : Item) → IsStoppedBy text s → Spells text n i → ⊥
stopped_no_item text s n i p q = no_item_stop i n s (sym (complete text n i q) ∙ complete_stop text s p)

-- ---- the code's front

pub front_spelled : (text : List ℕ) (f : code_fronts.Front) → front_of f ≡ front text → IsFront text f
front_spelled text (front_kinds.Item i n) e = sound text n (item_of i) (sym e)
front_spelled text (front_kinds.Stop s) e = sound_stop text s (sym e)

-- a text spells an item in front, or is stopped
pub spelled_or_stopped : (text : List ℕ) → ((n : ℕ) × (i : Item) × Spells text n i) ⊎ ((s : Stop) × IsStoppedBy text s)
spelled_or_stopped text = decided (front text) refl
  where
    decided : (f : Front) → front text ≡ f → ((n : ℕ) × (i : Item) × Spells text n i) ⊎ ((s : Stop) × IsStoppedBy text s)
    decided (item i n) e = inl (n, i, sound text n i e)
    decided (stop s) e = inr (s, sound_stop text s e)

pub front_spelled_ok : {E : Type 0} (text : List ℕ) (r : Result code_fronts.Front E) → IfOk r (λ f. front_of f ≡ front text) → IfOk r (IsFront text)
front_spelled_ok text (Ok f) e = front_spelled text f e
front_spelled_ok text (Err x) e = tt
