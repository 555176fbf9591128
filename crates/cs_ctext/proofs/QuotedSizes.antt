-- The size that is found is the quoted construct's.
use Rattle.std.proofs.Common.{◌≡◌, ◌≢◌, ℕ, suc, Bool, true, false, cond, eqb, List, [], ◌∷◌, Some, None, option_map, refl, sym, ap, ◌∙◌, arith, IsTrue, eq-eqb}
use Rattle.std.proofs.lemmas.Bool.{false≢true, eqb-true}
use Rattle.std.proofs.lemmas.Bool.Decides.{nat_tests}
use Rattle.cs_ctext.specs.Marks.{is_quote}
use Rattle.cs_ctext.specs.Quotes.{IsQuotedRest, closing, plain, escaped, IsQuoted}
use Rattle.cs_ctext.specs.Scans.{quoted_rest, quoted_size}
use Rattle.cs_bytes.proofs.Fronts.{false-eqb}
use Rattle.cs_ctext.proofs.Fronts.{some_from_map}

pub quoted_rest-rest : (mark : ℕ) → mark ≢ 92 → {text : List ℕ} {n : ℕ} → IsQuotedRest mark text n → quoted_rest mark false text ≡ Some n
quoted_rest-rest mark ne closing = rw (eq-eqb mark mark refl) refl
quoted_rest-rest mark ne (plain {b = b} no_mark no_backslash no_end rest) =
    rw (false-eqb b mark no_mark, false-eqb b 10 no_end, false-eqb b 92 no_backslash, quoted_rest-rest mark ne rest) refl
quoted_rest-rest mark ne (escaped rest) =
    rw (false-eqb 92 mark (λ e. ne (sym e)), quoted_rest-rest mark ne rest) refl

-- the rest, whose first byte may be taken along
abbrev Rest : ℕ → Bool → List ℕ → ℕ → Type 0
Rest mark false text n = IsQuotedRest mark text n
Rest mark true [] n = ⊥
Rest mark true (b ∷ text) n = (m : ℕ) × IsQuotedRest mark text m × (n ≡ suc m)

rest_escaped : (mark : ℕ) (text : List ℕ) (n : ℕ) → Rest mark true text n → IsQuotedRest mark (92 ∷ text) (suc n)
rest_escaped mark [] n h = absurd h
rest_escaped mark (b ∷ text) n h = rw h.2 (escaped h.1)

rest_step : (mark b : ℕ) (text : List ℕ) (n : ℕ) → b ≢ mark → b ≢ 10 → (t : Bool) → eqb b 92 ≡ t → Rest mark t text n → IsQuotedRest mark (b ∷ text) (suc n)
rest_step mark b text n no_mark no_end true e h = let is : b ≡ 92 = eqb-true b 92 e in rw is (rest_escaped mark text n h)
rest_step mark b text n no_mark no_end false e h = plain no_mark (λ is. false≢true (sym e ∙ eq-eqb b 92 is)) no_end h

rest_first : (mark b : ℕ) (text : List ℕ) (n : ℕ) (t u : Bool) → eqb b mark ≡ t → eqb b 10 ≡ u
    → cond t (Some 1) (cond u None (option_map suc (quoted_rest mark (eqb b 92) text))) ≡ Some n
    → ((m : ℕ) → quoted_rest mark (eqb b 92) text ≡ Some m → Rest mark (eqb b 92) text m) → IsQuotedRest mark (b ∷ text) n
rest_first mark b text n true u p q e rest =
    let is : b ≡ mark = eqb-true b mark p in
    let one : n ≡ 1 = cc in
    rw (is, one) closing
rest_first mark b text n false true p q e rest = absurd cc
rest_first mark b text n false false p q e rest =
    let found = some_from_map suc (quoted_rest mark (eqb b 92) text) n e in
    let h = rest found.0 found.1 in
    rw (← found.2) (rest_step mark b text found.0 (λ is. false≢true (sym p ∙ eq-eqb b mark is)) (λ is. false≢true (sym q ∙ eq-eqb b 10 is)) (eqb b 92) refl h)

rest_from_size : (mark : ℕ) (t : Bool) (text : List ℕ) (n : ℕ) → quoted_rest mark t text ≡ Some n → Rest mark t text n
rest_from_size mark t [] n e = absurd cc
rest_from_size mark true (b ∷ text) n e =
    let found = some_from_map suc (quoted_rest mark false text) n e in
    (found.0, rest_from_size mark false text found.0 found.1, sym found.2)
rest_from_size mark false (b ∷ text) n e =
    rest_first mark b text n (eqb b mark) (eqb b 10) refl refl e (λ m f. rest_from_size mark (eqb b 92) text m f)

pub quote-ne-backslash : (mark : ℕ) → IsTrue (is_quote mark) → mark ≢ 92
quote-ne-backslash mark h e = grind (arith, nat_tests)

pub quoted_size-quoted : (text : List ℕ) (size : ℕ) → IsQuoted text size → quoted_size text ≡ Some size
quoted_size-quoted [] size h = absurd h
quoted_size-quoted (mark ∷ text) size h =
    let quote : is_quote mark ≡ true = h.0 in
    let rest = quoted_rest-rest mark (quote-ne-backslash mark h.0) h.2 in
    rw (quote, rest) (ap Some (sym h.3))

pub IsQuoted-from_size : (text : List ℕ) (size : ℕ) → quoted_size text ≡ Some size → IsQuoted text size
IsQuoted-from_size [] size e = absurd cc
IsQuoted-from_size (mark ∷ text) size e = by_test (is_quote mark) refl e
  where
    by_test : (t : Bool) → is_quote mark ≡ t → cond t (option_map suc (quoted_rest mark false text)) None ≡ Some size → IsQuoted (mark ∷ text) size
    by_test true p e =
        let found = some_from_map suc (quoted_rest mark false text) size e in
        (p, found.0, rest_from_size mark false text found.0 found.1, sym found.2)
    by_test false p e = absurd cc

pub no_quoted_from_size : (text : List ℕ) → quoted_size text ≡ None → (size : ℕ) → ¬ IsQuoted text size
no_quoted_from_size text e size h = let f = quoted_size-quoted text size h in absurd cc
