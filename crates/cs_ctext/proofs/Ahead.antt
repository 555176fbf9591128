-- What is found in the rest of a text, counted from the text's beginning.
use Rattle.std.proofs.Common.{◌≡◌, ℕ, suc, ◌+◌, ◌<◌, ◌≤◌, Bool, true, false, cond, eqb, not, ◌&&◌, List, length, get_or, drop, Option, Some, None, option_map, refl, sym, ap, subst, ◌∙◌, inl, inr, arith}
use Rattle.std.proofs.lemmas.List.{at_drop_more}
use Rattle.std.proofs.lemmas.List.{drop_all}
use Rattle.std.proofs.lemmas.Bool.{false≢true, cases_lt}
use Rattle.cs_bytes.specs.Places.{begins_with, has_at}
use Rattle.cs_ctext.specs.Scans.{quoted_rest}
use Rattle.cs_ctext.specs.Unclosed.{StaysOpen}

abbrev pub ahead : ℕ → Option ℕ → Option ℕ
ahead i found = option_map (λ n. i + n) found

pub ahead-zero : (found : Option ℕ) → ahead 0 found ≡ found
ahead-zero None = refl
ahead-zero (Some n) = ap Some (omega arith)

pub ahead_suc : (i : ℕ) (found : Option ℕ) → ahead i (option_map suc found) ≡ ahead (i + 1) found
ahead_suc i None = refl
ahead_suc i (Some n) = ap Some (omega arith)

pub ahead_none : (i : ℕ) (found : Option ℕ) → ahead i found ≡ None → found ≡ None
ahead_none i None e = refl
ahead_none i (Some n) e = absurd cc

-- The rest of a construct of this mark is read up to `i`, and it isn't closed before; whether a backslash takes the byte
-- there along. What each equal mark before `i` has behind it ends where the whole does.
pub record RestGoes (mark : ℕ) (text : List ℕ) (i : ℕ) (was : Bool) : Type 0 where
  pub whole : ahead i (quoted_rest mark was (drop i text)) ≡ quoted_rest mark false text
  pub others : (k : ℕ) → k < i → has_at text k mark ≡ true → ahead (k + 1) (quoted_rest mark false (drop (k + 1) text)) ≡ quoted_rest mark false text

pub rest-start : (mark : ℕ) (text : List ℕ) → RestGoes mark text 0 false
rest-start mark text = record { whole = ahead-zero (quoted_rest mark false text); others = λ k l. absurd (omega arith) }

module _ (mark : ℕ) (text : List ℕ) (i b : ℕ) (was : Bool) (lt : i < length text) (is : b ≡ get_or text i 0) where
  step : quoted_rest mark was (drop i text) ≡ cond (not was && eqb b mark) (Some 1) (cond (not was && eqb b 10) None (option_map suc (quoted_rest mark (not was && eqb b 92) (drop (i + 1) text))))
  step = rw is (at_drop_more (quoted_rest mark was) text i 0 lt)

  more : (now : Bool) (whole : Option ℕ) → (not was && eqb b mark) ≡ false → (not was && eqb b 10) ≡ false → now ≡ (not was && eqb b 92)
      → ahead i (quoted_rest mark was (drop i text)) ≡ whole → ahead (i + 1) (quoted_rest mark now (drop (i + 1) text)) ≡ whole
  more now whole no_mark no_end next e =
      let here : quoted_rest mark was (drop i text) ≡ option_map suc (quoted_rest mark now (drop (i + 1) text)) = rw (no_mark, no_end, ← next) at step in
      sym (ahead_suc i (quoted_rest mark now (drop (i + 1) text))) ∙ (sym (ap (ahead i) here) ∙ e)

  pub rest-closes : (not was && eqb b mark) ≡ true → RestGoes mark text i was → quoted_rest mark false text ≡ Some (i + 1)
  rest-closes closes h = sym h.whole ∙ ap (ahead i) (rw closes at step)

  pub rest-ends_line : (not was && eqb b mark) ≡ false → (not was && eqb b 10) ≡ true → RestGoes mark text i was → StaysOpen mark text i
  rest-ends_line no_mark line h =
      let none : quoted_rest mark false text ≡ None = sym h.whole ∙ ap (ahead i) (rw (no_mark, line) at step) in
      record { within = omega arith; unclosed = none; others = λ k l at. ahead_none (k + 1) _ (h.others k l at ∙ none) }

-- the mark there is taken along, and so what stands behind it goes on as the rest of a construct
taken_mark : (mark : ℕ) (text : List ℕ) (i b : ℕ) (was : Bool) (whole : Option ℕ) → i < length text → b ≡ get_or text i 0
    → (not was && eqb b mark) ≡ false → has_at text i mark ≡ true → ahead i (quoted_rest mark was (drop i text)) ≡ whole
    → ahead (i + 1) (quoted_rest mark false (drop (i + 1) text)) ≡ whole
taken_mark mark text i b true whole lt is no_mark at e = more mark text i b true lt is false whole refl refl refl e
taken_mark mark text i b false whole lt is no_mark at e =
    let same : begins_with mark (drop i text) ≡ eqb b mark = rw is (at_drop_more (begins_with mark) text i 0 lt) in
    absurd (false≢true (sym no_mark ∙ (sym same ∙ at)))

pub rest-goes : (mark : ℕ) (text : List ℕ) (i b : ℕ) (was now : Bool) → i < length text → b ≡ get_or text i 0
    → (not was && eqb b mark) ≡ false → (not was && eqb b 10) ≡ false → now ≡ (not was && eqb b 92) → RestGoes mark text i was → RestGoes mark text (i + 1) now
rest-goes mark text i b was now lt is no_mark no_end next h = record {
  whole = more mark text i b was lt is now _ no_mark no_end next h.whole;
  others = λ k l at. elim (cases_lt k i) [
    | inl before ↦ h.others k before at
    | inr not_before ↦
        let here : k ≡ i = omega arith in
        subst (λ n. ahead (n + 1) (quoted_rest mark false (drop (n + 1) text)) ≡ quoted_rest mark false text) (sym here)
        (taken_mark mark text i b was _ lt is no_mark (subst (λ n. has_at text n mark ≡ true) here at) h.whole)
  ];
}

pub rest-ends : (mark : ℕ) (text : List ℕ) (i : ℕ) (was : Bool) → i ≡ length text → RestGoes mark text i was → StaysOpen mark text (length text)
rest-ends mark text i was end h =
    let over : length text ≤ i = omega arith in
    let none : quoted_rest mark false text ≡ None = sym h.whole ∙ ap (λ t. ahead i (quoted_rest mark was t)) (drop_all i text over) in
    record { within = omega arith; unclosed = none; others = λ k l at. ahead_none (k + 1) _ (h.others k (omega arith) at ∙ none) }
