-- Gaps: blanks and closed comments.
use Rattle.std.proofs.Common.{◌≡◌, ℕ, zero, suc, ◌+◌, ◌-◌, ◌≤◌, ◌<◌, true, false, List, [], ◌∷◌, length, drop, Option, Some, None, refl, sym, ap, subst, ◌∙◌, arith, inl, inr}
use Rattle.std.specs.Prelude.{IfSome, IfNone}
use Rattle.std.proofs.lemmas.Bool.{false≢true}
use Rattle.std.proofs.lemmas.List.{drop-drop, length-drop}
use Rattle.cs_ctext.specs.Comments.{IsComment}
use Rattle.cs_ctext.specs.Scans.{comment_size}
use Rattle.cs_ctext.proofs.CommentSizes.{comment_size-comment}
use Rattle.cs_ctext.proofs.PartSizes.{opens-comment, opens-slash}
use Rattle.cs_bytes.specs.Classes.{is_white_space}
use Rattle.cs_bytes.specs.Places.{front}
use Rattle.cs_yacc.specs.Items.Items.{IsGap, nothing, blank, comment}

-- no gap stands in front
abbrev pub NoGap : List ℕ → Type 0
NoGap text = (n : ℕ) → IsGap text (suc n) → ⊥

split_drop : (text rest : List ℕ) (n c m : ℕ) → n ≡ c + m → rest ≡ drop n text → rest ≡ drop m (drop c text)
split_drop text rest n c m e f = f ∙ ap (λ (k : ℕ). drop k text) e ∙ sym (drop-drop m c text)

-- a gap behind a gap goes on with it
pub gap_append : {text rest : List ℕ} {n m k : ℕ} → IsGap text n → IsGap rest m → rest ≡ drop n text → k ≡ n + m → IsGap text k
gap_append {text = text} {rest = rest} {m = m} {k = k} nothing h e s = let f : k ≡ m = omega arith in let g : rest ≡ text = e in rw (f, ← g) h
gap_append {m = m} {k = k} (blank {n = n} b g) h e s = let f : k ≡ suc (n + m) = omega arith in rw f (blank b (gap_append g h e refl))
gap_append {rest = rest} {m = m} (comment {text = text} {c = c} {n = n} {m = l} is g e) h f s = comment is (gap_append g h (split_drop text rest l c n e f) refl) (omega arith)

same_comment : (text : List ℕ) (c d : ℕ) → IsComment text c → IsComment text d → c ≡ d
same_comment text c d p q =
    let e : comment_size text ≡ Some c = comment_size-comment text c p in
    let f : comment_size text ≡ Some d = comment_size-comment text d q in
    cc

pub comment_not_blank : (b : ℕ) (text : List ℕ) (c : ℕ) → IsComment (b ∷ text) c → is_white_space b ≡ true → ⊥
comment_not_blank b text c is e = let f : b ≡ 47 = opens-slash b text (opens-comment (b ∷ text) c is) in let g : is_white_space 47 ≡ true = rw f at e in false≢true g

none_left : (text : List ℕ) (n : ℕ) → NoGap text → IsGap text n → 0 ≡ n
none_left text zero p g = refl
none_left text (suc n) p g = absurd (p n g)

-- a gap that no gap follows has one size
pub same_gap : {text : List ℕ} {n m : ℕ} → IsGap text n → IsGap text m → NoGap (drop n text) → NoGap (drop m text) → n ≡ m
same_gap {text = text} {m = m} nothing h p q = none_left text m p h
same_gap (blank {b = b} {text = text} {n = n} e g) nothing p q = sym (none_left (b ∷ text) (suc n) q (blank e g))
same_gap (blank e g) (blank f h) p q = ap suc (same_gap g h p q)
same_gap (blank {b = b} {text = text} e g) (comment {c = c} is h f) p q = absurd (comment_not_blank b text c is e)
same_gap {text = text} {n = n} (comment is g e) nothing p q = sym (none_left text n q (comment is g e))
same_gap (comment {c = c} is g e) (blank {b = b} {text = text} f h) p q = absurd (comment_not_blank b text c is f)
same_gap {text = text} (comment {c = c} {n = i} {m = n} is g e) (comment {c = d} {n = j} {m = m} it h f) p q =
    let s : d ≡ c = same_comment text d c it is in
    let there : IsGap (drop c text) j = subst (λ (k : ℕ). IsGap (drop k text) j) s h in
    let ends : NoGap (drop i (drop c text)) = subst NoGap (split_drop text (drop n text) n c i e refl) p in
    let ends_too : NoGap (drop j (drop c text)) = subst NoGap (split_drop text (drop m text) m c j (f ∙ ap (λ (k : ℕ). k + j) s) refl) q in
    let rest : i ≡ j = same_gap g there ends ends_too in
    omega arith

-- ---- one step

blank_front : (text : List ℕ) → front is_white_space text ≡ true → IsGap text 1
blank_front [] e = absurd (false≢true e)
blank_front (b ∷ text) e = blank e nothing

some_front : (text : List ℕ) → front is_white_space text ≡ true → 0 < length text
some_front [] e = absurd (false≢true e)
some_front (b ∷ text) e = omega arith

pub blank_gap : (bytes : List ℕ) (at : ℕ) → front is_white_space (drop at bytes) ≡ true → IsGap (drop at bytes) ((at + 1) - at)
blank_gap bytes at e = let one : (at + 1) - at ≡ 1 = omega arith in rw one (blank_front (drop at bytes) e)

pub blank_within : (bytes : List ℕ) (at : ℕ) → front is_white_space (drop at bytes) ≡ true → at + 1 ≤ length bytes
blank_within bytes at e = omega (arith, some_front (drop at bytes) e, length-drop at bytes)

pub comment_gap : (text : List ℕ) (at : ℕ) (found : Option ℕ) → IfSome found (λ end. IsComment text (end - at)) → IfSome found (λ end. IsGap text (end - at))
comment_gap text at None h = h
comment_gap text at (Some end) h = comment h nothing (omega arith)

-- where neither a blank nor a closed comment stands, no gap does
no_gap : (text : List ℕ) → front is_white_space text ≡ false → ((c : ℕ) → IsComment text c → ⊥) → (n : ℕ) → IsGap text (suc n) → ⊥
no_gap text no_blank no_comment n (blank {b = b} e g) = false≢true (sym no_blank ∙ e)
no_gap text no_blank no_comment n (comment {c = c} is g e) = no_comment c is

pub no_gap_open : (text : List ℕ) (found : Option ℕ) → front is_white_space text ≡ false → IfNone found ((c : ℕ) → ¬ IsComment text c) → IfNone found ((n : ℕ) → ¬ IsGap text (suc n))
no_gap_open text None no_blank h = no_gap text no_blank h
no_gap_open text (Some end) no_blank h = tt

-- the loop goes on behind a gap
pub gap_more : (bytes : List ℕ) (from at end : ℕ) → from ≤ at → at < end → IsGap (drop from bytes) (at - from) → IsGap (drop at bytes) (end - at) → IsGap (drop from bytes) (end - from)
gap_more bytes from at end le lt g h = let e : from + (at - from) ≡ at = omega arith in gap_append g h (ap (λ (k : ℕ). drop k bytes) (sym e) ∙ sym (drop-drop (at - from) from bytes)) (omega arith)

pub gap_none : (text : List ℕ) (n : ℕ) → IsGap text (n - n)
gap_none text n = let e : n - n ≡ 0 = omega arith in rw e nothing

comment_some : (text : List ℕ) (n : ℕ) → IsComment text n → 0 < n
comment_some text n (inl h) = omega (arith, h.ends)
comment_some text n (inr h) = omega (arith, h.ends)

pub no_gap_no_comment : (text : List ℕ) → NoGap text → (n : ℕ) → ¬ IsComment text n
no_gap_no_comment text none zero is = omega (arith, comment_some text 0 is)
no_gap_no_comment text none (suc n) is = none n (comment is nothing (omega arith))
