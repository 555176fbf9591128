-- The size that is found is that of the part in front.
use Rattle.std.proofs.Common.{◌≡◌, ℕ, ◌<◌, length, arith, Bool, true, false, cond, eqb, ◌||◌, List, [], ◌∷◌, Option, Some, None, unwrap_or, refl, sym, ◌∙◌, inl, inr}
use Rattle.std.proofs.lemmas.Bool.{false≢true, eqb-true}
use Rattle.cs_ctext.specs.Marks.{is_quote}
use Rattle.cs_ctext.specs.Comments.{IsComment, OpensComment, opens_comment, IsOpenComment}
use Rattle.cs_ctext.specs.Quotes.{IsQuoted}
use Rattle.cs_ctext.specs.Blocks.{IsPart, comment, quoted, other, BeginsPart}
use Rattle.cs_ctext.specs.Scans.{comment_size, quoted_size, part_size}
use Rattle.cs_ctext.proofs.Fronts.{OpensComment-from_test, test_from_OpensComment}
use Rattle.cs_ctext.proofs.CommentSizes.{comment_size-comment, IsComment-from_size, no_comment_from_size}
use Rattle.cs_ctext.proofs.QuotedSizes.{quoted_size-quoted, IsQuoted-from_size, no_quoted_from_size}

pub opens-comment : (text : List ℕ) (n : ℕ) → IsComment text n → OpensComment text
opens-comment text n (inl h) = inl h.opened
opens-comment text n (inr h) = inr h.opened

opens_false : (text : List ℕ) → ¬ OpensComment text → opens_comment text ≡ false
opens_false text differs = by_test (opens_comment text) refl
  where
    by_test : (t : Bool) → opens_comment text ≡ t → t ≡ false
    by_test true e = absurd (differs (OpensComment-from_test text e))
    by_test false e = refl

pub opens-slash : (b : ℕ) (text : List ℕ) → OpensComment (b ∷ text) → b ≡ 47
opens-slash b [] (inl h) = absurd cc
opens-slash b [] (inr h) = absurd cc
opens-slash b (c ∷ text) (inl h) = let e : b ∷ c ∷ [] ≡ 47 ∷ 42 ∷ [] = h in cc
opens-slash b (c ∷ text) (inr h) = let e : b ∷ c ∷ [] ≡ 47 ∷ 47 ∷ [] = h in cc

quoted_opens_none : (text : List ℕ) (n : ℕ) → IsQuoted text n → ¬ OpensComment text
quoted_opens_none [] n q h = q
quoted_opens_none (b ∷ text) n q h = let is : b ≡ 47 = opens-slash b text h in let quote : is_quote b ≡ true = q.0 in false≢true (rw is at quote)

none_quoted : (text : List ℕ) → ((n : ℕ) → ¬ IsQuoted text n) → quoted_size text ≡ None
none_quoted text differs = by_found (quoted_size text) refl
  where
    by_found : (found : Option ℕ) → quoted_size text ≡ found → found ≡ None
    by_found None e = refl
    by_found (Some n) e = absurd (differs n (IsQuoted-from_size text n e))

pub part_size-part : (special : ℕ → Bool) {text : List ℕ} {n : ℕ} → IsPart special text n → part_size text ≡ Some n
part_size-part special (comment {text = text} {n = n} h) = rw (test_from_OpensComment text (opens-comment text n h)) (comment_size-comment text n h)
part_size-part special (quoted {text = text} {n = n} h) = rw (opens_false text (quoted_opens_none text n h), quoted_size-quoted text n h) refl
part_size-part special (other {b = b} {text = text} plain opens closes) = rw (opens_false (b ∷ text) opens, none_quoted (b ∷ text) closes) refl

pub IsPart-from_size : (special : ℕ → Bool) (b : ℕ) (text : List ℕ) (n : ℕ) → special b ≡ false → part_size (b ∷ text) ≡ Some n → IsPart special (b ∷ text) n
IsPart-from_size special b text n plain e = by_test (opens_comment (b ∷ text)) refl e
  where
    by_found : (found : Option ℕ) → quoted_size (b ∷ text) ≡ found → ¬ OpensComment (b ∷ text) → Some (unwrap_or found 1) ≡ Some n → IsPart special (b ∷ text) n
    by_found None q opens e = let one : n ≡ 1 = cc in rw one (other plain opens (no_quoted_from_size (b ∷ text) q))
    by_found (Some m) q opens e = let same : n ≡ m = cc in rw same (quoted (IsQuoted-from_size (b ∷ text) m q))

    by_test : (t : Bool) → opens_comment (b ∷ text) ≡ t → cond t (comment_size (b ∷ text)) (Some (unwrap_or (quoted_size (b ∷ text)) 1)) ≡ Some n → IsPart special (b ∷ text) n
    by_test true p e = comment (IsComment-from_size (b ∷ text) n e)
    by_test false p e = by_found (quoted_size (b ∷ text)) refl (λ h. false≢true (sym p ∙ test_from_OpensComment (b ∷ text) h)) e

pub BeginsPart-from_size : (text : List ℕ) (n : ℕ) → 0 < length text → part_size text ≡ Some n → BeginsPart text n
BeginsPart-from_size [] n some e = absurd (omega arith)
BeginsPart-from_size (b ∷ text) n some e = λ special plain. IsPart-from_size special b text n plain e

pub IsOpenComment-from_size : (text : List ℕ) → part_size text ≡ None → IsOpenComment text
IsOpenComment-from_size text e = by_test (opens_comment text) refl e
  where
    by_test : (t : Bool) → opens_comment text ≡ t → cond t (comment_size text) (Some (unwrap_or (quoted_size text) 1)) ≡ None → IsOpenComment text
    by_test true p e = (OpensComment-from_test text p, no_comment_from_size text e)
    by_test false p e = absurd cc

none_comment : (text : List ℕ) → ((n : ℕ) → ¬ IsComment text n) → comment_size text ≡ None
none_comment text differs = by_found (comment_size text) refl
  where
    by_found : (found : Option ℕ) → comment_size text ≡ found → found ≡ None
    by_found None e = refl
    by_found (Some n) e = absurd (differs n (IsComment-from_size text n e))

pub part_size-open : (text : List ℕ) → IsOpenComment text → part_size text ≡ None
part_size-open text h = rw (test_from_OpensComment text h.0) (none_comment text h.1)

-- a part doesn't begin with a special byte
pub part-not_special : (special : ℕ → Bool) → special 47 ≡ false → special 34 ≡ false → special 39 ≡ false → (b : ℕ) (text : List ℕ) {n : ℕ} → IsPart special (b ∷ text) n → special b ≡ false
part-not_special special slash double single b text (comment h) = rw (opens-slash b text (opens-comment (b ∷ text) _ h)) slash
part-not_special special slash double single b text (quoted h) = by_mark (eqb b 34) refl h.0
  where
    by_mark : (t : Bool) → eqb b 34 ≡ t → (t || eqb b 39) ≡ true → special b ≡ false
    by_mark true e f = rw (eqb-true b 34 e) double
    by_mark false e f = rw (eqb-true b 39 f) single
part-not_special special slash double single b text (other plain opens closes) = plain
