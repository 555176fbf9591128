-- Marks, as the code finds them.
use Rattle.std.proofs.Common.{◌≡◌, ◌≢◌, ℕ, ◌-◌, ◌<◌, ◌≤◌, true, false, List, [], ◌∷◌, length, take, drop, Option, Some, None, refl, sym, ap, subst, ◌∙◌, inl, inr, arith}
use Rattle.std.specs.Prelude.{codes}
use Rattle.std.specs.Str.{bytes_eq}
use Rattle.std.proofs.lemmas.Bool.{false≢true}
use Rattle.std.proofs.lemmas.List.{drop_all}
use Rattle.std.proofs.lemmas.Slice.Eq.{bytes_eq-Decides}
use Rattle.cs_ctext.specs.Comments.{IsComment, IsOpenComment}
use Rattle.cs_ctext.specs.Blocks.{BeginsPart}
use Rattle.cs_ctext.specs.Literals.{IsLiteral}
use Rattle.cs_ctext.specs.Scans.{comment_size}
use Rattle.cs_ctext.proofs.CommentSizes.{comment_size-comment}
use Rattle.cs_ctext.proofs.LiteralValues.{same_literal}
use Rattle.cs_bytes.specs.Places.{front}
use Rattle.cs_lex.specs.Layout.Steps.{Walk, Spans}
use Rattle.cs_lex.proofs.OnLayout.Walks.{units_to}
use Rattle.cs_lex.specs.declared.actions.mark.ActionMark as code
use Rattle.cs_lex.specs.Actions.Marks.{ActionMark, skip, literal, is_name, IsSpelled, named, IsMark, skips, gives, mark_blanks, mark_text, BeginsMark, IsUnmarked, HasMark, HasNoMark}
use Rattle.cs_lex.specs.Actions.Marks as spec
use Rattle.cs_lex.specs.Actions.MarkViews.{FindsSpelled, FindsIn, FindsFront}

minus_zero : (n : ℕ) → n - 0 ≡ n
minus_zero n = omega arith

-- ---- what a comment says

pub other_size : (text : List ℕ) (b size : ℕ) → IsLiteral text b size → size ≢ length text → (c : ℕ) → ¬ IsLiteral text c (length text)
other_size text b size is ne c it = ne ((same_literal text b c size (length text) is it).1)

pub not_spelled : (text : List ℕ) → is_name text ≡ false → ((b : ℕ) → ¬ IsLiteral text b (length text)) → (m : ActionMark) → ¬ IsSpelled text m
not_spelled text e none m (named h f) = false≢true (sym e ∙ h)
not_spelled text e none m (spec.IsSpelled.quoted b is f) = none b is

pub literal_spelled : (text : List ℕ) (b : ℕ) → IsLiteral text b (length text) → IsSpelled text (literal b)
literal_spelled text b is = spec.IsSpelled.quoted b is refl

same_bytes : (xs ys : List ℕ) → bytes_eq xs ys ≡ true → xs ≡ ys
same_bytes xs ys e = (bytes_eq-Decides xs ys).0 e

pub given_found : (comment inside rest text : List ℕ) (blanks : ℕ) (found : Option code.ActionMark) → bytes_eq comment (codes "/*@skip*/") ≡ false → bytes_eq (take 8 comment) (codes "/*@token") ≡ true → inside ≡ drop 8 comment → blanks ≡ mark_blanks comment → blanks ≢ 0
    → rest ≡ drop blanks inside → text ≡ take (length rest - 2) rest → FindsSpelled text found → FindsIn comment found
given_found whole inside rest text blanks found no_skip token i b some r t h = by_found found (subst (λ (x : List ℕ). FindsSpelled x found) is_text h)
  where
    is_rest : rest ≡ drop (mark_blanks whole) (drop 8 whole)
    is_rest = r ∙ (ap (λ (k : ℕ). drop k inside) b ∙ ap (drop (mark_blanks whole)) i)

    is_text : text ≡ mark_text whole
    is_text = t ∙ ap (λ (x : List ℕ). take (length x - 2) x) is_rest

    by_found : (f : Option code.ActionMark) → FindsSpelled (mark_text whole) f → FindsIn whole f
    by_found (Some m) g = gives (same_bytes (take 8 whole) (codes "/*@token") token) (omega (arith, b)) g
    by_found None g = none
      where
        none : (m : ActionMark) → ¬ IsMark whole m
        none m (skips e f) = false≢true (sym no_skip ∙ (bytes_eq-Decides whole (codes "/*@skip*/")).1 e)
        none m (gives e lt s) = g m s

pub same_comment : (text : List ℕ) (n m : ℕ) → IsComment text n → IsComment text m → n ≡ m
same_comment text n m c d =
    let e : comment_size text ≡ Some n = comment_size-comment text n c in
    let f : comment_size text ≡ Some m = comment_size-comment text m d in
    cc

pub no_mark_open : (text : List ℕ) → ((n : ℕ) → ¬ IsComment text n) → (m : ActionMark) → ¬ BeginsMark text m
no_mark_open text none m h = none h.0 h.1

pub front_found : (text comment : List ℕ) (size : ℕ) (found : Option code.ActionMark) → IsComment text (size - 0) → comment ≡ take size text → FindsIn comment found → FindsFront text found
front_found text whole size found c e h = by_found found (subst (λ (x : List ℕ). FindsIn x found) e h)
  where
    here : IsComment text size
    here = rw (minus_zero size) at c

    by_found : (f : Option code.ActionMark) → FindsIn (take size text) f → FindsFront text f
    by_found (Some m) g = (size, here, g)
    by_found None g = λ m b. g m (subst (λ (k : ℕ). IsMark (take k text) m) (same_comment text b.0 size b.1 here) b.2)

-- ---- the first mark

pub first_is : (text rest : List ℕ) (at : ℕ) (m : ActionMark) → Walk (Spans IsUnmarked text) 0 at → rest ≡ drop at text → BeginsMark rest m → HasMark text m
first_is text rest at m units e h = (at, record { units = units; rest = subst (λ (t : List ℕ). BeginsMark t m) e h })

pub none_open : (text rest : List ℕ) (at : ℕ) → Walk (Spans IsUnmarked text) 0 at → rest ≡ drop at text → IsOpenComment rest → HasNoMark text
none_open text rest at units e h = (at, record { units = units; rest = inr (subst IsOpenComment e h) })

pub none_left : (text : List ℕ) (at : ℕ) → Walk (Spans IsUnmarked text) 0 at → length text ≤ at → HasNoMark text
none_left text at units le = (at, record { units = units; rest = inl (drop_all at text le) })

no_special : (text : List ℕ) → front (λ b. false) text ≡ false
no_special [] = refl
no_special (b ∷ text) = refl

pub unmarked_to : (text again : List ℕ) (at to : ℕ) → Walk (Spans IsUnmarked text) 0 at → again ≡ drop at text → ((m : ActionMark) → ¬ BeginsMark again m) → at < to → BeginsPart (drop at text) (to - at) → Walk (Spans IsUnmarked text) 0 to
unmarked_to text again at to units e none lt p =
    units_to IsUnmarked text at to units lt (p (λ b. false) (no_special (drop at text)), subst (λ (t : List ℕ). (m : ActionMark) → ¬ BeginsMark t m) e none)
