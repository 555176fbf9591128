-- Gaps have one end.
use Rattle.std.proofs.Common.{◌≡◌, ℕ, Bool, ◌+◌, ◌-◌, true, false, List, [], ◌∷◌, drop, Option, Some, None, sym, ap, subst, ◌∙◌}
use Rattle.std.specs.Prelude.{IfNone}
use Rattle.std.proofs.lemmas.Bool.{false≢true}
use Rattle.cs_ctext.specs.Comments.{IsComment, OpensComment}
use Rattle.cs_ctext.specs.Scans.{comment_size}
use Rattle.cs_ctext.proofs.CommentSizes.{comment_size-comment}
use Rattle.cs_ctext.proofs.PartSizes.{opens-comment, opens-slash}
use Rattle.cs_bytes.specs.Places.{front, begins_with}
use Rattle.cs_bytes.specs.Names.{slash}
use Rattle.cs_lex.specs.Layout.Steps.{Walk, Spans}
use Rattle.cs_lex.proofs.OnLayout.Walks.{AreUnique, covers_same}
use Rattle.cs_lex.specs.Actions.Gaps.{IsSpacing, byte, comment, IsGap, IsSign}

module _ (passes : ℕ → Bool) (no_slash : passes slash ≡ false) where
  space_no_comment : (text : List ℕ) (n : ℕ) → front passes text ≡ true → IsComment text n → ⊥
  space_no_comment [] n e c = false≢true e
  space_no_comment (b ∷ text) n e c =
      let is : b ≡ 47 = opens-slash b text (opens-comment (b ∷ text) n c) in
      let f : passes 47 ≡ true = subst (λ (x : ℕ). passes x ≡ true) is e in
      false≢true (sym no_slash ∙ f)

  spacing_unique : AreUnique (IsSpacing passes)
  spacing_unique text n m (byte e p) (byte f q) = p ∙ sym q
  spacing_unique text n m (byte e p) (comment c) = absurd (space_no_comment text m e c)
  spacing_unique text n m (comment c) (byte e p) = absurd (space_no_comment text n e c)
  spacing_unique text n m (comment c) (comment d) =
      let e : comment_size text ≡ Some n = comment_size-comment text n c in
      let f : comment_size text ≡ Some m = comment_size-comment text m d in
      cc

  pub gap_same : (text : List ℕ) (n m : ℕ) → IsGap passes text n → IsGap passes text m → n ≡ m
  gap_same =
      covers_same (IsSpacing passes) (λ rest. (k : ℕ) → ¬ IsSpacing passes rest k) (λ rest. (k : ℕ) → ¬ IsSpacing passes rest k) spacing_unique (λ text n none u. none n u) (λ text n none u. none n u)

  pub no_sign : (sign : ℕ) (text : List ℕ) (gap : ℕ) → IsGap passes text gap → begins_with sign (drop gap text) ≡ false → (n : ℕ) → ¬ IsSign passes sign text n
  no_sign sign text gap g e n s =
      let yes_there : begins_with sign (drop s.gap text) ≡ true = s.signed in
      false≢true (sym e ∙ subst (λ (k : ℕ). begins_with sign (drop k text) ≡ true) (gap_same text s.gap gap s.is_gap g) yes_there)

  pub sign_same : (sign : ℕ) (text : List ℕ) (n m : ℕ) → IsSign passes sign text n → IsSign passes sign text m → n ≡ m
  sign_same sign text n m x y = x.ends ∙ (ap (λ (k : ℕ). k + 1) (gap_same text x.gap y.gap x.is_gap y.is_gap) ∙ sym y.ends)

-- ---- what the code finds

module _ (passes : ℕ → Bool) where
  pub no_spacing_there : (text : List ℕ) (found : Option ℕ) → front passes text ≡ false → IfNone found ((n : ℕ) → ¬ IsComment text n) → IfNone found ((n : ℕ) → ¬ IsSpacing passes text n)
  no_spacing_there text (Some n) e h = h
  no_spacing_there text None e h = none
    where
      none : (n : ℕ) → ¬ IsSpacing passes text n
      none n (byte f p) = false≢true (sym e ∙ f)
      none n (comment c) = h n c

  pub no_spacing_at : (text : List ℕ) → front passes text ≡ false → ¬ OpensComment text → (n : ℕ) → ¬ IsSpacing passes text n
  no_spacing_at text e o n (byte f p) = false≢true (sym e ∙ f)
  no_spacing_at text e o n (comment c) = o (opens-comment text n c)

  pub gap_is : (text rest : List ℕ) (at : ℕ) → Walk (Spans (IsSpacing passes) text) 0 at → rest ≡ drop at text → ((k : ℕ) → ¬ IsSpacing passes rest k) → IsGap passes text at
  gap_is text rest at units e none = record { units = units; rest = subst (λ (t : List ℕ). (k : ℕ) → ¬ IsSpacing passes t k) e none }
