-- An action has one kind.
use Rattle.std.proofs.Common.{◌≡◌, ℕ, true, false, List, [], ◌∷◌, get_or, length, take, drop, Some, None, sym, ap, subst, ◌∙◌, ◌⊎◌, inl, inr, arith}
use Rattle.std.specs.Prelude.{codes}
use Rattle.std.proofs.lemmas.Bool.{false≢true}
use Rattle.cs_ctext.specs.declared.word_iter.Word.{Word}
use Rattle.cs_ctext.specs.Comments.{OpensComment, IsOpenComment}
use Rattle.cs_ctext.specs.Literals.{IsLiteral}
use Rattle.cs_ctext.specs.Words.{HasWords}
use Rattle.cs_ctext.specs.Scans.{part_size}
use Rattle.cs_ctext.proofs.LiteralValues.{same_literal}
use Rattle.cs_ctext.proofs.PartSizes.{part_size-part, part_size-open, opens-comment}
use Rattle.cs_ctext.proofs.WordLists.{words_of-words}
use Rattle.cs_lex.proofs.OnLayout.Extents.{nothing_opens, part_of_nothing}
use Rattle.cs_lex.proofs.OnLayout.Walks.{AreUnique, covers_same, covers_apart}
use Rattle.cs_lex.specs.Actions.Marks.{ActionMark, is_name, IsSpelled, named, quoted, IsMark, skips, gives, mark_text, BeginsMark, IsUnmarked, HasMark, HasNoMark}
use Rattle.cs_lex.specs.Actions.Marks as marks
use Rattle.cs_lex.specs.Actions.Returns.{Returns}
use Rattle.cs_lex.specs.Actions.Laws.{HasOneKind}
use Rattle.cs_lex.specs.Actions.Kinds.{ActionKind, of_named, of_mark, has_foreign, IsKindByWords, foreign_word, no_return, one_return, other_return, more_returns, is_bar, is_marked, by_words}
use Rattle.cs_lex.proofs.OnActions.MarksFound.{same_comment}
use Rattle.cs_lex.proofs.OnActions.ReturnsFound.{same_returned}

-- ---- marks

name_no_literal : (text : List ℕ) (b n : ℕ) → is_name text ≡ true → IsLiteral text b n → ⊥
name_no_literal [] b n e is = false≢true e
name_no_literal (c ∷ text) b n e is =
    let first : c ≡ 39 = ap (λ (t : List ℕ). get_or t 0 0) is.spelled in
    false≢true (subst (λ (x : ℕ). is_name (x ∷ text) ≡ true) first e)

spelled_same : (text : List ℕ) (m n : ActionMark) → IsSpelled text m → IsSpelled text n → m ≡ n
spelled_same text m n (named e p) (named f q) = p ∙ sym q
spelled_same text m n (named e p) (quoted b is q) = absurd (name_no_literal text b (length text) e is)
spelled_same text m n (quoted b is p) (named f q) = absurd (name_no_literal text b (length text) f is)
spelled_same text m n (quoted b is p) (quoted c it q) = p ∙ (ap marks.literal ((same_literal text b c (length text) (length text) is it).0) ∙ sym q)

skip_gives_none : (comment : List ℕ) → comment ≡ codes "/*@skip*/" → take 8 comment ≡ codes "/*@token" → ⊥
skip_gives_none comment e f =
    let first : get_or (take 8 comment) 3 0 ≡ 115 = ap (λ (t : List ℕ). get_or (take 8 t) 3 0) e in
    let second : get_or (take 8 comment) 3 0 ≡ 116 = ap (λ (t : List ℕ). get_or t 3 0) f in
    omega (arith, first, second)

mark_same : (comment : List ℕ) (m n : ActionMark) → IsMark comment m → IsMark comment n → m ≡ n
mark_same comment m n (skips e p) (skips f q) = p ∙ sym q
mark_same comment m n (skips e p) (gives f lt s) = absurd (skip_gives_none comment e f)
mark_same comment m n (gives e lt s) (skips f q) = absurd (skip_gives_none comment f e)
mark_same comment m n (gives e lt s) (gives f gt t) = spelled_same (mark_text comment) m n s t

begins_same : (text : List ℕ) (m n : ActionMark) → BeginsMark text m → BeginsMark text n → m ≡ n
begins_same text m n x y =
    mark_same (take x.0 text) m n x.2 (subst (λ (k : ℕ). IsMark (take k text) n) (same_comment text y.0 x.0 y.1 x.1) y.2)

unmarked_unique : AreUnique IsUnmarked
unmarked_unique text n m x y =
    let e : part_size text ≡ Some n = part_size-part (λ b. false) x.0 in
    let f : part_size text ≡ Some m = part_size-part (λ b. false) y.0 in
    cc

first_mark_same : (text : List ℕ) (m n : ActionMark) → HasMark text m → HasMark text n → m ≡ n
first_mark_same text m n x y =
    let same : y.0 ≡ x.0 = covers_same IsUnmarked (λ rest. BeginsMark rest n) (λ rest. BeginsMark rest m) unmarked_unique (λ t k b u. u.1 n b) (λ t k b u. u.1 m b) text y.0 x.0 y.1 x.1 in
    begins_same (drop x.0 text) m n x.1.rest (subst (λ (k : ℕ). BeginsMark (drop k text) n) same y.1.rest)

-- ---- no mark

nothing_unmarked : (rest : List ℕ) (n : ℕ) → rest ≡ [] → IsUnmarked rest n → ⊥
nothing_unmarked rest n e u = part_of_nothing u.0 e

open_unmarked : (rest : List ℕ) (n : ℕ) → IsOpenComment rest → IsUnmarked rest n → ⊥
open_unmarked rest n o u =
    let e : part_size rest ≡ Some n = part_size-part (λ b. false) u.0 in
    let f : part_size rest ≡ None = part_size-open rest o in
    cc

ends_unmarked : (rest : List ℕ) (n : ℕ) → (rest ≡ []) ⊎ IsOpenComment rest → IsUnmarked rest n → ⊥
ends_unmarked rest n (inl e) u = nothing_unmarked rest n e u
ends_unmarked rest n (inr o) u = open_unmarked rest n o u

mark_apart : (m : ActionMark) (rest : List ℕ) → BeginsMark rest m → (rest ≡ []) ⊎ IsOpenComment rest → ⊥
mark_apart m rest b (inl e) = nothing_opens (subst OpensComment e (opens-comment rest b.0 b.1))
mark_apart m rest b (inr o) = o.1 b.0 b.1

marked_or_not : (text : List ℕ) (m : ActionMark) → HasMark text m → HasNoMark text → ⊥
marked_or_not text m x y =
    covers_apart IsUnmarked (λ rest. BeginsMark rest m) (λ rest. (rest ≡ []) ⊎ IsOpenComment rest) unmarked_unique (λ t k b u. u.1 m b) ends_unmarked (mark_apart m) text x.0 y.0 x.1 y.1

-- ---- words

module _ (text : List ℕ) (ws : List Word) (j k : ActionKind) where
  foreign_or_not : has_foreign text ws ≡ true → has_foreign text ws ≡ false → j ≡ k
  foreign_or_not e f = absurd (false≢true (sym f ∙ e))

  same_by_words : IsKindByWords text ws j → IsKindByWords text ws k → j ≡ k
  same_by_words (foreign_word e p) (foreign_word f q) = p ∙ sym q
  same_by_words (foreign_word e p) (no_return f r q) = foreign_or_not e f
  same_by_words (foreign_word e p) (one_return w n f r g q) = foreign_or_not e f
  same_by_words (foreign_word e p) (other_return w f r g q) = foreign_or_not e f
  same_by_words (foreign_word e p) (more_returns v w us f r q) = foreign_or_not e f
  same_by_words (no_return e r p) (foreign_word f q) = foreign_or_not f e
  same_by_words (no_return e r p) (no_return f s q) = p ∙ sym q
  same_by_words (no_return e r p) (one_return w n f s g q) = absurd cc
  same_by_words (no_return e r p) (other_return w f s g q) = absurd cc
  same_by_words (no_return e r p) (more_returns v w us f s q) = absurd cc
  same_by_words (one_return w n e r g p) (foreign_word f q) = foreign_or_not f e
  same_by_words (one_return w n e r g p) (no_return f s q) = absurd cc
  same_by_words (one_return w n e r g p) (one_return x m f s h q) =
      let same : x ≡ w = cc in
      p ∙ (ap of_named (same_returned (drop w.to text) n m g (subst (λ (y : Word). Returns (drop y.to text) m) same h)) ∙ sym q)
  same_by_words (one_return w n e r g p) (other_return x f s h q) = let same : w ≡ x = cc in absurd (h n (subst (λ (y : Word). Returns (drop y.to text) n) same g))
  same_by_words (one_return w n e r g p) (more_returns v x us f s q) = absurd cc
  same_by_words (other_return w e r g p) (foreign_word f q) = foreign_or_not f e
  same_by_words (other_return w e r g p) (no_return f s q) = absurd cc
  same_by_words (other_return w e r g p) (one_return x n f s h q) = let same : x ≡ w = cc in absurd (g n (subst (λ (y : Word). Returns (drop y.to text) n) same h))
  same_by_words (other_return w e r g p) (other_return x f s h q) = p ∙ sym q
  same_by_words (other_return w e r g p) (more_returns v x us f s q) = absurd cc
  same_by_words (more_returns v w us e r p) (foreign_word f q) = foreign_or_not f e
  same_by_words (more_returns v w us e r p) (no_return f s q) = absurd cc
  same_by_words (more_returns v w us e r p) (one_return x n f s h q) = absurd cc
  same_by_words (more_returns v w us e r p) (other_return x f s h q) = absurd cc
  same_by_words (more_returns v w us e r p) (more_returns x y vs f s q) = p ∙ sym q

same_words : (text : List ℕ) (ws us : List Word) → HasWords 0 text ws → HasWords 0 text us → us ≡ ws
same_words text ws us h i = words_of-words i ∙ sym (words_of-words h)

pub one_kind : (action : List ℕ) → HasOneKind action
one_kind action j k (is_bar x p) (is_bar y q) = p ∙ sym q
one_kind action j k (is_bar x p) (is_marked m nobar h q) = absurd (nobar x)
one_kind action j k (is_bar x p) (by_words ws nobar h w b) = absurd (nobar x)
one_kind action j k (is_marked m nobar h p) (is_bar y q) = absurd (nobar y)
one_kind action j k (is_marked m nobar h p) (is_marked n none i q) = p ∙ (ap of_mark (first_mark_same action m n h i) ∙ sym q)
one_kind action j k (is_marked m nobar h p) (by_words ws none i w b) = absurd (marked_or_not action m h i)
one_kind action j k (by_words ws nobar h w b) (is_bar y q) = absurd (nobar y)
one_kind action j k (by_words ws nobar h w b) (is_marked n none i q) = absurd (marked_or_not action n i h)
one_kind action j k (by_words ws nobar h w b) (by_words us none i v d) = same_by_words action ws j k b (subst (λ (xs : List Word). IsKindByWords action xs k) (same_words action ws us w v) d)
