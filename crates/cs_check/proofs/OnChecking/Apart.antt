-- Marks that stand side by side and are kept apart.
use Rattle.std.proofs.Common.{◌≡◌, ℕ, ◌+◌, Bool, List, Some, None, sym, ap, ◌∙◌, subst, ◌↔◌}
use Rattle.std.specs.Prelude.{IsTrue, slice_get}
use Rattle.cs_grammar.specs.declared.symbol.Mark.{Mark}
use Rattle.cs_goals.specs.declared.goal.Goal.TheVariants.{Pair}
use Rattle.cs_yacc.specs.Reading.File.{File}
use Rattle.cs_lines.specs.Words.Names.{mark_text}
use Rattle.cs_lines.specs.Lines.Line.{Line}
use Rattle.cs_check.specs.Passing.Entries.{IsExcluded, IsKeptApart}

module _ (file : File) (lines : List Line) (marks : List Mark) (n : ℕ) (left right : List ℕ) where
  same_mark : (k : ℕ) (a b : Mark) → slice_get marks k ≡ Some a → slice_get marks k ≡ Some b → a ≡ b
  same_mark k a b h i = let e : Some a ≡ Some b = sym h ∙ i in cc

  pub none_first : slice_get marks n ≡ None → IsKeptApart file lines marks n left right → ⊥
  none_first none h = absurd (let e : None ≡ Some h.a = sym none ∙ h.first in cc)

  pub none_second : slice_get marks (n + 1) ≡ None → IsKeptApart file lines marks n left right → ⊥
  none_second none h = absurd (let e : None ≡ Some h.b = sym none ∙ h.second in cc)

  module _ (a : Mark) (first : slice_get marks n ≡ Some a) where
    pub other_left : (mark_text file a ≡ left → ⊥) → IsKeptApart file lines marks n left right → ⊥
    other_left other h = other (ap (mark_text file) (same_mark n a h.a first h.first) ∙ sym h.named)

    module _ (b : Mark) (second : slice_get marks (n + 1) ≡ Some b) where
      pub other_right : (mark_text file b ≡ right → ⊥) → IsKeptApart file lines marks n left right → ⊥
      other_right other h = other (ap (mark_text file) (same_mark (n + 1) b h.b second h.second) ∙ sym h.named_behind)

      pub apart_is : mark_text file a ≡ left → mark_text file b ≡ right → (so : Bool) → IsTrue so ↔ IsExcluded file lines (Pair a b) → IsTrue so ↔ IsKeptApart file lines marks n left right
      apart_is named behind so is = (
        λ e. record { a = a; b = b; first = first; second = second; named = sym named; named_behind = sym behind; apart = is.0 e },
        λ h. is.1 (subst (λ (x : Mark). IsExcluded file lines (Pair x b)) (same_mark n h.a a h.first first)
            (subst (λ (y : Mark). IsExcluded file lines (Pair h.a y)) (same_mark (n + 1) h.b b h.second second) h.apart)),
      )
