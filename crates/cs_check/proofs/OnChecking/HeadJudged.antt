-- The lines of the head, judged.
use Rattle.std.proofs.Common.{◌≡◌, ℕ, ◌+◌, ◌≤◌, Bool, true, false, List, [], ◌∷◌, ◌++◌, Option, Some, None, length, refl, sym, ◌∙◌, subst, ◌↔◌, arith}
use Rattle.std.specs.Prelude.{IsTrue, slice_get}
use Rattle.std.proofs.lemmas.List.{length_push}
use Rattle.cs_grammar.specs.Grammar.{PlainGrammar}
use Rattle.cs_yacc.specs.Reading.File.{File}
use Rattle.cs_lines.specs.Lines.Line.{Line}
use Rattle.cs_closed.specs.Closed.Sets.{PlainSets}
use Rattle.cs_check.specs.Passing.Above.{has_sets}
use Rattle.cs_check.specs.Passing.Head.{Due, Takes, IsOfFile, tables, whole_head, head_size}
use Rattle.cs_check.specs.Passing.Places.{IsInHead}
use Rattle.cs_check.specs.Passing.Faults.{HasHead, HasClosed}
use Rattle.cs_check.specs.Checking.Excluded.{AreSetsIn, ClaimsClosed}
use Rattle.cs_check.specs.declared.checking.head.Head.{Head}
use Rattle.cs_check.specs.Checking.Head.{KnowsHead}
use Rattle.cs_check.proofs.OnChecking.HeadPlaces.{size_with, size_without, tables_within}

-- ---- whether the line is in the head

module _ (g : PlainGrammar) (above : List Line) (l : Line) where
  pub same_due : (h : IsInHead g above l) (d : Due) → slice_get (whole_head g) (length above) ≡ Some d → h.due ≡ d
  same_due h d e = let both : Some h.due ≡ Some d = sym h.is_due ∙ e in cc

  pub head_due : length above ≤ head_size g above → (d : Due) → slice_get (whole_head g) (length above) ≡ Some d → (so : Bool) → IsTrue so ↔ Takes d l → IsTrue so ↔ IsInHead g above l
  head_due within d e so is = (
    λ yes'. record { within = within; due = d; is_due = e; takes = is.0 yes' },
    λ h. is.1 (subst (λ (x : Due). Takes x l) (same_due h d e) h.takes),
  )

  pub no_due : slice_get (whole_head g) (length above) ≡ None → IsInHead g above l → ⊥
  no_due e h = let both : Some h.due ≡ None = sym h.is_due ∙ e in absurd cc

-- ---- whether the head is at its end

module _ (file : File) (above : List Line) (h : Head) (knows : KnowsHead file above h) where
  pub ended_with : (s : PlainSets) → h.sets ≡ Some s → (so : Bool) → IsTrue so ↔ (h.above ≡ length (whole_head file.grammar)) → IsTrue so ↔ (head_size file.grammar above ≤ length above)
  ended_with s e so is =
      let some = subst (λ (t : Option PlainSets). AreSetsIn file above t) e knows.sets in
      let size = size_with file.grammar above some.0 in
      let most = knows.place.within in
      let many = knows.many in
      (λ yes'. let same = is.0 yes' in omega arith, λ low. is.1 (omega arith))

  pub ended_without : h.sets ≡ None → (so : Bool) → IsTrue so ↔ (h.above ≡ length (tables file.grammar)) → IsTrue so ↔ (head_size file.grammar above ≤ length above)
  ended_without e so is =
      let none = subst (λ (t : Option PlainSets). AreSetsIn file above t) e knows.sets in
      let size = size_without file.grammar above none in
      let most = knows.place.within in
      let many = knows.many in
      (λ yes'. let same = is.0 yes' in omega arith, λ low. is.1 (omega arith))

-- ---- what a line of the head has

module _ (file : File) (above : List Line) (l : Line) (d : Due) (e : slice_get (whole_head file.grammar) (length above) ≡ Some d) where
  pub has_head : IsOfFile file d l → HasHead file above l
  has_head is = λ h. subst (λ (x : Due). IsOfFile file x l) (sym (same_due file.grammar above l h d e)) is

  pub has_no_head : (h : IsInHead file.grammar above l) → (IsOfFile file d l → ⊥) → HasHead file above l → ⊥
  has_no_head h other has = other (subst (λ (x : Due). IsOfFile file x l) (same_due file.grammar above l h d e) (has h))

module _ (file : File) (above : List Line) (l : Line) (new : Head) (knows : KnowsHead file (above ++ l ∷ []) new) (whole : ℕ) (all : whole ≡ length (whole_head file.grammar)) where
  -- at the end of the whole head there are sets
  pub sets_at_end : new.above ≡ whole → has_sets (above ++ l ∷ []) ≡ true
  sets_at_end last = at_end (has_sets (above ++ l ∷ [])) refl
    where
      at_end : (b : Bool) → has_sets (above ++ l ∷ []) ≡ b → has_sets (above ++ l ∷ []) ≡ true
      at_end true e = e
      at_end false e =
          let size = size_without file.grammar (above ++ l ∷ []) e in
          let low = tables_within file.grammar in
          let most = knows.place.within in
          let many = knows.many in
          absurd (omega (arith, size, low, most, many, last, all))

  module _ (so : Bool) (is : IsTrue so ↔ (new.above ≡ whole → ClaimsClosed file (above ++ l ∷ []))) where
    last_now : length above + 1 ≡ length (whole_head file.grammar) → new.above ≡ whole
    last_now last = let many = knows.many in let long = length_push above l in omega (arith, many, long, last, all)

    pub has_closed : so ≡ true → HasClosed file above l
    has_closed e = λ h last. is.0 e (last_now last)

    pub has_no_closed : so ≡ false → IsInHead file.grammar above l → HasClosed file above l → ⊥
    has_no_closed e h has =
        let more : so ≡ true = is.1 (λ last. has h (let many = knows.many in let long = length_push above l in omega (arith, many, long, last, all))) in
        absurd cc
