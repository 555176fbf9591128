-- The line that is due, taken.
use Rattle.std.proofs.Common.{◌≡◌, ℕ, Bool, true, false, List, [], ◌∷◌, ◌++◌, Option, Some, None, length, refl, sym, ap, ◌∙◌, subst, ◌↔◌}
use Rattle.std.specs.Prelude.{IsTrue, slice_get}
use Rattle.cs_choices.specs.declared.weigh.Weigh.{Weigh}
use Rattle.cs_grammar.specs.Grammar.{PlainGrammar}
use Rattle.cs_yacc.specs.Reading.File.{File}
use Rattle.cs_lines.specs.declared.lines.line.Line as held
use Rattle.cs_lines.specs.declared.lines.line.Line.TheVariants as lines
use Rattle.cs_lines.specs.Lines.Line.{SetKind, RowKind, Line, Weighing}
use Rattle.cs_lines.specs.Lines.Read.{Tells}
use Rattle.cs_closed.specs.Closed.Sets.{PlainSets}
use Rattle.cs_check.specs.declared.checking.head.Head.{Head}
use Rattle.cs_check.specs.Passing.Above.{weigh_in, lexeme_in}
use Rattle.cs_check.specs.Passing.Head.{Due, TheOpening, TheWeighing, TheToken, TheRule, TheSet, TheRow, Takes, IsOfFile, whole_head}
use Rattle.cs_check.specs.Passing.Places.{IsInHead}
use Rattle.cs_check.specs.Passing.Faults.{HasHead, HasClosed}
use Rattle.cs_check.specs.Checking.Excluded.{ClaimsClosed}
use Rattle.cs_check.specs.Checking.Head.{KnowsHead, IsNextIn, state_of, AreWholeIn, IsClaimJudged, IsDueJudged, AnswersEnd, counted}
use Rattle.cs_check.proofs.OnChecking.HeadPlaces.{next_here}
use Rattle.cs_check.proofs.OnChecking.HeadJudged.{same_due, has_head, has_no_head, has_closed, has_no_closed, sets_at_end}
use Rattle.cs_check.proofs.OnChecking.HeadKnown.{opening_known, weighing_known, token_known, rule_known, claim_known}

-- the line that is due, of a grammar that is this one
pub here_by : (g other : PlainGrammar) → other ≡ g → (place many : ℕ) → place ≡ many → (d : Due) → Some d ≡ slice_get (whole_head other) place → slice_get (whole_head g) many ≡ Some d
here_by g other e place many f d is =
    subst (λ (n : ℕ). slice_get (whole_head g) n ≡ Some d) f (subst (λ (x : PlainGrammar). slice_get (whole_head x) place ≡ Some d) e (sym is))

module _ (file : File) (above : List Line) (h : Head) (knows : KnowsHead file above h) (l : Line) (i : IsInHead file.grammar above l) (d : Due) (due : i.due ≡ d) where
  pub taken : Takes d l
  taken = subst (λ (x : Due). Takes x l) due i.takes

  pub next : IsNextIn (state_of above) d
  next = subst (λ (x : Due). IsNextIn (state_of above) x) due (next_here file.grammar above l i knows.place)

  judged_by : (so : Bool) → IsTrue so ↔ IsOfFile file d l → KnowsHead file (above ++ l ∷ []) (counted h) → IsDueJudged file above d l h so
  judged_by true is more = (is.0 refl, more)
  judged_by false is more = λ o. let so : false ≡ true = is.1 o in absurd cc

  pub opening_judged : d ≡ TheOpening → IsOfFile file d l × KnowsHead file (above ++ l ∷ []) (counted h)
  opening_judged e = (
    subst (λ (x : Due). IsOfFile file x l) (sym e) tt,
    opening_known file above h knows l i (subst (λ (x : Due). Takes x l) e taken),
  )

  pub weighing_judged : d ≡ TheWeighing → (w : Weigh) → Tells (lines.Weighing w) l → IsOfFile file d l × KnowsHead file (above ++ l ∷ []) (counted (record h { weigh = w }))
  weighing_judged e w tells =
      let takes = subst (λ (x : Due). Takes x l) e taken in
      let same : w ≡ takes.0 = subst (λ (x : Line). Tells (lines.Weighing w) x) takes.1 tells in
      let is : l ≡ Weighing w = takes.1 ∙ ap (λ (x : Weigh). Weighing x) (sym same) in (
        subst (λ (x : Due). IsOfFile file x l) (sym e) tt,
        weighing_known file above h knows l i (due ∙ e) w is,
      )

  pub token_judged : (t : ℕ) → d ≡ TheToken t → (so : Bool) → (Takes (TheToken t) l → IsTrue so ↔ IsOfFile file (TheToken t) l) → IsDueJudged file above d l h so
  token_judged t e so is =
      let takes = subst (λ (x : Due). Takes x l) e taken in
      judged_by so (subst (λ (x : Due). IsTrue so ↔ IsOfFile file x l) (sym e) (is takes)) (token_known file above h knows l i t takes.0 takes.1)

  pub rule_judged : (r : ℕ) → d ≡ TheRule r → (so : Bool) → (Takes (TheRule r) l → IsTrue so ↔ IsOfFile file (TheRule r) l) → IsDueJudged file above d l h so
  rule_judged r e so is =
      let takes = subst (λ (x : Due). Takes x l) e taken in
      judged_by so (subst (λ (x : Due). IsTrue so ↔ IsOfFile file x l) (sym e) (is takes)) (rule_known file above h knows l i r takes.0 takes.1 takes.2)

  claim_judged : weigh_in l ≡ None → lexeme_in l ≡ None → (new : Option PlainSets) (so : Bool) → IsClaimJudged file above d l new so → AreWholeIn file.grammar new → IsDueJudged file above d l (record h { sets = new }) so
  claim_judged a b new true judged whole =
      let known = claim_known file above h knows l i judged.1 judged.3 (subst (λ (x : Option PlainSets). AreWholeIn file.grammar x) judged.2 whole) a b in (
        judged.0,
        subst (λ (x : Option PlainSets). KnowsHead file (above ++ l ∷ []) (counted (record h { sets = x }))) (sym judged.2) known,
      )
  claim_judged a b new false judged whole = judged

  pub set_line_judged : (kind : SetKind) → d ≡ TheSet kind → (new : Option PlainSets) (so : Bool) → IsClaimJudged file above (TheSet kind) l new so → AreWholeIn file.grammar new → IsDueJudged file above d l (record h { sets = new }) so
  set_line_judged kind e new so judged whole =
      let takes = subst (λ (x : Due). Takes x l) e taken in
      claim_judged (ap weigh_in takes.1) (ap lexeme_in takes.1) new so (subst (λ (x : Due). IsClaimJudged file above x l new so) (sym e) judged) whole

  pub row_line_judged : (kind : RowKind) (n : ℕ) → d ≡ TheRow kind n → (new : Option PlainSets) (so : Bool) → IsClaimJudged file above (TheRow kind n) l new so → AreWholeIn file.grammar new → IsDueJudged file above d l (record h { sets = new }) so
  row_line_judged kind n e new so judged whole =
      let takes = subst (λ (x : Due). Takes x l) e taken in
      claim_judged (ap weigh_in takes.2) (ap lexeme_in takes.2) new so (subst (λ (x : Due). IsClaimJudged file above x l new so) (sym e) judged) whole

-- ---- and the next line of the head, judged by what the code found

module _ (file : File) (other : PlainGrammar) (same : other ≡ file.grammar) (old : Head) (d : Due) (is_due : Some d ≡ slice_get (whole_head other) old.above)
    (told : held.Line) (new : Head) (so : Bool) (judged : (above : List Line) (l : Line) (h : IsInHead file.grammar above l) → h.due ≡ d → KnowsHead file above old → Tells told l → IsDueJudged file above d l new so)
    (above : List Line) (l : Line) (knows : KnowsHead file above old) (tells : Tells told l) (i : IsInHead file.grammar above l) where
  due_here : slice_get (whole_head file.grammar) (length above) ≡ Some d
  due_here = here_by file.grammar other same old.above (length above) knows.many d is_due

  judged_here : (b : Bool) → so ≡ b → IsDueJudged file above d l new b
  judged_here b is =
      subst (λ (x : Bool). IsDueJudged file above d l new x) is
      (judged above l i (same_due file.grammar above l i d due_here) knows tells)

  -- it isn't the file's
  pub lacks_head : so ≡ false → HasHead file above l → ⊥
  lacks_head is = has_no_head file above l d due_here i (judged_here false is)

  -- it is, and what is claimed at the end of the head is closed, or it isn't
  module _ (is : so ≡ true) (whole : ℕ) (all : whole ≡ length (whole_head file.grammar)) (closed : Bool) (answers : AnswersEnd file (counted new) whole closed) where
    known : KnowsHead file (above ++ l ∷ []) (counted new)
    known = (judged_here true is).1

    closed_is : IsTrue closed ↔ ((counted new).above ≡ whole → ClaimsClosed file (above ++ l ∷ []))
    closed_is = answers (above ++ l ∷ []) known.sets (sets_at_end file above l (counted new) known whole all)

    pub line_judged : closed ≡ true → HasHead file above l × HasClosed file above l × KnowsHead file (above ++ l ∷ []) (counted new)
    line_judged e = (
      has_head file above l d due_here (judged_here true is).0,
      has_closed file above l (counted new) known whole all closed closed_is e,
      known,
    )

    pub line_unclosed : closed ≡ false → HasHead file above l × (HasClosed file above l → ⊥)
    line_unclosed e = (
      has_head file above l d due_here (judged_here true is).0,
      has_no_closed file above l (counted new) known whole all closed closed_is e i,
    )
