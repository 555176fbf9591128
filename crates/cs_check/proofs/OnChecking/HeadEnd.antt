-- The head at its end, and behind it.
use Rattle.std.proofs.Common.{◌≡◌, ℕ, ◌<◌, ◌≤◌, Bool, true, false, List, [], ◌∷◌, ◌++◌, Option, None, length, drop, refl, sym, ap, ◌∙◌, subst, arith}
use Rattle.std.specs.Prelude.{if◌then◌else◌}
use Rattle.std.specs.List.{Contains}
use Rattle.std.proofs.lemmas.Bool.{false≢true}
use Rattle.std.proofs.lemmas.List.{length_push}
use Rattle.cs_choices.specs.declared.weigh.Weigh.{Weigh}
use Rattle.cs_grammar.specs.Grammar.{PlainGrammar}
use Rattle.cs_yacc.specs.Reading.File.{File}
use Rattle.cs_lines.specs.Lines.Line.{Productive, Reachable, Empty, First, Last, Next, Line, Opening, Weighing, TokenLine, RuleLine, LexemeLine, SetLine, RowLine, CaseLine, DeriveLine, TokensLine, TextLine, NoLexemeLine, NoScanLine, GoalLine, BaseLine, NegativeLine, EndLine}
use Rattle.cs_check.specs.Passing.Above.{weigh_in, lexeme_in, weighs, lexemes, is_set, has_sets, set_in, row_in}
use Rattle.cs_check.specs.Passing.Head.{Due, tables, whole_head, head_size}
use Rattle.cs_check.specs.Passing.Places.{Part, InHead, OfCase, OfDerivation, OfCaseTokens, OfCaseText, OfGoal, OfBase, OfNegative, OfNegativeTokens, OfNegativeText, OfEnd, part_of, next_parts, IsInHead}
use Rattle.cs_check.specs.Passing.Entries.{measured, IsNumbered}
use Rattle.cs_check.specs.declared.checking.head.Head.{Head}
use Rattle.cs_check.specs.Checking.Head.{state_of, AreNext, KnowsHead, HasEnded}
use Rattle.cs_check.proofs.OnChecking.Told.{kept, among_true}
use Rattle.cs_check.proofs.OnChecking.HeadPlaces.{drop_all, size_with, size_without, sets_lack, claims_left}
use Rattle.cs_check.proofs.OnChecking.HeadMeasure.{measure_known}
use Rattle.cs_check.proofs.OnChecking.HeadSets.{ClaimsNone, sets_kept}
use Rattle.cs_check.proofs.OnChecking.HeadKnown.{none_of, no_set_in, no_row_in}

-- ---- at the end

module _ (file : File) (above : List Line) (h : Head) (knows : KnowsHead file above h) (ended : head_size file.grammar above ≤ length above) where
  -- all that stands in front of the closed lines is told
  one_weigh : (b : Bool) → has_sets above ≡ b → length (weighs above) ≡ 1
  one_weigh true e =
      let size = size_with file.grammar above e in
      let past : length (whole_head file.grammar) ≤ length above = omega arith in
      subst (λ (ds : List Due). AreNext (state_of above) ds) (drop_all (whole_head file.grammar) (length above) past) knows.place.next
  one_weigh false e =
      let size = size_without file.grammar above e in
      let most = knows.place.within in
      let at : length above ≡ length (tables file.grammar) = omega arith in
      (subst (λ (ds : List Due). AreNext (state_of above) ds) (ap (λ (n : ℕ). drop n (whole_head file.grammar)) at ∙ claims_left file.grammar) knows.place.next).0.1

  pub head_ended : HasEnded file above h
  head_ended = record {
    ended = ended;
    sets = knows.sets;
    measured = measure_known above h.weigh h.numbers.items knows.measure (one_weigh (has_sets above) refl);
  }

-- ---- behind it

-- a line that isn't of the head
pub record IsBehind (l : Line) : Type 0 where
  pub none : ClaimsNone l
  pub weigh : weigh_in l ≡ None
  pub lexeme : lexeme_in l ≡ None

plainly : (l : Line) → is_set l ≡ false → weigh_in l ≡ None → lexeme_in l ≡ None → set_in Productive l ≡ None → set_in Reachable l ≡ None → set_in Empty l ≡ None → row_in First l ≡ None → row_in Last l ≡ None → row_in Next l ≡ None → IsBehind l
plainly l s w t a b c x y z = record { none = none_of l l refl s (no_set_in l a b c) (no_row_in l x y z); weigh = w; lexeme = t }

-- no line of the head may follow a part
no_head : (p : Part) → Contains (next_parts p) InHead → ⊥
no_head InHead h = false≢true (among_true (next_parts InHead) InHead h)
no_head OfCase h = false≢true (among_true (next_parts OfCase) InHead h)
no_head OfDerivation h = false≢true (among_true (next_parts OfDerivation) InHead h)
no_head OfCaseTokens h = false≢true (among_true (next_parts OfCaseTokens) InHead h)
no_head OfCaseText h = false≢true (among_true (next_parts OfCaseText) InHead h)
no_head OfGoal h = false≢true (among_true (next_parts OfGoal) InHead h)
no_head OfBase h = false≢true (among_true (next_parts OfBase) InHead h)
no_head OfNegative h = false≢true (among_true (next_parts OfNegative) InHead h)
no_head OfNegativeTokens h = false≢true (among_true (next_parts OfNegativeTokens) InHead h)
no_head OfNegativeText h = false≢true (among_true (next_parts OfNegativeText) InHead h)
no_head OfEnd h = false≢true (among_true (next_parts OfEnd) InHead h)

pub behind_line : (p : Part) (l : Line) → Contains (next_parts p) (part_of p l) → IsBehind l
behind_line p Opening h = absurd (no_head p h)
behind_line p (Weighing w) h = absurd (no_head p h)
behind_line p (TokenLine n name) h = absurd (no_head p h)
behind_line p (RuleLine n left right) h = absurd (no_head p h)
behind_line p (LexemeLine name text) h = absurd (no_head p h)
behind_line p (SetLine kind names) h = absurd (no_head p h)
behind_line p (RowLine kind name names) h = absurd (no_head p h)
behind_line p (CaseLine n size) h = plainly (CaseLine n size) refl refl refl refl refl refl refl refl refl
behind_line p (DeriveLine rules) h = plainly (DeriveLine rules) refl refl refl refl refl refl refl refl refl
behind_line p (TokensLine names) h = plainly (TokensLine names) refl refl refl refl refl refl refl refl refl
behind_line p (TextLine text) h = plainly (TextLine text) refl refl refl refl refl refl refl refl refl
behind_line p (NoLexemeLine name) h = plainly (NoLexemeLine name) refl refl refl refl refl refl refl refl refl
behind_line p (NoScanLine after) h = plainly (NoScanLine after) refl refl refl refl refl refl refl refl refl
behind_line p (GoalLine n goal verdict) h = plainly (GoalLine n goal verdict) refl refl refl refl refl refl refl refl refl
behind_line p (BaseLine n goal) h = plainly (BaseLine n goal) refl refl refl refl refl refl refl refl refl
behind_line p (NegativeLine n base edit left right at) h = plainly (NegativeLine n base edit left right at) refl refl refl refl refl refl refl refl refl
behind_line p (EndLine counts) h = plainly (EndLine counts) refl refl refl refl refl refl refl refl refl

size_same : (g : PlainGrammar) (lines : List Line) (l : Line) → IsBehind l → head_size g (lines ++ l ∷ []) ≡ head_size g lines
size_same g lines l is = ap (λ (b : Bool). if b then length (whole_head g) else length (tables g)) (sets_lack lines l is.none.no_set)

pub ended_past : (g : PlainGrammar) (lines : List Line) (p : Part) (l : Line) → head_size g lines ≤ length lines → Contains (next_parts p) (part_of p l) → head_size g (lines ++ l ∷ []) < length (lines ++ l ∷ [])
ended_past g lines p l ended part =
    let same = size_same g lines l (behind_line p l part) in
    let long = length_push lines l in
    omega arith

pub ended_more : (file : File) (lines : List Line) (h : Head) (p : Part) (l : Line) → HasEnded file lines h → Contains (next_parts p) (part_of p l) → HasEnded file (lines ++ l ∷ []) h
ended_more file lines h p l t part =
    let is = behind_line p l part in
    let weighed : weighs (lines ++ l ∷ []) ≡ weighs lines = kept weigh_in lines l is.weigh in
    let texts : lexemes (lines ++ l ∷ []) ≡ lexemes lines = kept lexeme_in lines l is.lexeme in
    let past = ended_past file.grammar lines p l t.ended part in
    let m = t.measured in record {
      ended = omega arith;
      sets = sets_kept lines l is.none file h.sets t.sets;
      measured = (
        m.0,
        (
          m.1.0,
          subst (λ (x : List Weigh). IsNumbered x 1 m.1.0) (sym weighed) m.1.1,
          m.1.2 ∙ ap (λ (x : List (Option (List ℕ))). measured m.1.0 x) (sym texts),
        ),
        m.2,
        m.3,
      );
    }

-- no line of the head may stand there
pub not_in_head : (g : PlainGrammar) (lines : List Line) (l : Line) → head_size g lines < length lines → IsInHead g lines l → ⊥
not_in_head g lines l past h = let most = h.within in omega arith
