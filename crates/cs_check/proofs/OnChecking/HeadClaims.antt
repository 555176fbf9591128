-- The closed lines of the head, judged.
use Rattle.std.proofs.Common.{◌≡◌, ℕ, Bool, true, false, List, [], ◌∷◌, ◌++◌, Some, length, refl, sym, ap, ◌∙◌, subst, ◌↔◌, arith}
use Rattle.std.specs.Prelude.{IsTrue, All}
use Rattle.std.specs.Bool.{OnTrue}
use Rattle.std.proofs.lemmas.Bool.{OnTrue_at}
use Rattle.cs_yacc.specs.Reading.File.{File}
use Rattle.cs_lines.specs.Lines.Line.{SetKind, Productive, Reachable, Empty, RowKind, First, Last, Next, Line, SetLine, RowLine}
use Rattle.cs_closed.specs.Closed.Sets.{PlainSets, no_sets}
use Rattle.cs_check.specs.Passing.Above.{is_set, sets, rows}
use Rattle.cs_check.specs.Passing.Head.{TheSet, TheRow, row_name, IsNonterminalName, IsRowName, IsOfFile, AreClaimed}
use Rattle.cs_check.specs.Checking.Claims.{ClaimsSet, ClaimsRow, IsNextRow}
use Rattle.cs_check.specs.Checking.Excluded.{AreSetsIn}
use Rattle.cs_check.specs.Checking.Head.{IsNextIn, state_of, IsUnclaimed, IsClaimJudged}
use Rattle.cs_check.proofs.OnChecking.HeadPlaces.{sets_come, sets_stay}
use Rattle.cs_check.proofs.OnChecking.HeadSets.{claimed_same}
use Rattle.cs_check.proofs.OnChecking.NoClaims.{claims_none}

none_at_0 : {X : Type 0} (xs : List X) → length xs ≡ 0 → xs ≡ []
none_at_0 [] e = refl
none_at_0 (x ∷ xs) e = absurd (omega (arith, e))

first_of_kind : (lines : List Line) (kind : SetKind) → IsNextIn (state_of lines) (TheSet kind) → sets kind lines ≡ []
first_of_kind lines Productive h = none_at_0 (sets Productive lines) h.0
first_of_kind lines Reachable h = none_at_0 (sets Reachable lines) h
first_of_kind lines Empty h = none_at_0 (sets Empty lines) h

next_of_kind : (lines : List Line) (kind : RowKind) (n : ℕ) → IsNextIn (state_of lines) (TheRow kind n) → IsNextRow lines kind n
next_of_kind lines First n h = h.0
next_of_kind lines Last n h = h.0
next_of_kind lines Next n h = h.0

one_productive : (lines : List Line) (kind : RowKind) (n : ℕ) → IsNextIn (state_of lines) (TheRow kind n) → length (sets Productive lines) ≡ 1
one_productive lines First n h = h.1
one_productive lines Last n h = h.1
one_productive lines Next n h = h.1

-- ---- sets with nothing in them

-- where no line claims anything these are claimed
pub begun_claimed : (file : File) (lines : List Line) → IsUnclaimed lines → AreClaimed file lines (no_sets file.grammar)
begun_claimed file lines h = claimed_same [] lines h.no_set h.no_row file (no_sets file.grammar) (claims_none file)

-- a row never is the first closed line
pub row_with_sets : (lines : List Line) (kind : RowKind) (n : ℕ) → IsUnclaimed lines → IsNextIn (state_of lines) (TheRow kind n) → ⊥
row_with_sets lines kind n none h =
    let one = one_productive lines kind n h in
    let no = ap (λ (x : List (List (List ℕ))). length x) (none.no_set Productive) in
    omega (arith, one, no)

no_sets_of : (kind : SetKind) → sets kind [] ≡ []
no_sets_of Productive = refl
no_sets_of Reachable = refl
no_sets_of Empty = refl

no_rows_of : (kind : RowKind) → rows kind [] ≡ []
no_rows_of First = refl
no_rows_of Last = refl
no_rows_of Next = refl

pub no_claims : IsUnclaimed []
no_claims = record { no_set = no_sets_of; no_row = no_rows_of }

-- ---- the line of a set

module _ (file : File) (lines : List Line) (kind : SetKind) (names : List (List ℕ)) (l : Line) (e : l ≡ SetLine kind names) where
  pub set_judged : IsNextIn (state_of lines) (TheSet kind) → (old new : PlainSets) → AreClaimed file lines old → (so : Bool) → IsTrue so ↔ All (IsNonterminalName file) names → OnTrue so (ClaimsSet file kind names old new) → IsClaimJudged file lines (TheSet kind) l (Some new) so
  set_judged next old new claimed true known more =
      let claims = OnTrue_at refl more lines claimed (first_of_kind lines kind next) in (
        (names, e, known.0 refl),
        new,
        refl,
        (sets_come lines l (ap is_set e), subst (λ (x : Line). AreClaimed file (lines ++ x ∷ []) new) (sym e) claims),
      )
  set_judged next old new claimed false known more = λ is.
      let both : SetLine kind names ≡ SetLine kind is.0 = sym e ∙ is.1 in
      let same : is.0 ≡ names = cc in
      let so : false ≡ true = known.1 (subst (λ (x : List (List ℕ)). All (IsNonterminalName file) x) same is.2) in
      absurd cc

-- ---- and of a row

module _ (file : File) (lines : List Line) (kind : RowKind) (n : ℕ) (name : List ℕ) (names : List (List ℕ)) (l : Line) (e : l ≡ RowLine kind name names) where
  pub row_unnamed : (row_name file kind n ≡ name → ⊥) → IsOfFile file (TheRow kind n) l → ⊥
  row_unnamed other is =
      let both : RowLine kind name names ≡ RowLine kind (row_name file kind n) is.0 = sym e ∙ is.1 in
      let same : row_name file kind n ≡ name = cc in
      other same

  pub row_judged : row_name file kind n ≡ name → IsNextIn (state_of lines) (TheRow kind n) → (old new : PlainSets) → AreSetsIn file lines (Some old) → (so : Bool) → IsTrue so ↔ All (IsRowName file kind) names → OnTrue so (ClaimsRow file kind n names old new) → IsClaimJudged file lines (TheRow kind n) l (Some new) so
  row_judged named next old new claimed true known more =
      let claims = OnTrue_at refl more lines name claimed.1 (next_of_kind lines kind n next) in (
        (names, e ∙ ap (λ (x : List ℕ). RowLine kind x names) (sym named), known.0 refl),
        new,
        refl,
        (sets_stay lines l claimed.0, subst (λ (x : Line). AreClaimed file (lines ++ x ∷ []) new) (sym e) claims),
      )
  row_judged named next old new claimed false known more = λ is.
      let both : RowLine kind name names ≡ RowLine kind (row_name file kind n) is.0 = sym e ∙ is.1 in
      let same : is.0 ≡ names = cc in
      let so : false ≡ true = known.1 (subst (λ (x : List (List ℕ)). All (IsRowName file kind) x) same is.2) in
      absurd cc
