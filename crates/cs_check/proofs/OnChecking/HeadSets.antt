-- What the lines claim, where they claim the same, or no more.
use Rattle.std.proofs.Common.{◌≡◌, ℕ, List, [], ◌∷◌, ◌++◌, Option, Some, None, drop, refl, sym, ap, ◌∙◌, subst, ◌↔◌}
use Rattle.std.specs.Prelude.{false, IfNone}
use Rattle.std.specs.List.{Contains}
use Rattle.cs_grammar.specs.declared.symbol.Mark.{Mark}
use Rattle.cs_grammar.specs.declared.symbol.Mark.TheVariants as marks
use Rattle.cs_yacc.specs.Reading.File.{File}
use Rattle.cs_lines.specs.Words.Names.{IsTokenNamed, IsNonterminalNamed, IsBehindNamed}
use Rattle.cs_lines.specs.Lines.Line.{SetKind, Productive, Reachable, Empty, RowKind, First, Last, Next, Line}
use Rattle.cs_closed.specs.Closed.Sets.{PlainSets, IsProductive, IsReachable, IsEmpty, IsFirst, IsLast, IsNext}
use Rattle.cs_check.specs.Passing.Above.{set_in, row_in, sets, rows, is_set}
use Rattle.cs_check.specs.Passing.Head.{entry, names_behind, Claims, ClaimsToken, ClaimsNext, AreClaimed}
use Rattle.cs_check.specs.Checking.Head.{IsUnclaimed}
use Rattle.cs_check.specs.Checking.Excluded.{AreSetsIn}
use Rattle.cs_check.proofs.OnChecking.Told.{kept}
use Rattle.cs_check.proofs.OnChecking.HeadPlaces.{sets_lack}

-- the line claims nothing
pub record ClaimsNone (l : Line) : Type 0 where
  pub no_set : is_set l ≡ false
  pub sets : (kind : SetKind) → set_in kind l ≡ None
  pub rows : (kind : RowKind) → row_in kind l ≡ None

module _ (lines new : List Line) (same_sets : (kind : SetKind) → sets kind new ≡ sets kind lines) (same_rows : (kind : RowKind) → rows kind new ≡ rows kind lines) where
  behind_same : (a : Mark) → names_behind new a ≡ names_behind lines a
  behind_same marks.Begin = ap (λ (x : List (List (List ℕ))). entry x 1) (same_rows Next)
  behind_same (marks.Token t) = ap (λ (x : List (List (List ℕ))). entry (drop 1 x) t) (same_rows Next)
  behind_same marks.End = refl

  module _ (file : File) (s : PlainSets) (h : AreClaimed file lines s) where
    set_same : (kind : SetKind) (n : ℕ) (P : Type 0) → P ↔ Claims file lines kind n → P ↔ Claims file new kind n
    set_same kind n P is = subst (λ (x : List (List (List ℕ))). P ↔ ((name : List ℕ) × Contains (entry x 1) name × IsNonterminalNamed file name n)) (sym (same_sets kind)) is

    row_same : (kind : RowKind) (n t : ℕ) (P : Type 0) → P ↔ ClaimsToken file lines kind n t → P ↔ ClaimsToken file new kind n t
    row_same kind n t P is = subst (λ (x : List (List (List ℕ))). P ↔ ((name : List ℕ) × Contains (entry x n) name × IsTokenNamed file name t)) (sym (same_rows kind)) is

    next_same : (a b : Mark) → IsNext s a b ↔ ClaimsNext file new a b
    next_same a b = subst (λ (x : List (List ℕ)). IsNext s a b ↔ ((name : List ℕ) × Contains x name × IsBehindNamed file name b)) (sym (behind_same a)) (h.next a b)

    pub claimed_same : AreClaimed file new s
    claimed_same = record {
      fit = h.fit;
      productive = λ n. set_same Productive n (IsProductive s n) (h.productive n);
      reachable = λ n. set_same Reachable n (IsReachable s n) (h.reachable n);
      empty = λ n. set_same Empty n (IsEmpty s n) (h.empty n);
      first = λ n t. row_same First n t (IsFirst s n t) (h.first n t);
      last = λ n t. row_same Last n t (IsLast s n t) (h.last n t);
      next = next_same;
    }

module _ (lines : List Line) (l : Line) (none : ClaimsNone l) where
  pub sets_kept : (file : File) (told : Option PlainSets) → AreSetsIn file lines told → AreSetsIn file (lines ++ l ∷ []) told
  sets_kept file None h = sets_lack lines l none.no_set ∙ h
  sets_kept file (Some s) h = (
    sets_lack lines l none.no_set ∙ h.0,
    claimed_same lines (lines ++ l ∷ []) (λ kind. kept (set_in kind) lines l (none.sets kind)) (λ kind. kept (row_in kind) lines l (none.rows kind)) file s h.1,
  )

  pub unclaimed_kept : IsUnclaimed lines → IsUnclaimed (lines ++ l ∷ [])
  unclaimed_kept h = record {
    no_set = λ kind. kept (set_in kind) lines l (none.sets kind) ∙ h.no_set kind;
    no_row = λ kind. kept (row_in kind) lines l (none.rows kind) ∙ h.no_row kind;
  }

  pub still_unclaimed : (told : Option PlainSets) → IfNone told (IsUnclaimed lines) → IfNone told (IsUnclaimed (lines ++ l ∷ []))
  still_unclaimed None h = unclaimed_kept h
  still_unclaimed (Some s) h = h
