-- The lines of all bases with their negatives lack each fault, and so does the end line behind them.
use Rattle.std.proofs.Common.{◌≡◌, ℕ, ◌+◌, List, [], ◌∷◌, ◌++◌, length, length-append, refl, sym, ap, subst, arith}
use Rattle.std.specs.Prelude.{sum_by}
use Rattle.std.specs.List.{AllByRecursion, Contains}
use Rattle.std.proofs.lemmas.List.{length-map}
use Rattle.std.proofs.lemmas.List.Sums.{sum_by-cons}
use Rattle.cs_manifest.specs.Manifest.Manifest.{BaseEntry}
use Rattle.cs_lines.specs.Words.Edits.{EditWords}
use Rattle.cs_lines.specs.Lines.Line.{VerdictWords, Feasible, GoalWords, Counts, Line, BaseLine, EndLine}
use Rattle.cs_check.specs.Passing.Entries.{IsNumbered as IsEntry}
use Rattle.cs_check.specs.Passing.Faults.{counted}
use Rattle.cs_check.specs.Passing.Goals.{AreFinished}
use Rattle.cs_check.specs.Passing.Places.{last_part, next_parts}
use Rattle.cs_check.proofs.OnChecking.Kinds.{right_base, right_end}
use Rattle.cs_accord.specs.Suite.{numbered, negative_lines, base_lines}
use Rattle.cs_accord.proofs.OnSuite.Above.{IsAbove, IsBehind, may_come, behind_none, behind_line, behind_both}
use Rattle.cs_accord.proofs.OnSuite.Negatives.{IsKnownBase, IsLastBase, IsPast, base_part, edits_told, known_negatives, negatives_fine}
use Rattle.cs_accord.proofs.OnSuite.Setting.{Setting, IsSetting, by}
use Rattle.cs_accord.proofs.OnSuite.Telling.{Content, of_base, of_end, is_last, with_line}

-- how many negatives the bases have
abbrev pub all_negatives : List BaseEntry → ℕ
all_negatives mutants = sum_by (λ (b : BaseEntry). length b.negatives) mutants

-- lines that lack each fault, behind which the end may come; this is told, but for where the last stands, the bases and so many negatives
pub record ArePast (s : Setting) (above lines : List Line) (c : Content) (many : ℕ) : Type 0 where
  pub shown : List Line
  pub end : Contains (next_parts (last_part shown)) (last_part of_end)
  pub bases : List ℕ
  pub edits : List EditWords
  pub many_edits : length edits ≡ length c.edits + many
  pub behind : IsBehind s above lines (record c { shown = shown; bases = bases; edits = edits })

module _ {s : Setting} (is : IsSetting s) where
  -- one base
  base_fine : {above : List Line} {c : Content} → IsAbove s above c → Contains (next_parts (last_part c.shown)) (last_part of_base) → AreFinished s.file.grammar c.goals → (base : BaseEntry) → IsKnownBase s c.words c.codes base
      → IsPast s above (BaseLine (length c.bases + 1) base.goal ∷ numbered (length c.edits + 1) (negative_lines s.file (length c.bases + 1) base.tokens) base.negatives)
      (record c { bases = c.bases ++ base.goal ∷ []; edits = c.edits ++ edits_told s.file base.negatives })
  base_fine {above} {c} a may finished base known =
      let l : Line = BaseLine (length c.bases + 1) base.goal in
      let of = known.of in
      let right = right_base (by s) above (length c.bases + 1) base.goal (may_come a l may (ap (λ (x : List ℕ). length x + 1) (sym a.told.bases_are)))
      (subst (λ (x : List GoalWords). AreFinished s.file.grammar x) (sym a.told.goals_are) finished)
      (of.case, (of.size, of.first, subst (λ (x : List VerdictWords). IsEntry x base.goal (Feasible of.size of.case of.first)) (sym a.told.words_are) of.verdict)) in
      let first = behind_line a l of_base refl refl right in
      let bs = c.bases ++ base.goal ∷ [] in
      let last : IsLastBase s.file.grammar c.words c.codes bs base.tokens = record { goal = base.goal; last = is_last c.bases base.goal; of = of } in
      let rest = negatives_fine is base.negatives (known_negatives base.negatives is known.made) first.told base_part last in
      let behind = λ (k : ℕ). numbered (length c.edits + 1) (negative_lines s.file k base.tokens) base.negatives in
      let both = behind_both (l ∷ []) (behind (length bs)) first rest.behind in
      record {
        shown = rest.shown;
        starts = rest.starts;
        behind = subst (λ (k : ℕ). IsBehind s above (l ∷ behind k) (record c { shown = rest.shown; bases = bs; edits = c.edits ++ edits_told s.file base.negatives })) (length-append c.bases (base.goal ∷ [])) both;
      }

  pub bases_fine : (mutants : List BaseEntry) {above : List Line} {c : Content} → AllByRecursion (IsKnownBase s c.words c.codes) mutants → IsAbove s above c → Contains (next_parts (last_part c.shown)) (last_part of_base)
      → Contains (next_parts (last_part c.shown)) (last_part of_end) → AreFinished s.file.grammar c.goals → ArePast s above (base_lines s.file (length c.edits) (length c.bases) mutants) c (all_negatives mutants)
  bases_fine [] {above} {c} known a may end finished = record {
    shown = c.shown;
    end = end;
    bases = c.bases;
    edits = c.edits;
    many_edits = omega arith;
    behind = behind_none a;
  }
  bases_fine (base ∷ rest) {above} {c} known a may end finished =
      let bs = c.bases ++ base.goal ∷ [] in
      let es = c.edits ++ edits_told s.file base.negatives in
      let bases_are : length bs ≡ length c.bases + 1 = length-append c.bases (base.goal ∷ []) in
      let edits_are : length es ≡ length c.edits + length base.negatives = (
      let long = length-append c.edits (edits_told s.file base.negatives) in
      let told : length (edits_told s.file base.negatives) ≡ length base.negatives = length-map base.negatives _ in
      omega (arith, long, told)
      ) in
      let one = base_fine a may finished base known.0 in
      let others = bases_fine rest known.1 one.behind.told one.starts.base one.starts.end finished in
      let many : length others.edits ≡ length es + all_negatives rest = others.many_edits in
      let sum = sum_by-cons (λ (x : BaseEntry). length x.negatives) base rest in
      let lines = BaseLine (length c.bases + 1) base.goal ∷ numbered (length c.edits + 1) (negative_lines s.file (length c.bases + 1) base.tokens) base.negatives in
      let all : Content = record c { shown = others.shown; bases = others.bases; edits = others.edits } in
      let both = behind_both lines (base_lines s.file (length es) (length bs) rest) one.behind others.behind in
      let both_bases = subst (λ (k : ℕ). IsBehind s above (lines ++ base_lines s.file (length es) k rest) all) bases_are both in
      record {
        shown = others.shown;
        end = others.end;
        bases = others.bases;
        edits = others.edits;
        many_edits = omega (arith, many, edits_are, sum);
        behind = subst (λ (k : ℕ). IsBehind s above (lines ++ base_lines s.file k (length c.bases + 1) rest) all) edits_are both_bases;
      }

-- ---- the end

pub end_fine : {s : Setting} {above : List Line} {c : Content} (a : IsAbove s above c) → Contains (next_parts (last_part c.shown)) (last_part of_end) → AreFinished s.file.grammar c.goals → (counts : Counts) → counts ≡ counted above
    → IsBehind s above (EndLine counts ∷ []) (with_line c (EndLine counts) of_end)
end_fine {s} {above} {c} a end finished counts is =
    behind_line a (EndLine counts) of_end refl refl
    (right_end (by s) above counts (may_come a (EndLine counts) end tt) (subst (λ (x : List GoalWords). AreFinished s.file.grammar x) (sym a.told.goals_are) finished) is)
