-- The lines above a place, which stand behind the head and tell this; and lines that lack each fault there.
use Rattle.std.proofs.Common.{◌≡◌, false, List, [], ◌∷◌, ◌++◌, sym, subst, append_assoc, append-nil, inr, arith}
use Rattle.std.specs.List.{Contains}
use Rattle.cs_lines.specs.Lines.Line.{Line}
use Rattle.cs_check.specs.Passing.Places.{part_of, last_part, next_parts, IsNumbered, MayCome}
use Rattle.cs_check.specs.Checking.Judging.{IsRight}
use Rattle.cs_check.proofs.OnChecking.HeadPlaces.{size_with}
use Rattle.cs_check.proofs.OnChecking.Kinds.{is_head}
use Rattle.cs_accord.proofs.OnSuite.Fine.{AreFine, fine_one, fine_both}
use Rattle.cs_accord.proofs.OnSuite.HeadTold.{IsBelow, below_more}
use Rattle.cs_accord.proofs.OnSuite.Setting.{Setting, by}
use Rattle.cs_accord.proofs.OnSuite.Telling.{Content, Told, told_line, with_line}

pub record IsAbove (s : Setting) (above : List Line) (c : Content) : Type 0 where
  pub below : IsBelow s above
  pub told : Told above c

-- lines that lack each fault, and what is told behind them
pub record IsBehind (s : Setting) (above lines : List Line) (c : Content) : Type 0 where
  pub fine : AreFine (by s) above lines
  pub told : IsAbove s (above ++ lines) c

module _ {s : Setting} {above : List Line} {c : Content} (a : IsAbove s above c) where
  -- a line may come behind a part
  pub may_come : (l : Line) → Contains (next_parts (last_part c.shown)) (part_of (last_part c.shown) l) → IsNumbered above l → MayCome s.file.grammar above l
  may_come l follows numbered =
      inr (record {
        behind = (let size = size_with s.file.grammar above a.below.has in let long = a.below.long in omega (arith, size, long));
        part = subst (λ q. Contains (next_parts q) (part_of q l)) (sym a.told.part_is) follows;
        numbered = numbered;
      })

  pub behind_none : IsBehind s above [] c
  behind_none = record { fine = tt; told = subst (λ (x : List Line). IsAbove s x c) (sym (append-nil above)) a }

  pub behind_line : (l : Line) (shown : List Line) → is_head l ≡ false → part_of (last_part c.shown) l ≡ last_part shown → IsRight (by s) above l → IsBehind s above (l ∷ []) (with_line c l shown)
  behind_line l shown behind is right = record {
    fine = fine_one (by s) above l right;
    told = record {
      below = below_more s above l behind a.below;
      told = told_line above c a.told l shown is;
    };
  }

pub behind_both : {s : Setting} {above : List Line} {b c : Content} (xs ys : List Line) → IsBehind s above xs b → IsBehind s (above ++ xs) ys c → IsBehind s above (xs ++ ys) c
behind_both {s} {above} {b} {c} xs ys first second = record {
  fine = fine_both (by s) above xs ys first.fine second.fine;
  told = subst (λ (x : List Line). IsAbove s x c) (append_assoc above xs ys) second.told;
}
