-- Mark by mark, each of a byte or more, up to where none stands; the end of the inner run moves on.
use Rattle.std.proofs.Common.{ℕ, List, ◌+◌, ◌++◌, ◌∷◌, [], ◌∙◌, ap, arith, refl, sym, append_assoc}
use Rattle.std.proofs.lemmas.List.{map_push}
use Rattle.cs_bytes.specs.Classes.{is_inner}
use Rattle.cs_bytes.proofs.RunEnds.{end_behind}
use Rattle.cs_pattern_parts.specs.Items.Marks.{mark}
use Rattle.cs_pattern_parts.specs.Items.Brackets.{BracketMark}
use Rattle.cs_pattern_parts.specs.Items.Views.{mark_of, marks_of}
use Rattle.cs_pattern_parts.proofs.OnItems.Walking.{walks_more, walks_all}
use Rattle.cs_pattern_parts.proofs.OnItems.Moving.{mark_moves}
use Rattle.cs_pattern_parts.proofs.items.mark.push_marks.Goals as goal

pub loop-mark-preserved : goal.loop-mark-preserved
loop-mark-preserved c =
    let so_far = c.loop-mark.invariant in (
      so_far.0 ++ mark_of c.in-Some.mark ∷ [],
      ap marks_of c.in_ok-push.ensures.items ∙ map_push mark_of _ _ ∙ ap (λ xs. xs ++ mark_of c.in-Some.mark ∷ []) so_far.1 ∙ append_assoc _ so_far.0 (mark_of c.in-Some.mark ∷ []),
      walks_more mark mark_moves _ _ c.loop-mark.at (mark_of c.in-Some.mark) c.in-Some.size _ refl (sym c.in-Some.ensures.value) so_far.2,
      end_behind is_inner c.args.text.now (c.loop-mark.at + 2) (c.loop-mark.at + c.in-Some.size + 2) c.mark_at.new.end c.mark_at.ensures.end (omega arith),
    )

pub returns-clause-list : goal.returns-clause-list
returns-clause-list c =
    let so_far = c.loop-mark.invariant in
    let all = walks_all mark mark_moves _ _ c.loop-mark.at _ refl (sym c.in_default.ensures.value) so_far.2 in
    so_far.1 ∙ ap (λ (xs : List BracketMark). marks_of c.args.marks.now.items ++ xs) (sym (ap (λ (r : List BracketMark × ℕ). r.0) all))

pub returns-clause-size : goal.returns-clause-size
returns-clause-size c =
    let so_far = c.loop-mark.invariant in
    let all = walks_all mark mark_moves _ _ c.loop-mark.at _ refl (sym c.in_default.ensures.value) so_far.2 in
    sym (ap (λ (r : List BracketMark × ℕ). r.1) all)
