-- The words are a number, those of a goal and those of a verdict, and nothing more.
use Rattle.std.proofs.Common.{ℕ, List, [], ◌++◌, refl, sym, ap, ◌∙◌}
use Rattle.std.proofs.lemmas.Bool.{false≢true}
use Rattle.std.proofs.lemmas.List.Elements.{All-nil}
use Rattle.std.specs.Prelude.{codes}
use Rattle.cs_lines.proofs.OnLines.Forms.{says_words, goal_line_words}
use Rattle.cs_lines.proofs.OnLines.Parts.{same_behind, on, step, nothing_behind, nothing_more}
use Rattle.cs_lines.proofs.OnLines.Spelled.{IsByte}
use Rattle.cs_lines.proofs.OnLines.Splits.{behind_free}
use Rattle.cs_lines.proofs.OnTexts.OneLine.{same_goal}
use Rattle.cs_lines.specs.Lines.Line.{GoalLine}
use Rattle.cs_lines.specs.Lines.Splits.{words_behind}
use Rattle.cs_lines.specs.Lines.Texts.{goal_words, verdict_words}
use Rattle.cs_lines.proofs.lines.entries.read_goal.Goals as goal

pub returns-in_err-number : goal.returns-in_err-number
returns-in_err-number c =
    rw c.from_residual.ensures (λ l h.
    let p = goal_line_words (words_behind c.args.line.rest.now) l (behind_free c.args.line.rest.now) h in
    c.in_err-number.ensures p.number (goal_words p.goal (verdict_words p.verdict)) p.is)

pub returns-in_err-goal : goal.returns-in_err-goal
returns-in_err-goal c =
    rw c.from_residual-in_err-goal.ensures (λ l h.
    let p = goal_line_words (words_behind c.args.line.rest.now) l (behind_free c.args.line.rest.now) h in
    let one = c.in_ok-number.ensures in
    let rest1 = same_behind one.2 p.is in
    c.in_err-goal.ensures p.goal (verdict_words p.verdict) p.are_words rest1)

pub returns-in_err-verdict : goal.returns-in_err-verdict
returns-in_err-verdict c =
    rw c.from_residual-in_err-verdict.ensures (λ l h.
    let p = goal_line_words (words_behind c.args.line.rest.now) l (behind_free c.args.line.rest.now) h in
    let one = c.in_ok-number.ensures in
    let rest1 = same_behind one.2 p.is in
    let two = c.in_ok-goal.ensures in
    let rest2 = (same_goal two.0 p.goal _ (verdict_words p.verdict) (sym two.3 ∙ rest1)).1 in
    c.in_err-verdict.ensures p.verdict [] (rest2 ∙ sym (nothing_more p.verdict)))

pub returns-then-is_done : goal.returns-then-is_done
returns-then-is_done c =
    let one = c.in_ok-number.ensures in
    let two = c.in_ok-goal.ensures in
    let three = c.in_ok-verdict.ensures in
    let l = GoalLine one.0 two.0 three.0 in
    let behind = three.2 ∙ ap (λ (ws : List (List ℕ)). verdict_words three.0 ++ ws) ((c.if-is_done.ensures).0 refl) ∙ nothing_more three.0 in
    let is = on (codes "goal") (step one.2 (two.3 ∙ ap (goal_words two.0) behind)) in
    (l, says_words _ l is two.1 (All-nil IsByte), (one.1, two.2, three.1))

pub returns-else-is_done : goal.returns-else-is_done
returns-else-is_done c l h =
    let p = goal_line_words (words_behind c.args.line.rest.now) l (behind_free c.args.line.rest.now) h in
    let one = c.in_ok-number.ensures in
    let rest1 = same_behind one.2 p.is in
    let two = c.in_ok-goal.ensures in
    let rest2 = (same_goal two.0 p.goal _ (verdict_words p.verdict) (sym two.3 ∙ rest1)).1 in
    let three = c.in_ok-verdict.ensures in
    let rest3 = nothing_behind p.verdict three.0 _ _ rest2 three.2 in
    false≢true ((c.if-is_done.ensures).1 rest3)
