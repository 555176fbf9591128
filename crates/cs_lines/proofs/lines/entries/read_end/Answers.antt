-- The words of the end line are six counts, each behind its word, and nothing more.
use Rattle.std.proofs.Common.{[], ◌∷◌, refl}
use Rattle.std.proofs.lemmas.Bool.{false≢true}
use Rattle.std.proofs.lemmas.List.Elements.{All-nil}
use Rattle.std.specs.Prelude.{codes}
use Rattle.cs_lines.proofs.OnLines.Forms.{says_words, end_words}
use Rattle.cs_lines.proofs.OnLines.Parts.{same_behind_two, on, step_two}
use Rattle.cs_lines.proofs.OnLines.Spelled.{IsByte}
use Rattle.cs_lines.proofs.OnLines.Splits.{behind_free}
use Rattle.cs_lines.proofs.OnTexts.OneLine.{counts_of}
use Rattle.cs_lines.specs.Lines.Line.{EndLine}
use Rattle.cs_lines.specs.Lines.Splits.{words_behind}
use Rattle.cs_lines.specs.Words.Words.{numeral, IsWord}
use Rattle.cs_lines.proofs.lines.entries.read_end.Goals as goal

pub returns-in_err-goals : goal.returns-in_err-goals
returns-in_err-goals c =
    rw c.from_residual.ensures (λ l h.
    let p = end_words (words_behind c.args.line.rest.now) l (behind_free c.args.line.rest.now) h in
    c.in_err-goals.ensures p.counts.goals (codes "feasible" ∷ numeral p.counts.feasible ∷ codes "infeasible" ∷ numeral p.counts.infeasible ∷ codes "large" ∷ numeral p.counts.large ∷ codes "negatives" ∷ numeral p.counts.negatives ∷ codes "cases" ∷ numeral p.counts.cases ∷ []) p.is)

pub returns-in_err-feasible : goal.returns-in_err-feasible
returns-in_err-feasible c =
    rw c.from_residual-in_err-feasible.ensures (λ l h.
    let p = end_words (words_behind c.args.line.rest.now) l (behind_free c.args.line.rest.now) h in
    c.in_err-feasible.ensures p.counts.feasible (codes "infeasible" ∷ numeral p.counts.infeasible ∷ codes "large" ∷ numeral p.counts.large ∷ codes "negatives" ∷ numeral p.counts.negatives ∷ codes "cases" ∷ numeral p.counts.cases ∷ []) (same_behind_two c.in_ok-goals.ensures.2 p.is))

pub returns-in_err-infeasible : goal.returns-in_err-infeasible
returns-in_err-infeasible c =
    rw c.from_residual-in_err-infeasible.ensures (λ l h.
    let p = end_words (words_behind c.args.line.rest.now) l (behind_free c.args.line.rest.now) h in
    c.in_err-infeasible.ensures p.counts.infeasible (codes "large" ∷ numeral p.counts.large ∷ codes "negatives" ∷ numeral p.counts.negatives ∷ codes "cases" ∷ numeral p.counts.cases ∷ []) (same_behind_two c.in_ok-feasible.ensures.2 (same_behind_two c.in_ok-goals.ensures.2 p.is)))

pub returns-in_err-large : goal.returns-in_err-large
returns-in_err-large c =
    rw c.from_residual-in_err-large.ensures (λ l h.
    let p = end_words (words_behind c.args.line.rest.now) l (behind_free c.args.line.rest.now) h in
    c.in_err-large.ensures p.counts.large (codes "negatives" ∷ numeral p.counts.negatives ∷ codes "cases" ∷ numeral p.counts.cases ∷ []) (same_behind_two c.in_ok-infeasible.ensures.2 (same_behind_two c.in_ok-feasible.ensures.2 (same_behind_two c.in_ok-goals.ensures.2 p.is))))

pub returns-in_err-negatives : goal.returns-in_err-negatives
returns-in_err-negatives c =
    rw c.from_residual-in_err-negatives.ensures (λ l h.
    let p = end_words (words_behind c.args.line.rest.now) l (behind_free c.args.line.rest.now) h in
    c.in_err-negatives.ensures p.counts.negatives (codes "cases" ∷ numeral p.counts.cases ∷ []) (same_behind_two c.in_ok-large.ensures.2 (same_behind_two c.in_ok-infeasible.ensures.2 (same_behind_two c.in_ok-feasible.ensures.2 (same_behind_two c.in_ok-goals.ensures.2 p.is)))))

pub returns-in_err-cases : goal.returns-in_err-cases
returns-in_err-cases c =
    rw c.from_residual-in_err-cases.ensures (λ l h.
    let p = end_words (words_behind c.args.line.rest.now) l (behind_free c.args.line.rest.now) h in
    c.in_err-cases.ensures p.counts.cases ([]) (same_behind_two c.in_ok-negatives.ensures.2 (same_behind_two c.in_ok-large.ensures.2 (same_behind_two c.in_ok-infeasible.ensures.2 (same_behind_two c.in_ok-feasible.ensures.2 (same_behind_two c.in_ok-goals.ensures.2 p.is))))))

pub returns-then-is_done : goal.returns-then-is_done
returns-then-is_done c =
    let one = c.in_ok-goals.ensures in
    let two = c.in_ok-feasible.ensures in
    let three = c.in_ok-infeasible.ensures in
    let four = c.in_ok-large.ensures in
    let five = c.in_ok-negatives.ensures in
    let six = c.in_ok-cases.ensures in
    let l = EndLine (counts_of one.0 two.0 three.0 four.0 five.0 six.0) in
    let is = on (codes "end") (step_two one.2 (step_two two.2 (step_two three.2 (step_two four.2 (step_two five.2 (step_two six.2 ((c.if-is_done.ensures).0 refl))))))) in
    (l, says_words _ l is (All-nil IsWord) (All-nil IsByte), record { goals = one.1; feasible = two.1; infeasible = three.1; large = four.1; negatives = five.1; cases = six.1 })

pub returns-else-is_done : goal.returns-else-is_done
returns-else-is_done c l h =
    let p = end_words (words_behind c.args.line.rest.now) l (behind_free c.args.line.rest.now) h in
    false≢true (c.if-is_done.ensures.1 (same_behind_two c.in_ok-cases.ensures.2 (same_behind_two c.in_ok-negatives.ensures.2 (same_behind_two c.in_ok-large.ensures.2 (same_behind_two c.in_ok-infeasible.ensures.2 (same_behind_two c.in_ok-feasible.ensures.2 (same_behind_two c.in_ok-goals.ensures.2 p.is)))))))
