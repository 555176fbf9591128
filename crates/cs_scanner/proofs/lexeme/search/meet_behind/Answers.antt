-- A step to a known state changes nothing, and one to a new state meets it, until the whole row was walked.
use Rattle.std.proofs.Common.{arith, ◌≡◌, ◌∙◌, sym, ap, refl, Some, true, false}
use Rattle.std.specs.Prelude.{slice_get, slice_index_or}
use Rattle.std.proofs.lemmas.Option.{slice_get-get_or}
use Rattle.cs_scanner.specs.declared.lexeme.steps.Step.{Step}
use Rattle.cs_scanner.specs.Lexeme.Table.{step_rows}
use Rattle.cs_scanner.proofs.OnLexeme.Meeting.{mid_skip, mid_push, mid_done}
use Rattle.cs_scanner.proofs.lexeme.search.meet_behind.Goals as goal
use Rattle.cs_scanner.proofs.lexeme.search.meet_behind.Goals.{then-not-met-to+in_ok-push, else-not-met-to}

pub bounds-met-to : goal.bounds-met-to
bounds-met-to c =
    let row = c.row_at-row.result.now in
    let step = slice_index_or row c.loop-i.i (record { byte = 0; to = 0 }) in
    let here = slice_get-get_or row c.loop-i.i (record { byte = 0; to = 0 }) c.loop-i-test.true in
    let is_row = c.requires.steps.each c.index.result.now.state row c.row_at-row.ensures in
    omega (arith, (is_row.steps c.loop-i.i step here).within, c.loop-i.invariant.are_met.marked.all)

pub loop-i-preserved : goal.loop-i-preserved
loop-i-preserved c =
    let m = c.args.steps.now.automaton.now in
    let row = c.row_at-row.result.now in
    let v = c.index.result.now in
    let i = c.loop-i.i in
    let step : Step = slice_index_or row i (record { byte = 0; to = 0 }) in
    let here : slice_get row i ≡ Some step = slice_get-get_or row i (record { byte = 0; to = 0 }) c.loop-i-test.true in
    let is_row = c.requires.steps.each v.state row c.row_at-row.ensures in
    let first : slice_get c.args.visits.now.items c.args.place ≡ Some v = slice_get-get_or c.args.visits.now.items c.args.place v c.requires.place ∙ ap Some (sym c.index.ensures) in
    let at = c.loop-i.invariant.extends.stay c.args.place v first in
    elim c.if-not-met-to.branch [
      | then-not-met-to+in_ok-push w ↦
          let unmet : slice_index_or c.loop-i.met step.to false ≡ false = cc (w.if-not-met-to.true) in
          rw (w.visits-is, w.met-is, w.in_ok-push.ensures.items)
          (mid_push m c.args.place v.state row c.args.visits.now.items c.loop-i.visits.items c.loop-i.met i v step is_row at refl here unmet c.loop-i.invariant)
      | else-not-met-to w ↦
          let known : slice_index_or c.loop-i.met step.to false ≡ true = cc (w.if-not-met-to.false) in
          rw (w.visits-is, w.met-is) (mid_skip m c.args.place row c.args.visits.now.items c.loop-i.visits.items c.loop-i.met i step here known c.loop-i.invariant)
    ]

pub returns-clause-closed : goal.returns-clause-closed
returns-clause-closed c =
    let v = c.index.result.now in
    let first : slice_get c.args.visits.now.items c.args.place ≡ Some v = slice_get-get_or c.args.visits.now.items c.args.place v c.requires.place ∙ ap Some (sym c.index.ensures) in
    mid_done c.args.steps.now.automaton.now (step_rows c.args.steps.now) c.args.place c.index.result.now.state c.row_at-row.result.now c.args.visits.now.items c.loop-i.visits.items c.loop-i.met c.loop-i.i v first refl c.row_at-row.ensures (omega arith) c.loop-i.invariant
