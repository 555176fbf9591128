-- One row more.
use Rattle.std.proofs.Common.{◌∙◌, ℕ, List, sym, ap, subst, arith, length}
use Rattle.std.proofs.lemmas.List.{length_push}
use Rattle.cs_scanner.specs.Automaton.Sets.{lists}
use Rattle.cs_scanner.specs.Automaton.States.{AddsStep}
use Rattle.cs_scanner.proofs.OnAutomaton.Growing.{more_steps}
use Rattle.cs_scanner.proofs.OnAutomaton.Stating.{list_at}
use Rattle.cs_scanner.proofs.automaton.states.steps_of.Goals as goal

pub step-requires-clause-long : goal.step-requires-clause-long
step-requires-clause-long c =
    let at = list_at c.args.rows.now c.loop-column.column c.index-rows-column.result c.loop-column-test.true c.index-rows-column.is in
    sym (ap length c.deref.ensures.value ∙ c.requires.long c.loop-column.column c.index-rows-column.result.items at)

pub loop-column-preserved : goal.loop-column-preserved
loop-column-preserved c =
    let h = c.loop-column.invariant in
    let rows = lists c.args.rows.now in
    let old = lists c.args.sets.now.keys in
    let mid = lists c.loop-column.sets.keys in
    let new = lists c.step.new.sets.keys in
    let row = c.index-rows-column.result.items in
    let column = c.loop-column.column in
    let next = c.args.next.now in
    let at = list_at c.args.rows.now column c.index-rows-column.result c.loop-column-test.true c.index-rows-column.is in
    let Q : List ℕ → Type 0 = λ t. AddsStep mid new next t c.in_ok-to.to in
    let step = subst Q c.deref.ensures.value c.in_ok-to.ensures.step in
    record {
      count = rw (c.in_ok-push.ensures.items, length_push) (omega (arith, h.count));
      few = omega (arith, h.few, c.in_ok-to.ensures.few);
      has = λ rs width state long ready all.
          let before = h.has rs width state long ready all in
          let one = step rs width state long before.ready (all column row at) in
          rw c.in_ok-push.ensures.items (more_steps rs width rows old mid new state next c.loop-column.steps.items column row c.in_ok-to.to before (sym h.count) at one.0 one.1);
    }
