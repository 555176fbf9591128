-- One class more.
use Rattle.cs_scanner.proofs.OnAutomaton.Columning.{mark_one, mark_none}
use Rattle.cs_scanner.proofs.automaton.columns.mark.Goals as goal
use Rattle.cs_scanner.proofs.automaton.columns.mark.Goals.{then-class_has, else-class_has}

pub loop-n-preserved : goal.loop-n-preserved
loop-n-preserved c =
    let classes = c.args.classes.now in
    let n = c.loop-n.n in
    let byte = c.args.byte in
    elim c.if-class_has.branch [
      | then-class_has w ↦ rw w.words-is (mark_one c.args.words.now c.loop-n.words _ classes n byte c.class_has.result c.loop-n-test.true c.class_has.ensures w.if-class_has.true c.loop-n.invariant w.put.ensures)
      | else-class_has w ↦ rw w.words-is (mark_none c.args.words.now c.loop-n.words classes n byte c.class_has.result c.loop-n-test.true c.class_has.ensures w.if-class_has.false c.loop-n.invariant)
    ]
