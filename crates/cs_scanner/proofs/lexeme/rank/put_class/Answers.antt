-- A byte of the class comes behind those of lower rank, and a byte of another class isn't put.
use Rattle.cs_scanner.proofs.OnLexeme.Ranking.{by_rank_more, by_rank_same}
use Rattle.cs_scanner.proofs.lexeme.rank.put_class.Goals as goal
use Rattle.cs_scanner.proofs.lexeme.rank.put_class.Goals.{then-class_of-class+in_ok-push, else-class_of-class}

pub loop-value-preserved : goal.loop-value-preserved
loop-value-preserved c = elim c.if-class_of-class.branch [
  | then-class_of-class+in_ok-push w ↦ rw (w.bytes-is, w.in_ok-push.ensures.items) (by_rank_more c.args.class c.loop-value.value c.loop-value.bytes.items c.loop-value-test.true (cc) c.loop-value.invariant)
  | else-class_of-class w ↦ rw w.bytes-is (by_rank_same c.args.class c.loop-value.value c.loop-value.bytes.items c.loop-value-test.true (λ e. w.if-class_of-class.false (cc)) c.loop-value.invariant)
]
