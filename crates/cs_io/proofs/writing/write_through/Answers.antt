-- What the sink took a part of, its output took a part of; and what holds by each text holds, as there is one.
use Rattle.std.proofs.Common.{List, ℕ, ◌∙◌, subst, arith}
use Rattle.std.proofs.lemmas.Result.{err_from_is_err_and}
use Rattle.cs_io.specs.Sink.{GrewByPrefix}
use Rattle.cs_io.proofs.Out.{part_lent, rose_by_each, same_by_each, whole_lent}
use Rattle.cs_io.proofs.writing.write_through.Goals as goal

pub returns-in_err-tell-clause-part : goal.returns-in_err-tell-clause-part
returns-in_err-tell-clause-part g c =
    let p = err_from_is_err_and c.from_residual.result c.from_residual.ensures.1 in
    rw p.1 (λ text is.
    let s = c.in_err-tell.ensures.text text is in
    part_lent g.O.Sink.written c.args.sink.now c.tell.new.sink text c.requires.waiting s.written s.passed)

pub returns-in_err-tell-clause-failed : goal.returns-in_err-tell-clause-failed
returns-in_err-tell-clause-failed g c = λ stopped.
    let p = err_from_is_err_and c.from_residual.result c.from_residual.ensures.1 in
    rose_by_each (g.T.Text.is c.args.text.now) c.requires.some (g.O.Sink.faults c.args.sink.now.sink.now) (g.O.Sink.faults c.tell.new.sink.sink.now)
    (λ text is. let s = c.in_err-tell.ensures.text text is in s.failed (let q = p.1 in let r = p.2 in cc))

pub returns-in_err-tell-clause-room : goal.returns-in_err-tell-clause-room
returns-in_err-tell-clause-room g c = λ room.
    same_by_each (g.T.Text.is c.args.text.now) c.requires.some (g.O.Sink.faults c.tell.new.sink.sink.now) (g.O.Sink.faults c.args.sink.now.sink.now)
    (λ text is.
    let s = c.in_err-tell.ensures.text text is in
    let fits = room text is in
    s.no_fault (omega (arith, fits, c.requires.spare)))

pub returns-in_err-flush-clause-part : goal.returns-in_err-flush-clause-part
returns-in_err-flush-clause-part g c =
    let p = err_from_is_err_and c.from_residual-in_err-flush.result c.from_residual-in_err-flush.ensures.1 in
    let t = c.in_ok-tell.ensures.text in
    let f = c.in_err-flush.ensures in
    let part = whole_lent g.O.Sink.written c.args.sink.now c.flush.new.self t.text c.requires.waiting (f.written ∙ t.written.written) (omega (arith, f.passed, t.written.passed)) in
    rw p.1 (λ text is. subst (λ (l : List ℕ). GrewByPrefix (g.O.Sink.written c.args.sink.now.sink.now) (g.O.Sink.written c.flush.new.self.sink.now) l)
    (c.requires.one t.text text t.is is) part)
