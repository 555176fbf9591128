-- The text of the bases is told and then flushed whole, and a stop leaves a part of it.
use Rattle.std.proofs.Common.{◌∙◌, arith}
use Rattle.std.proofs.lemmas.Result.{err_from_is_err_and}
use Rattle.cs_deep.specs.Writing.Progress.{IsDeepOf, choice_of}
use Rattle.cs_io.proofs.Out.{part_lent, rose_by_each, same_by_each}
use Rattle.cs_manifest.proofs.OnOutput.Growing.{whole_part}
use Rattle.cs_deep.proofs.writing.writing.write_through.Goals as goal

pub returns-in_err-tell-clause-part : goal.returns-in_err-tell-clause-part
returns-in_err-tell-clause-part g c =
    rw (err_from_is_err_and c.from_residual.result c.from_residual.ensures.1).1
    (λ text is. let s = c.in_err-tell.ensures.text text is in part_lent g.O.Sink.written c.args.sink.now c.tell.new.sink text c.requires.waiting s.written s.passed)

pub returns-in_err-tell-clause-failed : goal.returns-in_err-tell-clause-failed
returns-in_err-tell-clause-failed g c = λ stopped.
    let p = err_from_is_err_and c.from_residual.result c.from_residual.ensures.1 in
    rose_by_each (IsDeepOf c.args.deep.now) (c.some_deep.ensures (choice_of c.args.deep.now) c.args.deep.now.yacc.now) (g.O.Sink.faults c.args.sink.now.sink.now) (g.O.Sink.faults c.tell.new.sink.sink.now)
    (λ text is. let s = c.in_err-tell.ensures.text text is in s.failed (let q = p.1 in let r = p.2 in cc))

pub returns-in_err-tell-clause-room : goal.returns-in_err-tell-clause-room
returns-in_err-tell-clause-room g c = λ room.
    same_by_each (IsDeepOf c.args.deep.now) (c.some_deep.ensures (choice_of c.args.deep.now) c.args.deep.now.yacc.now) (g.O.Sink.faults c.tell.new.sink.sink.now) (g.O.Sink.faults c.args.sink.now.sink.now)
    (λ text is. let fits = room text is in (c.in_err-tell.ensures.text text is).no_fault (omega (arith, fits, c.requires.spare)))

pub returns-in_err-flush-clause-part : goal.returns-in_err-flush-clause-part
returns-in_err-flush-clause-part g c =
    let t = c.in_ok-tell.ensures.text in
    let f = c.in_err-flush.ensures in
    rw (err_from_is_err_and c.from_residual-in_err-flush.result c.from_residual-in_err-flush.ensures.1).1
    (whole_part g.O.Sink.written c.args.sink.now c.flush.new.self (IsDeepOf c.args.deep.now) t.text (c.one_deep.ensures (choice_of c.args.deep.now) c.args.deep.now.yacc.now) t.is
    c.requires.waiting (f.written ∙ t.written.written) (omega (arith, f.passed, t.written.passed)))
