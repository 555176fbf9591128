-- What the sink took a part of, its output took a part of; and there is one manifest, and not none.
use Rattle.std.proofs.Common.{List, ℕ, ◌∙◌, subst, arith}
use Rattle.std.proofs.lemmas.Result.{err_from_is_err_and}
use Rattle.cs_io.specs.Sink.{GrewByPrefix}
use Rattle.cs_writing.specs.Plan.Plans.{IsPlanned, choice_in}
use Rattle.cs_io.proofs.Out.{part_lent, rose_by_each, same_by_each, whole_lent}
use Rattle.cs_writing.proofs.writing.writing.write_through.Goals as goal

pub returns-in_err-counts-clause-part : goal.returns-in_err-counts-clause-part
returns-in_err-counts-clause-part g c =
    let p = err_from_is_err_and c.from_residual.result c.from_residual.ensures.1 in
    rw p.1 (λ text is.
    let s = c.in_err-counts.ensures.text text is in
    part_lent g.O.Sink.written c.args.sink.now c.write_manifest.new.sink text c.requires.waiting s.written s.passed)

pub returns-in_err-counts-clause-failed : goal.returns-in_err-counts-clause-failed
returns-in_err-counts-clause-failed g c = λ stopped.
    let p = err_from_is_err_and c.from_residual.result c.from_residual.ensures.1 in
    let plan = c.args.plan.now in
    let some = c.some_manifest.ensures (choice_in plan) plan.yacc.now in
    rose_by_each (IsPlanned plan) some (g.O.Sink.faults c.args.sink.now.sink.now) (g.O.Sink.faults c.write_manifest.new.sink.sink.now)
    (λ text is. let s = c.in_err-counts.ensures.text text is in s.failed (let q = p.1 in let r = p.2 in cc))

pub returns-in_err-counts-clause-room : goal.returns-in_err-counts-clause-room
returns-in_err-counts-clause-room g c = λ room.
    let plan = c.args.plan.now in
    let some = c.some_manifest.ensures (choice_in plan) plan.yacc.now in
    same_by_each (IsPlanned plan) some (g.O.Sink.faults c.write_manifest.new.sink.sink.now) (g.O.Sink.faults c.args.sink.now.sink.now)
    (λ text is.
    let s = c.in_err-counts.ensures.text text is in
    let fits = room text is in
    s.no_fault (omega (arith, fits, c.requires.spare)))

pub returns-in_err-flush-clause-part : goal.returns-in_err-flush-clause-part
returns-in_err-flush-clause-part g c =
    let p = err_from_is_err_and c.from_residual-in_err-flush.result c.from_residual-in_err-flush.ensures.1 in
    let plan = c.args.plan.now in
    let one = c.one_manifest.ensures (choice_in plan) plan.yacc.now in
    let t = c.in_ok-counts.ensures.text in
    let f = c.in_err-flush.ensures in
    let part = whole_lent g.O.Sink.written c.args.sink.now c.flush.new.self t.text c.requires.waiting (f.written ∙ t.written.written) (omega (arith, f.passed, t.written.passed)) in
    rw p.1 (λ text is. subst (λ (l : List ℕ). GrewByPrefix (g.O.Sink.written c.args.sink.now.sink.now) (g.O.Sink.written c.flush.new.self.sink.now) l)
    (one t.text text t.is is) part)
