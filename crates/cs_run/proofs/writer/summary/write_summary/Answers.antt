-- A part of the line is a part of the summary.
use Rattle.std.proofs.Common.{List, ℕ, inr, subst}
use Rattle.std.specs.Prelude.{string_bytes}
use Rattle.cs_run.specs.Ending.Summary.{IsSummary}
use Rattle.cs_io.specs.Sink.{GrewByPrefix}
use Rattle.cs_deep.specs.Membership.{GrewByFront}
use Rattle.cs_io.proofs.Out.{on_err}
use Rattle.cs_run.proofs.writer.summary.write_summary.Goals as goal

pub returns-in_err-write_all-clause-part : goal.returns-in_err-write_all-clause-part
returns-in_err-write_all-clause-part g c =
    let old = g.O.Sink.written c.args.out.now in
    let new = g.O.Sink.written c.write_all.new.sink in
    let text = string_bytes c.in_ok-line.line in
    let part : GrewByFront (IsSummary c.args.seed) old new =
    inr (text, c.in_ok-line.ensures, subst (λ (t : List ℕ). GrewByPrefix old new t) c.as_bytes.ensures.value c.in_err-write_all.ensures.err)
    in
    on_err _ _ part
