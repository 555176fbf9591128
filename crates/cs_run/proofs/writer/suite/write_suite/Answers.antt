-- The separator of the texts is that of the options, and what stops before them has written nothing.
use Rattle.std.proofs.Common.{◌≡◌, subst}
use Rattle.std.specs.Prelude.{IfOk, OnErr, OnOk}
use Rattle.cs_io.specs.Asked.{GrewByOne, GrewByPart, HasRoomForAll}
use Rattle.cs_io.proofs.Out.{no_part, on_err}
use Rattle.cs_manifest.specs.Manifest.Manifest.{Choice, IsManifest}
use Rattle.cs_scanner.specs.Scan.Compared.{scanning}
use Rattle.cs_writing.specs.Writing.Writing.{CountsOfAll}
use Rattle.cs_run.proofs.OnWriter.Choices.{parted_so}
use Rattle.cs_run.proofs.writer.suite.write_suite.Goals as goal

pub returns-in_err-lexemes-clause-part : goal.returns-in_err-lexemes-clause-part
returns-in_err-lexemes-clause-part g c = on_err _ _ (no_part _ _)

pub returns-in_err-weights-clause-part : goal.returns-in_err-weights-clause-part
returns-in_err-weights-clause-part g c = on_err _ _ (no_part _ _)

pub returns-clause-ok : goal.returns-clause-ok
returns-clause-ok g c =
    let same = parted_so c.args.options.now (scanning c.args.scanner.now) _ c.bytes.ensures.bytes in
    subst
    (λ (choice : Choice).
    OnOk c.write_goals.result
    (GrewByOne (IsManifest choice c.args.yacc.now) (g.O.Sink.written c.args.out.now) (g.O.Sink.written c.write_goals.new.out))) same c.write_goals.ensures.writes.ok

pub returns-clause-counts : goal.returns-clause-counts
returns-clause-counts g c =
    let same = parted_so c.args.options.now (scanning c.args.scanner.now) _ c.bytes.ensures.bytes in
    subst (λ (choice : Choice). IfOk c.write_goals.result (CountsOfAll (IsManifest choice c.args.yacc.now))) same c.write_goals.ensures.writes.counts

pub returns-clause-part : goal.returns-clause-part
returns-clause-part g c =
    let same = parted_so c.args.options.now (scanning c.args.scanner.now) _ c.bytes.ensures.bytes in
    subst
    (λ (choice : Choice).
    OnErr c.write_goals.result
    (GrewByPart (IsManifest choice c.args.yacc.now) (g.O.Sink.written c.args.out.now) (g.O.Sink.written c.write_goals.new.out))) same c.write_goals.ensures.writes.part

pub returns-clause-room : goal.returns-clause-room
returns-clause-room g c =
    let same = parted_so c.args.options.now (scanning c.args.scanner.now) _ c.bytes.ensures.bytes in
    subst
    (λ (choice : Choice).
    HasRoomForAll (IsManifest choice c.args.yacc.now) (g.O.Sink.room c.args.out.now) → g.O.Sink.faults c.write_goals.new.out ≡ g.O.Sink.faults c.args.out.now) same c.write_goals.ensures.writes.room
