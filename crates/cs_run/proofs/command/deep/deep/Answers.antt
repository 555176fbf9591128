-- What the means choose is what the options choose, in the first format.
use Rattle.std.proofs.Common.{◌≡◌, subst}
use Rattle.std.specs.Prelude.{OnErr, OnOk}
use Rattle.cs_deep.specs.Writing.Deep.{IsDeepText}
use Rattle.cs_io.specs.Asked.{GrewByOne, GrewByPart, HasRoomForAll}
use Rattle.cs_manifest.specs.Manifest.Manifest.{Choice}
use Rattle.cs_run.proofs.OnWriter.Formats.{first_choice}
use Rattle.cs_run.proofs.command.deep.deep.Goals as goal

pub returns-clause-ok : goal.returns-clause-ok
returns-clause-ok g c =
    let same = first_choice c.args.asked.options.now _ _ c.means_of.result c.means_of.ensures in
    subst
    (λ (choice : Choice).
    OnOk c.write_deep.result
    (GrewByOne (IsDeepText choice c.args.asked.yacc.now) (g.O.Sink.written c.args.out.now) (g.O.Sink.written c.write_deep.new.out))) same c.write_deep.ensures.ok

pub returns-clause-part : goal.returns-clause-part
returns-clause-part g c =
    let same = first_choice c.args.asked.options.now _ _ c.means_of.result c.means_of.ensures in
    subst
    (λ (choice : Choice).
    OnErr c.write_deep.result
    (GrewByPart (IsDeepText choice c.args.asked.yacc.now) (g.O.Sink.written c.args.out.now) (g.O.Sink.written c.write_deep.new.out))) same c.write_deep.ensures.part

pub returns-clause-room : goal.returns-clause-room
returns-clause-room g c =
    let same = first_choice c.args.asked.options.now _ _ c.means_of.result c.means_of.ensures in
    subst
    (λ (choice : Choice).
    HasRoomForAll (IsDeepText choice c.args.asked.yacc.now) (g.O.Sink.room c.args.out.now) → g.O.Sink.faults c.write_deep.new.out ≡ g.O.Sink.faults c.args.out.now) same c.write_deep.ensures.room
