-- What was written of a manifest by the scanner was written by the pair.
use Rattle.std.proofs.Common.{sym, subst, List}
use Rattle.cs_io.specs.Uses.{used}
use Rattle.cs_pattern_parts.specs.Tree.Pattern.{Regex}
use Rattle.cs_scanner.specs.Automaton.Counted.{IsAbove}
use Rattle.cs_scanner.specs.Automaton.Meaning.{res}
use Rattle.cs_scanner.specs.Automaton.Places.{InSet}
use Rattle.cs_scanner.specs.Scan.Compared.{scanning}
use Rattle.cs_run.specs.Input.Refusal.{HasManyStates}
use Rattle.cs_run.proofs.OnCommand.Checked.{checked_so}
use Rattle.cs_run.proofs.command.check.checked.Goals as goal

pub returns-clause-writes : goal.returns-clause-writes
returns-clause-writes g c =
    let beside = c.args.beside.now in
    let out = used g.O.Sink c.args.out.now c.write_check.new.out in
    let few : ¬ HasManyStates beside.pair.lex = λ many. c.in-Ok.ensures.few (subst (λ (p : List Regex). IsAbove (InSet (res p)) 16384) (sym c.patterns.ensures.patterns) many) in
    checked_so beside (scanning c.scanner_of-scanner.result) c.bytes-manifest.result.now c.write_check.result c.answered.result out few c.scanner_of-scanner.ensures.scanning c.bytes-manifest.ensures
    c.answered.ensures.ending c.write_check.ensures.ok c.write_check.ensures.part c.write_check.ensures.no_fault c.write_check.ensures.failed c.write_check.ensures.room
