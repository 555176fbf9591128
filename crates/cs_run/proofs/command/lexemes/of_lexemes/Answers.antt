-- Where the automaton has few states, what was written by the scanner was written by the pair.
use Rattle.std.proofs.Common.{sym, subst, List}
use Rattle.cs_io.specs.Uses.{used}
use Rattle.cs_pattern_parts.specs.Tree.Pattern.{Regex}
use Rattle.cs_scanner.specs.Automaton.Counted.{IsAbove}
use Rattle.cs_scanner.specs.Automaton.Meaning.{res}
use Rattle.cs_scanner.specs.Automaton.Places.{InSet}
use Rattle.cs_scanner.specs.Scan.Scan.{Scanning}
use Rattle.cs_run.specs.Command.Scanned.{WritesByScanner}
use Rattle.cs_run.specs.Input.Refusal.{HasManyStates}
use Rattle.cs_run.proofs.OnCommand.Performing.{scanned_so}
use Rattle.cs_run.proofs.command.lexemes.of_lexemes.Goals as goal

pub returns-clause-writes : goal.returns-clause-writes
returns-clause-writes g c =
    let pair = c.args.pair.now in
    let out = used g.O.Sink c.args.out.now c.by_scanner.new.out in
    let few : ¬ HasManyStates pair.lex = λ many. c.in-Ok.ensures.few (subst (λ (p : List Regex). IsAbove (InSet (res p)) 16384) (sym c.patterns.ensures.patterns) many) in
    scanned_so c.by_scanner.result out c.args.command c.args.options.now pair few
    (subst (λ (s : Scanning). WritesByScanner c.args.command c.args.options.now pair.yacc s c.by_scanner.result out) c.scanner_of-scanner.ensures.scanning c.by_scanner.ensures.writes)
