-- The automaton has few states, and what was written by its scanner was written by the pair.
use Rattle.std.proofs.Common.{Err, ap, sym, subst, List, ℕ}
use Rattle.cs_io.specs.Uses.{used}
use Rattle.cs_pattern_parts.specs.Tree.Pattern.{Regex}
use Rattle.cs_scanner.specs.Automaton.Counted.{IsAbove}
use Rattle.cs_scanner.specs.Automaton.Meaning.{res}
use Rattle.cs_scanner.specs.Automaton.Places.{InSet}
use Rattle.cs_scanner.specs.Scan.Compared.{scanning}
use Rattle.cs_scanner.specs.Scan.Scan.{Scanning}
use Rattle.cs_run.specs.declared.ending.ending.Ending.TheVariants.{Halted, Written}
use Rattle.cs_run.specs.Command.Carrying.{GrewByEach, HasTooManyStates, WritesOfPair}
use Rattle.cs_run.specs.Input.Refusal.{HasManyStates}
use Rattle.cs_run.specs.Writer.Suite.{IsSuiteBy}
use Rattle.cs_run.proofs.OnCommand.Scanned.{halted_so, written_so}
use Rattle.cs_run.proofs.command.command.suite.Goals as goal

pub returns-in-Ok-write_suite-clause-writes : goal.returns-in-Ok-write_suite-clause-writes
returns-in-Ok-write_suite-clause-writes g c =
    let pair = c.args.pair.now in
    let options = c.args.options.now in
    let out = used g.O.Sink c.args.out.now c.write_suite.new.out in
    let few : ¬ HasManyStates pair.lex = λ many. c.in-Ok.ensures.few (subst (λ (p : List Regex). IsAbove (InSet (res p)) 16384) (sym c.patterns.ensures.patterns) many) in
    let Is : List ℕ → Type 0 = IsSuiteBy pair.yacc (scanning c.scanner_of-scanner.result) options in
    subst (λ (s : Scanning). WritesOfPair pair (IsSuiteBy pair.yacc s options) Written out) c.scanner_of-scanner.ensures.scanning
    (written_so (¬ HasManyStates pair.lex) (HasTooManyStates pair) Is (GrewByEach Is) out few c.write_suite.ensures.room c.in-Ok-write_suite.ensures.ok c.in-Ok-write_suite.ensures.no_fault)

pub returns-clause-writes : goal.returns-clause-writes
returns-clause-writes g c =
    let pair = c.args.pair.now in
    let options = c.args.options.now in
    let halt = c.in-Err-write_suite.halt in
    let out = used g.O.Sink c.args.out.now c.write_suite.new.out in
    let few : ¬ HasManyStates pair.lex = λ many. c.in-Ok.ensures.few (subst (λ (p : List Regex). IsAbove (InSet (res p)) 16384) (sym c.patterns.ensures.patterns) many) in
    let Is : List ℕ → Type 0 = IsSuiteBy pair.yacc (scanning c.scanner_of-scanner.result) options in
    subst (λ (s : Scanning). WritesOfPair pair (IsSuiteBy pair.yacc s options) (Halted halt) out) c.scanner_of-scanner.ensures.scanning
    (halted_so (¬ HasManyStates pair.lex) (HasTooManyStates pair) Is (GrewByEach Is) out few c.write_suite.ensures.room halt c.in-Err-write_suite.ensures.part
    (λ is. c.in-Err-write_suite.ensures.failed (ap Err is)))
