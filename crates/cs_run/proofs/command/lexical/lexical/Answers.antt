-- The automaton has few states, and what was written by its scanner was written by the pair.
use Rattle.std.proofs.Common.{sym, subst, List}
use Rattle.cs_io.specs.Uses.{used}
use Rattle.cs_lexical.specs.Lines.{IsLexical}
use Rattle.cs_pattern_parts.specs.Tree.Pattern.{Regex}
use Rattle.cs_scanner.specs.Automaton.Counted.{IsAbove}
use Rattle.cs_scanner.specs.Automaton.Meaning.{res}
use Rattle.cs_scanner.specs.Automaton.Places.{InSet}
use Rattle.cs_scanner.specs.Scan.Compared.{scanning}
use Rattle.cs_scanner.specs.Scan.Scan.{Scanning}
use Rattle.cs_run.specs.Command.Carrying.{GrewByEach, HasTooManyStates, WritesOfPair}
use Rattle.cs_run.specs.Input.Refusal.{HasManyStates}
use Rattle.cs_run.proofs.OnCommand.Scanned.{ended_so}
use Rattle.cs_run.proofs.command.lexical.lexical.Goals as goal

pub returns-clause-writes : goal.returns-clause-writes
returns-clause-writes g c =
    let pair = c.args.pair.now in
    let out = used g.O.Sink c.args.out.now c.write_lexical.new.out in
    let few : ¬ HasManyStates pair.lex = λ many. c.in-Ok.ensures.few (subst (λ (p : List Regex). IsAbove (InSet (res p)) 16384) (sym c.patterns.ensures.patterns) many) in
    subst (λ (s : Scanning). WritesOfPair pair (IsLexical pair.yacc s) c.ended.result out) c.scanner_of-scanner.ensures.scanning
    (ended_so (¬ HasManyStates pair.lex) (HasTooManyStates pair) (IsLexical pair.yacc (scanning c.scanner_of-scanner.result)) (GrewByEach (IsLexical pair.yacc (scanning c.scanner_of-scanner.result)))
    c.write_lexical.result c.ended.result out few c.ended.ensures.ending c.write_lexical.ensures.ok c.write_lexical.ensures.part c.write_lexical.ensures.no_fault
    c.write_lexical.ensures.failed c.write_lexical.ensures.room)
