-- The automaton hasn't too many states, and what its scanner scans by is what the lex file says.
use Rattle.std.proofs.Common.{Err, List, ap, subst}
use Rattle.std.specs.Prelude.{IfOk, OnOk}
use Rattle.cs_pattern_parts.specs.Tree.Pattern.{Regex}
use Rattle.cs_scanner.specs.Automaton.Counted.{IsAbove}
use Rattle.cs_scanner.specs.Automaton.Meaning.{res}
use Rattle.cs_scanner.specs.Automaton.Places.{InSet}
use Rattle.cs_scanner.specs.Scan.Scan.{Scanning}
use Rattle.cs_writing.specs.Writing.Writing.{CountsOfAll}
use Rattle.cs_run.specs.Ending.Summary.{summary_options}
use Rattle.cs_run.specs.Writer.Suite.{IsSuiteBy}
use Rattle.cs_run.specs.Writer.Summary.{HasSuiteBy}
use Rattle.cs_run.proofs.writer.summary.count.Goals as goal

pub unreachable-requires : goal.unreachable-requires
unreachable-requires g c =
    c.requires
    (subst (λ (p : List Regex). IsAbove (InSet (res p)) 16384) c.patterns.ensures.patterns
    (c.in-Err-TooManyStates.ensures.too_many _ (ap Err c.in-Err-TooManyStates.field-0-is)).1)

pub returns-clause-some : goal.returns-clause-some
returns-clause-some g c = subst (λ (s : Scanning). OnOk c.count_by.result (HasSuiteBy c.args.pair.yacc s)) c.scanner_of-scanner.ensures.scanning c.count_by.ensures.some

pub returns-clause-counts : goal.returns-clause-counts
returns-clause-counts g c =
    subst (λ (s : Scanning). IfOk c.count_by.result (CountsOfAll (IsSuiteBy c.args.pair.yacc s summary_options))) c.scanner_of-scanner.ensures.scanning c.count_by.ensures.counts
