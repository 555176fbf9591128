-- The file begins with the bytes that were read, and is what they mean or is refused as they are.
use Rattle.std.proofs.Common.{◌+◌, sym, subst}
use Rattle.cs_io.specs.Desk.{IsBeginning}
use Rattle.cs_yacc.specs.declared.reading.TheConstants.{MOST_BYTES}
use Rattle.cs_run.specs.declared.input.judging.Meant.TheVariants.{Grammar}
use Rattle.cs_run.specs.Input.Files.{faults_of}
use Rattle.cs_run.proofs.OnInput.Wholes.{grammar_read, grammar_stops, if_err, if_ok}
use Rattle.cs_run.proofs.input.reading.read_grammar.Goals as goal

pub returns-clause-read : goal.returns-clause-read
returns-clause-read g c =
    let files = g.D.Desk.files c.args.desk.now in
    let read : IsBeginning files c.args.name.now (MOST_BYTES + 1) c.deref.result.now = subst (λ b. IsBeginning files c.args.name.now (MOST_BYTES + 1) b) (sym c.deref.ensures.value) c.in_ok-bytes.ensures.read in
    if_ok c.judge_grammar.result c.judge_grammar.ensures.read (λ file is. grammar_read files c.args.name.now c.deref.result.now read file is (Grammar file) is)

pub returns-clause-stops : goal.returns-clause-stops
returns-clause-stops g c =
    let files = g.D.Desk.files c.args.desk.now in
    let read : IsBeginning files c.args.name.now (MOST_BYTES + 1) c.deref.result.now = subst (λ b. IsBeginning files c.args.name.now (MOST_BYTES + 1) b) (sym c.deref.ensures.value) c.in_ok-bytes.ensures.read in
    if_err c.judge_grammar.result c.judge_grammar.ensures.refused
    (λ stop is. grammar_stops files c.args.name.now c.deref.result.now read (faults_of g.D.Desk.faults c.args.desk.now c.read_file.new.desk) stop is)
