-- Both files begin with what was read of them, and where the lex file can't be read the yacc file is there.
use Rattle.std.proofs.Common.{◌+◌, [], ℕ, Option, sym, subst}
use Rattle.cs_io.specs.Desk.{Files, IsBeginning}
use Rattle.cs_yacc.specs.declared.reading.TheConstants.{MOST_BYTES}
use Rattle.cs_words.specs.declared.command.Role.TheVariants.{Lex}
use Rattle.cs_words.specs.Requests.{lex_named, yacc_named}
use Rattle.cs_run.specs.Input.Files.{faults_of}
use Rattle.cs_run.specs.Input.Refusal.{StopsFile}
use Rattle.cs_run.proofs.OnInput.Wholes.{pair_read, pair_stops, if_err, if_ok, second_stops, there_by_read}
use Rattle.cs_run.proofs.input.reading.read_pair.Goals as goal

pub returns-in-Ok-clause-read : goal.returns-in-Ok-clause-read
returns-in-Ok-clause-read g c =
    let files = g.D.Desk.files c.args.desk.now in
    let read : IsBeginning files c.args.yacc.now (MOST_BYTES + 1) c.deref.result.now = subst (λ b. IsBeginning files c.args.yacc.now (MOST_BYTES + 1) b) (sym c.deref.ensures.value) c.in_ok-bytes.ensures.read in
    let more : IsBeginning files c.args.lex.now (MOST_BYTES + 1) c.deref-in-Ok.result.now = subst (λ f. IsBeginning f c.args.lex.now (MOST_BYTES + 1) c.deref-in-Ok.result.now) c.in_ok-bytes.ensures.same_files
    (subst (λ b. IsBeginning (g.D.Desk.files c.read_file.new.desk) c.args.lex.now (MOST_BYTES + 1) b) (sym c.deref-in-Ok.ensures.value) c.in-Ok.ensures.read) in
    if_ok c.judge_pair.result c.judge_pair.ensures.read (λ pair is. pair_read files c.args.yacc.now c.args.lex.now c.deref.result.now c.deref-in-Ok.result.now read more pair is)

pub returns-in-Ok-clause-stops : goal.returns-in-Ok-clause-stops
returns-in-Ok-clause-stops g c =
    let files = g.D.Desk.files c.args.desk.now in
    let read : IsBeginning files c.args.yacc.now (MOST_BYTES + 1) c.deref.result.now = subst (λ b. IsBeginning files c.args.yacc.now (MOST_BYTES + 1) b) (sym c.deref.ensures.value) c.in_ok-bytes.ensures.read in
    let more : IsBeginning files c.args.lex.now (MOST_BYTES + 1) c.deref-in-Ok.result.now = subst (λ f. IsBeginning f c.args.lex.now (MOST_BYTES + 1) c.deref-in-Ok.result.now) c.in_ok-bytes.ensures.same_files
    (subst (λ b. IsBeginning (g.D.Desk.files c.read_file.new.desk) c.args.lex.now (MOST_BYTES + 1) b) (sym c.deref-in-Ok.ensures.value) c.in-Ok.ensures.read) in
    if_err c.judge_pair.result c.judge_pair.ensures.refused
    (λ stop is. pair_stops files c.args.yacc.now c.args.lex.now c.deref.result.now c.deref-in-Ok.result.now read more (faults_of g.D.Desk.faults c.args.desk.now c.read_file-2.new.desk) stop is)

pub returns-clause-stops : goal.returns-clause-stops
returns-clause-stops g c =
    let files = g.D.Desk.files c.args.desk.now in
    let why : StopsFile Lex files c.args.lex.now (faults_of g.D.Desk.faults c.args.desk.now c.read_file-2.new.desk) c.in-Err.stop =
    subst (λ (n : ℕ). StopsFile Lex files c.args.lex.now (record { before = n; after = g.D.Desk.faults c.read_file-2.new.desk }) c.in-Err.stop) c.in_ok-bytes.ensures.calm
    (subst (λ (f : Option Files). StopsFile Lex f c.args.lex.now (faults_of g.D.Desk.faults c.read_file.new.desk c.read_file-2.new.desk) c.in-Err.stop) c.in_ok-bytes.ensures.same_files c.in-Err.ensures.stops) in
    second_stops files (faults_of g.D.Desk.faults c.args.desk.now c.read_file-2.new.desk) (yacc_named c.args.yacc.now) (lex_named c.args.lex.now) [] c.in-Err.stop
    (there_by_read files c.args.yacc.now _ c.in_ok-bytes.ensures.read) why
