-- The three files begin with what was read of them, and where one can't be read those before it are there.
use Rattle.std.proofs.Common.{◌+◌, ◌∷◌, ◌∙◌, [], ℕ, Option, sym, subst}
use Rattle.cs_io.specs.Desk.{Files, IsBeginning}
use Rattle.cs_yacc.specs.declared.reading.TheConstants.{MOST_BYTES}
use Rattle.cs_words.specs.declared.command.Role.TheVariants.{Lex}
use Rattle.cs_words.specs.Requests.{lex_named, third_named, three_named, yacc_named}
use Rattle.cs_run.specs.Input.Files.{faults_of, most_for}
use Rattle.cs_run.specs.Input.Refusal.{Stops, StopsFile}
use Rattle.cs_run.proofs.OnInput.Wholes.{if_err, if_ok, if_residual, second_stops, text_read, text_stops, there_by_read, third_stops}
use Rattle.cs_run.proofs.input.reading.read_text.Given.{Over}
use Rattle.cs_run.proofs.input.reading.read_text.Goals as goal
use Rattle.cs_run.proofs.input.reading.read_text.Goals.{After-judge_text}

pub returns-in_err-more-clause-stops : goal.returns-in_err-more-clause-stops
returns-in_err-more-clause-stops g c =
    let files = g.D.Desk.files c.args.desk.now in
    let faults = faults_of g.D.Desk.faults c.args.desk.now c.read_file-2.new.desk in
    let error = c.in_err-more.field-0.0 in
    let why : StopsFile Lex files c.args.lex.now faults error =
    subst (λ (n : ℕ). StopsFile Lex files c.args.lex.now (record { before = n; after = g.D.Desk.faults c.read_file-2.new.desk }) error) c.in_ok-bytes.ensures.calm
    (subst (λ (f : Option Files). StopsFile Lex f c.args.lex.now (faults_of g.D.Desk.faults c.read_file.new.desk c.read_file-2.new.desk) error) c.in_ok-bytes.ensures.same_files c.in_err-more.ensures.stops) in
    if_residual (λ stop. Stops files faults (three_named c.args.role c.args.yacc.now c.args.lex.now c.args.text.now) stop) error c.from_residual-in_err-more.result c.from_residual-in_err-more.ensures.1
    (second_stops files faults (yacc_named c.args.yacc.now) (lex_named c.args.lex.now) (third_named c.args.role c.args.text.now ∷ []) error
    (there_by_read files c.args.yacc.now _ c.in_ok-bytes.ensures.read) why)

-- the files began with what was read of them
yacc_read : (g : Over) (c : After-judge_text g) → IsBeginning (g.D.Desk.files c.args.desk.now) c.args.yacc.now (MOST_BYTES + 1) c.deref.result.now
yacc_read g c = subst (λ b. IsBeginning (g.D.Desk.files c.args.desk.now) c.args.yacc.now (MOST_BYTES + 1) b) (sym c.deref.ensures.value) c.in_ok-bytes.ensures.read

lex_read : (g : Over) (c : After-judge_text g) → IsBeginning (g.D.Desk.files c.args.desk.now) c.args.lex.now (MOST_BYTES + 1) c.deref-in-Ok.result.now
lex_read g c =
    subst (λ f. IsBeginning f c.args.lex.now (MOST_BYTES + 1) c.deref-in-Ok.result.now) c.in_ok-bytes.ensures.same_files
    (subst (λ b. IsBeginning (g.D.Desk.files c.read_file.new.desk) c.args.lex.now (MOST_BYTES + 1) b) (sym c.deref-in-Ok.ensures.value) c.in_ok-more.ensures.read)

third_read : (g : Over) (c : After-judge_text g) → IsBeginning (g.D.Desk.files c.args.desk.now) c.args.text.now (most_for c.args.role + 1) c.in-Ok.text.items
third_read g c = subst (λ f. IsBeginning f c.args.text.now (most_for c.args.role + 1) c.in-Ok.text.items) (c.in_ok-more.ensures.same_files ∙ c.in_ok-bytes.ensures.same_files) c.in-Ok.ensures.read

pub returns-in-Ok-clause-read : goal.returns-in-Ok-clause-read
returns-in-Ok-clause-read g c =
    let at = (goal.at.returns-in-Ok-clause-read g c).After-judge_text in
    let files = g.D.Desk.files c.args.desk.now in
    if_ok c.judge_text.result c.judge_text.ensures.read
    (λ beside is. text_read c.args.role files c.args.yacc.now c.args.lex.now c.args.text.now c.deref.result.now c.deref-in-Ok.result.now c.in-Ok.text.items (yacc_read g at) (lex_read g at) (third_read g at) beside is)

pub returns-in-Ok-clause-stops : goal.returns-in-Ok-clause-stops
returns-in-Ok-clause-stops g c =
    let at = (goal.at.returns-in-Ok-clause-stops g c).After-judge_text in
    let files = g.D.Desk.files c.args.desk.now in
    if_err c.judge_text.result c.judge_text.ensures.refused
    (λ stop is. text_stops c.args.role files c.args.yacc.now c.args.lex.now c.args.text.now c.deref.result.now c.deref-in-Ok.result.now c.in-Ok.text.items (yacc_read g at) (lex_read g at) (third_read g at)
    (faults_of g.D.Desk.faults c.args.desk.now c.read_file-3.new.desk) stop is)

pub returns-clause-stops : goal.returns-clause-stops
returns-clause-stops g c =
    let files = g.D.Desk.files c.args.desk.now in
    let faults = faults_of g.D.Desk.faults c.args.desk.now c.read_file-3.new.desk in
    let there : IsBeginning files c.args.lex.now (MOST_BYTES + 1) c.in_ok-more.more.items = subst (λ f. IsBeginning f c.args.lex.now (MOST_BYTES + 1) c.in_ok-more.more.items) c.in_ok-bytes.ensures.same_files c.in_ok-more.ensures.read in
    let why : StopsFile c.args.role files c.args.text.now faults c.in-Err.stop =
    subst (λ (n : ℕ). StopsFile c.args.role files c.args.text.now (record { before = n; after = g.D.Desk.faults c.read_file-3.new.desk }) c.in-Err.stop) (c.in_ok-more.ensures.calm ∙ c.in_ok-bytes.ensures.calm)
    (subst (λ (f : Option Files). StopsFile c.args.role f c.args.text.now (faults_of g.D.Desk.faults c.read_file-2.new.desk c.read_file-3.new.desk) c.in-Err.stop)
    (c.in_ok-more.ensures.same_files ∙ c.in_ok-bytes.ensures.same_files) c.in-Err.ensures.stops) in
    third_stops files faults (yacc_named c.args.yacc.now) (lex_named c.args.lex.now) (third_named c.args.role c.args.text.now) c.in-Err.stop
    (there_by_read files c.args.yacc.now _ c.in_ok-bytes.ensures.read) (there_by_read files c.args.lex.now _ there) why
