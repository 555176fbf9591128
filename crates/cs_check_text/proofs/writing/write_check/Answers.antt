-- A part of the line that was to be written is a part of each text that may be asked for.
use Rattle.std.proofs.Common.{◌∙◌, List, ℕ, refl, subst}
use Rattle.cs_check_text.specs.Text.{IsCheckText, outcome_line}
use Rattle.cs_io.specs.Sink.{GrewByPrefix}
use Rattle.cs_io.specs.Asked.{GrewByPart}
use Rattle.cs_io.proofs.Out.{on_err}
use Rattle.cs_scanner.specs.Scan.Compared.{scanning}
use Rattle.cs_check_text.proofs.OneText.{one_text}
use Rattle.cs_check_text.proofs.writing.write_check.Goals as goal

pub returns-in_err-write_all-clause-part : goal.returns-in_err-write_all-clause-part
returns-in_err-write_all-clause-part g c =
    let old = g.O.Sink.written c.args.out.now in
    let new = g.O.Sink.written c.write_all.new.sink in
    let file = c.args.yacc.now in
    let s = scanning c.args.scanner.now in
    let manifest = c.args.manifest.now in
    let outcome = c.in_ok-outcome.outcome in
    let is : IsCheckText file s manifest (outcome_line outcome) = record { outcome = outcome; is = c.in_ok-outcome.ensures.outcome; line = refl } in
    let part : GrewByPart (IsCheckText file s manifest) old new =
    λ text also.
    subst (λ (t : List ℕ). GrewByPrefix old new t) (c.as_bytes.ensures.value ∙ c.in_ok-line.ensures ∙ one_text file s manifest (outcome_line outcome) text is also) c.in_err-write_all.ensures.err
    in
    on_err _ _ part
