-- The files that were made are accepted, so none is refused, and their counts are those of the summary.
use Rattle.std.proofs.Common.{List, ℕ, subst, rules}
use Rattle.std.specs.Prelude.{string_bytes}
use Rattle.cs_run.specs.declared.input.refusal.Stop.{Stop}
use Rattle.cs_run.specs.Input.Files.{IsPairOf}
use Rattle.cs_run.specs.Input.Refusal.{Refuses, RefusesRead, pair_contents}
use Rattle.cs_yacc.specs.Reading.File.{IsFile}
use Rattle.cs_run.proofs.OnWriter.Parts.{if_ok_more}
use Rattle.cs_run.proofs.OnWriter.Summaries.{files_summary, no_refusal}
use Rattle.cs_run.proofs.writer.summary.summary.Goals as goal

pub unreachable-requires : goal.unreachable-requires
unreachable-requires g c =
    let files = c.in_ok-files.files in
    let refusal = c.in-Err-Refused.field-0-0 in
    let read : RefusesRead (pair_contents c.deref.result.now c.deref-2.result.now) c.in-Err-Refused.field-0 = c.in-Err-Refused.ensures.refused in
    let first : Refuses refusal (pair_contents c.deref.result.now c.deref-2.result.now) = subst (λ (s : Stop). RefusesRead (pair_contents c.deref.result.now c.deref-2.result.now) s) c.in-Err-Refused.field-0-is read in
    let second : Refuses refusal (pair_contents files.yacc.items c.deref-2.result.now) = subst (λ (b : List ℕ). Refuses refusal (pair_contents b c.deref-2.result.now)) c.deref.ensures.value first in
    let third : Refuses refusal (pair_contents files.yacc.items files.lex.items) = subst (λ (b : List ℕ). Refuses refusal (pair_contents files.yacc.items b)) c.deref-2.ensures.value second in
    no_refusal files.yacc.items files.lex.items refusal c.in_ok-files.ensures.short_yacc c.in_ok-files.ensures.short_lex c.in_ok-files.ensures.yacc_accepted
    c.in_ok-files.ensures.lex_accepted third

pub returns : goal.returns
returns g c =
    let named : IsFile c.in-Ok.pair.yacc = search rules in
    let files = c.in_ok-files.files in
    let pair = c.in-Ok.pair in
    let first : IsPairOf pair.yacc pair.lex files.yacc.items c.deref-2.result.now = subst (λ (b : List ℕ). IsPairOf pair.yacc pair.lex b c.deref-2.result.now) c.deref.ensures.value c.in-Ok.ensures.read in
    let of : IsPairOf pair.yacc pair.lex files.yacc.items files.lex.items = subst (λ (b : List ℕ). IsPairOf pair.yacc pair.lex files.yacc.items b) c.deref-2.ensures.value first in
    if_ok_more c.line.result c.line.ensures.line
    (λ line said.
    files_summary c.args.seed files pair c.in_ok-files.ensures.yacc c.in_ok-files.ensures.lex of named c.in_ok-files.ensures.few_sets c.in_ok-counts.counts
    c.in_ok-counts.ensures.counts c.in_ok-counts.ensures.first c.line.ensures.short c.in_ok-counts.ensures.some (string_bytes line) said)
