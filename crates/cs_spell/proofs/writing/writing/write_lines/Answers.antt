-- All lines went to the sink, or were cut short there, with the counts of what is told.
use Rattle.std.proofs.Common.{List, ℕ, subst, ◌∙◌, rules, arith}
use Rattle.std.proofs.lemmas.Grind.{common_steps}
use Rattle.std.proofs.lemmas.Result.{err_from_is_err_and}
use Rattle.cs_manifest.specs.Output.Putting.{Puts}
use Rattle.cs_manifest.proofs.OnOutput.Pieces.{then}
use Rattle.cs_lexical.proofs.Putting.{all_written, cut_short, moved, moved_cut, same_sink}
use Rattle.cs_spell.proofs.OnWriting.Counting.{text_of_counts}
use Rattle.cs_spell.proofs.writing.writing.write_lines.Goals as goal

-- the counts are those of what is told, so that the text put is the one with its own counts
pub returns-in_err-end : goal.returns-in_err-end
returns-in_err-end g c =
    let p = err_from_is_err_and c.from_residual.result c.from_residual.ensures.1 in
    let put = subst (λ (t : List ℕ). Puts g.S.Sink t c.new-output.result c.put_spell.new.output) (text_of_counts c.args.file.now c.args.told.now c.count_all-counts.result c.count_all-counts.ensures) c.put_spell.ensures in
    let cut = cut_short _ _ _ _ c.new-output.ensures.fine c.new-output.ensures.waiting put c.end.ensures.puts c.in_err-end.ensures.err in
    let same = same_sink (then put c.end.ensures.puts) ∙ c.new-output.ensures.reference in
    rw p.1 (moved_cut _ _ _ _ _ _ c.new-output.ensures.sink (first_of (search rules, grind (arith, common_steps, same))) cut)

pub returns : goal.returns
returns g c =
    let put = subst (λ (t : List ℕ). Puts g.S.Sink t c.new-output.result c.put_spell.new.output) (text_of_counts c.args.file.now c.args.told.now c.count_all-counts.result c.count_all-counts.ensures) c.put_spell.ensures in
    let all = all_written _ _ _ _ c.new-output.ensures.fine c.new-output.ensures.waiting put c.end.ensures.puts c.in_ok-end.ensures.ok c.in_ok-end.ensures.waiting in
    let same = same_sink (then put c.end.ensures.puts) ∙ c.new-output.ensures.reference in
    moved _ _ _ _ _ _ c.new-output.ensures.sink (first_of (search rules, grind (arith, common_steps, same))) all
