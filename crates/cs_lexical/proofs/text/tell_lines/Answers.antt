-- What the output was given the sink took, all of it or a front.
use Rattle.std.proofs.Common.{◌∙◌, rules, arith}
use Rattle.std.proofs.lemmas.Grind.{common_steps}
use Rattle.std.proofs.lemmas.Result.{err_from_is_err_and}
use Rattle.cs_manifest.proofs.OnOutput.Pieces.{then}
use Rattle.cs_lexical.proofs.Putting.{all_written, cut_short, moved, moved_cut, same_sink}
use Rattle.cs_lexical.proofs.text.tell_lines.Goals as goal

pub returns-in_err-end : goal.returns-in_err-end
returns-in_err-end g c =
    let p = err_from_is_err_and c.from_residual.result c.from_residual.ensures.1 in
    let cut = cut_short _ _ _ _ c.new-output.ensures.fine c.new-output.ensures.waiting c.put_lexical.ensures c.end.ensures.puts c.in_err-end.ensures.err in
    let same = same_sink (then c.put_lexical.ensures c.end.ensures.puts) ∙ c.new-output.ensures.reference in
    rw p.1 (moved_cut _ _ _ _ _ _ c.new-output.ensures.sink (first_of (search rules, grind (arith, common_steps, same))) cut)

pub returns : goal.returns
returns g c =
    let all = all_written _ _ _ _ c.new-output.ensures.fine c.new-output.ensures.waiting c.put_lexical.ensures c.end.ensures.puts c.in_ok-end.ensures.ok c.in_ok-end.ensures.waiting in
    let same = same_sink (then c.put_lexical.ensures c.end.ensures.puts) ∙ c.new-output.ensures.reference in
    moved _ _ _ _ _ _ c.new-output.ensures.sink (first_of (search rules, grind (arith, common_steps, same))) all
