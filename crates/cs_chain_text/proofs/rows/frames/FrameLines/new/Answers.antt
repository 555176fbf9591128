-- The tokens that were found are those around the frame, and with its parts they make its lines.
use Rattle.std.proofs.Common.{Option, subst}
use Rattle.std.specs.Prelude.{IfSome}
use Rattle.cs_chain_text.specs.declared.rows.around.Around.{Around}
use Rattle.cs_chain_text.specs.Rows.Rows.{AreAround}
use Rattle.cs_chain_text.proofs.OnRows.Parts.{found_as, frame_lines}
use Rattle.cs_chain_text.proofs.rows.frames.FrameLines.new.Goals as goal

pub returns : goal.returns
returns c =
    let v = c.args.embeds.now in
    let frame = c.in_ok-frame.frame in
    let are = subst (λ (o : Option Around). IfSome o (AreAround v.grammar frame)) c.in-Some.is c.in_ok-around.ensures in
    found_as _ _ (frame_lines c.args.file.now v c.args.chain.now frame c.in-Some.around c.in_ok-frame.ensures.frame c.in_ok-frame.ensures.capped are) c.with_parts.result c.with_parts.ensures
