-- The frame's lines are those of the file at the weights of the work, and no text is asked for.
use Rattle.std.proofs.Common.{subst}
use Rattle.cs_grammar.specs.Weights.{Weighed}
use Rattle.cs_chain_text.specs.Rows.Rows.{AreFrameLines}
use Rattle.cs_chain_text.proofs.OnRows.Parts.{found_as}
use Rattle.cs_chain_text.proofs.writing.writing.frame_with.Goals as goal

pub returns-clause-frame : goal.returns-clause-frame
returns-clause-frame c =
    found_as _ _ (λ a h. record { none = c.requires.none; are = subst (λ (v : Weighed). AreFrameLines c.args.telling.now.chained.yacc.now v a) c.requires.work.embeds h })
    c.new.result c.new.ensures
