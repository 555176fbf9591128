-- The part is as long as its size tells; no size stands only for an open comment.
use Rattle.std.proofs.Common.{sym, ◌∙◌, arith}
use Rattle.std.proofs.lemmas.List.{length-drop}
use Rattle.cs_ctext.proofs.Fronts.{behind}
use Rattle.cs_ctext.proofs.PartSizes.{BeginsPart-from_size, IsOpenComment-from_size}
use Rattle.cs_ctext.proofs.c_text.CText.skip_part.Goals as goal

pub returns-in_err-size-clause-unclosed : goal.returns-in_err-size-clause-unclosed
returns-in_err-size-clause-unclosed c =
    rw c.from_residual.ensures (IsOpenComment-from_size _ (sym c.part_size.ensures.size ∙ c.in_err-size.was))

pub returns-clause-part : goal.returns-clause-part
returns-clause-part c = rw behind (BeginsPart-from_size _ _ (omega (arith, length-drop c.args.at c.args.self.now, c.requires)) (sym c.part_size.ensures.size ∙ c.in_ok-size.was))
