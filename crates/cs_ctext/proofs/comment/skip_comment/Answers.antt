-- The comment is as long as its size tells; without opener or size no comment stands there.
use Rattle.std.proofs.Common.{sym, ◌∙◌, ap}
use Rattle.std.proofs.lemmas.Bool.{false≢true}
use Rattle.cs_ctext.specs.Scans.{comment_size}
use Rattle.cs_ctext.proofs.Fronts.{behind, test_from_OpensComment}
use Rattle.cs_ctext.proofs.CommentSizes.{IsComment-from_size, no_comment_from_size}
use Rattle.cs_ctext.proofs.PartSizes.{opens-comment}
use Rattle.cs_ctext.proofs.comment.skip_comment.Goals as goal

pub returns-then-not-opens-clause-unclosed : goal.returns-then-not-opens-clause-unclosed
returns-then-not-opens-clause-unclosed c = λ size is. false≢true (sym (sym c.opens.ensures ∙ c.if-not-opens.true) ∙ test_from_OpensComment _ (opens-comment _ size is))

pub returns-in_err-size-clause-unclosed : goal.returns-in_err-size-clause-unclosed
returns-in_err-size-clause-unclosed c =
    rw c.from_residual.ensures (no_comment_from_size _ (sym (ap comment_size c.from_offset.ensures) ∙ (sym c.comment_size.ensures.size ∙ c.in_err-size.was)))

pub returns-clause-closed : goal.returns-clause-closed
returns-clause-closed c =
    rw behind (IsComment-from_size _ _ (sym (ap comment_size c.from_offset.ensures) ∙ (sym c.comment_size.ensures.size ∙ c.in_ok-size.was)))
