-- Behind `/*` the first `*/` ends the comment; where the text has none, it is open.
use Rattle.std.proofs.Common.{sym, ◌∙◌, subst}
use Rattle.cs_bytes.specs.Places.{IsFirstPair, HasNoPair}
use Rattle.cs_ctext.proofs.CommentSizes.{comment_size-closed, comment_size-open}
use Rattle.cs_ctext.proofs.comment.comment_size.Goals as goal

pub returns-in_err-size-clause-size : goal.returns-in_err-size-clause-size
returns-in_err-size-clause-size c =
    c.from_residual.ensures ∙ sym (comment_size-open c.args.text.now c.requires (sym c.has_pair.ensures ∙ c.if-has_pair.false)
    (subst (λ t. HasNoPair 42 47 t) c.from_offset-inside.ensures c.in_err-size.ensures.none))

pub returns-clause-size : goal.returns-clause-size
returns-clause-size c =
    comment_size-closed c.args.text.now c.in_ok-size.size c.requires (sym c.has_pair.ensures ∙ c.if-has_pair.false)
    (subst (λ t. IsFirstPair 42 47 t c.in_ok-size.size) c.from_offset-inside.ensures c.in_ok-size.ensures.found)
