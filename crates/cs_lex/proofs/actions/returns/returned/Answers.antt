-- Each part ends at one place, so without the name, the closing signs or the `;` there nothing is returned.
use Rattle.cs_lex.specs.Actions.Views.{named_of}
use Rattle.cs_lex.proofs.OnActions.ReturnsFound.{unnamed, unclosed, unended, returned_is}
use Rattle.cs_lex.proofs.actions.returns.returned.Goals as goal

pub returns-in_err-found : goal.returns-in_err-found
returns-in_err-found c =
    rw c.from_residual.ensures (unnamed c.args.text.now c.from_offset.result.now c.all_signs-opened.result.count c.all_signs-opened.result.at c.gap_size-gap.result c.all_signs-opened.ensures.signs c.all_signs-opened.ensures.no_more c.from_offset.ensures c.gap_size-gap.ensures.gap
    c.from_offset-2.result.now c.from_offset-2.ensures c.in_err-found.ensures)

pub returns-in_err-closed : goal.returns-in_err-closed
returns-in_err-closed c =
    rw c.from_residual-in_err-closed.ensures (unclosed c.args.text.now c.from_offset.result.now c.all_signs-opened.result.count c.all_signs-opened.result.at c.gap_size-gap.result c.all_signs-opened.ensures.signs c.all_signs-opened.ensures.no_more c.from_offset.ensures c.gap_size-gap.ensures.gap
    c.from_offset-2.result.now c.from_offset-2.ensures (named_of c.in_ok-found.found.named) c.in_ok-found.found.size c.in_ok-found.ensures.0 c.from_offset-3.result.now c.from_offset-3.ensures c.in_err-closed.ensures.none)

pub returns-in_err-sign_size : goal.returns-in_err-sign_size
returns-in_err-sign_size c =
    rw c.from_residual-in_err-sign_size.ensures (unended c.args.text.now c.from_offset.result.now c.all_signs-opened.result.count c.all_signs-opened.result.at c.gap_size-gap.result c.all_signs-opened.ensures.signs c.all_signs-opened.ensures.no_more c.from_offset.ensures c.gap_size-gap.ensures.gap
    c.from_offset-2.result.now c.from_offset-2.ensures (named_of c.in_ok-found.found.named) c.in_ok-found.found.size c.in_ok-found.ensures.0 c.from_offset-3.result.now c.from_offset-3.ensures c.in_ok-closed.closed c.in_ok-closed.ensures.signs c.from_offset-4.result.now c.from_offset-4.ensures c.in_err-sign_size.ensures.none)

pub returns : goal.returns
returns c =
    returned_is c.args.text.now c.from_offset.result.now c.all_signs-opened.result.count c.all_signs-opened.result.at c.gap_size-gap.result c.all_signs-opened.ensures.signs c.all_signs-opened.ensures.no_more c.from_offset.ensures c.gap_size-gap.ensures.gap
    c.from_offset-2.result.now c.from_offset-2.ensures (named_of c.in_ok-found.found.named) c.in_ok-found.found.size c.in_ok-found.ensures.0 c.from_offset-3.result.now c.from_offset-3.ensures c.in_ok-closed.closed c.in_ok-closed.ensures.signs c.from_offset-4.result.now c.from_offset-4.ensures c.in_ok-sign_size.field-0 c.in_ok-sign_size.ensures.signed
