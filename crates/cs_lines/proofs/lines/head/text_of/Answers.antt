-- The word `none` says that there is no text, and anything else is a quoted text or says nothing.
use Rattle.std.proofs.Common.{refl, Some, None}
use Rattle.std.proofs.lemmas.Bool.{false≢true}
use Rattle.std.proofs.lemmas.List.Elements.{All-nil}
use Rattle.cs_lines.proofs.OnLines.Spelled.{IsByte, no_text}
use Rattle.cs_lines.proofs.lines.head.text_of.Goals as goal

pub returns-then-same_word : goal.returns-then-same_word
returns-then-same_word c =
    (None, All-nil IsByte, tt, ((c.if-same_word.ensures).0 refl))

pub returns-in_err-text : goal.returns-in_err-text
returns-in_err-text c =
    rw c.from_residual.ensures (no_text c.args.behind.now (λ e. false≢true ((c.if-same_word.ensures).1 e)) c.in_err-text.ensures)

pub returns : goal.returns
returns c =
    let one = c.in_ok-text.ensures in
    (Some one.0, one.1.are_bytes, one.1, one.2)
