-- Origin by origin back to the start, the bytes are those of the text from its end.
use Rattle.cs_scanner.proofs.OnLexeme.Standing.{visit_at, is_visit}
use Rattle.cs_scanner.proofs.OnLexeme.Meeting.{text_next, text_done, mid_text}
use Rattle.cs_scanner.proofs.lexeme.search.text_at.Goals as goal

pub origins-init : goal.origins-init
origins-init c = rw c.new-bytes.ensures.items (mid_text c.args.visits.now c.args.place c.requires.place)

pub origins-preserved : goal.origins-preserved
origins-preserved c =
    let visits = c.args.visits.now in
    let at = c.origins.at in
    let v = visit_at visits at in
    let here = is_visit visits at c.origins.invariant.within in
    rw c.in_ok-push.ensures.items
    (text_next visits c.args.place at c.origins.bytes.items v c.in-Some.origin here c.in-Some.is (c.requires.earlier at v c.in-Some.origin here c.in-Some.is) c.origins.invariant)

pub returns : goal.returns
returns c =
    let visits = c.args.visits.now in
    let at = c.origins.at in
    let v = visit_at visits at in
    let here = is_visit visits at c.origins.invariant.within in
    rw c.reverse.ensures.items (text_done visits c.args.place at c.origins.bytes.items v here c.in_default.is c.origins.invariant)
