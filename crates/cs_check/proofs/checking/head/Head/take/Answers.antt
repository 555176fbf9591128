-- The line that is due is the file's or isn't, and at the head's end the sets are closed or aren't.
use Rattle.std.proofs.Common.{◌≡◌, length, refl, ap, ◌∙◌, arith}
use Rattle.std.proofs.lemmas.Option.{slice_get_within}
use Rattle.cs_grammar.specs.Grammar.{PlainGrammar}
use Rattle.cs_check.specs.Passing.Head.{whole_head}
use Rattle.cs_check.specs.Passing.Dues.{due_told}
use Rattle.cs_check.proofs.OnChecking.HeadDues.{due_of}
use Rattle.cs_check.proofs.OnChecking.HeadTaken.{here_by, lacks_head, line_judged, line_unclosed}
use Rattle.cs_check.proofs.checking.head.Head.take.Goals as goal

pub take_due-requires-clause-due : goal.take_due-requires-clause-due
take_due-requires-clause-due c =
    let g = c.args.file.now.grammar in
    let d = due_told c.in-Some.due in
    due_of g c.args.self.now.above d (here_by g c.grammar-2.result.now c.grammar-2.ensures.grammar c.args.self.now.above c.args.self.now.above refl d c.in-Some.ensures)

pub returns-then-not-branch-clause-judged : goal.returns-then-not-branch-clause-judged
returns-then-not-branch-clause-judged c = λ above l knows tells i.
    lacks_head c.args.file.now c.grammar-2.result.now c.grammar-2.ensures.grammar c.args.self.now (due_told c.in-Some.due) c.in-Some.ensures
    c.args.line.now c.take_due.new.self _ c.in_ok-take_due.ensures.judged above l knows tells i
    c.if-not-branch.true

pub overflow_add-self : goal.overflow_add-self
overflow_add-self c =
    let g = c.args.file.now.grammar in
    let d = due_told c.in-Some.due in
    let e = here_by g c.grammar-2.result.now c.grammar-2.ensures.grammar c.args.self.now.above c.args.self.now.above refl d c.in-Some.ensures in
    let low = slice_get_within (whole_head g) c.args.self.now.above d e in
    let whole : c.whole_size-whole.result ≡ length (whole_head g) = c.whole_size-whole.ensures ∙ ap (λ (x : PlainGrammar). length (whole_head x)) c.grammar.ensures.grammar in
    let same = c.in_ok-take_due.ensures.above in
    omega (arith, low, whole, same, c.whole_size-whole.type_inv)

pub returns-then-not-ends_closed-clause-judged : goal.returns-then-not-ends_closed-clause-judged
returns-then-not-ends_closed-clause-judged c = λ above l knows tells i.
    line_unclosed c.args.file.now c.grammar-2.result.now c.grammar-2.ensures.grammar c.args.self.now (due_told c.in-Some.due) c.in-Some.ensures
    c.args.line.now c.take_due.new.self _ c.in_ok-take_due.ensures.judged above l knows tells i
    c.if-not-branch.false c.whole_size-whole.result (c.whole_size-whole.ensures ∙ ap (λ (x : PlainGrammar). length (whole_head x)) c.grammar.ensures.grammar)
    c.ends_closed.result c.ends_closed.ensures c.if-not-ends_closed.true

pub returns-clause-judged : goal.returns-clause-judged
returns-clause-judged c = λ above l knows tells i.
    line_judged c.args.file.now c.grammar-2.result.now c.grammar-2.ensures.grammar c.args.self.now (due_told c.in-Some.due) c.in-Some.ensures
    c.args.line.now c.take_due.new.self _ c.in_ok-take_due.ensures.judged above l knows tells i
    c.if-not-branch.false c.whole_size-whole.result (c.whole_size-whole.ensures ∙ ap (λ (x : PlainGrammar). length (whole_head x)) c.grammar.ensures.grammar)
    c.ends_closed.result c.ends_closed.ensures c.if-not-ends_closed.false
