-- The head, the slips and the end, and where their writing stops.
use Rattle.std.proofs.Common.{ap, ◌∙◌}
use Rattle.std.proofs.lemmas.Result.{err_from_is_err_and}
use Rattle.cs_grammar.specs.Grammar.{PlainGrammar}
use Rattle.cs_wrong.proofs.OnWriting.Ending.{all_written, end_cut, head_cut, memory_first, slips_stopped}
use Rattle.cs_wrong.specs.Writing.Progress.{IsAsked}
use Rattle.cs_wrong.specs.Slips.Slips.{slips}
use Rattle.cs_wrong.proofs.writing.writing.tell_by.Goals as goal

pub returns-in_err-slips-clause-text : goal.returns-in_err-slips-clause-text
returns-in_err-slips-clause-text g c =
    let p = err_from_is_err_and c.from_residual.result c.from_residual.ensures.1 in
    rw (p.1, p.2) (memory_first g.S.Sink (IsAsked c.args.asked.now) c.args.sink.now)

pub returns-in_err-write_head-clause-text : goal.returns-in_err-write_head-clause-text
returns-in_err-write_head-clause-text g c =
    let p = err_from_is_err_and c.from_residual-in_err-write_head.result c.from_residual-in_err-write_head.ensures.1 in
    rw (p.1, p.2) (head_cut c.args.asked.now c.one_text.ensures c.requires.ready g.S.Sink c.args.sink.now c.write_head.new.sink c.in_err-write_head.ensures)

pub write_slips-requires-clause-slips : goal.write_slips-requires-clause-slips
write_slips-requires-clause-slips g c = λ κs met.
    c.deref.ensures.value ∙ c.in_ok-slips.ensures ∙ ap (λ (h : PlainGrammar). slips h c.args.asked.now.chosen) c.grammar.ensures.grammar

pub returns-in_err-write_slips-clause-text : goal.returns-in_err-write_slips-clause-text
returns-in_err-write_slips-clause-text g c =
    let p = err_from_is_err_and c.from_residual-in_err-write_slips.result c.from_residual-in_err-write_slips.ensures.1 in
    let halt = c.in_err-write_slips.field-0.0 in
    rw (p.1, p.2) (slips_stopped c.args.asked.now c.one_text.ensures c.requires.ready g.S.Sink c.args.sink.now c.write_head.new.sink c.write_slips.new.sink halt c.in_ok-write_head.ensures c.in_err-write_slips.ensures.text)

pub returns-in_err-write_end-clause-text : goal.returns-in_err-write_end-clause-text
returns-in_err-write_end-clause-text g c =
    let p = err_from_is_err_and c.from_residual-in_err-write_end.result c.from_residual-in_err-write_end.ensures.1 in
    rw (p.1, p.2) (end_cut c.args.asked.now c.one_text.ensures c.requires.ready g.S.Sink c.args.sink.now c.write_head.new.sink c.write_slips.new.sink c.write_end.new.sink c.write_slips.new.tally
    c.in_ok-write_head.ensures c.in_ok-write_slips.ensures.text c.in_ok-write_slips.ensures.counted c.in_err-write_end.ensures)

pub returns-clause-text : goal.returns-clause-text
returns-clause-text g c =
    all_written c.args.asked.now c.one_text.ensures c.requires.ready g.S.Sink c.args.sink.now c.write_head.new.sink c.write_slips.new.sink c.write_end.new.sink c.write_slips.new.tally
    c.in_ok-write_head.ensures c.in_ok-write_slips.ensures.text c.in_ok-write_slips.ensures.counted c.in_ok-write_end.ensures
