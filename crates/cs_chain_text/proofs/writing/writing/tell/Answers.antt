-- The head, the goals and the end make up the text, and a stop at any of them leaves a front of it.
use Rattle.std.proofs.Common.{refl, sym, ap, ◌∙◌, subst}
use Rattle.std.proofs.lemmas.Result.{err_from_is_err_and}
use Rattle.cs_grammar.specs.Grammar.{PlainGrammar}
use Rattle.cs_grammar.specs.Weights.{IsMeasure, Weighed, weighed}
use Rattle.cs_chain_text.specs.Progress.{IsAsked}
use Rattle.cs_chain_text.specs.Rows.Rows.{told_by}
use Rattle.cs_chain_text.proofs.OnWriting.Ending.{all_written, end_cut, goals_stopped, head_cut, memory_first, weights_many, work_of}
use Rattle.cs_chain_text.proofs.writing.writing.tell.Goals as goal

pub new-requires : goal.new-requires
new-requires g c = weights_many c.args.chained.now c.requires ∙ ap (λ (h : PlainGrammar). h.tokens) (sym c.grammar.ensures.grammar)

pub returns-in_err-costs-clause-text : goal.returns-in_err-costs-clause-text
returns-in_err-costs-clause-text g c =
    let p = err_from_is_err_and c.from_residual.result c.from_residual.ensures.1 in
    rw (p.1, p.2) (memory_first g.S.Sink (IsAsked c.args.chained.now) c.args.sink.now)

pub returns-in_err-embeds-clause-text : goal.returns-in_err-embeds-clause-text
returns-in_err-embeds-clause-text g c =
    let p = err_from_is_err_and c.from_residual-in_err-embeds.result c.from_residual-in_err-embeds.ensures.1 in
    rw (p.1, p.2) (memory_first g.S.Sink (IsAsked c.args.chained.now) c.args.sink.now)

pub returns-in_err-cores-clause-text : goal.returns-in_err-cores-clause-text
returns-in_err-cores-clause-text g c =
    let p = err_from_is_err_and c.from_residual-in_err-cores.result c.from_residual-in_err-cores.ensures.1 in
    rw (p.1, p.2) (memory_first g.S.Sink (IsAsked c.args.chained.now) c.args.sink.now)

pub returns-in_err-write_head-clause-text : goal.returns-in_err-write_head-clause-text
returns-in_err-write_head-clause-text g c =
    let p = err_from_is_err_and c.from_residual-in_err-write_head.result c.from_residual-in_err-write_head.ensures.1 in
    rw (p.1, p.2) (head_cut c.args.chained.now c.one_text.ensures c.requires g.S.Sink c.args.sink.now c.write_head.new.sink c.in_err-write_head.ensures)

pub write_goals-requires-clause-work : goal.write_goals-requires-clause-work
write_goals-requires-clause-work g c = λ κs met.
    let d = c.args.chained.now in
    let measure = subst (λ (v : Weighed). IsMeasure v.weights) (sym c.in_ok-embeds.ensures) c.weights-weighs.ensures.weighs.weights in
    work_of d c.requires _ (c.in_ok-embeds.ensures ∙ c.in_ok-costs.ensures ∙ ap (λ (h : PlainGrammar). weighed h d.weights.now) c.grammar.ensures.grammar) measure refl

pub write_goals-requires-clause-cores : goal.write_goals-requires-clause-cores
write_goals-requires-clause-cores g c = λ κs met.
    let d = c.args.chained.now in
    c.in_ok-cores.ensures ∙ ap (told_by d.yacc.now) (c.costs.ensures ∙ c.in_ok-embeds.ensures ∙ c.in_ok-costs.ensures ∙ ap (λ (h : PlainGrammar). weighed h d.weights.now) c.grammar.ensures.grammar)

pub returns-in_err-write_goals-clause-text : goal.returns-in_err-write_goals-clause-text
returns-in_err-write_goals-clause-text g c =
    let p = err_from_is_err_and c.from_residual-in_err-write_goals.result c.from_residual-in_err-write_goals.ensures.1 in
    let halt = c.in_err-write_goals.field-0.0 in
    rw (p.1, p.2) (goals_stopped c.args.chained.now c.one_text.ensures c.requires g.S.Sink c.args.sink.now c.write_head.new.sink c.write_goals.new.sink halt c.in_ok-write_head.ensures c.in_err-write_goals.ensures.text)

pub returns-in_err-write_end-clause-text : goal.returns-in_err-write_end-clause-text
returns-in_err-write_end-clause-text g c =
    let p = err_from_is_err_and c.from_residual-in_err-write_end.result c.from_residual-in_err-write_end.ensures.1 in
    rw (p.1, p.2) (end_cut c.args.chained.now c.one_text.ensures c.requires g.S.Sink c.args.sink.now c.write_head.new.sink c.write_goals.new.sink c.write_end.new.sink c.write_goals.new.tally
    c.in_ok-write_head.ensures c.in_ok-write_goals.ensures.text c.in_ok-write_goals.ensures.counted c.in_err-write_end.ensures)

pub returns-clause-text : goal.returns-clause-text
returns-clause-text g c =
    all_written c.args.chained.now c.one_text.ensures c.requires g.S.Sink c.args.sink.now c.write_head.new.sink c.write_goals.new.sink c.write_end.new.sink c.write_goals.new.tally
    c.in_ok-write_head.ensures c.in_ok-write_goals.ensures.text c.in_ok-write_goals.ensures.counted c.in_ok-write_end.ensures
