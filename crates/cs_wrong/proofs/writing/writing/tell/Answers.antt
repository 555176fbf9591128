-- The tables are of the grammar of the file, and memory may run out before anything is written.
use Rattle.std.proofs.Common.{refl, sym, ap, ◌∙◌, subst}
use Rattle.std.proofs.lemmas.Result.{err_from_is_err_and}
use Rattle.cs_grammar.specs.Grammar.{PlainGrammar}
use Rattle.cs_grammar.specs.Weights.{Weighed, Weighs, weighed}
use Rattle.cs_wrong.proofs.OnWriting.Ending.{memory_first, weights_many}
use Rattle.cs_wrong.specs.Writing.Progress.{IsAsked}
use Rattle.cs_wrong.proofs.writing.writing.tell.Goals as goal

pub new-requires : goal.new-requires
new-requires g c = weights_many c.args.asked.now c.requires ∙ ap (λ (h : PlainGrammar). h.tokens) (sym c.grammar-grammar.ensures.grammar)

pub returns-in_err-costs-clause-text : goal.returns-in_err-costs-clause-text
returns-in_err-costs-clause-text g c =
    let p = err_from_is_err_and c.from_residual.result c.from_residual.ensures.1 in
    rw (p.1, p.2) (memory_first g.S.Sink (IsAsked c.args.asked.now) c.args.sink.now)

pub returns-in_err-embeds-clause-text : goal.returns-in_err-embeds-clause-text
returns-in_err-embeds-clause-text g c =
    let p = err_from_is_err_and c.from_residual-in_err-embeds.result c.from_residual-in_err-embeds.ensures.1 in
    rw (p.1, p.2) (memory_first g.S.Sink (IsAsked c.args.asked.now) c.args.sink.now)

pub returns-in_err-pairs-clause-text : goal.returns-in_err-pairs-clause-text
returns-in_err-pairs-clause-text g c =
    let p = err_from_is_err_and c.from_residual-in_err-pairs.result c.from_residual-in_err-pairs.ensures.1 in
    rw (p.1, p.2) (memory_first g.S.Sink (IsAsked c.args.asked.now) c.args.sink.now)

pub returns-in_err-recognizer-clause-text : goal.returns-in_err-recognizer-clause-text
returns-in_err-recognizer-clause-text g c =
    let p = err_from_is_err_and c.from_residual-in_err-recognizer.result c.from_residual-in_err-recognizer.ensures.1 in
    rw (p.1, p.2) (memory_first g.S.Sink (IsAsked c.args.asked.now) c.args.sink.now)

pub tell_by-requires-clause-making : goal.tell_by-requires-clause-making
tell_by-requires-clause-making g c = λ κs met.
    let costs = c.in_ok-costs.ensures ∙ ap (λ (h : PlainGrammar). weighed h c.args.asked.now.weights.now) c.grammar-grammar.ensures.grammar in
    record {
      pairs = c.in_ok-pairs.ensures ∙ c.in_ok-embeds.ensures ∙ costs;
      recognizer = c.in_ok-recognizer.ensures ∙ c.grammar-grammar.ensures.grammar;
      render = refl;
      weighs = subst (λ (v : Weighed). Weighs v.weights v.grammar) costs c.weights-weighs.ensures.weighs;
    }
