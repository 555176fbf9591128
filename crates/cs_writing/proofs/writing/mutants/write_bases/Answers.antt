-- What negatives are made by is made first, and memory may run out for it.
use Rattle.std.proofs.Common.{◌≡◌, ap, subst, sym, ◌∙◌}
use Rattle.std.specs.Option.{option_map_or}
use Rattle.std.specs.Prelude.{Option}
use Rattle.cs_grammar.specs.Grammar.{PlainGrammar}
use Rattle.std.proofs.lemmas.Result.{err_from_is_err_and}
use Rattle.cs_io.specs.declared.halt.Halt.TheVariants.{Memory}
use Rattle.cs_writing.specs.declared.plan.plan.Means.{Means}
use Rattle.cs_writing.specs.Writing.Mutants.{AreBegun}
use Rattle.cs_writing.proofs.OnWriting.Mutated.{bases_refused, without_bases}
use Rattle.cs_writing.proofs.OnWriting.Parts.{bases_text_stop}
use Rattle.cs_writing.proofs.OnWriting.Searches.{can_render}
use Rattle.cs_writing.proofs.writing.mutants.write_bases.Goals as goal

pub returns-in_err-tools-clause-text : goal.returns-in_err-tools-clause-text
returns-in_err-tools-clause-text g c =
    let p = err_from_is_err_and c.from_residual.result c.from_residual.ensures.1 in
    let plan = c.args.plan.now in
    let bases = c.args.bases.now in
    let sink = c.args.sink.now in
    rw (p.1, p.2) (bases_text_stop plan bases sink sink Memory (bases_refused plan bases.list sink))

pub returns-in_err-keeper-clause-text : goal.returns-in_err-keeper-clause-text
returns-in_err-keeper-clause-text g c =
    let p = err_from_is_err_and c.from_residual-in_err-keeper.result c.from_residual-in_err-keeper.ensures.1 in
    let plan = c.args.plan.now in
    let bases = c.args.bases.now in
    let sink = c.args.sink.now in
    rw (p.1, p.2) (bases_text_stop plan bases sink sink Memory (bases_refused plan bases.list sink))

pub new-requires : goal.new-requires
new-requires g c = can_render c.args.plan.now c.requires.plan c.in-Some.means (sym c.means.ensures ∙ c.in-Some.is)

pub returns-in_default-clause-text : goal.returns-in_default-clause-text
returns-in_default-clause-text g c = without_bases c.args.plan.now c.args.bases.now c.args.sink.now (λ m is. c.in_default.not-Some m (c.means.ensures ∙ is)) c.requires.few

pub write_each-requires-clause-begun : goal.write_each-requires-clause-begun
write_each-requires-clause-begun g c = λ means is.
    let same : c.in-Some.means ≡ means = ap (λ (o : Option Means). option_map_or (λ (m : Means). m) o c.in-Some.means) (sym (sym c.means.ensures ∙ c.in-Some.is) ∙ is) in
    let kept = c.in_ok-keeper.ensures in
    subst (λ (m : Means). AreBegun c.args.plan.now.yacc.now m c.in_ok-tools.tools c.in_ok-keeper.keeper) same (record {
      tools_are = c.in_ok-tools.ensures;
      first = kept.first;
      tokens = kept.tokens ∙ c.tokens.ensures ∙ ap (λ (h : PlainGrammar). h.tokens) c.grammar.ensures;
      told = kept.told;
    })
