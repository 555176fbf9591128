-- The verdict at the place chosen is feasible, and what is shown is of its derivation and tokens.
use Rattle.std.proofs.Common.{◌≡◌, ap, ◌∙◌, sym}
use Rattle.cs_spell.specs.Telling.Chosen.{RuleVerdict}
use Rattle.cs_spell.proofs.OnTelling.Showing.{shown_of}
use Rattle.cs_spell.proofs.telling.telling.show.Goals as goal
use Rattle.cs_verdicts.specs.declared.positive.verdict.Verdict.TheVariants.{Feasible}

pub returns : goal.returns
returns c =
    let x = c.index-tools-place.result in
    let verdict : x.verdict ≡ Feasible c.in-Feasible.size c.in-Feasible.derivation = ap (λ (j : RuleVerdict). j.verdict) c.index-tools-place.is ∙ sym c.verdict.ensures ∙ c.in-Feasible.is in
    let tokens : c.tokens-tokens.result.now ≡ x.tokens = c.tokens-tokens.ensures ∙ ap (λ (j : RuleVerdict). j.tokens) (sym c.index-tools-place.is) in
    shown_of c.args.tools.now c.args.wanted c.args.place c.requires.chosen x c.index-tools-place.is c.args.rule c.number_of.result c.in-Feasible.size c.args.spelling.now c.in-Feasible.derivation
    c.tokens-tokens.result.now c.way_of-way.result _ verdict tokens c.number_of.ensures c.way_of-way.ensures c.in_ok-rendered.ensures
