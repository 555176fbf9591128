-- A span of the start symbol over the whole list has a tree, and without one there is none.
use Rattle.std.proofs.Common.{◌≡◌, List, Some, length, refl, sym, ap, ◌∙◌, subst, arith}
use Rattle.std.specs.Prelude.{slice_get}
use Rattle.std.proofs.lemmas.Option.{slice_get_read}
use Rattle.cs_member.specs.declared.chart.now.Span.{Span}
use Rattle.cs_member.specs.declared.chart.chart.Position.{Position}
use Rattle.cs_member.specs.Chart.Now.{SpansIn}
use Rattle.cs_member.proofs.OnChart.Outside.{list_outside}
use Rattle.cs_member.proofs.OnDerivation.Spelling.{whole_tree}
use Rattle.cs_member.proofs.OnMembership.Soundness.{spans_sentence}
use Rattle.cs_member.proofs.membership.membership.whole.Goals as goal

pub returns-in-None : goal.returns-in-None
returns-in-None c =
    let g = c.args.question.now.grammar.now in
    let tokens = c.args.question.now.tokens.now in
    let chart = c.args.chart.now in
    let p = c.index-chart-last.result in
    let long = c.requires.chart.long in
    let at : slice_get chart (length tokens) ≡ Some p = slice_get_read chart _ (length tokens) p refl (omega arith) c.index-chart-last.is in
    record {
      none = list_outside g c.args.question.now.tables.now tokens chart c.rules-well_formed.ensures.well_formed c.requires.tables c.requires.chart p
          (λ e. c.if-last-eq0.false e) at
          (λ h. c.in-None.ensures
          (subst (λ (l : List Span). SpansIn l c.start-start.result 0) (sym (c.deref.ensures.value ∙ ap (λ (q : Position). q.spans.items) (sym c.index-chart-last.is)))
          (subst (λ a. SpansIn p.spans.items a 0) (sym c.start-start.ensures) h)));
      some = tt;
      sentence = tt;
    }

pub returns-in-Some-clause-some : goal.returns-in-Some-clause-some
returns-in-Some-clause-some c =
    let g = c.args.question.now.grammar.now in
    let tokens = c.args.question.now.tokens.now in
    let chart = c.args.chart.now in
    let p = c.index-chart-last.result in
    let long = c.requires.chart.long in
    let at : slice_get chart (length tokens) ≡ Some p = slice_get_read chart _ (length tokens) p refl (omega arith) c.index-chart-last.is in
    let spans : c.deref.result.now ≡ p.spans.items = c.deref.ensures.value ∙ ap (λ (q : Position). q.spans.items) (sym c.index-chart-last.is) in
    let found = c.in-Some.ensures in
    whole_tree g tokens c.args.question.now.tables.now chart (length tokens) c.in-Some.number p found.0 refl at
    (ap (λ (l : List Span). slice_get l c.in-Some.number) (sym spans) ∙ found.1) (found.2 ∙ c.start-start.ensures) found.3

pub returns-in-Some-clause-sentence : goal.returns-in-Some-clause-sentence
returns-in-Some-clause-sentence c =
    let g = c.args.question.now.grammar.now in
    let tables = c.args.question.now.tables.now in
    let tokens = c.args.question.now.tokens.now in
    let chart = c.args.chart.now in
    let p = c.index-chart-last.result in
    let long = c.requires.chart.long in
    let at : slice_get chart (length tokens) ≡ Some p = slice_get_read chart _ (length tokens) p refl (omega arith) c.index-chart-last.is in
    let spans : c.deref.result.now ≡ p.spans.items = c.deref.ensures.value ∙ ap (λ (q : Position). q.spans.items) (sym c.index-chart-last.is) in
    let found = c.in-Some.ensures in
    spans_sentence g tables tokens chart c.rules-well_formed.ensures.well_formed c.requires.tables c.requires.chart (length tokens) p refl at
    (c.in-Some.number, found.0, ap (λ (l : List Span). slice_get l c.in-Some.number) (sym spans) ∙ found.1, found.2 ∙ c.start-start.ensures, found.3)
