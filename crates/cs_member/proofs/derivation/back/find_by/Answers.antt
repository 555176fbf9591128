-- By the token, or by the span with the number.
use Rattle.std.proofs.Common.{◌≡◌, ℕ, ◌<◌, Option, Some, length, take, sym, ◌∙◌, subst}
use Rattle.std.specs.Prelude.{MatchOption}
use Rattle.std.proofs.lemmas.Option.{same_Some}
use Rattle.cs_member.specs.declared.chart.chart.Position.{Position}
use Rattle.cs_member.specs.declared.chart.now.Span.{Span}
use Rattle.cs_member.specs.Chart.Chart.{OfSpan}
use Rattle.cs_member.specs.Derivation.Back.{IsChild, NoneLeads, OfChild, IsFound}
use Rattle.cs_member.proofs.OnDerivation.Backing.{match_both}
use Rattle.cs_member.proofs.OnTables.Places.{there_at}
use Rattle.cs_member.proofs.derivation.back.find_by.Goals as goal

pub returns-in-None : goal.returns-in-None
returns-in-None c = λ p at.
    let q = c.args.question.now in
    subst
    (λ (o : Option ℕ). MatchOption c.by_token.result
    (NoneLeads q.grammar.now c.args.sought (OfChild q.tables.now q.tokens.now (take c.args.at c.args.chart.now) p.spans.items o c.args.from))
    (IsFound q.grammar.now q.tokens.now c.args.chart.now c.args.sought c.args.at c.args.from o))
    (sym c.in-None.is) c.by_token.ensures

pub returns-in-Some : goal.returns-in-Some
returns-in-Some c = λ p at.
    let q = c.args.question.now in
    let chart = c.args.chart.now in
    let number = c.in-Some.number in
    let child : IsChild chart c.args.at (Some number) = subst (λ (o : Option ℕ). IsChild chart c.args.at o) c.in-Some.is c.requires.child in
    let one : child.0 ≡ p = same_Some child.0 p (sym child.1 ∙ at) in
    let within : number < length p.spans.items = subst (λ (r : Position). number < length r.spans.items) one child.2 in
    let s = there_at p.spans.items number within in
    subst
    (λ (o : Option ℕ). MatchOption c.by_span.result
    (NoneLeads q.grammar.now c.args.sought (OfChild q.tables.now q.tokens.now (take c.args.at chart) p.spans.items o c.args.from))
    (IsFound q.grammar.now q.tokens.now chart c.args.sought c.args.at c.args.from o))
    (sym c.in-Some.is)
    (match_both c.by_span.result
    (NoneLeads q.grammar.now c.args.sought (λ x. OfSpan (take c.args.at chart) q.tables.now.nonterminals.items s.0 x c.args.from))
    (NoneLeads q.grammar.now c.args.sought (OfChild q.tables.now q.tokens.now (take c.args.at chart) p.spans.items (Some number) c.args.from))
    (IsFound q.grammar.now q.tokens.now chart c.args.sought c.args.at c.args.from (Some number))
    (IsFound q.grammar.now q.tokens.now chart c.args.sought c.args.at c.args.from (Some number))
    (λ none first x of leads.
    let same : of.0 ≡ s.0 = same_Some of.0 s.0 (sym of.1 ∙ s.1) in
    none first x (subst (λ (u : Span). OfSpan (take c.args.at chart) q.tables.now.nonterminals.items u first c.args.from) same of.2) leads)
    (λ back h. h)
    (c.by_span.ensures p s.0 at s.1))
