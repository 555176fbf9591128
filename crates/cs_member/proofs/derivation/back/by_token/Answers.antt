-- What awaits the token stands at the position before it, or its rule begins there with the token.
use Rattle.std.proofs.Common.{◌≡◌, ℕ, ◌+◌, ◌-◌, ◌<◌, get_or, List, None, Some, length, take, refl, sym, subst, arith}
use Rattle.std.specs.Prelude.{All, MatchOption, slice_get}
use Rattle.std.proofs.lemmas.Option.{slice_get_read, slice_get-get_or}
use Rattle.cs_member.specs.declared.derivation.back.Back.{Back}
use Rattle.cs_member.specs.declared.tables.fronts.Front.{Front}
use Rattle.cs_member.specs.Tables.Item.{IsItem}
use Rattle.cs_member.specs.Chart.Chart.{OfScan}
use Rattle.cs_grammar.specs.declared.symbol.Symbol.TheVariants.{Token}
use Rattle.cs_member.specs.Derivation.Back.{NoneLeads, OfSymbol, IsBefore, IsBehind, IsFound}
use Rattle.cs_member.proofs.OnDerivation.Backing.{match_both, fronts_fit, position_at, token_back, token_none}
use Rattle.cs_member.proofs.derivation.back.by_token.Goals as goal

pub find_at-requires-clause-position : goal.find_at-requires-clause-position
find_at-requires-clause-position c =
    let q = c.args.question.now in
    let chart = c.args.chart.now in
    let first = c.requires.first in
    let last = c.requires.last in
    let long = c.requires.chart.long in
    let i : ℕ = c.args.at - 1 in
    let p = c.index-chart-begin.result in
    let at : slice_get chart i ≡ Some p = slice_get_read chart _ i p refl (omega arith) c.index-chart-begin.is in
    position_at q.grammar.now q.tables.now q.tokens.now chart c.rules-well_formed.ensures.well_formed c.requires.tables c.requires.chart i p at

pub find_at-requires-clause-fronts : goal.find_at-requires-clause-fronts
find_at-requires-clause-fronts c =
    let q = c.args.question.now in
    let g = q.grammar.now in
    let first = c.requires.first in
    let last = c.requires.last in
    let i : ℕ = c.args.at - 1 in
    let inside : i < length q.tokens.now = omega arith in
    let t : ℕ = get_or q.tokens.now i 0 in
    let low = (c.requires.tokens i 0 inside).1 in
    let list = c.index-fronts.result.now in
    let many = c.requires.tables.question.tokens.size in
    let at_list : slice_get q.tables.now.tokens.items t ≡ Some list = slice_get_read q.tables.now.tokens.items _ t list refl (omega arith) c.index-fronts.ensures in
    subst (λ (l : List Front). All (λ f. IsItem g f.item × (0 < f.item.place)) l) (sym c.deref.ensures.value) (fronts_fit g Token g.tokens q.tables.now.tokens.items t list c.requires.tables.question.tokens at_list)

pub returns : goal.returns
returns c =
    let q = c.args.question.now in
    let g = q.grammar.now in
    let chart = c.args.chart.now in
    let first = c.requires.first in
    let last = c.requires.last in
    let long = c.requires.chart.long in
    let i : ℕ = c.args.at - 1 in
    let p = c.index-chart-begin.result in
    let at : slice_get chart i ≡ Some p = slice_get_read chart _ i p refl (omega arith) c.index-chart-begin.is in
    let inside : i < length q.tokens.now = omega arith in
    let t : ℕ = get_or q.tokens.now i 0 in
    let at_t : slice_get q.tokens.now i ≡ Some t = slice_get-get_or q.tokens.now i 0 inside in
    let low = (c.requires.tokens i 0 inside).1 in
    let list = c.index-fronts.result.now in
    let many = c.requires.tables.question.tokens.size in
    let at_list : slice_get q.tables.now.tokens.items t ≡ Some list = slice_get_read q.tables.now.tokens.items _ t list refl (omega arith) c.index-fronts.ensures in
    let next : i + 1 ≡ c.args.at = omega arith in
    let grammar = c.rules-well_formed.ensures.well_formed in
    match_both c.find_at.result
    (NoneLeads g c.args.sought (OfSymbol p 0 list.items i c.args.from))
    (NoneLeads g c.args.sought (λ x. OfScan (take c.args.at chart) q.tables.now.tokens.items q.tokens.now x c.args.from))
    (λ (back : Back). IsBefore p 0 list.items i c.args.from back.before × (back.begin ≡ i) × IsBehind g c.args.sought back)
    (λ (back : Back). IsFound g q.tokens.now chart c.args.sought c.args.at c.args.from None back)
    (token_none g q.tables.now q.tokens.now chart grammar c.requires.tables c.requires.chart c.args.sought c.args.at c.args.from p list i t next at at_t at_list)
    (token_back g q.tables.now q.tokens.now chart grammar c.requires.tables c.requires.chart c.args.sought c.args.at c.args.from p list i t next at at_t at_list)
    (subst (λ (l : List Front). MatchOption c.find_at.result (NoneLeads g c.args.sought (OfSymbol p 0 l i c.args.from)) (λ (back : Back). IsBefore p 0 l i c.args.from back.before × (back.begin ≡ i) × IsBehind g c.args.sought back)) c.deref.ensures.value c.find_at.ensures)
