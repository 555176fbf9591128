-- An item that begins at the position is a front, and one that began before is in the bucket.
use Rattle.std.proofs.Common.{◌≡◌, inl, inr, List, Some, sym, ap, ◌∙◌, subst, arith}
use Rattle.std.specs.Prelude.{All, slice_get}
use Rattle.std.specs.Global.{Vec}
use Rattle.std.proofs.lemmas.Option.{same_Some}
use Rattle.cs_member.specs.Chart.Buckets.{rows_in}
use Rattle.cs_member.specs.declared.derivation.back.Back.{Back}
use Rattle.cs_member.specs.declared.chart.chart.Row.{Row}
use Rattle.cs_member.specs.Chart.Chart.{IsRow, OfRows}
use Rattle.cs_member.specs.Derivation.Back.{NoneLeads, IsOfFronts, IsInRows, OfSymbol, IsBefore, IsBehind}
use Rattle.cs_member.proofs.OnDerivation.Backing.{match_both}
use Rattle.cs_member.proofs.derivation.back.find_at.Goals as goal

pub returns-then-from-begin : goal.returns-then-from-begin
returns-then-from-begin c =
    let g = c.args.question.now.grammar.now in
    let position = c.args.position.now in
    let fronts = c.args.over.now.fronts.now in
    match_both c.find_front.result
    (NoneLeads g c.args.sought (IsOfFronts fronts)) (NoneLeads g c.args.sought (OfSymbol position c.args.over.now.bucket fronts c.args.begin c.args.from))
    _ (λ (back : Back). IsBefore position c.args.over.now.bucket fronts c.args.begin c.args.from back.before × (back.begin ≡ c.args.begin) × IsBehind g c.args.sought back)
    (λ none first x of leads. elim of [
      | inl bucket ↦ (let early = c.requires.position.early c.args.over.now.bucket c.args.from bucket.0 bucket.2.0 bucket.1 bucket.2.1 bucket.2.3 in let same = c.if-from-begin.true in omega arith)
      | inr begins ↦ none first x begins.0 leads
    ])
    (λ back h. (inl (c.if-from-begin.true, h.0), h.1, h.2))
    c.find_front.ensures

pub rows-requires-clause-buckets : goal.rows-requires-clause-buckets
rows-requires-clause-buckets c = c.requires.position.buckets

pub rows-requires-clause-number : goal.rows-requires-clause-number
rows-requires-clause-number c = (let size = c.requires.position.size in let low = c.requires.bucket in omega arith)

pub find_row-requires-clause-rows : goal.find_row-requires-clause-rows
find_row-requires-clause-rows c =
    let g = c.args.question.now.grammar.now in
    let position = c.args.position.now in
    let list = c.rows.ensures.0 in
    let size = c.requires.position.size in
    let low = c.requires.bucket in
    let at : slice_get (rows_in position.rows) c.args.over.now.bucket ≡ Some list = c.rows.ensures.1 in
    subst (λ (l : List Row). All (IsRow g) l) (sym c.rows.ensures.2) (c.requires.position.rows c.args.over.now.bucket list at)

pub returns : goal.returns
returns c =
    let g = c.args.question.now.grammar.now in
    let position = c.args.position.now in
    let fronts = c.args.over.now.fronts.now in
    let list = c.rows.ensures.0 in
    let size = c.requires.position.size in
    let low = c.requires.bucket in
    let at : slice_get (rows_in position.rows) c.args.over.now.bucket ≡ Some list = c.rows.ensures.1 in
    match_both c.find_row.result
    (NoneLeads g c.args.sought (λ x. OfRows c.rows.result.now x c.args.from)) (NoneLeads g c.args.sought (OfSymbol position c.args.over.now.bucket fronts c.args.begin c.args.from))
    _ (λ (back : Back). IsBefore position c.args.over.now.bucket fronts c.args.begin c.args.from back.before × (back.begin ≡ c.args.begin) × IsBehind g c.args.sought back)
    (λ none first x of leads. elim of [
      | inl bucket ↦
          let same : bucket.0 ≡ list = same_Some bucket.0 list (sym bucket.1 ∙ at) in
          none first x (subst (λ (l : List Row). OfRows l first c.args.from) (ap (λ (v : Vec Row). v.items) same ∙ sym c.rows.ensures.2) bucket.2) leads
      | inr begins ↦ c.if-from-begin.false begins.1
    ])
    (λ back h.
    let in_rows : IsInRows list.items c.args.from back.before = subst (λ (l : List Row). IsInRows l c.args.from back.before) c.rows.ensures.2 h.0 in
    let row = in_rows.0 in
    let early = c.requires.position.early c.args.over.now.bucket c.args.from list row at in_rows.1 in_rows.3 in
    (inr (early, list, at, in_rows), h.1, h.2))
    c.find_row.ensures
