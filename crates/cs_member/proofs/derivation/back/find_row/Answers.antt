-- A row has the origin and leads to what is sought, or one row more doesn't.
use Rattle.std.proofs.Common.{List, refl, sym, subst}
use Rattle.std.proofs.lemmas.List.{take_all}
use Rattle.std.proofs.lemmas.Bool.{false≢true}
use Rattle.cs_member.specs.declared.tables.item.Item.{Item}
use Rattle.cs_member.specs.declared.tables.word.Word.{Word}
use Rattle.cs_member.specs.declared.chart.chart.Row.{Row}
use Rattle.cs_member.specs.Tables.Sets.{InWords}
use Rattle.cs_member.specs.Chart.Chart.{OfRows}
use Rattle.cs_member.specs.Derivation.Back.{LeadsTo, NoneLeads}
use Rattle.cs_member.proofs.OnDerivation.Backing.{rows_lead_more}
use Rattle.cs_member.proofs.derivation.back.find_row.Goals as goal
use Rattle.cs_member.proofs.derivation.back.find_row.Goals.{then-has+in_default, else-has}

pub returns-in-Some : goal.returns-in-Some
returns-in-Some c =
    let g = c.args.question.now.grammar.now in
    let row = c.row-item.result in (
      (row, (c.loop-row.row-index, c.loop-row-test.true, sym c.row-item.is), refl, subst (λ (l : List Word). InWords l c.args.from) c.as_slice.ensures (c.if-has.ensures.0 refl)),
      refl,
      subst (λ (y : Item). LeadsTo g c.args.sought y c.in-Some.found) c.over.ensures c.in-Some.ensures,
    )

pub loop-row-preserved : goal.loop-row-preserved
loop-row-preserved c =
    let g = c.args.question.now.grammar.now in
    let row = c.row-item.result in
    rows_lead_more g c.args.sought c.args.rows.now c.loop-row.row-index c.args.from row c.loop-row-test.true c.row-item.is
    (λ in_it x leads. elim c.if-has.branch [
      | then-has+in_default w ↦ w.in_default.ensures w.over.result x refl (subst (λ (y : Item). LeadsTo g c.args.sought y x) (sym w.over.ensures) leads)
      | else-has w ↦ false≢true (w.if-has.ensures.1 (subst (λ (l : List Word). InWords l c.args.from) (sym c.as_slice.ensures) in_it))
    ])
    c.loop-row.invariant

pub returns : goal.returns
returns c =
    subst (λ (l : List Row). NoneLeads c.args.question.now.grammar.now c.args.sought (λ x. OfRows l x c.args.from)) (take_all c.loop-row.row-index c.args.rows.now c.loop-row-test.false) c.loop-row.invariant
