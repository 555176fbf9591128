-- The row that is there has the opened edit and pair, and every token stands apart, so the token fills it.
use Rattle.std.proofs.Common.{sym, subst}
use Rattle.cs_manifest.specs.declared.filling.open.OpenEdit.{OpenEdit}
use Rattle.cs_manifest.specs.declared.filling.open.OpenPair.{OpenPair}
use Rattle.cs_writing.specs.Mutants.Makers.{Making}
use Rattle.cs_writing.specs.Mutants.Rows.{AreRows, FillsRow, IsRowOf}
use Rattle.cs_writing.specs.declared.mutants.made.Filling.{Filling}
use Rattle.cs_writing.specs.declared.mutants.opened.Opened.{Opened}
use Rattle.cs_writing.specs.declared.mutants.rows.Rows.{Rows}
use Rattle.cs_writing.proofs.OnMutants.Filling.{filled_row, row_there}
use Rattle.cs_writing.proofs.mutants.made.fill.Goals as goal

pub returns-then-branch-clause-fills : goal.returns-then-branch-clause-fills
returns-then-branch-clause-fills c =
    let o : Opened = c.in-Some.opened in
    let told = c.in-Some-told.token in
    let rows : Rows = c.settle.new.self in
    let m = c.maker.inside in
    let making : Making = record { tools = m.tools.now; number = m.number; base = m.base.now } in
    let filling : Filling = record { opened = o; token = told } in
    let has = c.in_ok-settle.ensures.has c.if-branch.true in
    let are : AreRows making rows = subst (λ (k : Making). AreRows k rows) (sym c.maker.view_is) c.in_ok-settle.ensures.rows in
    let row = row_there making rows o.pair has.row are has.there in
    let of : IsRowOf making o.edit o.pair has.row =
    subst (λ (e : OpenEdit). IsRowOf making e o.pair has.row) has.edit_is (subst (λ (p : OpenPair). IsRowOf making has.row.edit p has.row) has.pair_is row) in
    let fills : FillsRow making rows filling = record {
      row = has.row;
      there = has.there;
      fills = filled_row making o.edit o.pair o.token has.row told (c.maker.invariant.all c.if-not-maker.false) c.in-Some-told.ensures.told of;
    } in
    subst (λ (k : Making). FillsRow k rows filling) c.maker.view_is fills
