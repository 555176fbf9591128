-- The origins at the place have the numbers of the words too, and their item stays.
use Rattle.std.proofs.Common.{◌≡◌, ap, subst, sym, ◌∙◌, ◌⊎◌}
use Rattle.std.specs.Prelude.{◌↔◌}
use Rattle.std.proofs.lemmas.List.Elements.{All-set}
use Rattle.std.proofs.lemmas.Option.{get_or_from_slice_get}
use Rattle.cs_member.specs.declared.chart.now.Origins.{Origins}
use Rattle.cs_member.specs.Tables.Sets.{Has, InWords}
use Rattle.cs_member.specs.Chart.Now.{IsHere}
use Rattle.cs_member.proofs.OnChart.Rows.{stood_at}
use Rattle.cs_member.proofs.chart.now.stand_at.Goals as goal

pub returns-clause-stood : goal.returns-clause-stood
returns-clause-stood c = λ o at.
    let row = c.index_mut.result.now in
    let is : row ≡ o = c.index_mut.ensures.value ∙ get_or_from_slice_get c.args.origins.now.items c.args.place o row at in
    stood_at c.args.origins.now.items c.args.place o (record { item = row.item; set = c.add_all.new.set }) (InWords c.args.words.now) at (ap (λ (r : Origins). r.item) is)
    (λ n. subst (λ (r : Origins). Has c.add_all.new.set.items n ↔ (Has r.set.items n ⊎ InWords c.args.words.now n)) is (c.in_ok-add_all.ensures.has n))

pub returns-clause-items : goal.returns-clause-items
returns-clause-items c = λ g all.
    let row = c.index_mut.result.now in
    let held : IsHere g row.item = subst (λ (r : Origins). IsHere g r.item) (sym c.index_mut.ensures.value) (all c.args.place row c.requires.place) in
    All-set (λ (r : Origins). IsHere g r.item) c.args.origins.now.items c.args.place (record { item = row.item; set = c.add_all.new.set }) held all
