-- The item stands at the guess, or is entered last with no origins.
use Rattle.std.proofs.Common.{refl, arith, sym, subst, ap, ◌∙◌, inr, List}
use Rattle.std.specs.Prelude.{slice_get, All}
use Rattle.std.proofs.lemmas.List.Elements.{All-push}
use Rattle.std.proofs.lemmas.Option.{slice_get_read}
use Rattle.cs_member.specs.declared.chart.now.Origins.{Origins}
use Rattle.cs_member.specs.Chart.Now.{IsHere}
use Rattle.cs_member.proofs.OnTables.Places.{at_end}
use Rattle.cs_member.proofs.chart.now.find.Goals as goal

pub returns-then-same-clause-there : goal.returns-then-same-clause-there
returns-then-same-clause-there c = (c.index.result.now, slice_get_read c.args.origins.now.items _ _ c.index.result.now refl (let lt = c.if-guess-len.true in let size = c.len.ensures in omega arith) c.index.ensures, c.if-same.ensures.0 refl)

pub returns-clause-there : goal.returns-clause-there
returns-clause-there c =
    let o : Origins = record { item = c.args.item; set = c.new.result } in
    (o, ap (λ (l : List Origins). slice_get l c.len-last.result) c.in_ok-push.ensures.items ∙ at_end c.args.origins.now.items o c.len-last.result (let size = c.len-last.ensures in omega arith), refl)

pub returns-clause-added : goal.returns-clause-added
returns-clause-added c = inr (record { item = c.args.item; set = c.new.result }, c.in_ok-push.ensures.items, c.new.ensures.items)

pub returns-clause-items : goal.returns-clause-items
returns-clause-items c = λ g holds all.
    let o : Origins = record { item = c.args.item; set = c.new.result } in
    subst (λ (l : List Origins). All (λ (r : Origins). IsHere g r.item) l) (sym c.in_ok-push.ensures.items) (All-push (λ (r : Origins). IsHere g r.item) c.args.origins.now.items o all holds)
