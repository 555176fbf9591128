-- The definition uses what the item names, so that reaches back exactly where both are of one component.
use Rattle.std.proofs.Common.{◌≡◌, sym, subst, inr, arith}
use Rattle.std.specs.Prelude.{Some}
use Rattle.std.proofs.lemmas.Bool.Decides.{Decides-eqb}
use Rattle.cs_pattern_parts.specs.Items.Views.{item_of}
use Rattle.cs_pattern.specs.Operations.Definitions.{definitions_of}
use Rattle.cs_pattern.specs.Text.Stages.{Meets}
use Rattle.cs_pattern.specs.Text.Uses.{used, directly}
use Rattle.cs_pattern.proofs.OnText.Linked.{used_within}
use Rattle.cs_pattern.proofs.text.uses.leads_to.Goals as goal

pub returns-in-Some : goal.returns-in-Some
returns-in-Some c =
    let ds = definitions_of c.args.names.now.entries in
    let next = c.in-Some.next in
    let names : used ds (item_of c.args.placed.now.item) ≡ Some next = sym c.in-Some.ensures in
    let within = used_within ds (item_of c.args.placed.now.item) next names in
    let size = c.requires.numbers.count in
    let to = c.requires.to in
    let same = c.requires.numbers.same next c.args.to within (omega arith) in
    let test = Decides-eqb _ _ in (
      λ t. (next, names, (same.0 (test.0 t)).0),
      λ l.
          let e = l.1 in
          let is : l.0 ≡ next = cc (e, names) in
          test.1 (same.1 (subst (λ n. Meets ds n c.args.to) is l.2, inr (directly c.args.to next (c.requires.item next names)))),
    )
