-- No item before leads to the definition, so the one that does is the first.
use Rattle.std.proofs.Common.{arith}
use Rattle.cs_pattern.specs.Operations.Definitions.{definitions_of}
use Rattle.cs_pattern.proofs.OnText.Listing.{first_there, item_used}
use Rattle.cs_pattern.proofs.text.uses.first_to.Goals as goal

pub leads_to-requires-clause-item : goal.leads_to-requires-clause-item
leads_to-requires-clause-item c = λ next e.
    let ds = definitions_of c.args.names.now.entries in
    c.requires.items next (item_used ds next c.args.items.now c.loop-placed.placed-index c.placed-item.result (omega arith) c.placed-item.is e)

pub returns-then-leads_to : goal.returns-then-leads_to
returns-then-leads_to c =
    first_there (definitions_of c.args.names.now.entries) c.args.to c.args.items.now c.loop-placed.placed-index c.placed-item.result (omega arith) c.placed-item.is (c.leads_to.ensures.0 c.if-leads_to.true) c.loop-placed.invariant
