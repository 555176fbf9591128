-- One item more is put behind the others where it names a definition.
use Rattle.std.proofs.Common.{arith}
use Rattle.cs_pattern.specs.Operations.Definitions.{definitions_of}
use Rattle.cs_pattern.proofs.OnText.Listing.{more_uses}
use Rattle.cs_pattern.proofs.text.uses.uses_of.Goals as goal

pub loop-placed-preserved : goal.loop-placed-preserved
loop-placed-preserved c =
    more_uses (definitions_of c.args.names.now.entries) c.args.items.now c.loop-placed.placed-index c.placed-item.result c.loop-placed.uses.items _ (omega arith) c.placed-item.is c.loop-placed.invariant c.in_ok-push_use.ensures
