-- A definition that is put in stands last on the next stack, all of whose patterns are shallow.
use Rattle.std.proofs.Common.{subst}
use Rattle.std.specs.Prelude.{All}
use Rattle.cs_pattern.specs.declared.operations.operations.Op.{Op}
use Rattle.cs_pattern.specs.Operations.Building.{IsShallow, next_stack}
use Rattle.cs_pattern.specs.Operations.Trees.{known_at}
use Rattle.cs_pattern_parts.specs.Tree.Pattern.{regexes}
use Rattle.cs_pattern.proofs.OnOperations.Keeping.{All-last}
use Rattle.cs_pattern.proofs.operations.building.apply.Goals as goal

pub substitute-requires : goal.substitute-requires
substitute-requires c = record {
  nested =
      All-last IsShallow (regexes c.args.stack.now.items) (known_at c.args.known.now.entries c.in-Substitute.index)
      (subst (λ (op : Op). All IsShallow (next_stack c.args.known.now.entries c.args.stack.now.items op)) c.in-Substitute.is c.requires.after);
}
