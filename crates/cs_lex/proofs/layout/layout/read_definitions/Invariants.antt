use Rattle.std.proofs.Common.{◌≡◌, ◌≤◌, ◌-◌, length}
use Rattle.cs_lex.specs.Layout.Layout.{DefinitionsLine, no_definitions, names_of}
use Rattle.cs_lex.specs.Layout.Lies.{DefinitionsLie}
use Rattle.cs_lex.specs.Layout.Names.{texts_of}
use Rattle.cs_lex.specs.Layout.Steps.{Walk}
use Rattle.cs_lex.proofs.layout.layout.read_definitions.Given as goal

abbrev pub invariant-loop-at : goal.invariant-loop-at
invariant-loop-at l = record {
  lines : Walk (DefinitionsLine l.bytes) no_definitions (record { at = l.at; definitions = l.definitions.items });
  within : l.at ≤ length l.bytes;
  lie : DefinitionsLie (length l.bytes) l.at l.definitions.items;
  names : texts_of l.names.keys ≡ names_of l.bytes l.definitions.items;
}

abbrev pub decreases-loop-at : goal.decreases-loop-at
decreases-loop-at l = length l.bytes - l.at
