use Rattle.std.proofs.Common.{◌≤◌, ◌-◌, length}
use Rattle.cs_lex.specs.Layout.Layout.{RulesLine, no_rules}
use Rattle.cs_lex.specs.Layout.Lies.{RulesLie}
use Rattle.cs_lex.specs.Layout.Steps.{Walk}
use Rattle.cs_lex.proofs.layout.layout.read_rules.Given as goal

abbrev pub invariant-loop-at : goal.invariant-loop-at
invariant-loop-at l = record {
  lines : Walk (RulesLine l.bytes) (no_rules l.from) (record { at = l.at; rules = l.rules.items });
  within : l.at ≤ length l.bytes;
  lie : RulesLie (length l.bytes) l.at l.rules.items;
}

abbrev pub decreases-loop-at : goal.decreases-loop-at
decreases-loop-at l = length l.bytes - l.at
