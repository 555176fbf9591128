-- The rules so far, and the classes of the patterns that are left.
use Rattle.std.proofs.Common.{◌≡◌, ◌+◌, ◌++◌, map, take, drop, length}
use Rattle.cs_pattern_parts.specs.Tree.Pattern.{regex}
use Rattle.cs_scanner.specs.Automaton.Meaning.{res, all_classes}
use Rattle.cs_scanner.specs.Automaton.Places.{all_letters}
use Rattle.cs_scanner.specs.Automaton.Programs.{values, AreRules}
use Rattle.cs_scanner.proofs.automaton.program.make_program.Given as goal

abbrev pub invariant-loop-i : goal.invariant-loop-i
invariant-loop-i l = record {
  count : length l.classes.items + all_letters (res (map regex (drop l.i l.patterns))) ≡ all_letters (res (map regex l.patterns));
  list : values l.classes.items ++ all_classes (res (map regex (drop l.i l.patterns))) ≡ all_classes (res (map regex l.patterns));
  before : length l.classes.items ≡ all_letters (res (map regex (take l.i l.patterns)));
  rules : AreRules l.rules.items 0 (map regex (take l.i l.patterns));
}
