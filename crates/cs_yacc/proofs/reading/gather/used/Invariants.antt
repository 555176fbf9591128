use Rattle.std.proofs.Common.{◌≡◌, drop, length}
use Rattle.std.specs.List.{flat_map}
use Rattle.cs_yacc.specs.Reading.RuleView.{rules_in}
use Rattle.cs_yacc.proofs.OnReading.Marks.{Marking}
use Rattle.cs_yacc.proofs.reading.gather.used.Given as goal

abbrev pub invariant-loop-rule : goal.invariant-loop-rule
invariant-loop-rule l =
    (length l.marks.items ≡ length l.words)
    × Marking l.words l.marks.items (flat_map (λ r. r.right) (rules_in l.words (drop l.rule-index l.rules))) (flat_map (λ r. r.right) (rules_in l.words l.rules))
