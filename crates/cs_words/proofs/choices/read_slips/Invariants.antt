use Rattle.std.proofs.Common.{length, take}
use Rattle.cs_words.specs.Choices.{Chooses, has_slip, parts}
use Rattle.cs_words.proofs.choices.read_slips.Given as goal

abbrev pub invariant-loop-name : goal.invariant-loop-name
invariant-loop-name l =
    Chooses (has_slip l.slips) (take (length l.yielded) (parts l.value)) ×
    (goal.iterator-loop-name).can_next l.name-iterator ×
    (goal.iterator-loop-name).is_finite l.name-iterator
