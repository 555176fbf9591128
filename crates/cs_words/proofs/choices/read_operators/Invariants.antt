use Rattle.std.proofs.Common.{length, take}
use Rattle.cs_words.specs.Choices.{Chooses, has_operator, parts}
use Rattle.cs_words.proofs.choices.read_operators.Given as goal

abbrev pub invariant-loop-name : goal.invariant-loop-name
invariant-loop-name l =
    Chooses (has_operator l.operators) (take (length l.yielded) (parts l.fn.value)) ×
    (goal.iterator-loop-name).can_next l.name-iterator ×
    (goal.iterator-loop-name).is_finite l.name-iterator
