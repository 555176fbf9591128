use Rattle.std.proofs.Common.{◌↔◌, length}
use Rattle.cs_lines.specs.Lines.Numbers.{AreNumerals}
use Rattle.cs_lines.specs.Lines.Splits.{words_behind}
use Rattle.cs_lines.proofs.lines.numbers.Numbers.new.Given as goal

abbrev pub invariant-loop-word : goal.invariant-loop-word
invariant-loop-word l = AreNumerals (words_behind l.rest.rest.now) ↔ AreNumerals (words_behind l.words.rest.now)

abbrev pub decreases-loop-word : goal.decreases-loop-word
decreases-loop-word l = length (words_behind l.rest.rest.now)
