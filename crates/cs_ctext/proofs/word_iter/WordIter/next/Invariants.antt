use Rattle.std.proofs.Common.{◌≡◌, ◌-◌, ◌≤◌, length, drop}
use Rattle.cs_ctext.specs.Scans.{words_of}
use Rattle.cs_ctext.proofs.word_iter.WordIter.next.Given as goal

abbrev pub invariant-loop-self : goal.invariant-loop-self
invariant-loop-self l =
    (l.self-inside.at ≤ length l.bytes)
    × (words_of l.initial.self-inside.at (drop l.initial.self-inside.at l.bytes) ≡ words_of l.self-inside.at (drop l.self-inside.at l.bytes))
    × (l.self-inside.text ≡ l.bytes)

abbrev pub decreases-loop-self : goal.decreases-loop-self
decreases-loop-self l = length l.bytes - l.self-inside.at
