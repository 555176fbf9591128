use Rattle.std.proofs.Common.{◌≡◌, ◌+◌, ◌≤◌, ℕ, List, length}
use Rattle.cs_lines.specs.Lines.Spelled.{Spells}
use Rattle.cs_lines.proofs.lines.quoted.Quoted.len.Given as goal

abbrev pub invariant-loop-front : goal.invariant-loop-front
invariant-loop-front l =
    (l.len + length l.rest ≤ length l.self.spelled.now)
    × ((text : List ℕ) → Spells l.self.spelled.now text → (left : List ℕ) × Spells l.rest left × (length text ≡ l.len + length left))

abbrev pub decreases-loop-front : goal.decreases-loop-front
decreases-loop-front l = length l.rest
