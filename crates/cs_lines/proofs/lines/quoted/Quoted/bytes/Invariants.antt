use Rattle.std.proofs.Common.{◌≡◌, ℕ, List, ◌++◌, length}
use Rattle.cs_lines.specs.Lines.Spelled.{Spells}
use Rattle.cs_lines.proofs.lines.quoted.Quoted.bytes.Given as goal

abbrev pub invariant-loop-front : goal.invariant-loop-front
invariant-loop-front l =
    (text : List ℕ) → Spells l.self.spelled.now text → (left : List ℕ) × Spells l.rest left × (text ≡ l.bytes.items ++ left)

abbrev pub decreases-loop-front : goal.decreases-loop-front
decreases-loop-front l = length l.rest
