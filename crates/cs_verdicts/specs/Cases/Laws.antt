-- The facts that the law states.
use Rattle.std.specs.Prelude.{◌≡◌, ℕ, List}
use Rattle.cs_goals.specs.declared.goal.Goal.{Goal}
use Rattle.cs_verdicts.specs.declared.cases.cases.Named.{Named}
use Rattle.cs_verdicts.specs.Cases.Cases.{PlainCases, IsPlaced}

-- what is told of a goal and a code that are placed, and the cases then, are the same each time
abbrev pub IsOnePlacing : PlainCases → Goal → List ℕ → Type 0
IsOnePlacing old goal code =
    (new other : PlainCases) → (named again : Named) → IsPlaced old goal code new named → IsPlaced old goal code other again
    → (new ≡ other) × (named ≡ again)
