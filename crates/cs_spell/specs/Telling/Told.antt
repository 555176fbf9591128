-- What is told of a scanner rule.
use Rattle.std.specs.Prelude.{ℕ, Bool, true, false, List}
use Rattle.cs_spell.specs.declared.texts.way.Way.{Way}
use Rattle.cs_texts.specs.Rendering.Rendering.{Rendering}

-- A spelling that is shown: how, in the goal of which rule, the goal's size, derivation and tokens, and what came of these.
pub record Showing : Type 0 where
  pub way : Way
  pub rule : ℕ
  pub size : ℕ
  pub derivation : List ℕ
  pub tokens : List ℕ
  pub rendering : Rendering

-- Shadowed: the rule wins no text. Foreign and Literal tell its kind. Infeasible and Large: why its spelling isn't shown.
pub data Told : Type 0 where
  Shadowed : Told
  Foreign : Told
  Literal : Told
  Infeasible : Told
  Large : Told
  Shown : Showing → Told

abbrev pub is_shadowed : Told → Bool
is_shadowed Shadowed = true
is_shadowed Foreign = false
is_shadowed Literal = false
is_shadowed Infeasible = false
is_shadowed Large = false
is_shadowed (Shown showing) = false

abbrev pub is_foreign : Told → Bool
is_foreign Shadowed = false
is_foreign Foreign = true
is_foreign Literal = false
is_foreign Infeasible = false
is_foreign Large = false
is_foreign (Shown showing) = false

abbrev pub is_literal : Told → Bool
is_literal Shadowed = false
is_literal Foreign = false
is_literal Literal = true
is_literal Infeasible = false
is_literal Large = false
is_literal (Shown showing) = false

abbrev pub is_infeasible : Told → Bool
is_infeasible Shadowed = false
is_infeasible Foreign = false
is_infeasible Literal = false
is_infeasible Infeasible = true
is_infeasible Large = false
is_infeasible (Shown showing) = false

abbrev pub is_large : Told → Bool
is_large Shadowed = false
is_large Foreign = false
is_large Literal = false
is_large Infeasible = false
is_large Large = true
is_large (Shown showing) = false

abbrev pub is_shown : Told → Bool
is_shown Shadowed = false
is_shown Foreign = false
is_shown Literal = false
is_shown Infeasible = false
is_shown Large = false
is_shown (Shown showing) = true
