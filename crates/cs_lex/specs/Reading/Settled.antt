-- That the rules section ends or stops, and its actions have kinds: working words of a proof.
use Rattle.std.specs.Prelude.{◌⊎◌, ℕ, List}
use Rattle.std.specs.List.{AllByRecursion}
use Rattle.cs_lex.specs.Actions.Kinds.{ActionKind, IsKind}
use Rattle.cs_lex.specs.declared.layout.error.LayoutError.{LayoutError}
use Rattle.cs_lex.specs.declared.layout.parts.Rule.{Rule}
use Rattle.cs_lex.specs.Layout.Layout.{HasRules}
use Rattle.cs_lex.specs.Layout.Places.{StopsInRules}
use Rattle.cs_lex.specs.Reading.Kinds.{action_of}

abbrev pub HasActionKind : List ℕ → Rule → Type 0
HasActionKind bytes r = (action : ActionKind) × IsKind (action_of bytes r) action

-- the rules section that begins at the offset has rules whose actions have kinds
abbrev pub HasRulesOfKinds : List ℕ → ℕ → Type 0
HasRulesOfKinds bytes from = (rs : List Rule) × HasRules bytes from rs × AllByRecursion (HasActionKind bytes) rs

-- it has, or layout stops in it
abbrev pub KindsEndOrStop : List ℕ → ℕ → Type 0
KindsEndOrStop bytes from = HasRulesOfKinds bytes from ⊎ ((error : LayoutError) × StopsInRules bytes from error)
