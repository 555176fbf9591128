-- An action has one kind.
use Rattle.std.specs.Prelude.{◌≡◌, ℕ, List}
use Rattle.cs_lex.specs.Actions.Kinds.{ActionKind, IsKind}

abbrev pub HasOneKind : List ℕ → Type 0
HasOneKind action = (j k : ActionKind) → IsKind action j → IsKind action k → j ≡ k
