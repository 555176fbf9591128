-- Roots of chosen trees that are found ahead.
use Rattle.std.specs.Prelude.{List, Option, IfSome, All}
use Rattle.cs_grammar.specs.Weights.{Weighed}
use Rattle.cs_pairs.specs.declared.kinds.known.KnownRoot.{KnownRoot}
use Rattle.cs_pairs.specs.Kinds.Beside.{IsRootIn}

-- it is the root of its kind and nonterminal
abbrev pub IsKnownIn : Weighed → KnownRoot → Type 0
IsKnownIn v known = IsRootIn v known.kind known.left known.root

abbrev pub IsSlotIn : Weighed → Option KnownRoot → Type 0
IsSlotIn v slot = IfSome slot (IsKnownIn v)

-- so is each that is there
abbrev pub AreKnownIn : Weighed → List (Option KnownRoot) → Type 0
AreKnownIn v slots = All (IsSlotIn v) slots
