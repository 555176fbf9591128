-- The two halves of "exactly one", in which laws are stated.
use Rattle.std.specs.Prelude.{◌≡◌}

-- some value is of the kind
abbrev pub AtLeastOne : {A : Type 0} → (A → Type 0) → Type 0
AtLeastOne {A} IsOne = (a : A) × IsOne a

-- two values of the kind are the same
abbrev pub AtMostOne : {A : Type 0} → (A → Type 0) → Type 0
AtMostOne {A} IsOne = (a b : A) → IsOne a → IsOne b → a ≡ b
