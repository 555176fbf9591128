-- Tables by number: what is said of number 1 stands first.
use Rattle.std.specs.Prelude.{ℕ, zero, suc, List, slice_index_or}

-- what a table says of a number, or else what is said of a number that it hasn't
abbrev pub entry_or : {X : Type 0} → List X → ℕ → X → X
entry_or table zero none = none
entry_or table (suc n) none = slice_index_or table n none
