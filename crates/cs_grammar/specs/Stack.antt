-- A stack in memory: its top is the last element of a list.
use Rattle.std.specs.Prelude.{◌≡◌, ℕ, List, ◌++◌, reverse, drop}

-- these were put on top of what was there, the first of them on top
abbrev pub AreOnTop : {A : Type 0} → List A → List A → List A → Type 0
AreOnTop xs old new = reverse new ≡ xs ++ reverse old

-- of these all but so many in front were put on top of what was there
abbrev pub AreLastOnTop : {A : Type 0} → List A → List A → List A → Type 0
AreLastOnTop xs old new = (k : ℕ) × AreOnTop (drop k xs) old new
