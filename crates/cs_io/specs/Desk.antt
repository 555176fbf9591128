-- Files by their names.
use Rattle.std.specs.Prelude.{◌≡◌, ℕ, List, [], ◌∷◌, Option, None, Some, if◌then◌else◌, bytes_eq, option_map, take}

-- names and bytes
abbrev pub Files : Type 0
Files = List (List ℕ × List ℕ)

-- the bytes of the first file of that name
abbrev pub file_named : Files → List ℕ → Option (List ℕ)
file_named [] name = None
file_named (file ∷ files) name = if bytes_eq file.0 name then Some file.1 else file_named files name

-- the files are told, and none has that name
abbrev pub IsMissing : Option Files → List ℕ → Type 0
IsMissing None name = ⊥
IsMissing (Some files) name = file_named files name ≡ None

-- where the files are told, the bytes are the first `most` of the file of that name, or all of them where it is shorter
abbrev pub IsBeginning : Option Files → List ℕ → ℕ → List ℕ → Type 0
IsBeginning None name most bytes = Unit {0}
IsBeginning (Some files) name most bytes = option_map (λ whole. take most whole) (file_named files name) ≡ Some bytes
