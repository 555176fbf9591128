-- What contracts see of a desk in memory.
use Rattle.std.specs.Prelude.{ℕ, Bool, List, [], ◌∷◌, String, Vec, string_bytes, IsFalse, IsNone, IsSome}
use Rattle.std.specs.declared.alloc.Global.{Global}
use Rattle.cs_io.specs.Desk.{Files, file_named}
use Rattle.cs_io.specs.Failing.{fails_at}

pub record DeskState : Type 0 where
  pub files : Files
  -- the numbers, from 0, of the calls that fail
  pub failing : List ℕ
  -- how many calls were made
  pub calls : ℕ
  -- how many of them failed
  pub faults : ℕ

-- a desk of which no call was made yet
abbrev pub new_desk : Files → List ℕ → DeskState
new_desk files failing = record { files = files; failing = failing; calls = 0; faults = 0 }

-- whether the next call is one that fails
abbrev pub fails_next : DeskState → Bool
fails_next desk = fails_at desk.failing desk.calls

-- the next call doesn't fail, and the name is that of a file
abbrev pub Finds : DeskState → List ℕ → Type 0
Finds desk name = IsFalse (fails_next desk) × IsSome (file_named desk.files name)

-- the next call doesn't fail, and no file has that name
abbrev pub Lacks : DeskState → List ℕ → Type 0
Lacks desk name = IsFalse (fails_next desk) × IsNone (file_named desk.files name)

-- the files, their names and contents as bytes
abbrev pub stored : List (String Global × Vec ℕ Global) → Files
stored [] = []
stored (file ∷ files) = (string_bytes file.0, file.1.items) ∷ stored files
