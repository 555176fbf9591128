-- What a sink has taken.
use Rattle.std.specs.Prelude.{◌≡◌, ℕ, List, Option, None, Some, length, take}
use Rattle.std.specs.Io.KnownBytes.{append_known}

-- where it is told, what was taken grew by the first `count` bytes of a text
abbrev pub GrewByFirst : Option (List ℕ) → Option (List ℕ) → List ℕ → ℕ → Type 0
GrewByFirst old new text count = new ≡ append_known old (take count text)

-- what was taken grew by the first bytes of a text: none, some or all of them
pub record GrewByPrefix (old new : Option (List ℕ)) (text : List ℕ) : Type 0 where
  pub count : ℕ
  pub grew : GrewByFirst old new text count

-- how many bytes are known to have been taken: none where they aren't told
abbrev pub known_length : Option (List ℕ) → ℕ
known_length None = 0
known_length (Some bytes) = length bytes
