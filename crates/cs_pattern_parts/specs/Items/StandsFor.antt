-- What an item stands for where its text is bytes.
use Rattle.std.specs.Prelude.{ℕ, ◌<◌, List, All, Contains}

-- numbers that are bytes
abbrev pub AreBytes : List ℕ → Type 0
AreBytes xs = All (λ b. b < 256) xs

-- some byte is in the set
abbrev pub HasSomeByte : List ℕ → Type 0
HasSomeByte set = (b : ℕ) × (b < 256) × Contains set b
