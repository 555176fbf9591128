-- What the laws of renderings say.
use Rattle.std.specs.Prelude.{◌≡◌, ℕ, List, Option}
use Rattle.cs_scanner.specs.Scan.Scan.{Scanning}
use Rattle.cs_texts.specs.Rendering.Rendering.{Rendering, IsRendered}

-- by any list of lexemes and any separator, two renderings of the tokens are one
abbrev pub HasOneRendering : Scanning → List ℕ → Type 0
HasOneRendering s tokens =
    (lexemes : List (Option (List ℕ))) (separator : List ℕ) (x y : Rendering) →
    IsRendered s lexemes separator tokens x → IsRendered s lexemes separator tokens y → x ≡ y

-- by any list of lexemes and any separator, that the tokens have no rendering cannot be
abbrev pub HasSomeRendering : Scanning → List ℕ → Type 0
HasSomeRendering s tokens =
    (lexemes : List (Option (List ℕ))) (separator : List ℕ) →
    ((x : Rendering) → IsRendered s lexemes separator tokens x → ⊥) → ⊥
