-- What the laws of lexemes say.
use Rattle.std.specs.Prelude.{◌≡◌, ◌⊎◌, ℕ, List, Option}
use Rattle.cs_pattern_parts.specs.Items.StandsFor.{AreBytes}
use Rattle.cs_scanner.specs.Scan.Scan.{Scanning}
use Rattle.cs_scanner.specs.Lexeme.Order.{IsAtMost, IsBefore}
use Rattle.cs_scanner.specs.Lexeme.Lexeme.{AreLexemes, IsLexeme, IsOneMatch}

-- one of two texts of bytes is at most the other or comes behind it, and not both
abbrev pub IsOrdered : List ℕ → List ℕ → Type 0
IsOrdered x y = AreBytes x → AreBytes y → (IsAtMost x y ⊎ IsBefore y x) × (IsAtMost x y → IsBefore y x → ⊥)

-- any two lexemes of a token are one
abbrev pub AreOneLexeme : Scanning → ℕ → List ℕ → List ℕ → Type 0
AreOneLexeme s token x y = IsLexeme s token x → IsLexeme s token y → x ≡ y

-- where some text gives the token in one match, that no text is its lexeme cannot be
abbrev pub HasLexemeIfAny : Scanning → ℕ → List ℕ → Type 0
HasLexemeIfAny s token x = AreBytes x → IsOneMatch s token x → ((lexeme : List ℕ) → IsLexeme s token lexeme → ⊥) → ⊥

-- any two lists of the tokens' lexemes are one
abbrev pub AreOneList : Scanning → ℕ → List (Option (List ℕ)) → List (Option (List ℕ)) → Type 0
AreOneList s tokens x y = AreLexemes s tokens x → AreLexemes s tokens y → x ≡ y

-- that no list has the tokens' lexemes cannot be
abbrev pub HaveSomeList : Scanning → ℕ → Type 0
HaveSomeList s tokens = ((lexemes : List (Option (List ℕ))) → AreLexemes s tokens lexemes → ⊥) → ⊥
