-- The text of the tokens in the midst of a list.
use Rattle.std.specs.Prelude.{ℕ, Bool, IsTrue, List, ◌++◌, Option, take, drop}
use Rattle.cs_texts.specs.Rendering.Rendering.{IsRuleText}

-- behind any rule's text of the tokens in front of the range, this makes that of those up to its end
abbrev pub IsPut : List (Option (List ℕ)) → List ℕ → List ℕ → ℕ → ℕ → List ℕ → Type 0
IsPut lexemes separator tokens from to put =
    (front : List ℕ) → IsRuleText lexemes separator (take from tokens) front → IsRuleText lexemes separator (take to tokens) (front ++ put)

-- between any rule's texts of the tokens in front of the range and of those behind it, this makes that of all
abbrev pub IsMiddle : List (Option (List ℕ)) → List ℕ → List ℕ → ℕ → ℕ → List ℕ → Type 0
IsMiddle lexemes separator tokens from to middle =
    (front back : List ℕ) → IsRuleText lexemes separator (take from tokens) front → IsRuleText lexemes separator (drop to tokens) back →
    IsRuleText lexemes separator tokens (front ++ middle ++ back)

-- what is said of an answer that no token was without a lexeme
abbrev pub IfMiddle : List (Option (List ℕ)) → List ℕ → List ℕ → ℕ → ℕ → List ℕ → Bool → Type 0
IfMiddle lexemes separator tokens from to middle all = IsTrue all → IsMiddle lexemes separator tokens from to middle
