-- What the laws of least texts say.
use Rattle.std.specs.Prelude.{ℕ, List}
use Rattle.cs_pattern_parts.specs.Items.StandsFor.{AreBytes}
use Rattle.cs_pattern_parts.specs.Tree.Pattern.{Regex}
use Rattle.cs_grammar.specs.Laws.{AtMostOne}
use Rattle.cs_lexical.specs.Winning.{IsLeastBoth, IsLeastWin, Overlap, Wins}

-- where some text is P, that none is Least cannot be
abbrev pub HasOneWhere : (List ℕ → Type 0) → (List ℕ → Type 0) → Type 0
HasOneWhere P Least = (x : List ℕ) → AreBytes x → P x → ((text : List ℕ) → Least text → ⊥) → ⊥

-- a rule wins at most one least text, and one where it wins some text
pub record HasLeastWin (patterns : List Regex) (rule : ℕ) : Type 0 where
  pub one : AtMostOne (IsLeastWin patterns rule)
  pub some : HasOneWhere (Wins patterns rule) (IsLeastWin patterns rule)

-- two rules overlap in at most one least text, and in one where they overlap in some text
pub record HasLeastBoth (patterns : List Regex) (rule other : ℕ) : Type 0 where
  pub one : AtMostOne (IsLeastBoth patterns rule other)
  pub some : HasOneWhere (Overlap patterns rule other) (IsLeastBoth patterns rule other)
