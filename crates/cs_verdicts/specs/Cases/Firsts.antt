-- Goals as the keys of a table.
use Rattle.std.specs.Prelude.{◌≡◌, ℕ, ◌<◌, ◌⊎◌, List, All, map}
use Rattle.cs_grammar.specs.declared.symbol.Mark.{Mark}
use Rattle.cs_grammar.specs.declared.symbol.Mark.TheVariants as mark
use Rattle.cs_goals.specs.declared.goal.Goal.{Goal}
use Rattle.cs_goals.specs.declared.goal.Goal.TheVariants as goal
use Rattle.cs_verdicts.specs.declared.cases.firsts.Key.{Key}
use Rattle.cs_verdicts.specs.declared.cases.firsts.Key.TheVariants.{Rule, Context, Pair}
use Rattle.cs_verdicts.specs.declared.cases.firsts.MarkKey.{MarkKey}
use Rattle.cs_verdicts.specs.declared.cases.firsts.MarkKey.TheVariants.{Begin, Token, End}
use Rattle.cs_verdicts.specs.Cases.KeyHash.{hash_number}
use Rattle.cs_verdicts.specs.Cases.Table.{AreRuled, HasNumber}

abbrev pub mark_key : Mark → MarkKey
mark_key mark.Begin = Begin
mark_key (mark.Token t) = Token t
mark_key mark.End = End

abbrev pub key_of : Goal → Key
key_of (goal.Rule r) = Rule r
key_of (goal.Context p i q) = Context p i q
key_of (goal.Pair a b) = Pair (mark_key a) (mark_key b)

-- what a key stands for
abbrev pub mark_of : MarkKey → Mark
mark_of Begin = mark.Begin
mark_of (Token t) = mark.Token t
mark_of End = mark.End

abbrev pub goal_of : Key → Goal
goal_of (Rule r) = goal.Rule r
goal_of (Context p i q) = goal.Context p i q
goal_of (Pair a b) = goal.Pair (mark_of a) (mark_of b)

-- the goals of a table, with their numbers
abbrev pub first_in : Key × ℕ → Goal × ℕ
first_in entry = (goal_of entry.0, entry.1)

abbrev pub firsts_in : List (Key × ℕ) → List (Goal × ℕ)
firsts_in entries = map first_in entries

-- the parts of a goal have 16 bits
abbrev pub IsSmallMark : MarkKey → Type 0
IsSmallMark Begin = Unit {0}
IsSmallMark (Token t) = t < 65536
IsSmallMark End = Unit {0}

abbrev pub IsSmall : Key → Type 0
IsSmall (Rule r) = r < 65536
IsSmall (Context p i q) = (p < 65536) × (i < 65536) × (q < 65536)
IsSmall (Pair a b) = IsSmallMark a × IsSmallMark b

-- the slot has the number of a goal that is known
pub record IsRecent (firsts : List (Goal × ℕ)) (slot : ℕ) : Type 0 where
  pub key : Key
  pub small : IsSmall key
  pub number : hash_number key ≡ slot
  pub known : HasNumber firsts (goal_of key)

-- and so each slot that isn't 0
abbrev pub IsSlot : List (Goal × ℕ) → ℕ → Type 0
IsSlot firsts slot = (slot ≡ 0) ⊎ IsRecent firsts slot

-- a table of goals, with its slots
pub record AreFirsts (firsts : List (Goal × ℕ)) (slots : List ℕ) : Type 0 where
  pub ruled : AreRuled firsts
  pub known : All (IsSlot firsts) slots
