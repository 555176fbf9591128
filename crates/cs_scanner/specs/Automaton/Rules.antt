-- Which rule matches a text.
use Rattle.std.specs.Prelude.{◌≡◌, ℕ, suc, List, ◌++◌, Some, slice_get}
use Rattle.cs_scanner.specs.Automaton.Listed.{ListsAll}
use Rattle.cs_scanner.specs.Automaton.Re.{Re, Spells}
use Rattle.cs_scanner.specs.Automaton.Meaning.{Has}

-- the rule with this number, from 1, matches the text
pub record SpellsRule (rs : List (Re (List ℕ))) (rule : ℕ) (x : List ℕ) : Type 0 where
  pub index : ℕ
  pub pattern : Re (List ℕ)
  pub number : rule ≡ suc index
  pub at : slice_get rs index ≡ Some pattern
  pub spelled : Spells Has pattern x

-- all rules that match the text, ascending
abbrev pub AreSpelled : List (Re (List ℕ)) → List ℕ → List ℕ → Type 0
AreSpelled rs x rules = ListsAll (λ rule. SpellsRule rs rule x) rules

-- some rule matches a text that begins with x
abbrev pub IsBegunSpelled : List (Re (List ℕ)) → List ℕ → Type 0
IsBegunSpelled rs x = (rule : ℕ) × (y : List ℕ) × SpellsRule rs rule (x ++ y)
