-- Patterns as lists of steps, in the order of their texts.
use Rattle.std.specs.Prelude.{ℕ, ◌+◌, Bool, true, false, ◌||◌, List, [], ◌∷◌, ◌++◌}
use Rattle.cs_pattern_parts.specs.Tree.Pattern.{Regex, Empty, Class, Join, Either, Many, Parts, Nothing, Then}
use Rattle.cs_scanner.specs.declared.automaton.op.Op.{Op}
use Rattle.cs_scanner.specs.declared.automaton.op.Op.TheVariants as ops
use Rattle.cs_scanner.specs.Automaton.Meaning.{re}
use Rattle.cs_scanner.specs.Automaton.Places.{letters}

-- the steps of a pattern whose classes are numbered from there on
abbrev mutual
  pub flat : ℕ → Regex → List Op
  flat from Empty = []
  flat from (Class set) = ops.Place from ∷ []
  flat from (Join parts) = flat_join from parts
  flat from (Either parts) = ops.Open ∷ flat_either from parts
  flat from (Many part) = ops.Loop ∷ (flat from part ++ ops.Again ∷ [])

  pub flat_join : ℕ → Parts → List Op
  flat_join from Nothing = []
  flat_join from (Then r rs) = flat from r ++ flat_join (from + letters (re r)) rs

  pub flat_either : ℕ → Parts → List Op
  flat_either from Nothing = ops.Close ∷ []
  flat_either from (Then r rs) = flat from r ++ ops.Or ∷ flat_either (from + letters (re r)) rs

-- some step begins a many
abbrev pub is_loop : Op → Bool
is_loop (ops.Place n) = false
is_loop ops.Open = false
is_loop ops.Or = false
is_loop ops.Close = false
is_loop ops.Loop = true
is_loop ops.Again = false

abbrev pub has_loop : List Op → Bool
has_loop [] = false
has_loop (op ∷ ops) = is_loop op || has_loop ops
