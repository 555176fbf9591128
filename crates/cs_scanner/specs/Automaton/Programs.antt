-- The steps that rules hold.
use Rattle.std.specs.Prelude.{◌≡◌, ℕ, ◌+◌, List, [], ◌∷◌, ◌++◌, map, length}
use Rattle.std.proofs.Common.{Bor, Vec, Global}
use Rattle.cs_pattern_parts.specs.declared.tree.pattern.Pattern.{Pattern}
use Rattle.cs_pattern_parts.specs.Tree.Pattern.{Regex, regex}
use Rattle.cs_scanner.specs.declared.automaton.op.Op.{Op}
use Rattle.cs_scanner.specs.declared.automaton.op.Op.TheVariants as ops
use Rattle.cs_scanner.specs.declared.automaton.program.Rule.{Rule}
use Rattle.cs_scanner.specs.declared.automaton.program.Program.{Program}
use Rattle.cs_scanner.specs.Automaton.Re.{Re}
use Rattle.cs_scanner.specs.Automaton.Meaning.{re, res, classes}
use Rattle.cs_scanner.specs.Automaton.Places.{letters}
use Rattle.cs_scanner.specs.Automaton.Flat.{flat, has_loop}

-- what references point to
abbrev pub values : List (Bor (List ℕ)) → List (List ℕ)
values = map (λ b. b.now)

-- the classes are put behind those that are there
abbrev pub AddsClasses : Vec (Bor (List ℕ)) Global → Vec (Bor (List ℕ)) Global → List (List ℕ) → Type 0
AddsClasses old new more = values new.items ≡ values old.items ++ more

-- there are so many more
abbrev pub GrowsBy : Vec (Bor (List ℕ)) Global → Vec (Bor (List ℕ)) Global → ℕ → Type 0
GrowsBy old new n = length new.items ≡ length old.items + n

-- the step of a class that comes behind these
abbrev pub place_behind : Vec (Bor (List ℕ)) Global → Op
place_behind before = ops.Place (length before.items)

-- ---- what a pattern's steps and classes are, where its classes come behind others

abbrev pub ops_of : Vec (Bor (List ℕ)) Global → Pattern → List Op
ops_of before pattern = flat (length before.items) (regex pattern)

abbrev pub classes_of : Pattern → List (List ℕ)
classes_of pattern = classes (re (regex pattern))

abbrev pub letters_of : Pattern → ℕ
letters_of pattern = letters (re (regex pattern))

-- ---- rules

-- the steps of the pattern, whose classes are numbered from there on
pub record IsRule (rule : Rule) (from : ℕ) (r : Regex) : Type 0 where
  pub steps : rule.ops.items ≡ flat from r
  pub low : rule.from ≡ from
  pub high : rule.to ≡ from + letters (re r)
  pub loops : rule.has_loop ≡ has_loop (flat from r)

abbrev pub AreRules : List Rule → ℕ → List Regex → Type 0
AreRules [] from [] = Unit {0}
AreRules [] from (r ∷ rs) = ⊥
AreRules (rule ∷ rules) from [] = ⊥
AreRules (rule ∷ rules) from (r ∷ rs) = IsRule rule from r × AreRules rules (from + letters (re r)) rs

-- the patterns of a program
abbrev pub rules_of : Program → List (Re (List ℕ))
rules_of p = res (map regex p.patterns.now)

abbrev pub IsProgram : Program → Type 0
IsProgram p = AreRules p.rules.items 0 (map regex p.patterns.now)
