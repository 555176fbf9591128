-- How a pattern's value is written as lists of numbers, by which two are told apart: working words, which say nothing of what a
-- pattern means.
use Rattle.std.specs.Prelude.{◌≡◌, ℕ, ◌==◌, if◌then◌else◌, List, [], ◌∷◌, ◌++◌, refl}
use Rattle.std.specs.Coded.{Coded, code_by, coded_list, coded_ℕ}
use Rattle.std.proofs.Common.{◌∙◌, ap}
use Rattle.cs_pattern_parts.specs.Tree.Pattern.{Regex, Empty, Class, Join, Either, Many, Parts, Nothing, Then}

-- what was read so far: patterns and lists of parts, the last ones first
pub record Stacks : Type 0 where
  pub patterns : List Regex
  pub parts : List Parts

abbrev pub first_pattern : List Regex → Regex
first_pattern [] = Empty
first_pattern (r ∷ rs) = r

abbrev pub other_patterns : List Regex → List Regex
other_patterns [] = []
other_patterns (r ∷ rs) = rs

abbrev pub first_parts : List Parts → Parts
first_parts [] = Nothing
first_parts (p ∷ ps) = p

abbrev pub other_parts : List Parts → List Parts
other_parts [] = []
other_parts (p ∷ ps) = ps

-- each pattern behind its parts, by a number; the bytes of a class stand behind its number
abbrev mutual
  pub written : Regex → List (List ℕ)
  written Empty = (0 ∷ []) ∷ []
  written (Class set) = (1 ∷ set) ∷ []
  written (Join parts) = written_parts parts ++ (2 ∷ []) ∷ []
  written (Either parts) = written_parts parts ++ (3 ∷ []) ∷ []
  written (Many part) = written part ++ (4 ∷ []) ∷ []

  pub written_parts : Parts → List (List ℕ)
  written_parts Nothing = (5 ∷ []) ∷ []
  written_parts (Then r rs) = written_parts rs ++ written r ++ (6 ∷ []) ∷ []

abbrev pub taken : Stacks → List ℕ → Stacks
taken s [] = s
taken s (n ∷ set) =
    if n == 0 then record { patterns = Empty ∷ s.patterns; parts = s.parts }
    else if n == 1 then record { patterns = Class set ∷ s.patterns; parts = s.parts }
    else if n == 2 then record { patterns = Join (first_parts s.parts) ∷ s.patterns; parts = other_parts s.parts }
    else if n == 3 then record { patterns = Either (first_parts s.parts) ∷ s.patterns; parts = other_parts s.parts }
    else if n == 4 then record { patterns = Many (first_pattern s.patterns) ∷ other_patterns s.patterns; parts = s.parts }
    else if n == 5 then record { patterns = s.patterns; parts = Nothing ∷ s.parts }
    else record { patterns = other_patterns s.patterns; parts = Then (first_pattern s.patterns) (first_parts s.parts) ∷ other_parts s.parts }

abbrev pub read_from : Stacks → List (List ℕ) → Stacks
read_from s [] = s
read_from s (x ∷ xs) = read_from (taken s x) xs

abbrev pub read_back : List (List ℕ) → Regex
read_back xs = first_pattern ((read_from (record { patterns = []; parts = [] }) xs).patterns)

pub read_append : (s : Stacks) (xs ys : List (List ℕ)) → read_from s (xs ++ ys) ≡ read_from (read_from s xs) ys
read_append s [] ys = refl
read_append s (x ∷ xs) ys = read_append (taken s x) xs ys

-- what is written of a pattern is read back as the pattern
mutual
  pub read_written : (r : Regex) (s : Stacks) → read_from s (written r) ≡ record { patterns = r ∷ s.patterns; parts = s.parts }
  read_written Empty s = refl
  read_written (Class set) s = refl
  read_written (Join parts) s = read_append s (written_parts parts) ((2 ∷ []) ∷ []) ∙ ap (λ (t : Stacks). taken t (2 ∷ [])) (read_parts parts s)
  read_written (Either parts) s = read_append s (written_parts parts) ((3 ∷ []) ∷ []) ∙ ap (λ (t : Stacks). taken t (3 ∷ [])) (read_parts parts s)
  read_written (Many part) s = read_append s (written part) ((4 ∷ []) ∷ []) ∙ ap (λ (t : Stacks). taken t (4 ∷ [])) (read_written part s)

  pub read_parts : (ps : Parts) (s : Stacks) → read_from s (written_parts ps) ≡ record { patterns = s.patterns; parts = ps ∷ s.parts }
  read_parts Nothing s = refl
  read_parts (Then r rs) s =
      let t : Stacks = record { patterns = s.patterns; parts = rs ∷ s.parts } in
      read_append s (written_parts rs ++ written r) ((6 ∷ []) ∷ [])
      ∙ ap (λ (u : Stacks). taken u (6 ∷ [])) (read_append s (written_parts rs) (written r) ∙ (ap (λ (u : Stacks). read_from u (written r)) (read_parts rs s) ∙ read_written r t))

pub read_back-written : (r : Regex) → read_back (written r) ≡ r
read_back-written r = ap (λ (s : Stacks). first_pattern s.patterns) (read_written r (record { patterns = []; parts = [] }))

abbrev pub regex_code : Coded Regex
regex_code = code_by (List (List ℕ)) (coded_list (coded_list coded_ℕ)) written read_back read_back-written
