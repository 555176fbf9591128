-- The patterns that operations build.
use Rattle.std.specs.Prelude.{◌≡◌, ℕ, ◌≤◌, List, ◌++◌, []}
use Rattle.cs_pattern_parts.specs.declared.tree.pattern.Pattern.{Pattern}
use Rattle.cs_pattern.specs.declared.operations.operations.Op as code
use Rattle.cs_pattern.specs.Operations.Evaluation.{Algebra, Keeps, below, last, step}
use Rattle.cs_pattern.specs.Operations.Operations.{Op, op_of}
use Rattle.cs_pattern.specs.Operations.Trees.{known_at}
use Rattle.cs_pattern_parts.specs.Tree.Pattern.{alone_or}
use Rattle.cs_pattern_parts.specs.Tree.Pattern.{Regex, Empty, Class, Join, Either, parts_of, nesting, regex, regexes}
use Rattle.cs_pattern_parts.specs.Tree.Repeated as repeats

-- where definitions have the known patterns
abbrev pub patterns : (ℕ → Regex) → Algebra Regex
patterns known = record {
  nothing = Empty;
  class = Class;
  quoted = repeats.quoted;
  substitute = known;
  repeat = λ r p. repeats.repeated p r;
  group = λ p. p;
  join = λ ps. alone_or Join (parts_of ps);
  either = λ ps. alone_or Either (parts_of ps);
}

-- where they don't matter
abbrev pub no_patterns : Algebra Regex
no_patterns = patterns (λ index. Empty)

abbrev pub last_of : ℕ → List Pattern → List Regex
last_of count stack = last no_patterns count (regexes stack)

abbrev pub below_last : ℕ → List Pattern → List Regex
below_last count stack = below no_patterns count (regexes stack)

abbrev pub with_optionals : List Pattern → ℕ → Pattern → List Regex
with_optionals parts times inner = regexes parts ++ repeats.optionals times (regex inner)

-- at most 1,000 joins, eithers and manies stand around any part
abbrev pub IsShallow : Regex → Type 0
IsShallow r = nesting r ≤ 1000

abbrev pub next_stack : List (ℕ × Pattern) → List Pattern → code.Op → List Regex
next_stack known stack op = step (patterns (known_at known)) (regexes stack) (op_of op)

-- the second stack is the first after the operation
abbrev pub IsNextStack : List (ℕ × Pattern) → code.Op → List Pattern → List Pattern → Type 0
IsNextStack known op old new = regexes new ≡ next_stack known old op

-- on the way to the pattern of the operations no pattern is deeper than that
abbrev pub StayShallow : List (ℕ × Pattern) → List Op → Type 0
StayShallow known ops = Keeps (patterns (known_at known)) IsShallow [] ops
