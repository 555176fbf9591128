-- The depth and the leaves of what operations make, each at most the greatest number of 32 bits.
use Rattle.std.specs.Prelude.{ℕ, ◌+◌, ◌-◌, ◌*◌, max, List, [], ◌∷◌, ◌++◌, length, sum_by, slice_index_or}
use Rattle.cs_pattern_parts.specs.declared.items.item.Repetition.{Repetition}
use Rattle.cs_pattern_parts.specs.declared.items.item.Repetition.TheVariants.{Optional, Exactly, AtLeast, Between}
use Rattle.cs_pattern.specs.declared.operations.measure.Measure.{Measure}
use Rattle.cs_pattern.specs.declared.operations.operations.Op as code
use Rattle.cs_pattern.specs.Operations.Evaluation.{Algebra, below, last, step}
use Rattle.cs_pattern.specs.Operations.Operations.{op_of}
use Rattle.cs_pattern.specs.Operations.Depth.{in_32_bits, measure, leaf}

-- the leaves of what a repetition makes of a pattern with so many
abbrev pub repeated_leaves : ℕ → Repetition → ℕ
repeated_leaves n Optional = n + 1
repeated_leaves n (Exactly times) = n * times
repeated_leaves n (AtLeast times) = n * (times + 1)
repeated_leaves n (Between least most) = n * least + (n + 1) * (most - least)

abbrev pub repeated : Measure → Repetition → Measure
repeated m r = measure (m.depth + 1) (repeated_leaves m.leaves r)

abbrev pub greatest_depth : List Measure → ℕ
greatest_depth [] = 0
greatest_depth (m ∷ ms) = max m.depth (greatest_depth ms)

abbrev pub together : List Measure → Measure
together ms = record { depth = greatest_depth ms; leaves = in_32_bits (sum_by (λ m. m.leaves) ms) }

-- where definitions have the known measures
abbrev pub measures : List Measure → Algebra Measure
measures known = record {
  nothing = leaf;
  class = λ set. leaf;
  quoted = λ bytes. measure 0 (max (length bytes) 1);
  substitute = λ index. slice_index_or known index leaf;
  repeat = λ r m. repeated m r;
  group = λ m. measure (m.depth + 1) m.leaves;
  join = together;
  either = together;
}

-- a stack, with the measure of so many last parts in their place
abbrev pub joined : ℕ → List Measure → List Measure
joined count stack = below (measures []) count stack ++ together (last (measures []) count stack) ∷ []

abbrev pub next_stack : List Measure → List Measure → code.Op → List Measure
next_stack known stack op = step (measures known) stack (op_of op)
