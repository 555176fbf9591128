use Rattle.std.proofs.Common.{ℕ, ◌≡◌, ◌+◌, ◌-◌, take, min}
use Rattle.std.specs.Prelude.{slice_index_or}
use Rattle.std.specs.List.{sum_by}
use Rattle.cs_lines.specs.Lines.Numbers.{greatest}
use Rattle.cs_check.proofs.checking.sizes.size_of.Given as goal

abbrev pub invariant-loop-token : goal.invariant-loop-token
invariant-loop-token l =
    l.size ≡ min (l.nodes + sum_by (λ (t : ℕ). slice_index_or l.numbers (t - 1) 1) (take l.token-index l.tokens)) greatest
