-- How many edits a list has.
use Rattle.std.proofs.Common.{◌≡◌, ℕ, ◌+◌, ◌-◌, ◌*◌, ◌≤◌, [], ◌++◌, List, length, length-append, map, refl, arith}
use Rattle.std.specs.Prelude.{if◌then◌else◌}
use Rattle.std.specs.List.{range_with_len}
use Rattle.std.proofs.lemmas.List.{length-map}
use Rattle.std.proofs.lemmas.List.FromFn.{length-map-range_with_len, length-range_with_len}
use Rattle.std.proofs.lemmas.List.Sums.{count_by-le-length, length-filter}
use Rattle.cs_mutate.specs.declared.edit.Edit.TheVariants.{Delete, Swap}
use Rattle.cs_choices.specs.declared.operators.Operators.{Operators}
use Rattle.cs_mutate.specs.Edits.{cell, cells, cells_at, edits, fitting_edits, insertion, is_listed, replacement}
use Rattle.cs_writing.proofs.OnWriting.Few.{few_chosen, short_513}

-- the edits of a list are few
few_cells : (places tokens : ℕ) → tokens ≤ 512 → length (cells places tokens) ≤ 513 * places
few_cells places tokens few =
    omega (
      arith,
      short_513 (cells_at tokens) (λ i. omega (arith, few, length-map-range_with_len (cell i) 1 tokens)) (range_with_len 0 places),
      length-range_with_len 0 places,
    )

pub few_edits : (tokens : ℕ) (w : List ℕ) (c : Operators) → tokens ≤ 512 → length w ≤ 1000000 → length (edits tokens w c) ≤ 1100000000
few_edits tokens w c few short =
    let n = length w in
    let deletions = map Delete (range_with_len 0 n) in
    let insertions = map insertion (cells (n + 1) tokens) in
    let replacements = map replacement (cells n tokens) in
    let swaps = map Swap (range_with_len 0 (n - 1)) in
    let first = if c.delete then deletions else [] in
    let second = if c.insert then insertions else [] in
    let third = if c.replace then replacements else [] in
    let fourth = if c.swap then swaps else [] in
    let whole : length (fitting_edits n tokens c) ≡ length (((first ++ second) ++ third) ++ fourth) = refl in
    omega (
      arith,
      few,
      short,
      whole,
      length-filter (is_listed w) (fitting_edits n tokens c),
      count_by-le-length (is_listed w) (fitting_edits n tokens c),
      length-append ((first ++ second) ++ third) fourth,
      length-append (first ++ second) third,
      length-append first second,
      few_chosen c.delete deletions,
      few_chosen c.insert insertions,
      few_chosen c.replace replacements,
      few_chosen c.swap swaps,
      length-map-range_with_len Delete 0 n,
      length-map (cells (n + 1) tokens) insertion,
      length-map (cells n tokens) replacement,
      length-map-range_with_len Swap 0 (n - 1),
      few_cells (n + 1) tokens few,
      few_cells n tokens few,
    )
