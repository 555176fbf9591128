-- A measure tells which limit is passed.
use Rattle.std.proofs.Common.{◌≡◌, ℕ, ◌<◌, ◌≤◌, ◌^◌, true, false, refl, ap, ◌∙◌, arith, inl, inr}
use Rattle.std.specs.Prelude.{nat_lt, if◌then◌else◌, Some, None}
use Rattle.std.proofs.lemmas.Bool.{cases_lt, lt-ltb, le-ltb}
use Rattle.cs_pattern_parts.specs.Tree.Pattern.{leaves}
use Rattle.cs_pattern.specs.Operations.Depth.{depth, pattern_of, in_32_bits}
use Rattle.cs_pattern.specs.Operations.Grammar.{Tree}
use Rattle.cs_pattern.specs.declared.text.fault.PatternFault.TheVariants.{TooDeep, TooManyPositions}
use Rattle.cs_pattern.specs.Text.Answers.{limit_of}
use Rattle.cs_pattern.specs.Text.Limits.{passed_limit}

pub capped_limit : (depth leaves : ℕ) → depth < 2 ^ 32 → passed_limit (in_32_bits depth) (in_32_bits leaves) ≡ passed_limit depth leaves
capped_limit depth leaves lt =
    let e : in_32_bits depth ≡ depth = omega arith in
    elim (cases_lt 8192 leaves) [
      | inl more ↦
          let a : nat_lt 8192 (in_32_bits leaves) ≡ true = lt-ltb 8192 (in_32_bits leaves) (omega arith) in
          let b : nat_lt 8192 leaves ≡ true = lt-ltb 8192 leaves more in
          rw (e, a, b) refl
      | inr less ↦
          let a : nat_lt 8192 (in_32_bits leaves) ≡ false = le-ltb 8192 (in_32_bits leaves) (omega arith) in
          let b : nat_lt 8192 leaves ≡ false = le-ltb 8192 leaves less in
          rw (e, a, b) refl
    ]

-- a tree that passes no limit is not deep, and has few leaves
pub limit_depth : (tree : Tree) → limit_of tree ≡ None → depth tree ≤ 200
limit_depth tree e =
    elim (cases_lt 200 (depth tree)) [
      | inl above ↦
          let f : limit_of tree ≡ Some (TooDeep (depth tree) 200) = ap (λ b. if b then Some (TooDeep (depth tree) 200) else (if nat_lt 8192 (leaves (pattern_of tree)) then Some (TooManyPositions 8192) else None)) (lt-ltb 200 (depth tree) above) in
          absurd (cc (e, f))
      | inr within ↦ within
    ]

pub limit_leaves : (tree : Tree) → limit_of tree ≡ None → leaves (pattern_of tree) ≤ 8192
limit_leaves tree e =
    let shallow = limit_depth tree e in
    elim (cases_lt 8192 (leaves (pattern_of tree))) [
      | inl above ↦
          let f : limit_of tree ≡ (if nat_lt 8192 (leaves (pattern_of tree)) then Some (TooManyPositions 8192) else None) =
          ap (λ b. if b then Some (TooDeep (depth tree) 200) else (if nat_lt 8192 (leaves (pattern_of tree)) then Some (TooManyPositions 8192) else None)) (le-ltb 200 (depth tree) shallow) in
          let g = f ∙ ap (λ b. if b then Some (TooManyPositions 8192) else None) (lt-ltb 8192 (leaves (pattern_of tree)) above) in
          absurd (cc (e, g))
      | inr within ↦ within
    ]
