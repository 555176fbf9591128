-- Negatives and their lines, counted.
use Rattle.std.proofs.Common.{◌≡◌, ℕ, ◌+◌, ◌-◌, ◌^◌, ◌≤◌, List, [], ◌++◌, length, length-append, min, sym, ap, ◌∙◌, arith}
use Rattle.cs_io.specs.Faults.{greatest, next_count}
use Rattle.cs_manifest.specs.Output.Putting.{shown}
use Rattle.cs_manifest.specs.declared.manifest.counts.Counts.{Counts}
use Rattle.cs_manifest.specs.Manifest.Counts.{with_lines}
use Rattle.cs_writing.specs.Writing.Mutants.{IsCounted}

pub counted_none : (c : Counts) → IsCounted 0 [] c c
counted_none c =
    let negatives : c.negatives ≡ c.negatives + 0 = omega arith in
    let bytes : c.bytes ≡ c.bytes + 0 = omega arith in
    record { same = ap (λ (n : ℕ). record c { negatives = n }) negatives; bytes = ap shown bytes }

-- counts that stand still at m
pub sums : (m a b c x y : ℕ) → min b m ≡ min (a + x) m → min c m ≡ min (b + y) m → min c m ≡ min (a + (x + y)) m
sums m a b c x y first second = omega (arith, first, second)

pub counted_then : (m n : ℕ) (first second : List ℕ) (a b c : Counts) → IsCounted m first a b → IsCounted n second b c → IsCounted (m + n) (first ++ second) a c
counted_then m n first second a b c ab bc =
    let negatives : a.negatives + m + n ≡ a.negatives + (m + n) = omega arith in
    record {
      same = bc.same ∙ ap (λ (x : Counts). record x { negatives = x.negatives + n; bytes = c.bytes }) ab.same
          ∙ ap (λ (k : ℕ). record a { negatives = k; bytes = c.bytes }) negatives;
      bytes = sums (2 ^ 128 - 1) a.bytes b.bytes c.bytes (length first) (length second) ab.bytes bc.bytes
          ∙ ap (λ (k : ℕ). shown (a.bytes + k)) (sym (length-append first second));
    }

twice : (m k : ℕ) → min (min k m) m ≡ min k m
twice m k = omega arith

-- so many negatives more, and lines
counted_lines : (c new : Counts) (negatives many : ℕ) (lines : List ℕ) → new ≡ with_lines (record c { negatives = negatives }) lines → negatives ≡ c.negatives + many → IsCounted many lines c new
counted_lines c new negatives many lines is more =
    let bytes : new.bytes ≡ shown (c.bytes + length lines) = ap (λ (k : Counts). k.bytes) is in
    record {
      same = is ∙ ap (λ (n : ℕ). record c { negatives = n; bytes = shown (c.bytes + length lines) }) more
          ∙ ap (λ (b : ℕ). record c { negatives = c.negatives + many; bytes = b }) (sym bytes);
      bytes = ap shown bytes ∙ twice (2 ^ 128 - 1) (c.bytes + length lines);
    }

-- a negative more, where the count doesn't stand still
pub counted_negative : (c new : Counts) (lines : List ℕ) → c.negatives + 1 ≤ greatest → new ≡ with_lines (record c { negatives = next_count c.negatives }) lines → IsCounted 1 lines c new
counted_negative c new lines few is = counted_lines c new (next_count c.negatives) 1 lines is (omega (arith, few))

-- a base more
pub counted_base : (c new : Counts) (lines : List ℕ) → new ≡ with_lines c lines → IsCounted 0 lines c new
counted_base c new lines is = counted_lines c new c.negatives 0 lines is (omega arith)
