-- The entries of a batch, counted one after another.
use Rattle.std.proofs.Common.{◌≡◌, ℕ, ◌+◌, ◌-◌, ◌^◌, ◌<◌, ◌≤◌, Bool, true, false, List, [], ◌∷◌, ◌++◌, length, length-append, get_or, min, take, refl, sym, ap, ◌∙◌, Option, arith}
use Rattle.std.specs.Prelude.{if◌then◌else◌, IfSome, None, Some, option_map}
use Rattle.std.proofs.lemmas.List.Sums.{count_by-le-length, sum_by-append, sum_by-cons}
use Rattle.std.proofs.lemmas.List.{length-map}
use Rattle.cs_io.specs.Faults.{greatest, next_count}
use Rattle.cs_manifest.specs.Output.Putting.{shown}
use Rattle.cs_manifest.specs.declared.manifest.counts.Counts.{Counts}
use Rattle.cs_manifest.specs.Manifest.Counts.{with_case, with_lines, with_verdict}
use Rattle.cs_writing.specs.Plan.Made.{MadeEntry, case_lines_in, entries_of, entry_of, goal_lines_in, has_new_case, made_lines, new_cases}
use Rattle.cs_yacc.specs.Reading.File.{File}
use Rattle.cs_writing.specs.Writing.Written.{AreCounted, AreWithin, behind_case, behind_made, made_lines_from}
use Rattle.cs_writing.proofs.OnWriting.Batch.{before, lines_more, one_made_more, one_more}
use Rattle.cs_writing.proofs.OnWriting.Counted.{goal_counted, goals_step, same_cases, within_more}

-- a length that stands still at m
twice : (m k : ℕ) → min (min k m) m ≡ min k m
twice m k = omega arith

both : (m a b c : ℕ) → min (min (min (a + b) m + c) m) m ≡ min (a + (b + c)) m
both m a b c = omega arith

-- one more where a case is new
abbrev one_if : Bool → ℕ
one_if b = if b then 1 else 0

next_cases : (number : ℕ) (cases : Option ℕ) → number + 1 ≤ greatest → IfSome cases (λ n. n ≤ number) → option_map next_count cases ≡ option_map (λ n. n + 1) cases
next_cases number None room few = refl
next_cases number (Some n) room few = let e : next_count n ≡ n + 1 = omega (arith, room, few) in ap (λ (k : ℕ). Some k) e

-- the case alone
case_counted : (b : Bool) (number : ℕ) (lines : List ℕ) (c mid : Counts) → number + 1 ≤ greatest → AreWithin number c → mid ≡ (if b then with_lines (with_case c) lines else c)
    → mid ≡ record c { cases = option_map (λ n. n + one_if b) c.cases; bytes = mid.bytes }
case_counted true number lines c mid room few is =
    is ∙ ap (λ (o : Option ℕ). record c { cases = o; bytes = shown (c.bytes + length lines) }) (next_cases number c.cases room few.cases)
    ∙ ap (λ (b : ℕ). record c { cases = option_map (λ n. n + 1) c.cases; bytes = b }) (sym (ap (λ (x : Counts). x.bytes) is))
case_counted false number lines c mid room few is =
    is ∙ ap (λ (o : Option ℕ). record c { cases = o }) (same_cases c.cases)
    ∙ ap (λ (b : ℕ). record c { cases = option_map (λ n. n + 0) c.cases; bytes = b }) (sym (ap (λ (x : Counts). x.bytes) is))

-- and its bytes with those of the goal
both_counted : (b : Bool) (case goal : List ℕ) (c mid : Counts) → (b ≡ false → case ≡ []) → mid ≡ (if b then with_lines (with_case c) case else c)
    → shown (shown (mid.bytes + length goal)) ≡ shown (c.bytes + length (case ++ goal))
both_counted true case goal c mid no_case is =
    ap (λ (x : Counts). shown (shown (x.bytes + length goal))) is ∙ both (2 ^ 128 - 1) c.bytes (length case) (length goal)
    ∙ ap (λ (n : ℕ). shown (c.bytes + n)) (sym (length-append case goal))
both_counted false case goal c mid no_case is =
    ap (λ (x : Counts). shown (shown (x.bytes + length goal))) is ∙ twice (2 ^ 128 - 1) (c.bytes + length goal)
    ∙ ap (λ (l : List ℕ). shown (c.bytes + length (l ++ goal))) (sym (no_case refl))

-- an entry more of a batch
module _ (file : File) (first : ℕ) (batch : List MadeEntry) (i : ℕ) (made : MadeEntry) (within : i < length batch) (is : made ≡ get_or batch i made) (number : ℕ) (old counts after : Counts)
    (few : AreWithin number old) (no_case : has_new_case made.shared ≡ false → case_lines_in file made made.shared ≡ []) where
  abbrev front : List MadeEntry
  front = take i batch

  pub entry_counted : number + i + 1 ≤ greatest → AreCounted (entries_of front) (new_cases front) (made_lines_from file first front) old counts
      → after ≡ behind_made file (first + i) counts made
      → AreCounted (entries_of (take (i + 1) batch)) (new_cases (take (i + 1) batch)) (made_lines_from file first (take (i + 1) batch)) old after
  entry_counted room so_far one =
      let so = has_new_case made.shared in
      let lines = made_lines file (first + i) made in
      let case = case_lines_in file made made.shared in
      let goal = goal_lines_in file (first + i) made made.shared in
      let mid = behind_case file counts made in
      let many : length (entries_of front) ≡ i = length-map front entry_of ∙ before batch i made within is in
      let fewer : new_cases front ≤ length (entries_of front) = omega (arith, many, before batch i made within is, count_by-le-length (λ (m : MadeEntry). has_new_case m.shared) front) in
      let now = within_more number (number + i) (new_cases front) (entries_of front) (made_lines_from file first front) old counts (omega (arith, many)) fewer few so_far in
      let bytes : after.bytes ≡ shown (mid.bytes + length goal) = ap (λ (c : Counts). c.bytes) one in
      let behind : after ≡ record (with_verdict mid made.verdict) { bytes = after.bytes } =
      one ∙ ap (λ (b : ℕ). record (with_verdict mid made.verdict) { bytes = b }) (sym bytes) in
      let more = goal_counted (entry_of made) (number + i) (one_if so) lines counts mid after now room (case_counted so (number + i) case counts mid room now refl) behind
      (ap shown bytes ∙ both_counted so case goal counts mid no_case refl) in
      let new_more : new_cases (take (i + 1) batch) ≡ new_cases front + one_if so =
      ap new_cases (one_more batch i made within is) ∙ sum_by-append (λ (m : MadeEntry). one_if (has_new_case m.shared)) front (made ∷ [])
      ∙ omega (arith, sum_by-cons (λ (m : MadeEntry). one_if (has_new_case m.shared)) made []) in
      goals_step (entries_of front) (entry_of made ∷ []) (entries_of (take (i + 1) batch)) (new_cases (take (i + 1) batch)) (new_cases front) (one_if so)
      (made_lines_from file first front) lines (made_lines_from file first (take (i + 1) batch)) old counts after
      (one_made_more entry_of batch i made within is) (lines_more (made_lines file) first batch i made within is) new_more so_far more
