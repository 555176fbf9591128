-- The counts of a manifest.
use Rattle.std.specs.Prelude.{ℕ, ◌+◌, List, length, Bool, if◌then◌else◌, true, false, None, option_map}
use Rattle.cs_io.specs.Faults.{next_count}
use Rattle.cs_verdicts.specs.declared.positive.verdict.Verdict.{Verdict}
use Rattle.cs_manifest.specs.Output.Putting.{shown}
use Rattle.cs_manifest.specs.declared.manifest.counts.Counts.{Counts}
use Rattle.cs_manifest.specs.declared.manifest.verdict.SharedVerdict.{SharedVerdict}
use Rattle.cs_manifest.specs.declared.manifest.verdict.SharedVerdict.TheVariants.{Feasible, Infeasible, Large}
use Rattle.cs_manifest.specs.Manifest.Lines.{end_words, is_feasible, is_infeasible, is_large}

-- no entries, and so many bytes; in the first format, which has no cases
abbrev pub first_counts : ℕ → Counts
first_counts bytes = record { goals = 0; feasible = 0; infeasible = 0; large = 0; negatives = 0; cases = None; bytes = bytes }

-- behind the head of the first format
abbrev pub counts_of_head : List ℕ → Counts
counts_of_head head = first_counts (shown (length head))

-- one more where that is so
abbrev pub next_if : Bool → ℕ → ℕ
next_if so count = if so then next_count count else count

-- the end line of these counts
abbrev pub end_of : Counts → List ℕ
end_of counts = end_words counts.goals counts.feasible counts.infeasible counts.large counts.negatives counts.cases

-- with the bytes of more lines
abbrev pub with_lines : Counts → List ℕ → Counts
with_lines counts lines = record counts { bytes = shown (counts.bytes + length lines) }

-- with one more goal that is one of these three, its lines not yet
abbrev pub with_goal : Counts → Bool → Bool → Bool → Counts
with_goal counts feasible infeasible large = record counts {
  goals = next_count counts.goals;
  feasible = next_if feasible counts.feasible;
  infeasible = next_if infeasible counts.infeasible;
  large = next_if large counts.large;
}

-- with one more goal of this verdict
abbrev pub with_verdict : Counts → Verdict → Counts
with_verdict counts verdict = with_goal counts (is_feasible verdict) (is_infeasible verdict) (is_large verdict)

abbrev pub with_shared_verdict : Counts → SharedVerdict → Counts
with_shared_verdict counts (Feasible size named) = with_goal counts true false false
with_shared_verdict counts Infeasible = with_goal counts false true false
with_shared_verdict counts Large = with_goal counts false false true

-- with one more case, where there are some
abbrev pub with_case : Counts → Counts
with_case counts = record counts { cases = option_map next_count counts.cases }

-- behind the end
abbrev pub behind_end : Counts → Counts
behind_end counts = with_lines counts (end_of counts)
