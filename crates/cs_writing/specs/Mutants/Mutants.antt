-- What is made of a negative of a base, and what its writing does.
use Rattle.std.specs.Prelude.{◌≡◌, ℕ, List, MatchResult, Option, Result, Some, None}
use Rattle.cs_io.specs.Faults.{next_count}
use Rattle.cs_io.specs.declared.sink.Sink as Sink
use Rattle.cs_io.specs.declared.sink.SinkError.{SinkError}
use Rattle.cs_io.specs.Lines.{Writes}
use Rattle.cs_manifest.specs.Manifest.Counts.{with_lines}
use Rattle.cs_manifest.specs.Manifest.ByWork.{texts_of}
use Rattle.cs_manifest.specs.Manifest.Manifest.{IsNegativeOf, NegativeEntry, negative_entry_lines}
use Rattle.cs_manifest.specs.Writer.Progress.{Progress}
use Rattle.cs_mutate.specs.declared.negative.Negative.{Negative}
use Rattle.cs_texts.specs.declared.rendering.render_work.RenderWork.{RenderWork}
use Rattle.cs_writing.specs.Mutants.Makers.{Making}

-- what makes a base's negatives, and the one that is made, if one is
pub record Mutant : Type 0 where
  pub making : Making
  pub negative : Option Negative

-- none is made
abbrev pub starts : Making → Mutant
starts making = record { making = making; negative = None }

-- what the manifest is to say of this negative of a base: the negative, and what comes of the rendering of its edited list
abbrev pub IsOfNegative : RenderWork → List ℕ → Negative → NegativeEntry → Type 0
IsOfNegative work base negative entry = IsNegativeOf (Some (texts_of work)) (Some work.lexemes.now) base negative entry

-- the lines of a negative with this number
abbrev pub made_lines : Making → ℕ → NegativeEntry → List ℕ
made_lines making number told = negative_entry_lines making.tools.file making.number making.base number told

-- behind the lines of one more negative
abbrev pub behind_negative : Progress → List ℕ → Progress
behind_negative progress lines = record progress { counts = with_lines (record progress.counts { negatives = next_count progress.counts.negatives }) lines }

-- What the writing of a negative with this number did to a manifest and a sink.
module _ {S : Type 0} (g : Sink.Ghosts S) where
  -- the sink took its lines, and it counts; or a prefix of them, and the manifest is as before
  pub record WritesNegative (making : Making) (negative : Negative) (number : ℕ) (old : Progress) (before : S) (new : Progress) (after : S) (result : Result Unit SinkError) : Type 0 where
    pub told : NegativeEntry
    pub of : IsOfNegative making.tools.work making.base negative told
    pub lines : Writes g result (made_lines making number told) before after
    pub counts : MatchResult result (λ _. new ≡ behind_negative old (made_lines making number told)) (λ _. new ≡ old)

  -- the one that is made was written
  abbrev pub WritesMade : Mutant → ℕ → Progress → S → Progress → S → Result Unit SinkError → Type 0
  WritesMade mutant number old before new after result =
      (negative : Negative) → mutant.negative ≡ Some negative → WritesNegative mutant.making negative number old before new after result
