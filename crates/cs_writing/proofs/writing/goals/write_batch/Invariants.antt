use Rattle.std.proofs.Common.{◌≡◌, ◌+◌, take}
use Rattle.cs_io.specs.Lines.{IsWritten}
use Rattle.cs_writing.specs.Plan.Made.{entries_of, new_cases}
use Rattle.cs_writing.specs.Writing.Written.{AreCounted, made_lines_from}
use Rattle.cs_writing.proofs.writing.goals.write_batch.Given as goal

-- the first entries are written and counted
abbrev pub invariant-loop-made : goal.invariant-loop-made
invariant-loop-made g l = record {
  file : l.manifest.file ≡ l.fn.manifest.file;
  number : l.number ≡ l.fn.number + l.made-index;
  counted : AreCounted (entries_of (take l.made-index l.batch)) (new_cases (take l.made-index l.batch)) (made_lines_from l.fn.manifest.file (l.fn.number + 1) (take l.made-index l.batch))
      l.fn.manifest.counts l.manifest.counts;
  written : IsWritten g.S.Sink (made_lines_from l.fn.manifest.file (l.fn.number + 1) (take l.made-index l.batch)) l.fn.sink l.sink;
}
