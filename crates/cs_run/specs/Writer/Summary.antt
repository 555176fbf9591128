-- The summary that `gen` writes.
use Rattle.std.specs.Prelude.{◌≡◌, ◌<◌, ◌^◌, ◌++◌, ℕ, List, String, length, string_bytes}
use Rattle.std.specs.declared.alloc.Global.{Global}
use Rattle.cs_run.specs.Ending.Summary.{Lengths, summary_line, summary_options}
use Rattle.cs_gen.specs.declared.files.Generated.{Generated}
use Rattle.cs_run.specs.declared.input.judging.Pair.{Pair}
use Rattle.cs_manifest.specs.declared.manifest.counts.Counts.{Counts}
use Rattle.cs_manifest.specs.Output.Words.{numbered_word}
use Rattle.cs_run.specs.Writer.Suite.{IsSuite, IsSuiteBy}
use Rattle.cs_scanner.specs.Scan.Scan.{Scanning}
use Rattle.cs_yacc.specs.Reading.File.{File}

-- the pair has a manifest by the options of summaries
abbrev pub HasSuite : Pair → Type 0
HasSuite pair = (text : List ℕ) × IsSuite pair summary_options text

-- so has a yacc file, and what its texts are scanned by
abbrev pub HasSuiteBy : File → Scanning → Type 0
HasSuiteBy file s = (text : List ℕ) × IsSuiteBy file s summary_options text

-- the lengths of two files
abbrev pub lengths : Generated → Lengths
lengths files = record { yacc = length files.yacc.items; lex = length files.lex.items }

-- the text is the line of the number, of its two files, and of the counts of their manifest
abbrev pub IsLineOf : ℕ → Generated → Counts → List ℕ → Type 0
IsLineOf seed files counts text = text ≡ summary_line seed (lengths files) counts

-- a number stands more behind its word
abbrev pub HasNumberMore : List ℕ → ℕ → String Global → String Global → Type 0
HasNumberMore word number old new = string_bytes new ≡ string_bytes old ++ numbered_word word number

-- each count of entries is a u64
pub record AreShort (counts : Counts) : Type 0 where
  pub goals : counts.goals < 2 ^ 64
  pub feasible : counts.feasible < 2 ^ 64
  pub infeasible : counts.infeasible < 2 ^ 64
  pub large : counts.large < 2 ^ 64
  pub negatives : counts.negatives < 2 ^ 64
