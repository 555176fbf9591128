-- The summary of a number: one line that tells, in numbers, of the two files that stand for it and of their manifest.
use Rattle.std.specs.Prelude.{◌≡◌, ◌<◌, ◌^◌, ℕ, List, ◌++◌, None, codes, length}
use Rattle.cs_gen.specs.Texts.{lex_text, yacc_text}
use Rattle.cs_manifest.specs.Output.Putting.{shown}
use Rattle.cs_manifest.specs.Output.Words.{line, numbered_word}
use Rattle.cs_manifest.specs.declared.manifest.counts.Counts.{Counts}
use Rattle.cs_manifest.specs.Manifest.Counts.{end_of}
use Rattle.cs_choices.specs.declared.format.Format.TheVariants.{One}
use Rattle.cs_words.specs.declared.options.Options.{Options}
use Rattle.cs_words.specs.Options.{default_options}
use Rattle.cs_run.specs.Ending.Files.{IsSuiteText}

-- the lengths of the two files
pub record Lengths : Type 0 where
  pub yacc : ℕ
  pub lex : ℕ

-- `gen SEED yacc Y lex X goals G feasible F infeasible I large L negatives N bytes B`
abbrev pub summary_line : ℕ → Lengths → Counts → List ℕ
summary_line seed files counts =
    line
    (numbered_word (codes "gen ") seed ++ numbered_word (codes " yacc ") files.yacc ++ numbered_word (codes " lex ") files.lex
    ++ numbered_word (codes " goals ") counts.goals ++ numbered_word (codes " feasible ") counts.feasible
    ++ numbered_word (codes " infeasible ") counts.infeasible ++ numbered_word (codes " large ") counts.large
    ++ numbered_word (codes " negatives ") counts.negatives ++ numbered_word (codes " bytes ") counts.bytes)

-- The text ends with the end line of these counts, each a u64, and they have its length; it is of the first format, without cases.
pub record HasCounts (counts : Counts) (text : List ℕ) : Type 0 where
  pub before : List ℕ
  pub ends : text ≡ before ++ end_of counts
  pub bytes : counts.bytes ≡ shown (length text)
  pub goals : counts.goals < 2 ^ 64
  pub feasible : counts.feasible < 2 ^ 64
  pub infeasible : counts.infeasible < 2 ^ 64
  pub large : counts.large < 2 ^ 64
  pub negatives : counts.negatives < 2 ^ 64
  pub cases : counts.cases ≡ None

-- the default options, with the first format
abbrev pub summary_options : Options
summary_options = record default_options { format = One }

-- the text is the manifest, by these options, of the two files of the number
abbrev pub IsManifestOf : ℕ → List ℕ → Type 0
IsManifestOf seed text = IsSuiteText summary_options text (yacc_text seed) lex_text

-- the lengths of the two files of the number
abbrev pub lengths_of : ℕ → Lengths
lengths_of seed = record { yacc = length (yacc_text seed); lex = length lex_text }

-- The text is the line of the number, the lengths of its two files, and the counts of their manifest.
pub record IsSummary (seed : ℕ) (text : List ℕ) : Type 0 where
  pub manifest : List ℕ
  pub is_of : IsManifestOf seed manifest
  pub counts : Counts
  pub has : HasCounts counts manifest
  pub said : text ≡ summary_line seed (lengths_of seed) counts
