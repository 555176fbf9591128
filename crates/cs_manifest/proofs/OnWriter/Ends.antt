-- Lines put without their last newlines, which stand in front of what is put below.
use Rattle.std.proofs.Common.{◌≡◌, ℕ, List, [], ◌∷◌, ◌++◌, refl, append_assoc}
use Rattle.cs_verdicts.specs.declared.positive.verdict.Verdict.{Verdict}
use Rattle.cs_verdicts.specs.declared.positive.verdict.Verdict.TheVariants.{Feasible, Infeasible, Large}
use Rattle.cs_yacc.specs.Reading.File.{File}
use Rattle.cs_manifest.specs.Output.Words.{line}
use Rattle.cs_manifest.specs.Output.Names.{tokens_words}
use Rattle.cs_manifest.specs.Writer.Below.{tree_words, verdict_words}
use Rattle.cs_manifest.specs.Manifest.Lines.{derive_line, size_words, tree_lines, verdict_lines}

pub tree_ends : (file : File) (size : ℕ) (derivation tokens : List ℕ) → line (tree_words file size derivation tokens) ≡ tree_lines file size derivation tokens
tree_ends file size derivation tokens = append_assoc (size_words size ++ derive_line derivation) (tokens_words file tokens) (10 ∷ [])

pub verdict_ends : (file : File) (verdict : Verdict) (tokens : List ℕ) → line (verdict_words file verdict tokens) ≡ verdict_lines file verdict tokens
verdict_ends file (Feasible size derivation) tokens = tree_ends file size derivation tokens
verdict_ends file Infeasible tokens = refl
verdict_ends file Large tokens = refl
