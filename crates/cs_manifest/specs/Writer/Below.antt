-- Parts of lines as they are put: what stands below a line is put with that line's newline in front.
use Rattle.std.specs.Prelude.{ℕ, List, ◌∷◌, ◌++◌, codes, decimal, Option}
use Rattle.cs_bytes.specs.Names.{newline, space}
use Rattle.cs_grammar.specs.declared.symbol.Mark.{Mark}
use Rattle.cs_yacc.specs.Reading.File.{File}
use Rattle.cs_verdicts.specs.declared.positive.verdict.Verdict.{Verdict}
use Rattle.cs_verdicts.specs.declared.positive.verdict.Verdict.TheVariants.{Feasible, Infeasible, Large}
use Rattle.cs_mutate.specs.declared.negative.Negative.{Negative}
use Rattle.cs_texts.specs.Rendering.Rendering.{Rendering}
use Rattle.cs_manifest.specs.Output.Words.{line, numbered_word, quoted, spaced}
use Rattle.cs_manifest.specs.Output.Names.{mark_text, tokens_words}
use Rattle.cs_manifest.specs.Manifest.Lines.{derive_line, edit_text, pair_words, size_words, text_line, text_lines}

-- two marks, each behind a space
abbrev pub two_marks : File → Mark → Mark → List ℕ
two_marks file left right = (space ∷ mark_text file left) ++ space ∷ mark_text file right

-- a fault's line without its newline
abbrev pub fault_words : File → Negative → List ℕ
fault_words file n = space ∷ edit_text file n.edit ++ space ∷ pair_words file n.left n.right ++ numbered_word (codes " at ") n.at

-- the rule numbers of a derivation
abbrev pub derive_below : List ℕ → List ℕ
derive_below rules = newline ∷ codes "  derive" ++ spaced decimal rules

-- the lines of a derivation without their last newline
abbrev pub tree_words : File → ℕ → List ℕ → List ℕ → List ℕ
tree_words file size derivation tokens = size_words size ++ derive_line derivation ++ tokens_words file tokens

-- those of a verdict
abbrev pub verdict_words : File → Verdict → List ℕ → List ℕ
verdict_words file (Feasible size derivation) tokens = tree_words file size derivation tokens
verdict_words file Infeasible tokens = codes " infeasible"
verdict_words file Large tokens = codes " large"

-- a text in three parts
abbrev pub parts_below : List ℕ → List ℕ → List ℕ → List ℕ
parts_below front middle back = newline ∷ line (codes "  text " ++ quoted (front ++ middle ++ back))

-- what came of a rendering
abbrev pub text_below : File → Rendering → List ℕ
text_below file rendered = newline ∷ text_line file rendered

abbrev pub texts_below : File → Option Rendering → List ℕ
texts_below file rendered = newline ∷ text_lines file rendered
