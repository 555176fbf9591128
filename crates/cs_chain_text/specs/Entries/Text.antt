-- The text of the chains of a yacc file: each chain with its verdict, tokens and text, and how many there are of each verdict.
use Rattle.std.specs.Prelude.{◌≡◌, ℕ, List, ◌++◌, Bool, Option, codes, count_by, length}
use Rattle.std.specs.List.{AllZip}
use Rattle.cs_grammar.specs.Weights.{Weighed, weighed}
use Rattle.cs_verdicts.specs.declared.positive.verdict.Verdict.{Verdict}
use Rattle.cs_verdicts.specs.declared.positive.verdict.Verdict.TheVariants as goals
use Rattle.cs_texts.specs.Rendering.Rendering.{Rendering}
use Rattle.cs_yacc.specs.Reading.File.{File}
use Rattle.cs_choices.specs.declared.weigh.Weigh.{Weigh}
use Rattle.cs_manifest.specs.Output.Words.{line, numbered_word, with_numbers}
use Rattle.cs_manifest.specs.Manifest.Lines.{is_feasible, is_infeasible, is_large, table_lines, text_lines, verdict_lines}
use Rattle.cs_manifest.specs.Manifest.Manifest.{AreLexemesBy, AreTokensOf, IsTextOf, Texts, measure_of}
use Rattle.cs_chain.specs.declared.chains.chain.Chain.{Chain}
use Rattle.cs_chain.specs.declared.judging.verdict.ChainVerdict.{ChainVerdict}
use Rattle.cs_chain.specs.declared.judging.verdict.ChainVerdict.TheVariants.{Feasible, Infeasible, Large}
use Rattle.cs_chain.specs.Chains.Chains.{chains}
use Rattle.cs_chain.specs.Judging.Verdict.{IsVerdictIn}

-- a chain, its verdict, the tokens of its derivation, and what came of their rendering
pub record ChainEntry : Type 0 where
  pub chain : Chain
  pub verdict : ChainVerdict
  pub tokens : List ℕ
  pub rendered : Option Rendering

-- the verdict as that of a goal, whose lines are the same
abbrev pub as_goal : ChainVerdict → Verdict
as_goal (Feasible size derivation) = goals.Feasible size derivation
as_goal Infeasible = goals.Infeasible
as_goal Large = goals.Large

-- the verdict of the chain over all trees, with its tokens and their text
pub record IsEntryOf (of : Weighed) (texts : Option Texts) (lexemes : Option (List (Option (List ℕ)))) (chain : Chain) (entry : ChainEntry) : Type 0 where
  pub is_of : entry.chain ≡ chain
  pub verdict : IsVerdictIn of chain entry.verdict
  pub tokens : AreTokensOf of.grammar (as_goal entry.verdict) entry.tokens
  pub text : IsTextOf texts lexemes (as_goal entry.verdict) entry.tokens entry.rendered

-- ---- lines

-- ` chain P I Q J R`
abbrev pub chain_words : Chain → List ℕ
chain_words c =
    numbered_word (codes " chain ") c.outer ++ numbered_word (codes " ") c.place ++ numbered_word (codes " ") c.middle
    ++ numbered_word (codes " ") c.spot ++ numbered_word (codes " ") c.inner

-- `goal N chain P I Q J R`, the verdict's words and the lines below
abbrev pub entry_lines : File → ℕ → ChainEntry → List ℕ
entry_lines file number e =
    numbered_word (codes "goal ") number ++ chain_words e.chain ++ verdict_lines file (as_goal e.verdict) e.tokens ++ text_lines file e.rendered

-- how many entries have such a verdict
abbrev pub many_with : (Verdict → Bool) → List ChainEntry → ℕ
many_with test entries = count_by (λ e. test (as_goal e.verdict)) entries

-- how many there are, and of each verdict
abbrev pub end_line : List ChainEntry → List ℕ
end_line entries =
    line
    (numbered_word (codes "end goals ") (length entries) ++ numbered_word (codes " feasible ") (many_with is_feasible entries)
    ++ numbered_word (codes " infeasible ") (many_with is_infeasible entries) ++ numbered_word (codes " large ") (many_with is_large entries))

-- the head: the tokens and the rules, and the lexemes where there are some
abbrev pub head_lines : File → Option (List (Option (List ℕ))) → List ℕ
head_lines file lexemes = line (codes "conform chains") ++ table_lines file lexemes

abbrev pub chains_lines : File → Option (List (Option (List ℕ))) → List ChainEntry → List ℕ
chains_lines file lexemes entries = head_lines file lexemes ++ with_numbers (entry_lines file) entries ++ end_line entries

-- ---- the text

-- the grammar of the file, and how its trees are measured with these lexemes
abbrev pub weighed_by : Weigh → File → Option (List (Option (List ℕ))) → Weighed
weighed_by weigh file lexemes = weighed file.grammar (measure_of weigh file.grammar.tokens lexemes)

-- The text is that of the chains of the file; without texts it has no lexemes and no text lines.
pub record IsChainsText (file : File) (texts : Option Texts) (weigh : Weigh) (text : List ℕ) : Type 0 where
  pub lexemes : Option (List (Option (List ℕ)))
  pub entries : List ChainEntry
  pub are_lexemes : AreLexemesBy texts file.grammar.tokens lexemes
  pub verdicts : AllZip (IsEntryOf (weighed_by weigh file lexemes) texts lexemes) (chains file.grammar) entries
  pub lines : text ≡ chains_lines file lexemes entries
