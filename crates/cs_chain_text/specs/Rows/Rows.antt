-- Chains whose lines are put together of parts, and what the parts are. Working words of proofs.
use Rattle.std.specs.Prelude.{◌≡◌, ℕ, List, [], ◌++◌, All, codes, decimal, map, None}
use Rattle.std.specs.List.{AllZip}
use Rattle.cs_grammar.specs.Grammar.{PlainGrammar}
use Rattle.cs_grammar.specs.Weights.{Weighed}
use Rattle.cs_least.specs.declared.cost.cost.Cost.{Cost}
use Rattle.cs_least.specs.declared.cost.cost.Cost.TheVariants as costs
use Rattle.cs_least.specs.Cost.Rank.{IsCapped, plus}
use Rattle.cs_yacc.specs.Reading.File.{File}
use Rattle.cs_manifest.specs.Writer.Below.{derive_below}
use Rattle.cs_manifest.specs.Output.Words.{line, numbered_word, spaced}
use Rattle.cs_manifest.specs.Output.Names.{token_words}
use Rattle.cs_chain.specs.declared.chains.chain.Chain.{Chain}
use Rattle.cs_chain.specs.declared.judging.frame.Core.{Core}
use Rattle.cs_chain.specs.declared.judging.frame.Frame.{Frame}
use Rattle.cs_chain.specs.Chains.Chain.{with_inner}
use Rattle.cs_chain.specs.Judging.Frame.{FitsCore, FitsFrames, verdict_by}
use Rattle.cs_chain_text.specs.declared.rows.around.Around.{Around}
use Rattle.cs_chain_text.specs.declared.rows.cores.CoreLines.{CoreLines}
use Rattle.cs_chain_text.specs.declared.rows.frames.FrameLines.{FrameLines}
use Rattle.cs_chain_text.specs.declared.rows.rows.Row.{Row}
use Rattle.cs_chain_text.specs.Rows.Around.{AreTokensAround, AreTokensIn}
use Rattle.cs_chain_text.specs.Rows.Parts.{head_words, middle_words}
use Rattle.cs_chain_text.specs.Entries.Text.{ChainEntry, entry_lines}

-- of which file and which costs of its grammar lines are told
pub record Told : Type 0 where
  pub file : File
  pub of : Weighed

abbrev pub told_by : File → Weighed → Told
told_by file of = record { file = file; of = of }

-- ---- what chains that differ in the inner rule alone share

-- where the frame has a size, these are the tokens around the inner node
abbrev pub AreAround : PlainGrammar → Frame → Around → Type 0
AreAround g frame around =
    (n : ℕ) → frame.cost ≡ costs.Least n → AreTokensAround g frame.before frame.behind around.left around.first.items around.last.items

-- the lines have these, and the parts are theirs
pub record HasFrameParts (file : File) (chain : Chain) (frame : Frame) (around : Around) (lines : FrameLines) : Type 0 where
  pub chain_is : lines.chain ≡ chain
  pub frame_is : lines.frame ≡ frame
  pub around_is : lines.around ≡ around
  pub head : lines.head ≡ head_words chain
  pub before : lines.before ≡ derive_below frame.before
  pub middle : lines.middle ≡ middle_words file frame.behind around.first.items
  pub end : lines.end ≡ line (token_words file around.last.items)

pub record AreFrameLines (file : File) (v : Weighed) (lines : FrameLines) : Type 0 where
  pub frames : FitsFrames v lines.chain lines.frame
  pub capped : IsCapped v.weights.limit lines.frame.cost
  pub around : AreAround v.grammar lines.frame lines.around
  pub parts : HasFrameParts file lines.chain lines.frame lines.around lines

-- ---- the inner node

-- where the node has a size, these are its tokens
abbrev pub AreInside : PlainGrammar → ℕ → Core → List ℕ → Type 0
AreInside g left core tokens = (n : ℕ) → core.cost ≡ costs.Least n → AreTokensIn g left core.code tokens

pub record HasCoreParts (file : File) (rule left : ℕ) (core : Core) (tokens : List ℕ) (lines : CoreLines) : Type 0 where
  pub rule_is : lines.rule ≡ rule
  pub left_is : lines.left ≡ left
  pub core_is : lines.core ≡ core
  pub tokens_are : lines.tokens.items ≡ tokens
  pub number : lines.number ≡ numbered_word (codes " ") rule
  pub code : lines.code ≡ spaced decimal core.code
  pub names : lines.names ≡ token_words file tokens

pub record AreCoreLines (file : File) (v : Weighed) (lines : CoreLines) : Type 0 where
  pub core : FitsCore v lines.rule lines.core
  pub capped : IsCapped v.weights.limit lines.core.cost
  pub inside : AreInside v.grammar lines.left lines.core lines.tokens.items
  pub parts : HasCoreParts file lines.rule lines.left lines.core lines.tokens.items lines

-- those that are kept are of the file and the costs
abbrev pub AreCores : File → Weighed → List CoreLines → Type 0
AreCores file v lines = All (AreCoreLines file v) lines

-- ---- both together

-- the tokens of a chosen tree, where there is one
abbrev pub tokens_by : Cost → List ℕ → List ℕ
tokens_by costs.Never tokens = []
tokens_by costs.Large tokens = []
tokens_by (costs.Least n) tokens = tokens

abbrev pub entry_by : FrameLines → CoreLines → Cost → ChainEntry
entry_by f k cost = record {
  chain = with_inner f.chain k.rule;
  verdict = verdict_by cost (f.frame.before ++ k.core.code ++ f.frame.behind);
  tokens = tokens_by cost (f.around.first.items ++ k.tokens.items ++ f.around.last.items);
  rendered = None;
}

-- the entry of a chain whose lines are put together
abbrev pub row_entry : Row → ChainEntry
row_entry row = entry_by row.frame.now row.core.now row.cost

abbrev pub row_entries : List Row → List ChainEntry
row_entries rows = map row_entry rows

-- where the whole has a size, the inner node's left side is that of the frame's hole
abbrev pub StandsIn : FrameLines → CoreLines → Cost → Type 0
StandsIn f k cost = (n : ℕ) → cost ≡ costs.Least n → k.left ≡ f.around.left

-- what the lines of a feasible row have behind the chain
abbrev pub tree_parts : Row → ℕ → List ℕ
tree_parts row size =
    numbered_word (codes " size ") size ++ row.frame.now.before ++ row.core.now.code ++ row.frame.now.middle ++ row.core.now.names ++ row.frame.now.end

-- the lines of a row
abbrev pub row_lines : Told → ℕ → Row → List ℕ
row_lines told number row = entry_lines told.file number (row_entry row)

-- the parts of a row are what they are said to be, and fit
pub record IsRow (told : Told) (row : Row) : Type 0 where
  pub frame : AreFrameLines told.file told.of row.frame.now
  pub core : AreCoreLines told.file told.of row.core.now
  pub cost : row.cost ≡ plus told.of.weights.limit row.frame.now.frame.cost row.core.now.core.cost
  pub left : StandsIn row.frame.now row.core.now row.cost

abbrev pub row_chain : Row → Chain
row_chain row = with_inner row.frame.now.chain row.core.now.rule

-- the row is of the chain
pub record IsRowOf (told : Told) (chain : Chain) (row : Row) : Type 0 where
  pub is : IsRow told row
  pub chain_is : chain ≡ row_chain row

-- the rows of these chains, in order
abbrev pub AreRowsOf : Told → List Chain → List Row → Type 0
AreRowsOf told chains rows = AllZip (IsRowOf told) chains rows
