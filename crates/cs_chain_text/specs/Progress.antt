-- What was made and written of the text of chains. Working words of proofs.
use Rattle.std.specs.Prelude.{◌≡◌, ◌≤◌, ◌<◌, ℕ, ◌+◌, ◌-◌, ◌^◌, List, [], ◌++◌, MatchResult, Option, None, Result, IfSome, codes, length, option_map}
use Rattle.std.specs.Borrow.{Bor}
use Rattle.std.specs.List.{AllZip}
use Rattle.cs_grammar.specs.Grammar.{PlainGrammar}
use Rattle.cs_grammar.specs.Tree.{IsDerivationOf}
use Rattle.cs_grammar.specs.Weights.{IsMeasure, Weighed, weighed}
use Rattle.cs_scanner.specs.Lexeme.Lexeme.{AreLexemes}
use Rattle.cs_scanner.specs.Scan.Compared.{scanning}
use Rattle.cs_texts.specs.Rendering.Rendering.{rendering}
use Rattle.cs_texts.specs.declared.rendering.rendered.Rendered.{Rendered}
use Rattle.cs_texts.specs.declared.rendering.render_work.RenderWork.{RenderWork}
use Rattle.cs_choices.specs.declared.weigh.Weigh.{Weigh}
use Rattle.cs_manifest.specs.Writer.Below as below
use Rattle.cs_yacc.specs.Reading.File.{File}
use Rattle.cs_manifest.specs.Output.Names.{AreNamedTokens}
use Rattle.cs_manifest.specs.Output.Words.{line, numbered_from, numbered_word}
use Rattle.cs_manifest.specs.Manifest.Lines.{is_feasible, is_infeasible, is_large}
use Rattle.cs_manifest.specs.Manifest.ByWork.{texts_of}
use Rattle.cs_manifest.specs.Manifest.Manifest.{IsTextOf, Texts, measure_of}
use Rattle.cs_manifest.specs.Manifest.Named.{AreNamedRenderings}
use Rattle.cs_chain.specs.declared.chains.chain.Chain.{Chain}
use Rattle.cs_chain.specs.declared.judging.verdict.ChainVerdict.{ChainVerdict}
use Rattle.cs_chain.specs.declared.judging.verdict.ChainVerdict.TheVariants.{Feasible, Infeasible, Large}
use Rattle.cs_chain.specs.Chains.Chains.{chains}
use Rattle.cs_chain_text.specs.declared.entries.entry.TellWork.{TellWork}
use Rattle.cs_chain_text.specs.declared.rows.rows.Row.{Row}
use Rattle.cs_chain_text.specs.declared.entries.tally.Tally.{Tally}
use Rattle.cs_chain_text.specs.declared.writing.writing.Chained.{Chained}
use Rattle.cs_io.specs.Lines.{IsCutShort, IsWritten}
use Rattle.cs_io.specs.declared.halt.Halt.{Halt}
use Rattle.cs_io.specs.declared.halt.Halt.TheVariants.{Failed, Memory}
use Rattle.cs_io.specs.declared.sink.Sink as Sink
use Rattle.cs_chain_text.specs.declared.rows.frames.FrameLines.{FrameLines}
use Rattle.cs_chain_text.specs.Rows.Rows.{AreFrameLines, Told, row_entries, told_by}
use Rattle.cs_chain_text.specs.Entries.Text.{ChainEntry, IsChainsText, IsEntryOf, as_goal, entry_lines, many_with}

-- ---- what is told of a chain

-- these, and the lexemes, where texts are rendered
abbrev pub texts_by : Option (Bor RenderWork) → Option Texts
texts_by work = option_map (λ r. texts_of r.now) work

abbrev pub lexemes_by : Option (Bor RenderWork) → Option (List (Option (List ℕ)))
lexemes_by work = option_map (λ r. r.now.lexemes.now) work

-- what came of the rendering of a chain's tokens
abbrev pub IsTextBy : Option (Bor RenderWork) → ChainVerdict → List ℕ → Option Rendered → Type 0
IsTextBy work verdict tokens rendered =
    IsTextOf (texts_by work) (lexemes_by work) (as_goal verdict) tokens (option_map rendering rendered)

-- the lexemes are those of the file's tokens
abbrev pub HaveLexemes : File → Option (Bor RenderWork) → Type 0
HaveLexemes file work = IfSome work (λ r. AreLexemes (scanning r.now.scanner.now) file.grammar.tokens r.now.lexemes.now)

-- where the verdict has a derivation, it is one of the grammar
abbrev pub HasDerivation : PlainGrammar → ChainVerdict → Type 0
HasDerivation g (Feasible size derivation) = IsDerivationOf g derivation
HasDerivation g Infeasible = Unit {0}
HasDerivation g Large = Unit {0}

-- the texts and the sizes are by the lexemes of the grammar's tokens
pub record CanTell (tell : TellWork) : Type 0 where
  pub measure : IsMeasure tell.embeds.now.weights
  pub lexemes : IfSome tell.work (λ r. length r.now.lexemes.now ≡ tell.embeds.now.grammar.tokens)

-- the entry of the chain by the work
abbrev pub IsToldBy : TellWork → Chain → ChainEntry → Type 0
IsToldBy tell chain entry = IsEntryOf tell.embeds.now (texts_by tell.work) (lexemes_by tell.work) chain entry

-- all numbers of tokens in it are of the file
pub record IsNamedEntry (file : File) (entry : ChainEntry) : Type 0 where
  pub tokens : AreNamedTokens file entry.tokens
  pub text : AreNamedRenderings file entry.rendered

-- the first of what was left were taken: none only where none was left
pub record TakesBatch (old batch new : List Chain) : Type 0 where
  pub split : old ≡ batch ++ new
  pub some : batch ≡ [] → old ≡ []
  pub few : length batch ≤ 1024

-- ---- how chains are counted

abbrev pub no_chains : Tally
no_chains = record { goals = 0; feasible = 0; infeasible = 0; large = 0 }

-- one chain more
abbrev pub with_verdict : Tally → ChainVerdict → Tally
with_verdict t (Feasible size derivation) = record t { goals = t.goals + 1; feasible = t.feasible + 1 }
with_verdict t Infeasible = record t { goals = t.goals + 1; infeasible = t.infeasible + 1 }
with_verdict t Large = record t { goals = t.goals + 1; large = t.large + 1 }

-- one more can be counted
pub record HasRoom (t : Tally) : Type 0 where
  pub goals : t.goals < 2 ^ 64 - 1
  pub feasible : t.feasible < 2 ^ 64 - 1
  pub infeasible : t.infeasible < 2 ^ 64 - 1
  pub large : t.large < 2 ^ 64 - 1

-- these chains were counted
pub record IsCounted (entries : List ChainEntry) (old new : Tally) : Type 0 where
  pub goals : new.goals ≡ old.goals + length entries
  pub feasible : new.feasible ≡ old.feasible + many_with is_feasible entries
  pub infeasible : new.infeasible ≡ old.infeasible + many_with is_infeasible entries
  pub large : new.large ≡ old.large + many_with is_large entries

-- so many chains more can be counted: no verdict has more than there are
pub record CanCount (t : Tally) (many : ℕ) : Type 0 where
  pub feasible : t.feasible ≤ t.goals
  pub infeasible : t.infeasible ≤ t.goals
  pub large : t.large ≤ t.goals
  pub few : t.goals + many ≤ 1000000

-- the end, by a tally
abbrev pub end_with : Tally → List ℕ
end_with t =
    line
    (numbered_word (codes "end goals ") t.goals ++ numbered_word (codes " feasible ") t.feasible
    ++ numbered_word (codes " infeasible ") t.infeasible ++ numbered_word (codes " large ") t.large)

-- the lines of entries behind so many
abbrev pub lines_from : File → ℕ → List ChainEntry → List ℕ
lines_from file many entries = numbered_from (many + 1) (entry_lines file) entries

-- the same behind those that were counted
abbrev pub lines_of : File → Tally → List ChainEntry → List ℕ
lines_of file tally entries = lines_from file tally.goals entries

-- a verdict's words and the lines below, without the last newline
abbrev pub verdict_words : File → ChainVerdict → List ℕ → List ℕ
verdict_words file verdict tokens = below.verdict_words file (as_goal verdict) tokens

-- ---- the text

-- the text of the chains of a file, where texts are rendered by this
abbrev pub IsText : File → Option (Bor RenderWork) → Weigh → List ℕ → Type 0
IsText file work weigh text = IsChainsText file (texts_by work) weigh text

-- The text can be written: trees are measured as is asked, the lexemes are those of the file's tokens, and there are few chains.
pub record IsReady (d : Chained) : Type 0 where
  pub weights : d.weights.now ≡ measure_of d.weigh d.yacc.now.grammar.tokens (lexemes_by d.work)
  pub lexemes : HaveLexemes d.yacc.now d.work
  pub few : length (chains d.yacc.now.grammar) ≤ 1000000

-- the grammar and how its trees are measured
abbrev pub weighed_in : Chained → Weighed
weighed_in d = weighed d.yacc.now.grammar d.weights.now

-- the work is of these
pub record IsWorkOf (d : Chained) (tell : TellWork) : Type 0 where
  pub can : CanTell tell
  pub embeds : tell.embeds.now ≡ weighed_in d
  pub work : tell.work ≡ d.work

-- the text that is asked for
abbrev pub IsAsked : Chained → List ℕ → Type 0
IsAsked d text = IsText d.yacc.now d.work d.weigh text

-- one entry for each of these chains, in order
abbrev pub AreEntries : Chained → List Chain → List ChainEntry → Type 0
AreEntries d list entries = AllZip (IsEntryOf (weighed_in d) (texts_by d.work) (lexemes_by d.work)) list entries

-- the text is the lines of all chains
pub record IsBodyText (d : Chained) (text : List ℕ) : Type 0 where
  pub entries : List ChainEntry
  pub are : AreEntries d (chains d.yacc.now.grammar) entries
  pub lines : text ≡ lines_from d.yacc.now 0 entries

-- whichever the entries are, they were counted
abbrev pub CountsAll : Chained → Tally → Type 0
CountsAll d tally = (entries : List ChainEntry) → AreEntries d (chains d.yacc.now.grammar) entries → IsCounted entries no_chains tally

-- ---- batches

-- the lines of rows behind those that were counted
abbrev pub rows_lines : Told → Tally → List Row → List ℕ
rows_lines told tally rows = lines_of told.file tally (row_entries rows)

-- of which file and which costs the lines are told
abbrev pub told_in : Chained → Told
told_in d = told_by d.yacc.now (weighed_in d)

-- no texts are rendered, and the lines are of the file
pub record AreFrameLinesIn (d : Chained) (lines : FrameLines) : Type 0 where
  pub none : d.work ≡ None
  pub are : AreFrameLines d.yacc.now (weighed_in d) lines

module _ {S : Type 0} (g : Sink.Ghosts S) (d : Chained) (batch : List Chain) (tally after : Tally) (old new : S) where
  -- the entries of the chains were written and counted
  pub record WroteBatch : Type 0 where
    pub entries : List ChainEntry
    pub are : AreEntries d batch entries
    pub written : IsWritten g (lines_of d.yacc.now tally entries) old new
    pub counted : IsCounted entries tally after

  -- their writing was cut short
  pub record CutBatch : Type 0 where
    pub entries : List ChainEntry
    pub are : AreEntries d batch entries
    pub cut : IsCutShort g (lines_of d.yacc.now tally entries) old new

  -- memory ran out before that, or a write failed
  abbrev pub StopsBatch : Halt → Type 0
  StopsBatch Memory = new ≡ old
  StopsBatch Failed = CutBatch

  -- the answer says which
  abbrev pub PutsBatch : Result Unit Halt → Type 0
  PutsBatch result = MatchResult result (λ _. WroteBatch) StopsBatch
