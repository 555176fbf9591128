-- What commands write that a scanner is needed for, and `chains`, by what was made of their files.
use Rattle.std.specs.Prelude.{◌≡◌, ◌<◌, ◌≤◌, ℕ, List, Option, None, length}
use Rattle.std.specs.Borrow.{Bor}
use Rattle.cs_chain_text.specs.Progress.{IsText}
use Rattle.cs_chain_text.specs.Entries.Text.{IsChainsText}
use Rattle.cs_choices.specs.declared.weigh.Weigh.{Weigh}
use Rattle.cs_choices.specs.declared.weigh.Weigh.TheVariants.{Nodes}
use Rattle.cs_chain.specs.Chains.Chains.{chains}
use Rattle.cs_choices.specs.declared.format.Format.TheVariants.{One}
use Rattle.cs_deep.specs.Writing.Deep.{IsDeepText}
use Rattle.cs_grammar.specs.Weights.{Measure}
use Rattle.cs_run.specs.Writer.Suite.{choice_with, measure_by}
use Rattle.cs_run.specs.declared.command.lexemes.Asked.{Asked}
use Rattle.cs_scanner.specs.declared.scanning.scanner.Scanner.{Scanner}
use Rattle.cs_scanner.specs.Scan.Compared.{scanning}
use Rattle.cs_writing.specs.Plan.Plans.{CanRender}
use Rattle.cs_texts.specs.declared.rendering.render_work.RenderWork.{RenderWork}
use Rattle.cs_deep.specs.Membership.{IsMemberText}
use Rattle.cs_grammar.specs.Grammar.{PlainGrammar}
use Rattle.cs_io.specs.Uses.{SinkUse}
use Rattle.cs_lexical.specs.Lines.{IsLexical}
use Rattle.cs_run.specs.declared.ending.ending.Ending.{Ending}
use Rattle.cs_run.specs.declared.input.judging.Pair.{Pair}
use Rattle.cs_run.specs.declared.input.judging.PairAndText.{PairAndText}
use Rattle.cs_run.specs.declared.input.refusal.Refusal.TheVariants.{ManyChains, TextTokens}
use Rattle.cs_words.specs.declared.command.Command.TheVariants.{Check, Member, OfPair}
use Rattle.cs_words.specs.declared.command.PairCommand.{PairCommand}
use Rattle.cs_words.specs.declared.command.PairCommand.TheVariants as of_pair
use Rattle.cs_words.specs.declared.options.Options.{Options}
use Rattle.cs_run.specs.Command.Carrying.{GrewByEach, GrewBySome, Writes, WritesByPair, WritesByText, WritesOfGrammar, WritesOfPair}
use Rattle.cs_run.specs.Ending.Files.{scanning_of}
use Rattle.cs_run.specs.Ending.Texts.{IsTextOfPair, NoneDenies}
use Rattle.cs_scanner.specs.Scan.Scan.{Scanning}
use Rattle.cs_yacc.specs.Reading.File.{File}

-- the report on the rules of the pair's lex file was written, and that ended so
abbrev pub WritesLexical : Pair → Ending → SinkUse → Type 0
WritesLexical pair ending out = WritesOfPair pair (IsLexical pair.yacc (scanning_of pair.lex)) ending out

-- whether the tokens are a sentence was written, and that ended so
abbrev pub WritesTokens : PlainGrammar → List ℕ → Ending → SinkUse → Type 0
WritesTokens g tokens ending out =
    Writes (length tokens ≤ 2000) (λ refusal. (refusal ≡ TextTokens (length tokens)) × (2000 < length tokens)) (IsMemberText g tokens)
    (GrewBySome (IsMemberText g tokens)) NoneDenies ending out

-- whether the text is a sentence was written, and that ended so
abbrev pub WritesMembership : PairAndText → Ending → SinkUse → Type 0
WritesMembership beside ending out = WritesByText Member beside ending out

-- whether the manifest holds what it claims was written, and that ended so
abbrev pub WritesCheck : PairAndText → Ending → SinkUse → Type 0
WritesCheck beside ending out = WritesByText Check beside ending out

-- a text of the grammar's chains was written, and that ended so
abbrev pub WritesChains : PlainGrammar → (List ℕ → Type 0) → Ending → SinkUse → Type 0
WritesChains g Is ending out =
    Writes (length (chains g) ≤ 1000000) (λ refusal. (refusal ≡ ManyChains (length (chains g))) × (1000000 < length (chains g))) Is
    (GrewByEach Is) NoneDenies ending out

-- the text of a file's chains, with texts by the work where there is one, and without any
abbrev pub WritesChainsBy : File → Option (Bor RenderWork) → Weigh → Ending → SinkUse → Type 0
WritesChainsBy file work weigh ending out = WritesChains file.grammar (IsText file work weigh) ending out

abbrev pub WritesChainsOf : File → Ending → SinkUse → Type 0
WritesChainsOf file ending out = WritesChains file.grammar (IsChainsText file None Nodes) ending out

-- the text that a command asks for by a yacc file and a scanner was written, and that ended so
abbrev pub WritesByScanner : PairCommand → Options → File → Scanning → Ending → SinkUse → Type 0
WritesByScanner command options file s ending out =
    WritesOfGrammar (OfPair command) file.grammar (IsTextOfPair command options file s) ending out

-- the text is that of `deep` by the options and these texts
abbrev pub IsDeepBy : Asked → RenderWork → List ℕ → Type 0
IsDeepBy a work text = IsDeepText (record (choice_with a.options.now work) { format = One }) a.yacc.now text

-- the same of a command that needs the lexemes of tokens, by a scanner, and by what renders texts
abbrev pub WritesScanned : Asked → Scanner → Ending → SinkUse → Type 0
WritesScanned a scanner ending out = WritesByScanner a.command a.options.now a.yacc.now (scanning scanner) ending out

abbrev pub WritesRendered : Asked → RenderWork → Ending → SinkUse → Type 0
WritesRendered a work ending out = WritesScanned a work.scanner.now ending out

-- the text that a command asks for by a pair was written, and that ended so
abbrev pub WritesPair : PairCommand → Options → Pair → Ending → SinkUse → Type 0
WritesPair command options pair ending out = WritesByPair (OfPair command) options pair ending out

-- how the options measure the trees of the yacc file, with the lexemes of these texts
abbrev pub measure_asked : Asked → RenderWork → Measure
measure_asked a work = measure_by a.options.now a.yacc.now work

-- texts of the file can be rendered, with the options' separator
pub record CanRenderAsked (a : Asked) (work : RenderWork) : Type 0 where
  pub texts : CanRender a.yacc.now work
  pub separator : work.separator.now ≡ a.options.now.separator

-- the command needs the lexemes of tokens, and is not `suite`
abbrev pub NeedsLexemes : PairCommand → Type 0
NeedsLexemes of_pair.Chains = Unit {0}
NeedsLexemes of_pair.Spell = Unit {0}
NeedsLexemes of_pair.Deep = Unit {0}
NeedsLexemes of_pair.Wrong = Unit {0}
NeedsLexemes command = ⊥
