-- Where a desk tells its files, or none are asked for, one text is asked for.
use Rattle.std.proofs.Common.{◌≡◌, ℕ, List, Option, None, Some, Result, Ok, Err, refl, sym, ap, ◌∙◌, subst}
use Rattle.cs_io.specs.Desk.{Files}
use Rattle.cs_grammar.specs.Laws.{AtMostOne}
use Rattle.cs_yacc.specs.Reading.File as yacc
use Rattle.cs_yacc.proofs.OnReading.OneFile as yacc_files
use Rattle.cs_lex.specs.Reading.File as lex
use Rattle.cs_lex.specs.Reading.Reading.{IsLexFile}
use Rattle.cs_lex.proofs.OnReading.OneFile as lex_files
use Rattle.cs_manifest.specs.declared.manifest.counts.Counts.{Counts}
use Rattle.cs_chain_text.specs.Entries.Text.{IsChainsText}
use Rattle.cs_check_text.specs.Text.{IsCheckText}
use Rattle.cs_choices.specs.declared.weigh.Weigh.{Weigh}
use Rattle.cs_choices.specs.declared.weigh.Weigh.TheVariants.{Nodes}
use Rattle.cs_choices.specs.declared.slips.Slips.{Slips}
use Rattle.cs_manifest.specs.Manifest.Manifest.{Texts}
use Rattle.cs_spell.specs.Telling.Spelling.{IsSpelling}
use Rattle.cs_deep.specs.Writing.Deep.{IsDeepText}
use Rattle.cs_lexical.specs.Lines.{IsLexical}
use Rattle.cs_wrong.specs.Writing.Text.{IsWrongText}
use Rattle.cs_scanner.specs.Scan.Scan.{Scanning}
use Rattle.cs_manifest.specs.Manifest.Manifest.{Choice, IsManifest, rules_form}
use Rattle.cs_words.specs.declared.command.Command.{Command}
use Rattle.cs_words.specs.declared.command.Command.TheVariants.{Check, Gen, Member, OfGrammar, OfPair}
use Rattle.cs_words.specs.declared.command.GrammarCommand.{GrammarCommand}
use Rattle.cs_words.specs.declared.command.GrammarCommand.TheVariants as of_grammar
use Rattle.cs_words.specs.declared.command.PairCommand.{PairCommand}
use Rattle.cs_words.specs.declared.command.PairCommand.TheVariants as of_pair
use Rattle.cs_words.specs.declared.options.Options.{Options}
use Rattle.cs_words.specs.Requests.{Names, Number, PlainArguments, PlainRequest}
use Rattle.cs_run.specs.declared.input.judging.Meant.{Meant}
use Rattle.cs_run.specs.declared.input.judging.Meant.TheVariants.{Grammar, Nothing, Pair, Text}
use Rattle.cs_run.specs.Input.Files.{Content}
use Rattle.cs_run.specs.Ending.Files.{IsSuiteText, choice_by, choice_of, deep_choice, scanning_of, texts_by}
use Rattle.cs_run.specs.Ending.Summary.{HasCounts, IsSummary, lengths_of, summary_line, summary_options}
use Rattle.cs_run.specs.Ending.Texts.{AreTold, AskForOneText, IsAskedText, IsTextBy, IsTextOf, IsTextOfGrammar, IsTextOfPair}
use Rattle.cs_run.proofs.OnEnding.Apart.{contents_once}
use Rattle.cs_run.proofs.OnEnding.OneSummary.{one_counts}
use Rattle.cs_run.proofs.OnInput.Meanings.{named, one_meaning}

-- ---- texts

module _ (one : (choice : Choice) (file : yacc.File) → AtMostOne (IsManifest choice file))
    (one_lexical : (file : yacc.File) (s : Scanning) → AtMostOne (IsLexical file s))
    (one_spelled : (file : yacc.File) (texts : Texts) (weigh : Weigh) → AtMostOne (IsSpelling file texts weigh))
    (one_deep_text : (choice : Choice) (file : yacc.File) → AtMostOne (IsDeepText choice file))
    (one_chains : (file : yacc.File) (texts : Option Texts) (weigh : Weigh) → AtMostOne (IsChainsText file texts weigh))
    (one_wrong : (file : yacc.File) (chosen : Slips) (texts : Option Texts) (weigh : Weigh) → AtMostOne (IsWrongText file texts weigh chosen))
    (one_checked : (file : yacc.File) (s : Scanning) (manifest : List ℕ) → AtMostOne (IsCheckText file s manifest)) where
  one_suite : (options : Options) (bytes more a b : List ℕ) → IsSuiteText options a bytes more → IsSuiteText options b bytes more → a ≡ b
  unfolding IsSuiteText
  one_suite options bytes more a b x y =
      let same = yacc_files.one_file bytes y.0 x.0 y.2.2 x.2.2 in
      let beside : IsLexFile more x.0 y.1 = subst (λ (f : yacc.File). IsLexFile more f y.1) same y.2.3 in
      let scanners : y.1 ≡ x.1 = lex_files.one_file more x.0 y.1 x.1 (named bytes x.0 x.2.2) beside x.2.3 in
      let moved = subst (λ (s : lex.File). IsManifest (choice_of s options) y.0 b) scanners y.4 in
      one (choice_of x.1 options) x.0 a b x.4 (subst (λ (f : yacc.File). IsManifest (choice_of x.1 options) f b) same moved)

  one_summary : (seed : ℕ) (a b : List ℕ) → IsSummary seed a → IsSummary seed b → a ≡ b
  one_summary seed a b x y =
      let manifests = one_suite summary_options _ _ y.manifest x.manifest y.is_of x.is_of in
      let counts = one_counts x.manifest x.counts y.counts x.has (subst (λ (text : List ℕ). HasCounts y.counts text) manifests y.has) in
      x.said ∙ ap (λ (c : Counts). summary_line seed (lengths_of seed) c) counts ∙ sym y.said

  one_of_grammar : (command : GrammarCommand) (file : yacc.File) → AtMostOne (IsTextOfGrammar command file)
  one_of_grammar of_grammar.Rules file = one rules_form file
  one_of_grammar of_grammar.Chains file = one_chains file None Nodes

  one_of_pair : (command : PairCommand) (options : Options) (file : yacc.File) (s : Scanning) → AtMostOne (IsTextOfPair command options file s)
  one_of_pair of_pair.Suite options file s = one (choice_by options s) file
  one_of_pair of_pair.Lexical options file s = one_lexical file s
  one_of_pair of_pair.Spell options file s = one_spelled file (texts_by options s) options.weigh
  one_of_pair of_pair.Deep options file s = one_deep_text (deep_choice options s) file
  one_of_pair of_pair.Chains options file s = one_chains file (Some (texts_by options s)) options.weigh
  one_of_pair of_pair.Wrong options file s = one_wrong file options.slips (Some (texts_by options s)) options.weigh

  one_by : (command : Command) (arguments : PlainArguments) (options : Options) (meant : Meant) → ¬ (command ≡ Member) → (a b : List ℕ)
      → IsTextBy command arguments options meant a → IsTextBy command arguments options meant b → a ≡ b
  one_by (OfGrammar command) arguments options Nothing other a b x y = absurd x
  one_by (OfGrammar command) arguments options (Grammar file) other a b x y = one_of_grammar command file a b x y
  one_by (OfGrammar command) arguments options (Pair two) other a b x y = absurd x
  one_by (OfGrammar command) arguments options (Text beside) other a b x y = absurd x
  one_by (OfPair command) arguments options Nothing other a b x y = absurd x
  one_by (OfPair command) arguments options (Grammar file) other a b x y = absurd x
  one_by (OfPair command) arguments options (Pair two) other a b x y = one_of_pair command options two.yacc (scanning_of two.lex) a b x y
  one_by (OfPair command) arguments options (Text beside) other a b x y = absurd x
  one_by Member arguments options Nothing other a b x y = absurd x
  one_by Member arguments options (Grammar file) other a b x y = absurd x
  one_by Member arguments options (Pair two) other a b x y = absurd x
  one_by Member arguments options (Text beside) other a b x y = absurd (other refl)
  one_by Check arguments options Nothing other a b x y = absurd x
  one_by Check arguments options (Grammar file) other a b x y = absurd x
  one_by Check arguments options (Pair two) other a b x y = absurd x
  one_by Check arguments options (Text beside) other a b x y = one_checked beside.pair.yacc (scanning_of beside.pair.lex) beside.text a b x y
  one_by Gen (Names names) options Nothing other a b x y = absurd x
  one_by Gen (Number number) options Nothing other a b x y = one_summary number a b x y
  one_by Gen (Names names) options (Grammar file) other a b x y = absurd x
  one_by Gen (Number number) options (Grammar file) other a b x y = absurd x
  one_by Gen (Names names) options (Pair two) other a b x y = absurd x
  one_by Gen (Number number) options (Pair two) other a b x y = absurd x
  one_by Gen (Names names) options (Text beside) other a b x y = absurd x
  one_by Gen (Number number) options (Text beside) other a b x y = absurd x

  one_text_of : (request : PlainRequest) (contents : List Content) → ¬ (request.command ≡ Member) → (a b : List ℕ) → IsTextOf request contents a → IsTextOf request contents b → a ≡ b
  one_text_of request contents other a b x y =
      let same = one_meaning contents y.0 x.0 y.1 x.1 in
      one_by request.command request.arguments request.options x.0 other a b x.3 (subst (λ (m : Meant). IsTextBy request.command request.arguments request.options m b) same y.3)

  pub one_text : (asked : Result PlainRequest ℕ) (files : Option Files) → AreTold files asked → AskForOneText asked → (a b : List ℕ) → IsAskedText asked files a → IsAskedText asked files b → a ≡ b
  one_text (Ok request) files told other a b x y =
      let same : y.0 ≡ x.0 = contents_once files request y.0 x.0 told y.1 x.1 in
      one_text_of request x.0 other a b x.2 (subst (λ (contents : List Content). IsTextOf request contents b) same y.2)
  one_text (Err at) files told other a b x y = absurd x
