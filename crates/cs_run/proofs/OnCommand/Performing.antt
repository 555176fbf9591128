-- How a run ends that writes what was asked for, from what its calls did.
use Rattle.std.proofs.Common.{◌≡◌, ◌<◌, ◌≤◌, ℕ, List, [], ◌∷◌, IsTrue, true, false, Option, None, Ok, Err, length, refl, sym, ap, ◌∙◌, subst, inl, inr, arith}
use Rattle.cs_io.specs.Uses.{DeskUse, SinkUse, IsUnused}
use Rattle.cs_io.specs.declared.halt.Halt.TheVariants.{Failed, Memory}
use Rattle.cs_run.specs.declared.input.judging.Meant.{Meant}
use Rattle.cs_run.specs.declared.input.judging.Meant.TheVariants.{Grammar, Nothing, Pair, Text}
use Rattle.cs_run.specs.declared.input.judging.PairAndText.{PairAndText}
use Rattle.cs_run.specs.declared.input.judging.Pair as pair
use Rattle.cs_run.specs.declared.input.refusal.Refusal.{Refusal}
use Rattle.cs_run.specs.declared.input.refusal.Refusal.TheVariants.{ManyChains, States, TextTokens}
use Rattle.cs_run.specs.declared.input.refusal.Stop.{Stop}
use Rattle.cs_run.specs.declared.input.refusal.Stop.TheVariants as stop
use Rattle.cs_io.specs.Desk.{Files}
use Rattle.cs_run.specs.Command.Scanned.{WritesByScanner, WritesChains, WritesLexical, WritesMembership, WritesTokens}
use Rattle.cs_run.specs.Input.Files.{AreContents, Content, HaveContents, IsMeantFor, IsNoFile, Mean, most_for}
use Rattle.cs_run.specs.Input.Read.{AreMeant, HasShortText}
use Rattle.cs_run.specs.Input.Refusal.{HasManyStates, Stops}
use Rattle.cs_yacc.specs.Reading.File.{File}
use Rattle.cs_words.specs.declared.command.Command.{Command}
use Rattle.cs_words.specs.declared.command.Command.TheVariants.{Check, Gen, Member, OfGrammar, OfPair}
use Rattle.cs_words.specs.declared.command.GrammarCommand.TheVariants as of_grammar
use Rattle.cs_words.specs.declared.command.PairCommand.{PairCommand}
use Rattle.cs_words.specs.declared.command.PairCommand.TheVariants as of_pair
use Rattle.cs_words.specs.declared.command.Role.{Role}
use Rattle.cs_words.specs.declared.command.Role.TheVariants.{Lex, Manifest, Text as TextRole, Yacc}
use Rattle.cs_words.specs.declared.options.Options.{Options}
use Rattle.cs_words.specs.declared.request.Request.{Request}
use Rattle.cs_words.specs.Commands.{lists_chains, taken_of}
use Rattle.cs_words.specs.Requests.{IsAsked, Named, Names, Number, PlainArguments, PlainRequest, files_of}
use Rattle.cs_words.proofs.OneRequest.{one_asked}
use Rattle.cs_run.specs.declared.ending.ending.Ending.{Ending}
use Rattle.cs_run.specs.declared.ending.ending.Ending.TheVariants.{BadWord, Denied, Halted, Written, Refused, NoFile}
use Rattle.cs_run.specs.Ending.Ending.{Ends, GrewAsAsked, Performs}
use Rattle.cs_run.specs.Ending.Files.{Accepted, HasFewChains, IsBeyond, IsWithin, RefusesFor, scanning_of}
use Rattle.cs_chain.specs.Chains.Chains.{chains}
use Rattle.cs_chain_text.specs.Entries.Text.{IsChainsText}
use Rattle.cs_choices.specs.declared.weigh.Weigh.TheVariants.{Nodes}
use Rattle.cs_grammar.specs.Grammar.{PlainGrammar}
use Rattle.cs_scanner.specs.Scan.Scan.{Scans}
use Rattle.cs_deep.specs.Membership.{IsMemberText}
use Rattle.cs_run.specs.Ending.Summary.{IsSummary}
use Rattle.cs_run.specs.Ending.Texts.{Denies, IsTextBy, IsTextOf, IsTextOfPair, NoneDenies}
use Rattle.cs_run.specs.Writer.Suite.{IsRules, IsSuite}
use Rattle.cs_io.specs.Asked.{HasRoomForAll}
use Rattle.cs_run.specs.Command.Carrying.{CarriesOut, GrewByEach, GrewBySome, HasTooManyChains, HasTooManyStates, TakesGrammar, TakesPair, TakesThird, Writes, WritesAsked, WritesBy, WritesByPair, WritesOfGrammar, WritesOfPair, WritesSummary, WritesSure, WritingEnds}
use Rattle.cs_run.specs.Command.Words.{AskForNoFiles, ending_of}
use Rattle.cs_run.proofs.OnInput.Meanings.{one_meaning}

-- a read of the desk failed
abbrev Changed : DeskUse → Type 0
Changed desk = ¬ (desk.faults.after ≡ desk.faults.before)

abbrev IsSteady : DeskUse → Type 0
IsSteady desk = IsTrue desk.steady → desk.faults.after ≡ desk.faults.before

-- ---- files that are given

module _ (request : PlainRequest) (contents : List Content) (desk : DeskUse) (out : SinkUse) (are : AreContents desk.files (files_of request) contents) where
  ends_so : (ending : Ending) → WritingEnds (Accepted request.command contents) (λ refusal. RefusesFor request.command refusal contents) (IsTextOf request contents) (GrewAsAsked request.command (IsTextOf request contents)) (Denies request.command) ending out → Ends ending (Ok request) desk out
  ends_so Written ends = ((ends.1.0, (contents, are, ends.1.1.0), ends.1.1.1, ends.1.2), ends.2)
  ends_so Denied ends = ((ends.1.0, (contents, are, ends.1.1.0), ends.1.1.1, ends.1.2), ends.2)
  ends_so (Refused refusal) ends = ((contents, are, ends.0), ends.1)
  ends_so (Halted Failed) ends = ((contents, are, (ends.0, ends.1)), ends.2)
  ends_so (Halted Memory) (inl unused) = inl unused
  ends_so (Halted Memory) (inr part) = inr (contents, are, (part.0, part.1))
  ends_so (BadWord at) ends = absurd ends
  ends_so (NoFile role) ends = absurd ends

-- what was carried out of files that were read
pub performed : (request : PlainRequest) (meant : Meant) (desk : DeskUse) (out : SinkUse) (ending : Ending)
    → HaveContents desk.files (files_of request) (λ contents. Mean contents meant)
    → (Changed desk → IsNoFile {A = Meant} (Ok meant)) → IsSteady desk → CarriesOut request meant ending out → Performs ending (Ok request) desk out
performed request meant desk out ending read calm steady carries =
    let writes = carries read.0 read.2 in record {
      ends = ends_so request read.0 desk out read.1 ending writes.ends;
      failed = λ changed. absurd (let is = (calm changed).1 in cc);
      steady = steady;
      room = λ fits. writes.room (λ text is. fits text (read.0, read.1, is));
    }

-- ---- files that are not given

stops_so : (request : PlainRequest) (why : Stop) (desk : DeskUse) (out : SinkUse) → Stops desk.files desk.faults (files_of request) why → IsUnused out → Ends (ending_of why) (Ok request) desk out
stops_so request (stop.NoFile role) desk out stops unused = (stops, unused)
stops_so request (stop.Refused refusal) desk out stops unused = ((stops.0, stops.1, inl stops.2), unused)
stops_so request stop.Memory desk out stops unused = inl unused

pub stopped_so : (request : PlainRequest) (why : Stop) (desk : DeskUse) (out : SinkUse) (ending : Ending) → ending ≡ ending_of why
    → Stops desk.files desk.faults (files_of request) why
    → (Changed desk → IsNoFile {A = Meant} (Err why)) → IsSteady desk → IsUnused out → Performs ending (Ok request) desk out
stopped_so request why desk out ending same stops failed steady unused = record {
  ends = subst (λ (e : Ending). Ends e (Ok request) desk out) (sym same) (stops_so request why desk out stops unused);
  failed = λ changed.
      (let found = failed changed in
      let is : Err why ≡ Err (stop.NoFile found.0) = found.1 in
      let whys : why ≡ stop.NoFile found.0 = cc in
      (found.0, same ∙ ap ending_of whys));
  steady = steady;
  room = λ fits. unused.1;
}

-- ---- one text for another

module _ (accepted also : Type 0) (refused refuses : Refusal → Type 0) (Is Are : List ℕ → Type 0) (Part Parts : SinkUse → Type 0) (No : List ℕ → Type 0) (out : SinkUse)
    (to : accepted → also) (so : (refusal : Refusal) → refused refusal → refuses refusal) (there : accepted → (text : List ℕ) → Is text → Are text) (parts : accepted → Part out → Parts out) where
  ends_more : (e : Ending) → WritingEnds accepted refused Is Part No e out → WritingEnds also refuses Are Parts No e out
  ends_more Written ends = (to ends.0, (ends.1.0, (there ends.0 ends.1.0 ends.1.1.0, ends.1.1.1), ends.1.2), ends.2)
  ends_more Denied ends = (to ends.0, (ends.1.0, (there ends.0 ends.1.0 ends.1.1.0, ends.1.1.1), ends.1.2), ends.2)
  ends_more (Refused refusal) ends = (so refusal ends.0, ends.1)
  ends_more (Halted Failed) ends = (to ends.0, parts ends.0 ends.1, ends.2)
  ends_more (Halted Memory) (inl unused) = inl unused
  ends_more (Halted Memory) (inr part) = inr (to part.0, parts part.0 part.1)
  ends_more (BadWord at) ends = ends
  ends_more (NoFile role) ends = ends

  room_more : (e : Ending) → WritingEnds accepted refused Is Part No e out → (HasRoomForAll Is out.room → out.faults.after ≡ out.faults.before) → HasRoomForAll Are out.room → out.faults.after ≡ out.faults.before
  room_more Written ends room fits = ends.2
  room_more Denied ends room fits = ends.2
  room_more (Refused refusal) ends room fits = ends.1.1
  room_more (Halted Failed) ends room fits = room (λ text is. fits text (there ends.0 text is))
  room_more (Halted Memory) (inl unused) room fits = unused.1
  room_more (Halted Memory) (inr part) room fits = room (λ text is. fits text (there part.0 text is))
  room_more (BadWord at) ends room fits = absurd ends
  room_more (NoFile role) ends room fits = absurd ends

  writes_more : (e : Ending) → Writes accepted refused Is Part No e out → Writes also refuses Are Parts No e out
  writes_more e writes = record { ends = ends_more e writes.ends; room = room_more e writes.ends writes.room }

-- a part of one text is a part of the other
part_more : (c : Command) (Is Are : List ℕ → Type 0) (out : SinkUse) → ((text : List ℕ) → Is text → Are text) → ((text : List ℕ) → Are text → Is text) → GrewAsAsked c Is out → GrewAsAsked c Are out
part_more Member Is Are out there back (inl same) = inl same
part_more Member Is Are out there back (inr (text, is, part)) = inr (text, there text is, part)
part_more (OfGrammar c) Is Are out there back part = λ text is. part text (back text is)
part_more (OfPair c) Is Are out there back part = λ text is. part text (back text is)
part_more Check Is Are out there back part = λ text is. part text (back text is)
part_more Gen Is Are out there back (inl same) = inl same
part_more Gen Is Are out there back (inr (text, is, part)) = inr (text, there text is, part)

-- ---- by what contents mean

-- what is written by a meaning is written by the contents that mean it
pub carried : (request : PlainRequest) (meant : Meant) (ending : Ending) (out : SinkUse) → WritesBy request.command request.arguments request.options meant ending out → CarriesOut request meant ending out
carried request meant ending out writes contents mean =
    writes_more (IsWithin meant request.command) (Accepted request.command contents) (λ refusal. IsBeyond meant refusal request.command) (λ refusal. RefusesFor request.command refusal contents)
    Is Are (GrewAsAsked request.command Is) (GrewAsAsked request.command Are) (Denies request.command) out
    (λ within. (meant, mean, within)) (λ refusal beyond. inr (meant, mean, beyond)) there (λ within part. part_more request.command Is Are out (there within) back part) ending writes
  where
    Is : List ℕ → Type 0
    Is text = IsTextBy request.command request.arguments request.options meant text

    Are : List ℕ → Type 0
    Are text = IsTextOf request contents text

    there : IsWithin meant request.command → (text : List ℕ) → Is text → Are text
    there within text is = (meant, mean, within, is)

    back : (text : List ℕ) → Are text → Is text
    back text is = subst (λ (m : Meant). IsTextBy request.command request.arguments request.options m text) (one_meaning contents is.0 meant is.1 mean) is.3

-- ---- each row

module _ (ending : Ending) (out : SinkUse) where
  -- where there is a text in any case
  sure_row : (within : Type 0) (beyond : Refusal → Type 0) (Is : List ℕ → Type 0) (Part : SinkUse → Type 0) → within → Writes (Unit {0}) (λ refusal. ⊥) Is Part NoneDenies ending out
      → Writes within beyond Is Part NoneDenies ending out
  sure_row within beyond Is Part is writes =
      writes_more (Unit {0}) within (λ refusal. ⊥) beyond Is Is Part Part NoneDenies out (λ yes. is) (λ refusal none. absurd none) (λ yes text has. has) (λ yes part. part) ending writes

  -- where there is one unless the automaton has too many states
  pair_row : (within : Type 0) (beyond : Refusal → Type 0) (Is : List ℕ → Type 0) (two : pair.Pair) → ((¬ HasManyStates two.lex) → within) → (HasManyStates two.lex → beyond States)
      → WritesOfPair two Is ending out → Writes within beyond Is (GrewByEach Is) NoneDenies ending out
  pair_row within beyond Is two few many writes =
      writes_more (¬ HasManyStates two.lex) within (HasTooManyStates two) beyond Is Is (GrewByEach Is) (GrewByEach Is) NoneDenies out
      few (λ refusal why. subst beyond (sym why.0) (many why.1)) (λ yes text has. has) (λ yes part. part) ending writes

  -- a command that doesn't list chains is beyond no limit of them
  abbrev HasNoLimit : Command → Type 0
  HasNoLimit c = lists_chains c ≡ false

  none_listed : (c : Command) (g : PlainGrammar) → HasNoLimit c → HasFewChains c g
  none_listed c g none = λ lists. absurd (let both : true ≡ false = sym lists ∙ none in cc)

  pub rules_so : (c : Command) (arguments : PlainArguments) (options : Options) (file : File) → c ≡ OfGrammar of_grammar.Rules → WritesSure (IsRules file) ending out
      → WritesBy c arguments options (Grammar file) ending out
  rules_so c arguments options file is writes =
      subst (λ (d : Command). WritesBy d arguments options (Grammar file) ending out) (sym is)
      (sure_row (IsWithin (Grammar file) (OfGrammar of_grammar.Rules)) (λ refusal. IsBeyond (Grammar file) refusal (OfGrammar of_grammar.Rules))
      (IsTextBy (OfGrammar of_grammar.Rules) arguments options (Grammar file)) (GrewByEach (IsRules file)) (none_listed (OfGrammar of_grammar.Rules) file.grammar refl) writes)

  pub gen_so : (c : Command) (arguments : PlainArguments) (options : Options) (seed : ℕ) → c ≡ Gen → arguments ≡ Number seed → WritesSummary seed ending out → WritesBy c arguments options Nothing ending out
  gen_so c arguments options seed is given writes =
      subst (λ (d : Command). WritesBy d arguments options Nothing ending out) (sym is)
      (subst (λ (a : PlainArguments). WritesBy Gen a options Nothing ending out) (sym given)
      (sure_row (IsWithin Nothing Gen) (λ refusal. IsBeyond Nothing refusal Gen) (IsTextBy Gen (Number seed) options Nothing) (GrewBySome (IsSummary seed)) tt writes))

  -- the text that a command asks for by a pair was written, which lists no chains
  pair_so : (command : PairCommand) (c : Command) (arguments : PlainArguments) (options : Options) (two : pair.Pair) → HasNoLimit (OfPair command) → c ≡ OfPair command
      → WritesOfPair two (IsTextOfPair command options two.yacc (scanning_of two.lex)) ending out → WritesBy c arguments options (Pair two) ending out
  pair_so command c arguments options two none is writes =
      subst (λ (d : Command). WritesBy d arguments options (Pair two) ending out) (sym is)
      (pair_row (IsWithin (Pair two) (OfPair command)) (λ refusal. IsBeyond (Pair two) refusal (OfPair command)) (IsTextBy (OfPair command) arguments options (Pair two)) two
      (λ few. (few, none_listed (OfPair command) two.yacc.grammar none)) (λ many. many) writes)

  pub suite_so : (c : Command) (arguments : PlainArguments) (options : Options) (two : pair.Pair) → c ≡ OfPair of_pair.Suite → WritesOfPair two (IsSuite two options) ending out → WritesBy c arguments options (Pair two) ending out
  suite_so c arguments options two is writes = pair_so of_pair.Suite c arguments options two refl is writes

  pub lexical_so : (c : Command) (arguments : PlainArguments) (options : Options) (two : pair.Pair) → c ≡ OfPair of_pair.Lexical → WritesLexical two ending out → WritesBy c arguments options (Pair two) ending out
  lexical_so c arguments options two is writes = pair_so of_pair.Lexical c arguments options two refl is writes

  -- ---- chains

  module _ (c : Command) (g : PlainGrammar) (lists : IsTrue (lists_chains c)) where
    few_chains : length (chains g) ≤ 1000000 → HasFewChains c g
    few_chains few = λ listed. few

    many_chains : (refusal : Refusal) → (refusal ≡ ManyChains (length (chains g))) × (1000000 < length (chains g)) → HasTooManyChains c g refusal
    many_chains refusal why = (length (chains g), why.0, (lists, refl, why.1))

    -- a text of chains was written for a command that lists them
    pub listed_so : (Is : List ℕ → Type 0) → WritesChains g Is ending out → WritesOfGrammar c g Is ending out
    listed_so Is writes =
        writes_more (length (chains g) ≤ 1000000) (HasFewChains c g) (λ refusal. (refusal ≡ ManyChains (length (chains g))) × (1000000 < length (chains g))) (HasTooManyChains c g) Is Is
        (GrewByEach Is) (GrewByEach Is) NoneDenies out few_chains many_chains (λ few text has. has) (λ few part. part) ending writes

  pub chains_so : (c : Command) (arguments : PlainArguments) (options : Options) (file : File) → c ≡ OfGrammar of_grammar.Chains → WritesChains file.grammar (IsChainsText file None Nodes) ending out
      → WritesBy c arguments options (Grammar file) ending out
  chains_so c arguments options file is writes =
      subst (λ (d : Command). WritesBy d arguments options (Grammar file) ending out) (sym is)
      (writes_more (HasFewChains listing file.grammar) (IsWithin (Grammar file) listing) (HasTooManyChains listing file.grammar) (λ refusal. IsBeyond (Grammar file) refusal listing)
      (IsChainsText file None Nodes) (IsTextBy listing arguments options (Grammar file)) (GrewByEach (IsChainsText file None Nodes)) (GrewByEach (IsChainsText file None Nodes)) NoneDenies out
      (λ few. few) (λ refusal why. subst (λ (r : Refusal). IsBeyond (Grammar file) r listing) (sym why.1) why.2) (λ few text has. has) (λ few part. part) ending
      (listed_so listing file.grammar refl (IsChainsText file None Nodes) writes))
    where
      listing : Command
      listing = OfGrammar of_grammar.Chains

  -- ---- by a scanner

  -- what was written by a scanner of few states was written by the pair
  pub scanned_so : (command : PairCommand) (options : Options) (two : pair.Pair) → ¬ HasManyStates two.lex → WritesByScanner command options two.yacc (scanning_of two.lex) ending out
      → WritesByPair (OfPair command) options two ending out
  scanned_so command options two few writes = λ arguments.
      writes_more (HasFewChains (OfPair command) two.yacc.grammar) (IsWithin (Pair two) (OfPair command)) (HasTooManyChains (OfPair command) two.yacc.grammar)
      (λ refusal. IsBeyond (Pair two) refusal (OfPair command)) Is Is (GrewByEach Is) (GrewByEach Is) NoneDenies out (λ listed. (few, listed))
      (λ refusal why. subst (λ (r : Refusal). IsBeyond (Pair two) r (OfPair command)) (sym why.1) (few, why.2)) (λ listed text has. has) (λ listed part. part) ending writes
    where
      Is : List ℕ → Type 0
      Is text = IsTextOfPair command options two.yacc (scanning_of two.lex) text

-- what is written of the tokens that a text scans to is written of the text
pub tokens_so : (beside : PairAndText) (tokens : List ℕ) (ending : Ending) (out : SinkUse) → ¬ HasManyStates beside.pair.lex → Scans (scanning_of beside.pair.lex) beside.text tokens
    → WritesTokens beside.pair.yacc.grammar tokens ending out → WritesMembership beside ending out
tokens_so beside tokens ending out few scans writes arguments options =
    writes_more (length tokens ≤ 2000) (IsWithin (Text beside) Member) (λ refusal. (refusal ≡ TextTokens (length tokens)) × (2000 < length tokens)) (λ refusal. IsBeyond (Text beside) refusal Member)
    Is Are (GrewBySome Is) (GrewAsAsked Member Are) NoneDenies out
    (λ short. (few, (λ takes. (length tokens, (tokens, scans, refl), short))))
    (λ refusal why. subst (λ (r : Refusal). IsBeyond (Text beside) r Member) (sym why.0) (few, refl, (tokens, scans, refl), why.1))
    (λ short text is. (tokens, scans, is)) (λ short part. fronts part) ending writes
  where
    Is : List ℕ → Type 0
    Is text = IsMemberText beside.pair.yacc.grammar tokens text

    Are : List ℕ → Type 0
    Are text = IsTextBy Member arguments options (Text beside) text

    fronts : GrewBySome Is out → GrewBySome Are out
    fronts (inl same) = inl same
    fronts (inr (text, is, part)) = inr (text, (tokens, scans, is), part)

-- a third file that was read is no longer than the longest may be
pub text_short : (files : Option Files) (named : List Named) (meant : Meant) → AreMeant files named meant → HasShortText meant
text_short files named Nothing read = tt
text_short files named (Grammar file) read = tt
text_short files named (Pair two) read = tt
text_short files named (Text beside) read = by_contents read.0 read.2
  where
    at_most : (role : Role) → most_for role ≤ 67108864
    at_most Yacc = omega arith
    at_most Lex = omega arith
    at_most TextRole = omega arith
    at_most Manifest = omega arith

    by_contents : (contents : List Content) → Mean contents (Text beside) → length beside.text ≤ 67108864
    by_contents [] mean = absurd mean
    by_contents (one ∷ []) mean = absurd mean
    by_contents (one ∷ other ∷ []) mean = absurd mean
    by_contents (one ∷ other ∷ third ∷ []) mean = omega (arith, mean.2, at_most third.role, ap length mean.5)
    by_contents (one ∷ other ∷ third ∷ more ∷ contents) mean = absurd mean

-- ---- by what was read

pub performs_as : (request : PlainRequest) (meant : Meant) (desk : DeskUse) (out : SinkUse) (ending : Ending)
    → HaveContents desk.files (files_of request) (λ contents. Mean contents meant)
    → (Changed desk → IsNoFile {A = Meant} (Ok meant)) → IsSteady desk → WritesBy request.command request.arguments request.options meant ending out → Performs ending (Ok request) desk out
performs_as request meant desk out ending read calm steady writes = performed request meant desk out ending read calm steady (carried request meant ending out writes)

-- what is written by the meaning that was met
pub asked_as : (ending : Ending) (out : SinkUse) (request : Request) (meant m : Meant) → meant ≡ m → WritesAsked request m ending out → WritesAsked request meant ending out
asked_as ending out request meant m is writes = subst (λ (n : Meant). WritesAsked request n ending out) (sym is) writes

pub no_files_so : {D : Type 0} (words : List (List ℕ)) (request : PlainRequest) (old new : D) → IsAsked words (Ok request) → (files_of request ≡ [] → new ≡ old) → AskForNoFiles words → new ≡ old
no_files_so words request old new asked still asks =
    let both : Ok asks.0 ≡ Ok request = one_asked words (Ok asks.0) (Ok request) asks.1 asked in
    let same : asks.0 ≡ request = cc in
    still (subst (λ (r : PlainRequest). files_of r ≡ []) same asks.2)

-- ---- which commands are given what

-- a yacc file is given to a command that takes one
pub takes_grammar : (c : Command) (arguments : PlainArguments) (meant : Meant) (file : File) → meant ≡ Grammar file → IsMeantFor (taken_of c) arguments meant → TakesGrammar c
takes_grammar c arguments meant file is form = by_row c arguments (subst (λ (m : Meant). IsMeantFor (taken_of c) arguments m) is form)
  where
    by_row : (c : Command) (arguments : PlainArguments) → IsMeantFor (taken_of c) arguments (Grammar file) → TakesGrammar c
    by_row (OfGrammar command) arguments form = refl
    by_row (OfPair command) (Names names) form = absurd form
    by_row (OfPair command) (Number number) form = absurd form
    by_row Member (Names names) form = absurd form
    by_row Member (Number number) form = absurd form
    by_row Check (Names names) form = absurd form
    by_row Check (Number number) form = absurd form
    by_row Gen (Names names) form = absurd form
    by_row Gen (Number number) form = absurd form

-- a pair of files is given to a command that takes two
pub takes_pair : (c : Command) (arguments : PlainArguments) (meant : Meant) (two : pair.Pair) → meant ≡ Pair two → IsMeantFor (taken_of c) arguments meant → TakesPair c
takes_pair c arguments meant two is form = by_row c arguments (subst (λ (m : Meant). IsMeantFor (taken_of c) arguments m) is form)
  where
    by_row : (c : Command) (arguments : PlainArguments) → IsMeantFor (taken_of c) arguments (Pair two) → TakesPair c
    by_row (OfGrammar command) (Names names) form = absurd form
    by_row (OfGrammar command) (Number number) form = absurd form
    by_row (OfPair command) arguments form = refl
    by_row Member (Names names) form = absurd form
    by_row Member (Number number) form = absurd form
    by_row Check (Names names) form = absurd form
    by_row Check (Number number) form = absurd form
    by_row Gen (Names names) form = absurd form
    by_row Gen (Number number) form = absurd form

-- and both and a third file to one that takes three
pub takes_third : (c : Command) (arguments : PlainArguments) (meant : Meant) (beside : PairAndText) → meant ≡ Text beside → IsMeantFor (taken_of c) arguments meant → TakesThird c
takes_third c arguments meant beside is form = by_row c arguments (subst (λ (m : Meant). IsMeantFor (taken_of c) arguments m) is form)
  where
    by_row : (c : Command) (arguments : PlainArguments) → IsMeantFor (taken_of c) arguments (Text beside) → TakesThird c
    by_row (OfGrammar command) (Names names) form = absurd form
    by_row (OfGrammar command) (Number number) form = absurd form
    by_row (OfPair command) (Names names) form = absurd form
    by_row (OfPair command) (Number number) form = absurd form
    by_row Member arguments form = refl
    by_row Check arguments form = refl
    by_row Gen (Names names) form = absurd form
    by_row Gen (Number number) form = absurd form

-- nothing is given to `gen` alone, with its number
pub takes_seed : (c : Command) (arguments : PlainArguments) (meant : Meant) → meant ≡ Nothing → IsMeantFor (taken_of c) arguments meant → (c ≡ Gen) × ((seed : ℕ) × (arguments ≡ Number seed))
takes_seed c arguments meant is form = by_row c arguments (subst (λ (m : Meant). IsMeantFor (taken_of c) arguments m) is form)
  where
    by_row : (c : Command) (arguments : PlainArguments) → IsMeantFor (taken_of c) arguments Nothing → (c ≡ Gen) × ((seed : ℕ) × (arguments ≡ Number seed))
    by_row (OfGrammar command) (Names names) form = absurd form
    by_row (OfGrammar command) (Number number) form = absurd form
    by_row (OfPair command) (Names names) form = absurd form
    by_row (OfPair command) (Number number) form = absurd form
    by_row Member (Names names) form = absurd form
    by_row Member (Number number) form = absurd form
    by_row Check (Names names) form = absurd form
    by_row Check (Number number) form = absurd form
    by_row Gen (Names names) form = absurd form
    by_row Gen (Number number) form = (refl, (number, refl))

pub names_no_seed : (c : Command) (arguments : PlainArguments) (names : List (List ℕ)) (meant : Meant) → meant ≡ Nothing → IsMeantFor (taken_of c) arguments meant → arguments ≡ Names names → ⊥
names_no_seed c arguments names meant is form given =
    let seed = (takes_seed c arguments meant is form).1 in
    let both : Number seed.0 ≡ Names names = sym seed.1 ∙ given in cc
