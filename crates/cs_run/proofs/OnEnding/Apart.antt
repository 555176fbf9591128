-- Files that are asked for are accepted or refused, not both; and they are there.
use Rattle.std.proofs.Common.{◌≡◌, ◌⊎◌, ◌<◌, ℕ, List, [], ◌∷◌, Option, None, Some, Result, Ok, Err, IsOkAnd, length, true, refl, sym, ap, ◌∙◌, subst, inl, inr, arith}
use Rattle.std.specs.Prelude.{IsSome}
use Rattle.cs_check_text.proofs.OneText.{one_text}
use Rattle.cs_io.specs.Desk.{Files}
use Rattle.cs_io.specs.Uses.{Change, HasFailed}
use Rattle.cs_yacc.specs.Reading.File as yacc_file
use Rattle.cs_yacc.proofs.OnReading.OneFile as yacc
use Rattle.cs_lex.proofs.OnReading.OneRefusal as lex_refusal
use Rattle.cs_words.specs.declared.command.Command.{Command}
use Rattle.cs_words.specs.declared.command.Command.TheVariants.{Check, Gen, Member, OfGrammar, OfPair}
use Rattle.cs_words.specs.declared.command.Role.{Role}
use Rattle.cs_words.specs.declared.options.Options.{Options}
use Rattle.cs_words.specs.Requests.{Named, PlainArguments, PlainRequest, files_of}
use Rattle.cs_run.specs.declared.input.judging.Meant.{Meant}
use Rattle.cs_run.specs.declared.input.judging.Meant.TheVariants.{Grammar, Nothing, Pair, Text}
use Rattle.cs_run.specs.declared.input.judging.PairAndText.{PairAndText}
use Rattle.cs_run.specs.declared.input.judging.Pair as pair
use Rattle.cs_run.specs.declared.input.refusal.Refusal.{Refusal}
use Rattle.cs_run.specs.declared.input.refusal.Refusal.TheVariants.{ManyChains, OfLex, OfYacc, States, TextStops, TextTokens, TooLong}
use Rattle.cs_run.specs.Input.Files.{AreContents, Content, HasNoFile, HaveContents, Mean}
use Rattle.cs_run.specs.Input.Refusal.{AreShort, IsFirstLong, Refuses}
use Rattle.cs_grammar.specs.Grammar.{PlainGrammar}
use Rattle.cs_run.specs.Ending.Files.{Accepted, AreAccepted, AreRefused, HasFewChains, HasFewTokens, HasManyChains, HasNoFileFor, HasTokens, IsBeyond, IsWithin, RefusesFor, scanning_of}
use Rattle.cs_run.specs.Ending.Texts.{AreTold, Denies, DeniesAsked, IsAskedText, IsDenied, IsTextBy, IsTextOf}
use Rattle.cs_run.proofs.OnInput.Meanings.{one_meaning}
use Rattle.cs_scanner.specs.Scan.Scan.{StopsAt}
use Rattle.cs_scanner.proofs.OnScan.OneMatch.{runs_one}
use Rattle.cs_scanner.proofs.OnScan.Stopping.{stopped}

-- ---- contents

abbrev content_of : Role → List ℕ → Content
content_of role bytes = record { role = role; bytes = bytes }

same_content : (a b : Content) → a.role ≡ b.role → a.bytes ≡ b.bytes → a ≡ b
same_content a b roles bytes = ap (λ (r : Role). content_of r a.bytes) roles ∙ ap (λ (x : List ℕ). content_of b.role x) bytes

told_once : (files : Files) (named : List Named) (a b : List Content) → AreContents (Some files) named a → AreContents (Some files) named b → a ≡ b
told_once files [] [] [] one other = refl
told_once files [] [] (d ∷ b) one other = absurd other
told_once files [] (c ∷ a) b one other = absurd one
told_once files (named ∷ more) [] b one other = absurd one
told_once files (named ∷ more) (c ∷ a) [] one other = absurd other
told_once files (named ∷ more) (c ∷ a) (d ∷ b) one other =
    let found : Some c.bytes ≡ Some d.bytes = sym one.0.1 ∙ other.0.1 in
    let bytes : c.bytes ≡ d.bytes = cc in
    ap (λ (x : Content). x ∷ a) (same_content c d (one.0.0 ∙ sym other.0.0) bytes) ∙ ap (λ (xs : List Content). d ∷ xs) (told_once files more a b one.1 other.1)

none_once : (files : Option Files) (named : List Named) (a b : List Content) → named ≡ [] → AreContents files named a → AreContents files named b → a ≡ b
none_once files [] [] [] none one other = refl
none_once files [] [] (d ∷ b) none one other = absurd other
none_once files [] (c ∷ a) b none one other = absurd one
none_once files (named ∷ more) a b none one other = absurd cc

some_once : (files : Option Files) (named : List Named) (a b : List Content) → IsSome files → AreContents files named a → AreContents files named b → a ≡ b
some_once None named a b some one other = absurd cc
some_once (Some files) named a b some one other = told_once files named a b one other

-- where files are told, or none are asked for, they have one list of contents
pub contents_once : (files : Option Files) (request : PlainRequest) (a b : List Content) → AreTold files (Ok request) → AreContents files (files_of request) a → AreContents files (files_of request) b → a ≡ b
contents_once files request a b (inl some) one other = some_once files (files_of request) a b some one other
contents_once files request a b (inr none) one other = none_once files (files_of request) a b none one other

-- ---- bytes

none_long : (contents : List Content) (role : Role) → AreShort contents → IsFirstLong contents role → ⊥
none_long [] role short long = long
none_long (content ∷ contents) role short (inl is) = omega (arith, short.0, is.1)
none_long (content ∷ contents) role short (inr is) = none_long contents role short.1 is.1

-- what contents mean is not refused as they are read
text_read : (one other third : Content) (beside : PairAndText) (refusal : Refusal) → Mean (one ∷ other ∷ third ∷ []) (Text beside) → Refuses refusal (one ∷ other ∷ third ∷ []) → ⊥
text_read one other third beside (TooLong role) mean refused = none_long (one ∷ other ∷ third ∷ []) role (mean.0, (mean.1, (mean.2, tt))) refused
text_read one other third beside (OfYacc error) mean refused = yacc.refused_is_not_accepted one.bytes beside.pair.yacc error refused.1 mean.3
text_read one other third beside (OfLex error) mean refused = lex_refusal.refused_is_not_accepted other.bytes beside.pair.yacc beside.pair.lex error refused.1.1 mean.4
text_read one other third beside States mean refused = refused.1
text_read one other third beside (ManyChains found) mean refused = refused.1
text_read one other third beside (TextStops at) mean refused = refused.1
text_read one other third beside (TextTokens found) mean refused = refused.1

pair_read : (one other : Content) (two : pair.Pair) (refusal : Refusal) → Mean (one ∷ other ∷ []) (Pair two) → Refuses refusal (one ∷ other ∷ []) → ⊥
pair_read one other two (TooLong role) mean refused = none_long (one ∷ other ∷ []) role (mean.0, (mean.1, tt)) refused
pair_read one other two (OfYacc error) mean refused = yacc.refused_is_not_accepted one.bytes two.yacc error refused.1 mean.2
pair_read one other two (OfLex error) mean refused = lex_refusal.refused_is_not_accepted other.bytes two.yacc two.lex error refused.1.1 mean.3
pair_read one other two States mean refused = refused.1
pair_read one other two (ManyChains found) mean refused = refused.1
pair_read one other two (TextStops at) mean refused = refused.1
pair_read one other two (TextTokens found) mean refused = refused.1

grammar_read : (one : Content) (file : yacc_file.File) (refusal : Refusal) → Mean (one ∷ []) (Grammar file) → Refuses refusal (one ∷ []) → ⊥
grammar_read one file (TooLong role) mean refused = none_long (one ∷ []) role (mean.0, tt) refused
grammar_read one file (OfYacc error) mean refused = yacc.refused_is_not_accepted one.bytes file error refused.1 mean.1
grammar_read one file (OfLex error) mean refused = refused.1
grammar_read one file States mean refused = refused.1
grammar_read one file (ManyChains found) mean refused = refused.1
grammar_read one file (TextStops at) mean refused = refused.1
grammar_read one file (TextTokens found) mean refused = refused.1

nothing_read : (refusal : Refusal) → Refuses refusal [] → ⊥
nothing_read (TooLong role) refused = refused
nothing_read (OfYacc error) refused = refused.1
nothing_read (OfLex error) refused = refused.1
nothing_read States refused = refused.1
nothing_read (ManyChains found) refused = refused.1
nothing_read (TextStops at) refused = refused.1
nothing_read (TextTokens found) refused = refused.1

meaning_read : (contents : List Content) (meant : Meant) (refusal : Refusal) → Mean contents meant → Refuses refusal contents → ⊥
meaning_read [] Nothing refusal mean refused = nothing_read refusal refused
meaning_read [] (Grammar file) refusal mean refused = mean
meaning_read [] (Pair two) refusal mean refused = mean
meaning_read [] (Text beside) refusal mean refused = mean
meaning_read (one ∷ []) Nothing refusal mean refused = mean
meaning_read (one ∷ []) (Grammar file) refusal mean refused = grammar_read one file refusal mean refused
meaning_read (one ∷ []) (Pair two) refusal mean refused = mean
meaning_read (one ∷ []) (Text beside) refusal mean refused = mean
meaning_read (one ∷ other ∷ []) Nothing refusal mean refused = mean
meaning_read (one ∷ other ∷ []) (Grammar file) refusal mean refused = mean
meaning_read (one ∷ other ∷ []) (Pair two) refusal mean refused = pair_read one other two refusal mean refused
meaning_read (one ∷ other ∷ []) (Text beside) refusal mean refused = mean
meaning_read (one ∷ other ∷ third ∷ []) Nothing refusal mean refused = mean
meaning_read (one ∷ other ∷ third ∷ []) (Grammar file) refusal mean refused = mean
meaning_read (one ∷ other ∷ third ∷ []) (Pair two) refusal mean refused = mean
meaning_read (one ∷ other ∷ third ∷ []) (Text beside) refusal mean refused = text_read one other third beside refusal mean refused
meaning_read (one ∷ other ∷ third ∷ more ∷ contents) Nothing refusal mean refused = mean
meaning_read (one ∷ other ∷ third ∷ more ∷ contents) (Grammar file) refusal mean refused = mean
meaning_read (one ∷ other ∷ third ∷ more ∷ contents) (Pair two) refusal mean refused = mean
meaning_read (one ∷ other ∷ third ∷ more ∷ contents) (Text beside) refusal mean refused = mean

-- what is within the limits is beyond none
within_chains : (c : Command) (g : PlainGrammar) (found : ℕ) → HasFewChains c g → HasManyChains c g found → ⊥
within_chains c g found few many = omega (arith, few many.0, many.1, many.2)

within_tokens : (beside : PairAndText) (found : ℕ) → HasFewTokens beside → HasTokens beside found → 2000 < found → ⊥
within_tokens beside found few has many =
    let same = runs_one (scanning_of beside.pair.lex) few.1.1 has.0 true has.1 in
    omega (arith, few.1.2, few.2, has.2, many, ap length same.0)

within_stops : (beside : PairAndText) (at : ℕ) → HasFewTokens beside → StopsAt (scanning_of beside.pair.lex) beside.text at → ⊥
within_stops beside at few stops = (stopped (scanning_of beside.pair.lex) beside.text).covers few.1.0 few.1.1 at stops

within_limits : (c : Command) (meant : Meant) (refusal : Refusal) → IsWithin meant c → IsBeyond meant refusal c → ⊥
within_limits c Nothing (TooLong role) within beyond = beyond
within_limits c Nothing (OfYacc error) within beyond = beyond
within_limits c Nothing (OfLex error) within beyond = beyond
within_limits c Nothing States within beyond = beyond
within_limits c Nothing (ManyChains found) within beyond = beyond
within_limits c Nothing (TextStops at) within beyond = beyond
within_limits c Nothing (TextTokens found) within beyond = beyond
within_limits c (Grammar file) (TooLong role) within beyond = beyond
within_limits c (Grammar file) (OfYacc error) within beyond = beyond
within_limits c (Grammar file) (OfLex error) within beyond = beyond
within_limits c (Grammar file) States within beyond = beyond
within_limits c (Grammar file) (ManyChains found) within beyond = within_chains c file.grammar found within beyond
within_limits c (Grammar file) (TextStops at) within beyond = beyond
within_limits c (Grammar file) (TextTokens found) within beyond = beyond
within_limits c (Pair two) (TooLong role) within beyond = beyond
within_limits c (Pair two) (OfYacc error) within beyond = beyond
within_limits c (Pair two) (OfLex error) within beyond = beyond
within_limits c (Pair two) States within beyond = within.0 beyond
within_limits c (Pair two) (ManyChains found) within beyond = within_chains c two.yacc.grammar found within.1 beyond.1
within_limits c (Pair two) (TextStops at) within beyond = beyond
within_limits c (Pair two) (TextTokens found) within beyond = beyond
within_limits c (Text beside) (TooLong role) within beyond = beyond
within_limits c (Text beside) (OfYacc error) within beyond = beyond
within_limits c (Text beside) (OfLex error) within beyond = beyond
within_limits c (Text beside) States within beyond = within.0 beyond
within_limits c (Text beside) (ManyChains found) within beyond = beyond
within_limits c (Text beside) (TextStops at) within beyond = within_stops beside at (within.1 beyond.1) beyond.2
within_limits c (Text beside) (TextTokens found) within beyond = within_tokens beside found (within.1 beyond.1) beyond.2 beyond.3

contents_apart : (c : Command) (contents : List Content) (meant : Meant) (refusal : Refusal) → Mean contents meant → IsWithin meant c → RefusesFor c refusal contents → ⊥
contents_apart c contents meant refusal mean within (inl read) = meaning_read contents meant refusal mean read
contents_apart c contents meant refusal mean within (inr (other, means, beyond)) =
    within_limits c meant refusal within (subst (λ (m : Meant). IsBeyond m refusal c) (one_meaning contents other meant means mean) beyond)

-- ---- what is asked for

apart : (files : Option Files) (request : PlainRequest) → AreTold files (Ok request) → AreAccepted files request → AreRefused files request → ⊥
apart files request told accepted refused =
    let same : refused.1.0 ≡ accepted.0 = contents_once files request refused.1.0 accepted.0 told refused.1.1 accepted.1 in
    contents_apart request.command accepted.0 accepted.2.0 refused.0 accepted.2.1 accepted.2.2 (subst (λ (xs : List Content). RefusesFor request.command refused.0 xs) same refused.1.2)

-- all files that are asked for are there
abbrev pub AreThere : Option Files → PlainRequest → Type 0
AreThere files request = HaveContents files (files_of request) (λ contents. Unit {0})

read_failed : (files : Files) (faults : Change ℕ) (named : List Named) (contents : List Content) (role : Role) → AreContents (Some files) named contents → HasNoFile (Some files) faults named role → HasFailed faults
read_failed files faults [] contents role are none = absurd none
read_failed files faults (named ∷ more) [] role are none = absurd are
read_failed files faults (named ∷ more) (content ∷ contents) role are (inl (same, inl failed)) = failed
read_failed files faults (named ∷ more) (content ∷ contents) role are (inl (same, inr missing)) =
    absurd (let both : Some content.bytes ≡ None = sym are.0.1 ∙ missing in cc)
read_failed files faults (named ∷ more) (content ∷ contents) role are (inr (there, none)) = read_failed files faults more contents role are.1 none

no_file : (files : Option Files) (named : List Named) (faults : Change ℕ) (role : Role) → IsSome files ⊎ (named ≡ []) → HaveContents files named (λ contents. Unit {0}) → HasNoFile files faults named role → HasFailed faults
no_file None named faults role (inl some) there none = absurd cc
no_file (Some files) named faults role (inl some) there none = read_failed files faults named there.0 role there.1 none
no_file files [] faults role (inr empty) there none = absurd none
no_file files (named ∷ more) faults role (inr empty) there none = absurd cc

text_accepted : (request : PlainRequest) (contents : List Content) (text : List ℕ) → IsTextOf request contents text → Accepted request.command contents
text_accepted request contents text is = (is.0, is.1, is.2)

-- ---- what `check` denies

-- a denial and another text that is asked for by one meaning are the same
denies_same : (c : Command) (arguments : PlainArguments) (options : Options) (meant : Meant) (a b : List ℕ) → Denies c b
    → IsTextBy c arguments options meant a → IsTextBy c arguments options meant b → a ≡ b
denies_same (OfGrammar command) arguments options meant a b denies x y = absurd denies
denies_same (OfPair command) arguments options meant a b denies x y = absurd denies
denies_same Member arguments options meant a b denies x y = absurd denies
denies_same Check arguments options Nothing a b denies x y = absurd x
denies_same Check arguments options (Grammar file) a b denies x y = absurd x
denies_same Check arguments options (Pair two) a b denies x y = absurd x
denies_same Check arguments options (Text beside) a b denies x y = one_text beside.pair.yacc (scanning_of beside.pair.lex) beside.text a b x y
denies_same Gen arguments options meant a b denies x y = absurd denies

denied_text : (request : PlainRequest) (contents : List Content) (a b : List ℕ) → Denies request.command b → IsTextOf request contents a → IsTextOf request contents b → a ≡ b
denied_text request contents a b denies x y =
    let same = one_meaning contents y.0 x.0 y.1 x.1 in
    denies_same request.command request.arguments request.options x.0 a b denies x.3
    (subst (λ (m : Meant). IsTextBy request.command request.arguments request.options m b) same y.3)

-- where files are told, and a text is asked for that is no denial, none is
pub none_denied : (asked : Result PlainRequest ℕ) (files : Option Files) (text : List ℕ) → AreTold files asked → IsAskedText asked files text → ¬ DeniesAsked asked text → ¬ IsDenied asked files
none_denied (Ok request) files text told is not denied =
    let contents : denied.1.0 ≡ is.0 = contents_once files request denied.1.0 is.0 told denied.1.1 is.1 in
    let also : IsTextOf request is.0 denied.0 = subst (λ (xs : List Content). IsTextOf request xs denied.0) contents denied.1.2 in
    not (subst (λ (t : List ℕ). Denies request.command t) (sym (denied_text request is.0 text denied.0 denied.2 is.2 also)) denied.2)
none_denied (Err at) files text told is not denied = is

-- ---- the same of words that ask for something

pub asked_apart : (asked : Result PlainRequest ℕ) (files : Option Files) → AreTold files asked → IsOkAnd asked (AreAccepted files) → IsOkAnd asked (AreRefused files) → ⊥
asked_apart (Ok request) files told accepted refused = apart files request told accepted refused
asked_apart (Err at) files told accepted refused = accepted

pub asked_no_file : (asked : Result PlainRequest ℕ) (files : Option Files) (faults : Change ℕ) (role : Role) → AreTold files asked → IsOkAnd asked (AreThere files) → IsOkAnd asked (λ request. HasNoFileFor files request faults role) → HasFailed faults
asked_no_file (Ok request) files faults role told there none = no_file files (files_of request) faults role told there none
asked_no_file (Err at) files faults role told there none = absurd there

pub asked_more : {P Q : PlainRequest → Type 0} (asked : Result PlainRequest ℕ) → IsOkAnd asked P → ((request : PlainRequest) → P request → Q request) → IsOkAnd asked Q
asked_more (Ok request) is more = more request is
asked_more (Err at) is more = is

pub asked_accepted : (asked : Result PlainRequest ℕ) (files : Option Files) (text : List ℕ) → IsAskedText asked files text → IsOkAnd asked (AreAccepted files)
asked_accepted asked files text is =
    asked_more asked is (λ request t. (t.0, t.1, text_accepted request t.0 text t.2))

pub asked_there : (asked : Result PlainRequest ℕ) (files : Option Files) → IsOkAnd asked (AreAccepted files) → IsOkAnd asked (AreThere files)
asked_there asked files is = asked_more asked is (λ request a. (a.0, a.1, tt))

pub asked_refused_there : (asked : Result PlainRequest ℕ) (files : Option Files) → IsOkAnd asked (AreRefused files) → IsOkAnd asked (AreThere files)
asked_refused_there asked files is = asked_more asked is (λ request r. (r.1.0, r.1.1, tt))
