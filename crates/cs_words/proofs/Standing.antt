-- Words that stand where they stand, and the first that doesn't.
use Rattle.std.proofs.Common.{◌≡◌, ◌⊎◌, ◌+◌, ◌<◌, ◌≤◌, ℕ, inl, inr, zero, suc, true, false, List, [], ◌∷◌, ◌++◌, length, Option, None, Some, refl, sym, ap, ◌∙◌, subst, arith, append_assoc, append-nil, add-one, take-append-drop}
use Rattle.std.specs.Prelude.{IsTrue, String, bytes_eq, codes, drop, get_or, if◌then◌else◌, string_bytes, take}
use Rattle.std.specs.declared.alloc.Global.{Global}
use Rattle.std.proofs.lemmas.Bool.{cases_lt}
use Rattle.std.proofs.lemmas.List.{length-append, length-take-le}
use Rattle.cs_words.specs.declared.command.Command.{Command}
use Rattle.cs_words.specs.declared.command.Command.TheVariants.{Check, Gen, Member, OfGrammar, OfPair}
use Rattle.cs_words.specs.declared.command.GrammarCommand.{GrammarCommand}
use Rattle.cs_words.specs.declared.command.GrammarCommand.TheVariants as of_grammar
use Rattle.cs_words.specs.declared.command.PairCommand.{PairCommand}
use Rattle.cs_words.specs.declared.command.PairCommand.TheVariants as of_pair
use Rattle.cs_words.specs.declared.command.Role.{Role}
use Rattle.cs_words.specs.declared.options.Options.{Options}
use Rattle.cs_words.specs.Commands.{Files, Seed, Taken, command_word, grammar_word, pair_word, taken_count, taken_of}
use Rattle.cs_words.specs.Options.{AreNew, AreOptions, IsNewOption}
use Rattle.cs_words.specs.Requests.{AreArguments, AskFor, Fit, Names, Number, PlainArguments}
use Rattle.cs_words.specs.Steps.{AreNames, BeginsWith, BeginsWithSeed, IsChosenFor, LacksAt, LacksName, LacksSeed, LacksTaken, MayAllBeTaken, Stops, StopsAt, has_second_name}
use Rattle.cs_words.specs.Words.{is_name, CannotGoOn, IsAccepted, IsFirstBad, MayBeTaken, MayFollow, MayStandBehind, StandBehind, texts}

-- ---- two commands with one word

abbrev grammar_named : List ℕ → Option GrammarCommand
grammar_named word = if bytes_eq word (codes "rules") then Some of_grammar.Rules else (if bytes_eq word (codes "chains") then Some of_grammar.Chains else None)

named_grammar : (command : GrammarCommand) → grammar_named (grammar_word command) ≡ Some command
named_grammar of_grammar.Rules = refl
named_grammar of_grammar.Chains = refl

one_grammar : (c d : GrammarCommand) → grammar_word c ≡ grammar_word d → c ≡ d
one_grammar c d same = let both : Some c ≡ Some d = sym (named_grammar c) ∙ ap grammar_named same ∙ named_grammar d in cc

abbrev pair_named : List ℕ → Option PairCommand
pair_named word =
    if bytes_eq word (codes "suite") then Some of_pair.Suite else (if bytes_eq word (codes "lexical") then Some of_pair.Lexical else (if bytes_eq word (codes "spell") then Some of_pair.Spell else (if bytes_eq word (codes "deep") then Some of_pair.Deep else (if bytes_eq word (codes "chains") then Some of_pair.Chains else (if bytes_eq word (codes "wrong") then Some of_pair.Wrong else None)))))

named_pair : (command : PairCommand) → pair_named (pair_word command) ≡ Some command
named_pair of_pair.Suite = refl
named_pair of_pair.Lexical = refl
named_pair of_pair.Spell = refl
named_pair of_pair.Deep = refl
named_pair of_pair.Chains = refl
named_pair of_pair.Wrong = refl

one_pair : (c d : PairCommand) → pair_word c ≡ pair_word d → c ≡ d
one_pair c d same = let both : Some c ≡ Some d = sym (named_pair c) ∙ ap pair_named same ∙ named_pair d in cc

not_grammar : (c : GrammarCommand) (word : List ℕ) → grammar_named word ≡ None → grammar_word c ≡ word → ⊥
not_grammar c word none same = let both : Some c ≡ None = sym (named_grammar c) ∙ ap grammar_named same ∙ none in cc

not_pair : (c : PairCommand) (word : List ℕ) → pair_named word ≡ None → pair_word c ≡ word → ⊥
not_pair c word none same = let both : Some c ≡ None = sym (named_pair c) ∙ ap pair_named same ∙ none in cc

-- One takes a lex file, and the other doesn't.
pub record IsLonger (c d : Command) : Type 0 where
  pub pair : PairCommand
  pub grammar : GrammarCommand
  pub is_pair : c ≡ OfPair pair
  pub is_grammar : d ≡ OfGrammar grammar
  pub same : grammar_word grammar ≡ pair_word pair

pub alike : (c d : Command) → command_word c ≡ command_word d → (c ≡ d) ⊎ (IsLonger c d ⊎ IsLonger d c)
alike (OfGrammar c) (OfGrammar d) same = inl (ap OfGrammar (one_grammar c d same))
alike (OfGrammar c) (OfPair d) same = inr (inr (record { pair = d; grammar = c; is_pair = refl; is_grammar = refl; same = same }))
alike (OfGrammar c) Member same = absurd (not_grammar c (codes "member") refl same)
alike (OfGrammar c) Check same = absurd (not_grammar c (codes "check") refl same)
alike (OfGrammar c) Gen same = absurd (not_grammar c (codes "gen") refl same)
alike (OfPair c) (OfGrammar d) same = inr (inl (record { pair = c; grammar = d; is_pair = refl; is_grammar = refl; same = sym same }))
alike (OfPair c) (OfPair d) same = inl (ap OfPair (one_pair c d same))
alike (OfPair c) Member same = absurd (not_pair c (codes "member") refl same)
alike (OfPair c) Check same = absurd (not_pair c (codes "check") refl same)
alike (OfPair c) Gen same = absurd (not_pair c (codes "gen") refl same)
alike Member (OfGrammar d) same = absurd (not_grammar d (codes "member") refl (sym same))
alike Member (OfPair d) same = absurd (not_pair d (codes "member") refl (sym same))
alike Member Member same = inl refl
alike Member Check same = absurd (let both : true ≡ false = ap (λ word. bytes_eq word (codes "member")) same in cc)
alike Member Gen same = absurd (let both : true ≡ false = ap (λ word. bytes_eq word (codes "member")) same in cc)
alike Check (OfGrammar d) same = absurd (not_grammar d (codes "check") refl (sym same))
alike Check (OfPair d) same = absurd (not_pair d (codes "check") refl (sym same))
alike Check Member same = absurd (let both : true ≡ false = ap (λ word. bytes_eq word (codes "check")) same in cc)
alike Check Check same = inl refl
alike Check Gen same = absurd (let both : true ≡ false = ap (λ word. bytes_eq word (codes "check")) same in cc)
alike Gen (OfGrammar d) same = absurd (not_grammar d (codes "gen") refl (sym same))
alike Gen (OfPair d) same = absurd (not_pair d (codes "gen") refl (sym same))
alike Gen Member same = absurd (let both : false ≡ true = ap (λ word. bytes_eq word (codes "member")) same in cc)
alike Gen Check same = absurd (let both : false ≡ true = ap (λ word. bytes_eq word (codes "check")) same in cc)
alike Gen Gen same = inl refl

-- a command that takes a yacc file alone has no options
no_option : (c : GrammarCommand) (before : List (List ℕ)) (word : List ℕ) → IsNewOption (OfGrammar c) before word → ⊥
no_option c before word new = (let none : false ≡ true = new.had in cc)

pub no_options : (c : GrammarCommand) (words : List (List ℕ)) → AreNew (OfGrammar c) [] words → words ≡ []
no_options c [] stand = refl
no_options c (word ∷ words) stand = absurd (no_option c [] word stand.0)

second_is : (before : List (List ℕ)) (word : List ℕ) (after : List (List ℕ)) → length before ≡ 1 → has_second_name (before ++ word ∷ after) ≡ is_name word
second_is [] word after one = absurd (omega (arith, one))
second_is (x ∷ []) word after one = refl
second_is (x ∷ y ∷ before) word after one = absurd (omega (arith, one))

second_there : (words : List (List ℕ)) → has_second_name words ≡ true → 2 ≤ length words
second_there [] is = absurd cc
second_there (x ∷ []) is = absurd cc
second_there (x ∷ y ∷ words) is = omega arith

-- the longer of two commands is chosen where a second name stands, and the shorter where none does
longer_chosen : (c d : Command) (words : List (List ℕ)) → IsLonger c d → IsChosenFor c words → has_second_name words ≡ true
longer_chosen c d words longer chosen =
    (let by : IsChosenFor (OfPair longer.pair) words = subst (λ (e : Command). IsChosenFor e words) longer.is_pair chosen in by longer.grammar longer.same)

shorter_chosen : (c d : Command) (words : List (List ℕ)) → IsLonger d c → IsChosenFor c words → has_second_name words ≡ false
shorter_chosen c d words longer chosen =
    (let by : IsChosenFor (OfGrammar longer.grammar) words = subst (λ (e : Command). IsChosenFor e words) longer.is_grammar chosen in by longer.pair longer.same)

-- ---- words one behind the other

stand_join : (before xs ys : List (List ℕ)) → StandBehind before xs → StandBehind (before ++ xs) ys → StandBehind before (xs ++ ys)
stand_join before [] ys one other = subst (λ b. StandBehind b ys) (append-nil before) other
stand_join before (x ∷ xs) ys one other =
    (one.0, stand_join (before ++ x ∷ []) xs ys one.1 (subst (λ b. StandBehind b ys) (sym (append_assoc before (x ∷ []) xs)) other))

pub new_more : (c : Command) (before words : List (List ℕ)) (word : List ℕ) → AreNew c before words → IsNewOption c (before ++ words) word → AreNew c before (words ++ word ∷ [])
new_more c before [] word stand new = (subst (λ b. IsNewOption c b word) (append-nil before) new, tt)
new_more c before (w ∷ words) word stand new =
    (stand.0, new_more c (before ++ w ∷ []) words word stand.1 (subst (λ b. IsNewOption c b word) (sym (append_assoc before (w ∷ []) words)) new))

-- ---- behind a command

module _ (c : Command) where
  follow_taken : (n : ℕ) (before : List (List ℕ)) (word : List ℕ) → length before < n → MayBeTaken (taken_of c) word → MayFollow c n before word
  follow_taken zero before word short may = absurd (omega (arith, short))
  follow_taken (suc n) [] word short may = may
  follow_taken (suc n) (x ∷ before) word short may = follow_taken n before word (omega (arith, short)) may

  taken_there : (n : ℕ) (before : List (List ℕ)) (word : List ℕ) → length before < n → MayFollow c n before word → MayBeTaken (taken_of c) word
  taken_there zero before word short may = absurd (omega (arith, short))
  taken_there (suc n) [] word short may = may
  taken_there (suc n) (x ∷ before) word short may = taken_there n before word (omega (arith, short)) may

  follow_option : (n : ℕ) (behind before : List (List ℕ)) (word : List ℕ) → length behind ≡ n → IsNewOption c before word → MayFollow c n (behind ++ before) word
  follow_option zero [] before word all new = new
  follow_option zero (x ∷ behind) before word all new = absurd (omega (arith, all))
  follow_option (suc n) [] before word all new = absurd (omega (arith, all))
  follow_option (suc n) (x ∷ behind) before word all new = follow_option n behind before word (omega (arith, all)) new

  option_there : (n : ℕ) (behind before : List (List ℕ)) (word : List ℕ) → length behind ≡ n → MayFollow c n (behind ++ before) word → IsNewOption c before word
  option_there zero [] before word all may = may
  option_there zero (x ∷ behind) before word all may = absurd (omega (arith, all))
  option_there (suc n) [] before word all may = absurd (omega (arith, all))
  option_there (suc n) (x ∷ behind) before word all may = option_there n behind before word (omega (arith, all)) may

  -- behind what the command takes stand its options
  past : (n : ℕ) (before : List (List ℕ)) (word : List ℕ) → n ≤ length before → MayFollow c n before word → IsNewOption c (drop n before) word
  past zero before word within may = may
  past (suc n) [] word within may = absurd (omega (arith, within))
  past (suc n) (x ∷ before) word within may = past n before word (omega (arith, within)) may

-- ---- what a command takes, and its options

-- how many words a command takes that takes a yacc file, or a lex file too
pub grammar_count : (c : Command) (g : GrammarCommand) → c ≡ OfGrammar g → taken_count (taken_of c) ≡ 1
grammar_count c g is = ap (λ (d : Command). taken_count (taken_of d)) is

pub pair_count : (c : Command) (p : PairCommand) → c ≡ OfPair p → taken_count (taken_of c) ≡ 2
pair_count c p is = ap (λ (d : Command). taken_count (taken_of d)) is

module _ (c : Command) where
  abbrev count : ℕ
  count = taken_count (taken_of c)

  taken_stand : (before behind : List (List ℕ)) → length before + length behind ≤ count → MayAllBeTaken (taken_of c) behind → StandBehind (command_word c ∷ before) behind
  taken_stand before [] fits may = tt
  taken_stand before (word ∷ behind) fits may = (
    (c, refl, follow_taken c count before word (omega (arith, fits)) may.0),
    taken_stand (before ++ word ∷ []) behind (omega (arith, fits, length-append before (word ∷ []))) may.1,
  )

  options_stand : (behind before words : List (List ℕ)) → length behind ≡ count → AreNew c before words → StandBehind (command_word c ∷ behind ++ before) words
  options_stand behind before [] all stand = tt
  options_stand behind before (word ∷ words) all stand = (
    (c, refl, follow_option c count behind before word all stand.0),
    subst (λ b. StandBehind (command_word c ∷ b) words) (sym (append_assoc behind before (word ∷ []))) (options_stand behind (before ++ word ∷ []) words all stand.1),
  )

  all_stand : (behind options : List (List ℕ)) → length behind ≡ count → MayAllBeTaken (taken_of c) behind → AreNew c [] options → StandBehind [] (command_word c ∷ behind ++ options)
  all_stand behind options all may stand = (
    (c, refl),
    stand_join (command_word c ∷ []) behind options (taken_stand [] behind (omega (arith, all)) may)
        (subst (λ b. StandBehind (command_word c ∷ b) options) (append-nil behind) (options_stand behind [] options all stand)),
  )

  -- ---- what was read

  module _ (words : List (List ℕ)) (at : ℕ) (chosen : IsChosenFor c words) (l : LacksAt c words at) where
    few_there : (d : Command) → (c ≡ d) ⊎ (IsLonger c d ⊎ IsLonger d c) → length words ≡ at → taken_count (taken_of d) ≤ length words → ⊥
    few_there d (inl same) all fits = omega (arith, all, l.short, subst (λ (e : Command). taken_count (taken_of e) ≤ length words) (sym same) fits)
    few_there d (inr (inl longer)) all fits =
        omega (arith, all, l.short, pair_count c longer.pair longer.is_pair, second_there words (longer_chosen c d words longer chosen))
    few_there d (inr (inr longer)) all fits =
        omega (arith, all, l.short, fits, grammar_count c longer.grammar longer.is_grammar, pair_count d longer.pair longer.is_pair)

    may_take : (d : Command) (word : List ℕ) (after : List (List ℕ)) → (c ≡ d) ⊎ (IsLonger c d ⊎ IsLonger d c) → words ≡ l.before ++ word ∷ after → MayStandBehind d l.before word → MayBeTaken (taken_of c) word
    may_take d word after (inl same) split may =
        taken_there c count l.before word (omega (arith, l.place, l.short)) (subst (λ (e : Command). MayStandBehind e l.before word) (sym same) may)
    may_take d word after (inr (inl longer)) split may = by_place (cases_lt at 1)
      where
        counted : count ≡ 2
        counted = pair_count c longer.pair longer.is_pair

        by_place : (at < 1) ⊎ (1 ≤ at) → MayBeTaken (taken_of c) word
        by_place (inl first) =
            let name = taken_there d (taken_count (taken_of d)) l.before word (omega (arith, l.place, first, grammar_count d longer.grammar longer.is_grammar)) may in
            subst (λ (t : Taken). MayBeTaken t word) (ap taken_of (sym longer.is_pair)) (subst (λ (t : Taken). MayBeTaken t word) (ap taken_of longer.is_grammar) name)
        by_place (inr second) =
            let one : length l.before ≡ 1 = omega (arith, l.place, second, l.short, counted) in
            let name : is_name word ≡ true = sym (second_is l.before word after one) ∙ ap has_second_name (sym split) ∙ longer_chosen c d words longer chosen in
            subst (λ (t : Taken). MayBeTaken t word) (ap taken_of (sym longer.is_pair)) name
    may_take d word after (inr (inr longer)) split may =
        let name = taken_there d (taken_count (taken_of d)) l.before word (omega (arith, l.place, l.short, grammar_count c longer.grammar longer.is_grammar, pair_count d longer.pair longer.is_pair)) may in
        subst (λ (t : Taken). MayBeTaken t word) (ap taken_of (sym longer.is_grammar)) (subst (λ (t : Taken). MayBeTaken t word) (ap taken_of longer.is_pair) name)

    pub lacks_bad : IsFirstBad (command_word c ∷ words) (1 + at)
    lacks_bad = record {
      before = command_word c ∷ l.before;
      after = l.after;
      split = ap (λ ws. command_word c ∷ ws) l.split;
      place = omega (arith, l.place);
      stand = ((c, refl), taken_stand [] l.before (omega (arith, l.place, l.short)) l.taken);
      bad = bad l.after l.split l.lacks;
    }
      where
        bad : (after : List (List ℕ)) → words ≡ l.before ++ after → LacksTaken (taken_of c) after → CannotGoOn (command_word c ∷ l.before) after
        bad [] split none = λ complete.
            let all : words ≡ l.before = split ∙ append-nil l.before in
            few_there complete.0 (alike c complete.0 complete.1) (ap length all ∙ l.place) (subst (λ ws. taken_count (taken_of complete.0) ≤ length ws) (sym all) complete.2)
        bad (word ∷ after) split none = λ may. none (may_take may.0 word after (alike c may.0 may.1) split may.2)

  module _ (words : List (List ℕ)) (arguments : PlainArguments) (n : ℕ) (rest : List (List ℕ)) (begins : BeginsWith c words arguments n rest) where
    all_behind : length begins.behind ≡ count
    all_behind = begins.counted ∙ begins.all

    pub words_accepted : AreNew c [] rest → IsAccepted (command_word c ∷ words)
    words_accepted stand = record {
      stand = subst (λ ws. StandBehind [] (command_word c ∷ ws)) (sym begins.split) (all_stand begins.behind rest all_behind begins.taken stand);
      complete = (c, refl, omega (arith, ap length begins.split, length-append begins.behind rest, all_behind));
    }

    pub words_ask : (options : Options) → AreNew c [] rest → AreOptions rest options → AskFor (command_word c ∷ words) (record { command = c; arguments = arguments; options = options })
    words_ask options stand are = record {
      behind = begins.behind;
      rest = rest;
      split = ap (λ ws. command_word c ∷ ws) begins.split;
      arguments = begins.are;
      stand = stand;
      options = are;
    }

    -- a word that may stand behind these options of another command with the same word may stand behind those of this one
    may_go_on : (before : List (List ℕ)) (d : Command) (word : List ℕ) (after : List (List ℕ)) → IsChosenFor c words → AreNew c [] before → rest ≡ before ++ word ∷ after
        → (c ≡ d) ⊎ (IsLonger c d ⊎ IsLonger d c) → MayStandBehind d (begins.behind ++ before) word → IsNewOption c before word
    may_go_on before d word after chosen stand split (inl same) may =
        option_there c count begins.behind before word all_behind (subst (λ (e : Command). MayStandBehind e (begins.behind ++ before) word) (sym same) may)
    may_go_on before d word after chosen stand split (inr (inl longer)) may =
        let long : taken_count (taken_of d) ≤ length (begins.behind ++ before) =
        omega (arith, length-append begins.behind before, all_behind, pair_count c longer.pair longer.is_pair, grammar_count d longer.grammar longer.is_grammar) in
        let new = past d (taken_count (taken_of d)) (begins.behind ++ before) word long may in
        absurd (no_option longer.grammar _ word (subst (λ (e : Command). IsNewOption e (drop (taken_count (taken_of d)) (begins.behind ++ before)) word) longer.is_grammar new))
    may_go_on before d word after chosen stand split (inr (inr longer)) may =
        let none : before ≡ [] = no_options longer.grammar before (subst (λ (e : Command). AreNew e [] before) longer.is_grammar stand) in
        let one : length (begins.behind ++ before) ≡ 1 = omega (arith, length-append begins.behind before, all_behind, grammar_count c longer.grammar longer.is_grammar, ap length none) in
        let parts : words ≡ (begins.behind ++ before) ++ word ∷ after = begins.split ∙ ap (λ xs. begins.behind ++ xs) split ∙ sym (append_assoc begins.behind before (word ∷ after)) in
        let not : is_name word ≡ false = sym (second_is (begins.behind ++ before) word after one) ∙ ap has_second_name (sym parts) ∙ shorter_chosen c d words longer chosen in
        let name = taken_there d (taken_count (taken_of d)) (begins.behind ++ before) word (omega (arith, one, pair_count d longer.pair longer.is_pair)) may in
        let is : is_name word ≡ true = subst (λ (t : Taken). MayBeTaken t word) (ap taken_of longer.is_pair) name in
        absurd (let both : true ≡ false = sym is ∙ not in cc)

    pub option_bad : (at : ℕ) → IsChosenFor c words → StopsAt c rest at → IsFirstBad (command_word c ∷ words) (1 + n + at)
    option_bad at chosen stops = record {
      before = command_word c ∷ begins.behind ++ stops.before;
      after = stops.after;
      split = ap (λ ws. command_word c ∷ ws) (begins.split ∙ ap (λ xs. begins.behind ++ xs) stops.split ∙ sym (append_assoc begins.behind stops.before stops.after));
      place = omega (arith, length-append begins.behind stops.before, begins.counted, stops.place);
      stand = all_stand begins.behind stops.before all_behind begins.taken stops.stand;
      bad = goes_on stops.after stops.split stops.stops;
    }
      where
        goes_on : (after : List (List ℕ)) → rest ≡ stops.before ++ after → Stops c stops.before after → CannotGoOn (command_word c ∷ begins.behind ++ stops.before) after
        goes_on [] split none = absurd none
        goes_on (word ∷ after) split none = λ may. none (may_go_on stops.before may.0 word after chosen stops.stand split (alike c may.0 may.1) may.2)

  -- ---- a seed

  pub seed_begins : (words : List (List ℕ)) (seed : ℕ) (rest : List (List ℕ)) → taken_of c ≡ Seed → BeginsWithSeed words seed rest → BeginsWith c words (Number seed) 1 rest
  seed_begins words seed rest takes begins = record {
    behind = begins.0 ∷ [];
    split = begins.1;
    counted = refl;
    all = sym (ap taken_count takes);
    taken = subst (λ (t : Taken). MayAllBeTaken t (begins.0 ∷ [])) (sym takes) ((seed, begins.2), tt);
    are = subst (λ (t : Taken). AreArguments t (begins.0 ∷ []) (Number seed)) (sym takes) (begins.0, refl, begins.2);
  }

  pub seed_lacks : (words : List (List ℕ)) → taken_of c ≡ Seed → LacksSeed words → LacksAt c words 0
  seed_lacks words takes none = record {
    before = [];
    after = words;
    split = refl;
    place = refl;
    short = omega (arith, ap taken_count takes);
    taken = tt;
    lacks = subst (λ (t : Taken). LacksTaken t words) (sym takes) (lacks words none);
  }
    where
      lacks : (words : List (List ℕ)) → LacksSeed words → LacksTaken Seed words
      lacks [] none = tt
      lacks (word ∷ words) none = none

  -- ---- names

  names_taken : (roles : List Role) (names : List (List ℕ)) → AreNames names → MayAllBeTaken (Files roles) names
  names_taken roles [] are = tt
  names_taken roles (name ∷ names) are = (are.0, names_taken roles names are.1)

  pub names_begin : (roles : List Role) (words : List (List ℕ)) (n : ℕ) → taken_of c ≡ Files roles → n ≤ length words → n ≡ length roles → AreNames (take n words)
      → BeginsWith c words (Names (take n words)) n (drop n words)
  names_begin roles words n takes within many are = record {
    behind = take n words;
    split = sym (take-append-drop n words);
    counted = length-take-le n words within;
    all = many ∙ sym (ap taken_count takes);
    taken = subst (λ (t : Taken). MayAllBeTaken t (take n words)) (sym takes) (names_taken roles (take n words) are);
    are = subst (λ (t : Taken). AreArguments t (take n words) (Names (take n words))) (sym takes) (refl, length-take-le n words within ∙ many);
  }

  pub names_lack : (roles : List Role) (words : List (List ℕ)) (n : ℕ) → taken_of c ≡ Files roles → n ≤ length words → n < length roles → AreNames (take n words) → LacksName (drop n words)
      → LacksAt c words n
  names_lack roles words n takes within few are none = record {
    before = take n words;
    after = drop n words;
    split = sym (take-append-drop n words);
    place = length-take-le n words within;
    short = omega (arith, ap taken_count takes, few);
    taken = subst (λ (t : Taken). MayAllBeTaken t (take n words)) (sym takes) (names_taken roles (take n words) are);
    lacks = subst (λ (t : Taken). LacksTaken t (drop n words)) (sym takes) (lacks (drop n words) none);
  }
    where
      lacks : (words : List (List ℕ)) → LacksName words → LacksTaken (Files roles) words
      lacks [] none = tt
      lacks (word ∷ words) none = λ is. (let yes : is_name word ≡ true = is in cc)

pub arguments_fit : (taken : Taken) (words : List (List ℕ)) (arguments : PlainArguments) → AreArguments taken words arguments → Fit taken arguments
arguments_fit (Files roles) words (Names names) are = are.1
arguments_fit (Files roles) words (Number number) are = absurd are
arguments_fit Seed words (Names names) are = absurd are
arguments_fit Seed words (Number number) are = tt

-- one more name
pub names_more : (names : List (List ℕ)) (word : List ℕ) → AreNames names → IsTrue (is_name word) → AreNames (names ++ word ∷ [])
names_more [] word are is = (is, tt)
names_more (name ∷ names) word are is = (are.0, names_more names word are.1 is)

-- no name in front of what begins with another word
pub no_name_in : (xs : List (List ℕ)) (word : List ℕ) (rest : List (List ℕ)) → xs ≡ word ∷ rest → is_name word ≡ false → LacksName xs
no_name_in xs word rest is none = subst (λ ws. LacksName ws) (sym is) none

-- ---- all words

-- the first of some words
pub front_word : (words : List (String Global)) (first : String Global) → 0 < length words → first ≡ get_or words 0 first → texts words ≡ string_bytes first ∷ texts (drop 1 words)
front_word [] first some is = absurd (omega arith)
front_word (word ∷ words) first some is = ap (λ w. string_bytes w ∷ texts words) (sym is)

pub length-texts : (words : List (String Global)) → length (texts words) ≡ length words
length-texts [] = refl
length-texts (word ∷ words) = ap suc (length-texts words)

pub texts-take : (n : ℕ) (words : List (String Global)) → texts (take n words) ≡ take n (texts words)
texts-take zero words = refl
texts-take (suc n) [] = refl
texts-take (suc n) (word ∷ words) = ap (λ ws. string_bytes word ∷ ws) (texts-take n words)

pub texts-drop : (n : ℕ) (words : List (String Global)) → texts (drop n words) ≡ drop n (texts words)
texts-drop zero words = refl
texts-drop (suc n) [] = refl
texts-drop (suc n) (word ∷ words) = texts-drop n words

-- ---- a word at a place

module _ (words : List (String Global)) (place : ℕ) (word : String Global) (within : place < length words) (is : word ≡ get_or words place word) where
  -- the texts from the place on
  pub texts_there : drop place (texts words) ≡ string_bytes word ∷ texts (drop (suc place) words)
  texts_there = go words place within is
    where
      go : (words : List (String Global)) (place : ℕ) → place < length words → word ≡ get_or words place word → drop place (texts words) ≡ string_bytes word ∷ texts (drop (suc place) words)
      go [] place within is = absurd (omega arith)
      go (first ∷ words) zero within is = ap (λ w. string_bytes w ∷ texts words) (sym is)
      go (first ∷ words) (suc place) within is = go words place (omega arith) is

  -- the texts before the place, there and behind it
  texts_around : texts words ≡ take place (texts words) ++ string_bytes word ∷ texts (drop (suc place) words)
  texts_around = go words place within is
    where
      go : (words : List (String Global)) (place : ℕ) → place < length words → word ≡ get_or words place word → texts words ≡ take place (texts words) ++ string_bytes word ∷ texts (drop (suc place) words)
      go [] place within is = absurd (omega arith)
      go (first ∷ words) zero within is = ap (λ w. string_bytes w ∷ texts words) (sym is)
      go (first ∷ words) (suc place) within is = ap (λ ws. string_bytes first ∷ ws) (go words place (omega arith) is)

  pub texts_more : take (place + 1) (texts words) ≡ take place (texts words) ++ string_bytes word ∷ []
  texts_more = go words place within is
    where
      go : (words : List (String Global)) (place : ℕ) → place < length words → word ≡ get_or words place word → take (place + 1) (texts words) ≡ take place (texts words) ++ string_bytes word ∷ []
      go [] place within is = absurd (omega arith)
      go (first ∷ words) zero within is = ap (λ w. string_bytes w ∷ []) (sym is)
      go (first ∷ words) (suc place) within is =
          let shorter : take (suc place) (texts words) ≡ take place (texts words) ++ string_bytes word ∷ [] =
          subst (λ n. take n (texts words) ≡ take place (texts words) ++ string_bytes word ∷ []) (add-one place) (go words place (omega arith) is) in
          subst (λ n. take n (texts (first ∷ words)) ≡ take (suc place) (texts (first ∷ words)) ++ string_bytes word ∷ []) (sym (add-one (suc place))) (ap (λ ws. string_bytes first ∷ ws) shorter)

  pub option_stops : (c : Command) → AreNew c [] (take place (texts words)) → (IsNewOption c (take place (texts words)) (string_bytes word) → ⊥) → StopsAt c (texts words) place
  option_stops c stand not = record {
    before = take place (texts words);
    after = string_bytes word ∷ texts (drop (suc place) words);
    split = texts_around;
    place = length-take-le place (texts words) (omega (arith, length-texts words));
    stand = stand;
    stops = not;
  }

pub no_words : IsFirstBad [] 0
no_words = record { before = []; after = []; split = refl; place = refl; stand = tt; bad = λ complete. complete }
