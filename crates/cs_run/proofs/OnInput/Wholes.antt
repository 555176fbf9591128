-- From the bytes that reads gave to the contents of the files.
use Rattle.std.proofs.Common.{◌≡◌, ℕ, ◌+◌, ◌<◌, ◌≤◌, List, [], ◌∷◌, length, Option, None, Some, Result, Ok, Err, IfOk, IfErr, option_map, refl, ap, sym, ◌∙◌, subst, inl, inr, arith, take}
use Rattle.std.proofs.lemmas.List.{length-take, take_all}
use Rattle.std.specs.Result.{IsErrAnd}
use Rattle.cs_io.specs.Desk.{Files, IsBeginning, file_named}
use Rattle.cs_io.specs.Uses.{Change}
use Rattle.cs_yacc.specs.declared.reading.TheConstants.{MOST_BYTES}
use Rattle.cs_yacc.specs.Reading.File as yacc
use Rattle.cs_yacc.specs.Reading.Reading.{IsYaccFile}
use Rattle.cs_lex.specs.declared.reading.error.LexError.{LexError}
use Rattle.cs_lex.specs.declared.reading.error.LexError.TheVariants.{Memory as LexMemory}
use Rattle.cs_lex.specs.Reading.Reading.{RefusesOrMemory}
use Rattle.cs_words.specs.declared.command.Role.{Role}
use Rattle.cs_words.specs.Requests.{Named, lex_named, three_named, yacc_named}
use Rattle.cs_run.specs.declared.input.judging.Meant.{Meant}
use Rattle.cs_run.specs.declared.input.judging.Meant.TheVariants.{Pair as PairOf, Text}
use Rattle.cs_run.specs.declared.input.judging.PairAndText.{PairAndText}
use Rattle.cs_run.specs.declared.input.judging.Pair.{Pair}
use Rattle.cs_run.specs.declared.input.refusal.Refusal.TheVariants.{ManyChains, OfLex, OfYacc, States, TextStops, TextTokens, TooLong}
use Rattle.cs_run.specs.declared.input.refusal.Stop.{Stop}
use Rattle.cs_run.specs.declared.input.refusal.Stop.TheVariants.{NoFile, Refused, Memory}
use Rattle.cs_run.specs.Input.Files.{Content, HasBytes, HaveContents, IsGrammarOf, IsPairOf, IsShort, IsThere, Mean, most_for}
use Rattle.cs_run.specs.Input.Refusal.{Refuses, RefusesRead, Stops, StopsFile, lex_stop, pair_contents, text_contents, yacc_content}

-- The bytes are the whole file, or its beginning where it has more than so many.
pub record IsFrontOf (most : ℕ) (bytes whole : List ℕ) : Type 0 where
  pub all : length bytes ≤ most → bytes ≡ whole
  pub long : most < length bytes → most < length whole

-- a read gave the beginning of the file; where no files are told, what it gave counts as the file
pub begun : (most : ℕ) (files : Option Files) (name bytes : List ℕ) → IsBeginning files name (most + 1) bytes → (whole : List ℕ) × HasBytes files name whole × IsFrontOf most bytes whole
begun most None name bytes read = (bytes, tt, record { all = λ short. refl; long = λ long. long })
begun most (Some files) name bytes read = go (file_named files name) refl read
  where
    go : (found : Option (List ℕ)) → file_named files name ≡ found → option_map (λ whole. take (most + 1) whole) found ≡ Some bytes
        → (whole : List ℕ) × HasBytes (Some files) name whole × IsFrontOf most bytes whole
    go None is gave = absurd cc
    go (Some whole) is gave =
        let cut : take (most + 1) whole ≡ bytes = cc in (
          whole,
          is,
          record {
            all = λ short. (let fits : length whole ≤ most + 1 = omega (arith, length-take (most + 1) whole, ap length cut, short) in sym cut ∙ take_all (most + 1) whole fits);
            long = λ long. omega (arith, length-take (most + 1) whole, ap length cut, long);
          },
        )

-- ---- a yacc file

module _ (files : Option Files) (name bytes : List ℕ) (read : IsBeginning files name (MOST_BYTES + 1) bytes) where
  found : (whole : List ℕ) × HasBytes files name whole × IsFrontOf 1048576 bytes whole
  found = begun 1048576 files name bytes read

  -- what holds of bytes that aren't too many holds of the file
  short_one : (P : List Content → Type 0) → IsShort bytes → P (yacc_content bytes ∷ []) → HaveContents files (yacc_named name ∷ []) P
  short_one P short is = (yacc_content found.0 ∷ [], ((refl, found.1), tt), subst (λ w. P (yacc_content w ∷ [])) (found.2.all short) is)

  pub grammar_read : (file : yacc.File) → IsGrammarOf file bytes → (grammar : Meant) → Mean (yacc_content bytes ∷ []) grammar → HaveContents files (yacc_named name ∷ []) (λ contents. Mean contents grammar)
  grammar_read file is grammar mean = short_one (λ contents. Mean contents grammar) is.0 mean

  pub grammar_stops : (faults : Change ℕ) (stop : Stop) → RefusesRead (yacc_content bytes ∷ []) stop → Stops files faults (yacc_named name ∷ []) stop
  grammar_stops faults (NoFile role) is = absurd is
  grammar_stops faults (Refused (TooLong role)) (inl is) = (yacc_content found.0 ∷ [], ((refl, found.1), tt), inl (is.0, found.2.long is.1))
  grammar_stops faults (Refused (TooLong role)) (inr is) = absurd is.1
  grammar_stops faults (Refused (OfYacc error)) is = short_one (Refuses (OfYacc error)) is.0.0 is
  grammar_stops faults (Refused (OfLex error)) is = absurd is.1
  grammar_stops faults (Refused States) is = absurd is.1
  grammar_stops faults (Refused (ManyChains found)) is = absurd is.1
  grammar_stops faults (Refused (TextStops at)) is = absurd is.1
  grammar_stops faults (Refused (TextTokens found)) is = absurd is.1
  grammar_stops faults Memory is = tt

-- ---- a yacc file and a lex file

module _ (files : Option Files) (name other bytes more : List ℕ) (read : IsBeginning files name (MOST_BYTES + 1) bytes) (read_more : IsBeginning files other (MOST_BYTES + 1) more) where
  first : (whole : List ℕ) × HasBytes files name whole × IsFrontOf 1048576 bytes whole
  first = begun 1048576 files name bytes read

  second : (whole : List ℕ) × HasBytes files other whole × IsFrontOf 1048576 more whole
  second = begun 1048576 files other more read_more

  -- what holds of the contents as they are
  whole_pair : (P : List Content → Type 0) → P (pair_contents first.0 second.0) → HaveContents files (yacc_named name ∷ lex_named other ∷ []) P
  whole_pair P is = (pair_contents first.0 second.0, ((refl, first.1), ((refl, second.1), tt)), is)

  -- what holds of bytes that aren't too many holds of the files
  short_pair : (P : List Content → Type 0) → IsShort bytes → IsShort more → P (pair_contents bytes more) → HaveContents files (yacc_named name ∷ lex_named other ∷ []) P
  short_pair P short short_more is =
      whole_pair P (subst (λ w. P (pair_contents w second.0)) (first.2.all short) (subst (λ r. P (pair_contents bytes r)) (second.2.all short_more) is))

  pub pair_read : (pair : Pair) → IsPairOf pair.yacc pair.lex bytes more → HaveContents files (yacc_named name ∷ lex_named other ∷ []) (λ contents. Mean contents (PairOf pair))
  pair_read pair is = short_pair (λ contents. Mean contents (PairOf pair)) is.0 is.1 is

  pub pair_stops : (faults : Change ℕ) (stop : Stop) → RefusesRead (pair_contents bytes more) stop → Stops files faults (yacc_named name ∷ lex_named other ∷ []) stop
  pair_stops faults (NoFile role) is = absurd is
  pair_stops faults (Refused (TooLong role)) (inl is) = whole_pair (Refuses (TooLong role)) (inl (is.0, first.2.long is.1))
  pair_stops faults (Refused (TooLong role)) (inr (short, inl is)) =
      whole_pair (Refuses (TooLong role)) (inr (subst (λ w. IsShort w) (first.2.all short) short, inl (is.0, second.2.long is.1)))
  pair_stops faults (Refused (TooLong role)) (inr (short, inr is)) = absurd is.1
  pair_stops faults (Refused (OfYacc error)) is = short_pair (Refuses (OfYacc error)) is.0.0 is.0.1.0 is
  pair_stops faults (Refused (OfLex error)) is = short_pair (Refuses (OfLex error)) is.0.0 is.0.1.0 is
  pair_stops faults (Refused States) is = absurd is.1
  pair_stops faults (Refused (ManyChains found)) is = absurd is.1
  pair_stops faults (Refused (TextStops at)) is = absurd is.1
  pair_stops faults (Refused (TextTokens found)) is = absurd is.1
  pair_stops faults Memory is = tt

-- ---- both and a third file

module _ (role : Role) (files : Option Files) (name other third bytes more text : List ℕ) (read : IsBeginning files name (1048576 + 1) bytes) (read_more : IsBeginning files other (1048576 + 1) more)
    (read_text : IsBeginning files third (most_for role + 1) text) where
  one : (whole : List ℕ) × HasBytes files name whole × IsFrontOf 1048576 bytes whole
  one = begun 1048576 files name bytes read

  two : (whole : List ℕ) × HasBytes files other whole × IsFrontOf 1048576 more whole
  two = begun 1048576 files other more read_more

  three : (whole : List ℕ) × HasBytes files third whole × IsFrontOf (most_for role) text whole
  three = begun (most_for role) files third text read_text

  whole_text : (P : List Content → Type 0) → P (text_contents role one.0 two.0 three.0) → HaveContents files (three_named role name other third) P
  whole_text P is = (text_contents role one.0 two.0 three.0, ((refl, one.1), ((refl, two.1), ((refl, three.1), tt))), is)

  short_text : (P : List Content → Type 0) → length bytes ≤ 1048576 → length more ≤ 1048576 → length text ≤ most_for role → P (text_contents role bytes more text) → HaveContents files (three_named role name other third) P
  short_text P short short_more short_third is =
      whole_text P
      (subst (λ w. P (text_contents role w two.0 three.0)) (one.2.all short)
      (subst (λ w. P (text_contents role bytes w three.0)) (two.2.all short_more) (subst (λ w. P (text_contents role bytes more w)) (three.2.all short_third) is)))

  pub text_read : (beside : PairAndText) → Mean (text_contents role bytes more text) (Text beside) → HaveContents files (three_named role name other third) (λ contents. Mean contents (Text beside))
  text_read beside is = short_text (λ contents. Mean contents (Text beside)) is.0 is.1 is.2 is

  pub text_stops : (faults : Change ℕ) (stop : Stop) → RefusesRead (text_contents role bytes more text) stop → Stops files faults (three_named role name other third) stop
  text_stops faults (NoFile which) is = absurd is
  text_stops faults (Refused (TooLong which)) (inl is) = whole_text (Refuses (TooLong which)) (inl (is.0, one.2.long is.1))
  text_stops faults (Refused (TooLong which)) (inr (short, inl is)) =
      whole_text (Refuses (TooLong which)) (inr (subst (λ w. length w ≤ 1048576) (one.2.all short) short, inl (is.0, two.2.long is.1)))
  text_stops faults (Refused (TooLong which)) (inr (short, inr (short_more, inl is))) =
      whole_text (Refuses (TooLong which))
      (inr (subst (λ w. length w ≤ 1048576) (one.2.all short) short, inr (subst (λ w. length w ≤ 1048576) (two.2.all short_more) short_more, inl (is.0, three.2.long is.1))))
  text_stops faults (Refused (TooLong which)) (inr (short, inr (short_more, inr (short_text, is)))) = absurd is
  text_stops faults (Refused (OfYacc error)) is = short_text (Refuses (OfYacc error)) is.0.0 is.0.1.0 is.0.1.1.0 is
  text_stops faults (Refused (OfLex error)) is = short_text (Refuses (OfLex error)) is.0.0 is.0.1.0 is.0.1.1.0 is
  text_stops faults (Refused States) is = absurd is.1
  text_stops faults (Refused (ManyChains found)) is = absurd is.1
  text_stops faults (Refused (TextStops at)) is = absurd is.1
  text_stops faults (Refused (TextTokens found)) is = absurd is.1
  text_stops faults Memory is = tt

-- what the pair is refused for, both and a third file are refused for
pub text_refused : (role : Role) (bytes more text : List ℕ) (stop : Stop) → length text ≤ most_for role → RefusesRead (pair_contents bytes more) stop → RefusesRead (text_contents role bytes more text) stop
text_refused role bytes more text (NoFile which) short is = is
text_refused role bytes more text (Refused (TooLong which)) short (inl is) = inl is
text_refused role bytes more text (Refused (TooLong which)) short (inr (first, inl is)) = inr (first, inl is)
text_refused role bytes more text (Refused (TooLong which)) short (inr (first, inr (second, is))) = absurd is
text_refused role bytes more text (Refused (OfYacc error)) short is = ((is.0.0, (is.0.1.0, (short, tt))), is.1)
text_refused role bytes more text (Refused (OfLex error)) short is = ((is.0.0, (is.0.1.0, (short, tt))), is.1)
text_refused role bytes more text (Refused States) short is = absurd is.1
text_refused role bytes more text (Refused (ManyChains found)) short is = absurd is.1
text_refused role bytes more text (Refused (TextStops at)) short is = absurd is.1
text_refused role bytes more text (Refused (TextTokens found)) short is = absurd is.1
text_refused role bytes more text Memory short is = tt

-- ---- a file that can't be read

pub first_stops : (files : Option Files) (faults : Change ℕ) (named : Named) (more : List Named) (stop : Stop) → StopsFile named.role files named.name faults stop → Stops files faults (named ∷ more) stop
first_stops files faults named more (NoFile role) is = inl (sym is.0, is.1)
first_stops files faults named more (Refused refusal) is = absurd is
first_stops files faults named more Memory is = tt

pub second_stops : (files : Option Files) (faults : Change ℕ) (before named : Named) (more : List Named) (stop : Stop) → IsThere files before.name → StopsFile named.role files named.name faults stop → Stops files faults (before ∷ named ∷ more) stop
second_stops files faults before named more (NoFile role) there is = inr (there, inl (sym is.0, is.1))
second_stops files faults before named more (Refused refusal) there is = absurd is
second_stops files faults before named more Memory there is = tt

pub third_stops : (files : Option Files) (faults : Change ℕ) (first before named : Named) (stop : Stop) → IsThere files first.name → IsThere files before.name → StopsFile named.role files named.name faults stop
    → Stops files faults (first ∷ before ∷ named ∷ []) stop
third_stops files faults first before named (NoFile role) first_there there is = inr (first_there, inr (there, inl (sym is.0, is.1)))
third_stops files faults first before named (Refused refusal) first_there there is = absurd is
third_stops files faults first before named Memory first_there there is = tt

pub there_by_read : (files : Option Files) (name bytes : List ℕ) → IsBeginning files name (MOST_BYTES + 1) bytes → IsThere files name
there_by_read files name bytes read = let found_so = begun 1048576 files name bytes read in (found_so.0, found_so.1)

-- ---- answers

pub if_ok : {A E : Type 0} {P Q : A → Type 0} (result : Result A E) → IfOk result P → ((a : A) → P a → Q a) → IfOk result Q
if_ok (Ok a) is more = more a is
if_ok (Err e) is more = tt

pub if_err : {A E : Type 0} {P Q : E → Type 0} (result : Result A E) → IfErr result P → ((e : E) → P e → Q e) → IfErr result Q
if_err (Ok a) is more = tt
if_err (Err e) is more = more e is

-- what is so of an error, said of the answer that passes it on
pub if_residual : {A E : Type 0} (P : E → Type 0) (error : E) (result : Result A E) → IsErrAnd result (λ other. other ≡ error) → P error → IfErr result P
if_residual P error (Ok value) from is = tt
if_residual P error (Err other) from is = subst P (sym from) is

-- what the reading of a lex file beside a yacc file stops with
pub lex_stops : (bytes more : List ℕ) (file : yacc.File) → IsShort bytes → IsShort more → IsYaccFile bytes file → (error : LexError) → RefusesOrMemory more error → RefusesRead (pair_contents bytes more) (lex_stop error)
lex_stops bytes more file short short_more is LexMemory refused = tt
lex_stops bytes more file short short_more is error refused = ((short, (short_more, tt)), ((file, is), refused))
