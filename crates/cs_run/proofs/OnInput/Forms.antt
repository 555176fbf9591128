-- Commands that take one file are given a yacc file, those that take two a pair, and those that take three a third file besides.
use Rattle.std.proofs.Common.{◌≡◌, ◌<◌, ◌≤◌, ℕ, List, [], ◌∷◌, length, refl, sym, ap, ◌∙◌, subst, arith}
use Rattle.std.specs.Prelude.{String, get_or, string_bytes}
use Rattle.std.specs.declared.alloc.Global.{Global}
use Rattle.cs_words.specs.declared.command.Command.{Command}
use Rattle.cs_words.specs.declared.command.Command.TheVariants.{Check, Gen, Member, OfGrammar, OfPair}
use Rattle.cs_words.specs.declared.command.Role.{Role}
use Rattle.cs_words.specs.Commands.{taken_of}
use Rattle.cs_words.specs.Requests.{Fit, Named, Names, PlainArguments, files_taken, lex_named, three_named, yacc_named}
use Rattle.cs_words.specs.Words.{texts}
use Rattle.cs_run.specs.declared.input.judging.Meant.TheVariants.{Grammar, Pair, Text}
use Rattle.cs_run.specs.declared.input.judging.PairAndText.{PairAndText}
use Rattle.cs_run.specs.declared.input.judging.Pair as pair
use Rattle.cs_run.specs.Input.Files.{IsMeantFor}
use Rattle.cs_run.specs.Input.Read.{third_role}
use Rattle.cs_yacc.specs.declared.reading.file.YaccFile.{YaccFile}

-- ---- lists of one word and of two

pub one_word : (words : List (String Global)) (word : String Global) → 1 ≤ length words → length words < 2 → word ≡ get_or words 0 word → texts words ≡ string_bytes word ∷ []
one_word [] word some few is = absurd (omega (arith, some))
one_word (w ∷ []) word some few is = ap (λ x. string_bytes x ∷ []) (sym is)
one_word (w ∷ v ∷ words) word some few is = absurd (omega (arith, few))

two_words : (words : List (String Global)) (word other : String Global) → 2 ≤ length words → length words < 3 → word ≡ get_or words 0 word → other ≡ get_or words 1 other
    → texts words ≡ string_bytes word ∷ string_bytes other ∷ []
two_words [] word other some few is also = absurd (omega (arith, some))
two_words (w ∷ []) word other some few is also = absurd (omega (arith, some))
two_words (w ∷ v ∷ []) word other some few is also = ap (λ x. string_bytes x ∷ string_bytes v ∷ []) (sym is) ∙ ap (λ x. string_bytes word ∷ string_bytes x ∷ []) (sym also)
two_words (w ∷ v ∷ u ∷ words) word other some few is also = absurd (omega (arith, few))

-- the names that are given in them
pub two_named : (words : List (String Global)) (word other : String Global) (name second : List ℕ) → 2 ≤ length words → length words < 3 → word ≡ get_or words 0 word → other ≡ get_or words 1 other
    → name ≡ string_bytes word → second ≡ string_bytes other → Names (texts words) ≡ Names (name ∷ second ∷ [])
two_named words word other name second some few is also front behind =
    ap Names (two_words words word other some few is also ∙ ap (λ b. b ∷ string_bytes other ∷ []) (sym front) ∙ ap (λ b. name ∷ b ∷ []) (sym behind))

-- ---- one file

module _ (name : List ℕ) where
  named_one : (c : Command) → Fit (taken_of c) (Names (name ∷ [])) → files_taken (taken_of c) (Names (name ∷ [])) ≡ yacc_named name ∷ []
  named_one (OfGrammar command) fit = refl
  named_one (OfPair command) fit = absurd (omega (arith, fit))
  named_one Member fit = absurd (omega (arith, fit))
  named_one Check fit = absurd (omega (arith, fit))
  named_one Gen fit = absurd fit

  meant_one : (c : Command) (file : YaccFile) → Fit (taken_of c) (Names (name ∷ [])) → IsMeantFor (taken_of c) (Names (name ∷ [])) (Grammar file)
  meant_one (OfGrammar command) file fit = tt
  meant_one (OfPair command) file fit = absurd (omega (arith, fit))
  meant_one Member file fit = absurd (omega (arith, fit))
  meant_one Check file fit = absurd (omega (arith, fit))
  meant_one Gen file fit = absurd fit

  pub one_file : (c : Command) (arguments : PlainArguments) → arguments ≡ Names (name ∷ []) → Fit (taken_of c) arguments → files_taken (taken_of c) arguments ≡ yacc_named name ∷ []
  one_file c arguments same fit =
      subst (λ (a : PlainArguments). files_taken (taken_of c) a ≡ yacc_named name ∷ []) (sym same) (named_one c (subst (λ (a : PlainArguments). Fit (taken_of c) a) same fit))

  pub one_form : (c : Command) (arguments : PlainArguments) (file : YaccFile) → arguments ≡ Names (name ∷ []) → Fit (taken_of c) arguments → IsMeantFor (taken_of c) arguments (Grammar file)
  one_form c arguments file same fit =
      subst (λ (a : PlainArguments). IsMeantFor (taken_of c) a (Grammar file)) (sym same) (meant_one c file (subst (λ (a : PlainArguments). Fit (taken_of c) a) same fit))

-- ---- two files

module _ (name other : List ℕ) where
  named_two : (c : Command) → Fit (taken_of c) (Names (name ∷ other ∷ [])) → files_taken (taken_of c) (Names (name ∷ other ∷ [])) ≡ yacc_named name ∷ lex_named other ∷ []
  named_two (OfGrammar command) fit = absurd (omega (arith, fit))
  named_two (OfPair command) fit = refl
  named_two Member fit = absurd (omega (arith, fit))
  named_two Check fit = absurd (omega (arith, fit))
  named_two Gen fit = absurd fit

  meant_two : (c : Command) (two : pair.Pair) → Fit (taken_of c) (Names (name ∷ other ∷ [])) → IsMeantFor (taken_of c) (Names (name ∷ other ∷ [])) (Pair two)
  meant_two (OfGrammar command) two fit = absurd (omega (arith, fit))
  meant_two (OfPair command) two fit = tt
  meant_two Member two fit = absurd (omega (arith, fit))
  meant_two Check two fit = absurd (omega (arith, fit))
  meant_two Gen two fit = absurd fit

  pub two_files : (c : Command) (arguments : PlainArguments) → arguments ≡ Names (name ∷ other ∷ []) → Fit (taken_of c) arguments → files_taken (taken_of c) arguments ≡ yacc_named name ∷ lex_named other ∷ []
  two_files c arguments same fit =
      subst (λ (a : PlainArguments). files_taken (taken_of c) a ≡ yacc_named name ∷ lex_named other ∷ []) (sym same) (named_two c (subst (λ (a : PlainArguments). Fit (taken_of c) a) same fit))

  pub two_form : (c : Command) (arguments : PlainArguments) (two : pair.Pair) → arguments ≡ Names (name ∷ other ∷ []) → Fit (taken_of c) arguments → IsMeantFor (taken_of c) arguments (Pair two)
  two_form c arguments two same fit =
      subst (λ (a : PlainArguments). IsMeantFor (taken_of c) a (Pair two)) (sym same) (meant_two c two (subst (λ (a : PlainArguments). Fit (taken_of c) a) same fit))

pub two_not_none : (name other : List ℕ) (named : List Named) → named ≡ yacc_named name ∷ lex_named other ∷ [] → named ≡ [] → ⊥
two_not_none name other named two none = let both : yacc_named name ∷ lex_named other ∷ [] ≡ [] = sym two ∙ none in cc

pub one_not_none : (name : List ℕ) (named : List Named) → named ≡ yacc_named name ∷ [] → named ≡ [] → ⊥
one_not_none name named one none = let both : yacc_named name ∷ [] ≡ [] = sym one ∙ none in cc

-- ---- three files

three_words : (words : List (String Global)) (word other more : String Global) → 3 ≤ length words → length words < 4 → word ≡ get_or words 0 word → other ≡ get_or words 1 other → more ≡ get_or words 2 more
    → texts words ≡ string_bytes word ∷ string_bytes other ∷ string_bytes more ∷ []
three_words [] word other more some few is also last = absurd (omega (arith, some))
three_words (w ∷ []) word other more some few is also last = absurd (omega (arith, some))
three_words (w ∷ v ∷ []) word other more some few is also last = absurd (omega (arith, some))
three_words (w ∷ v ∷ u ∷ []) word other more some few is also last =
    ap (λ x. string_bytes x ∷ string_bytes v ∷ string_bytes u ∷ []) (sym is) ∙ ap (λ x. string_bytes word ∷ string_bytes x ∷ string_bytes u ∷ []) (sym also)
    ∙ ap (λ x. string_bytes word ∷ string_bytes other ∷ string_bytes x ∷ []) (sym last)
three_words (w ∷ v ∷ u ∷ t ∷ words) word other more some few is also last = absurd (omega (arith, few))

pub three_named_in : (words : List (String Global)) (word other more : String Global) (name second third : List ℕ) → 3 ≤ length words → length words < 4 → word ≡ get_or words 0 word → other ≡ get_or words 1 other → more ≡ get_or words 2 more
    → name ≡ string_bytes word → second ≡ string_bytes other → third ≡ string_bytes more → Names (texts words) ≡ Names (name ∷ second ∷ third ∷ [])
three_named_in words word other more name second third some few is also last front middle behind =
    ap Names (three_words words word other more some few is also last ∙ ap (λ b. b ∷ string_bytes other ∷ string_bytes more ∷ []) (sym front)
    ∙ ap (λ b. name ∷ b ∷ string_bytes more ∷ []) (sym middle) ∙ ap (λ b. name ∷ second ∷ b ∷ []) (sym behind))

module _ (name other third : List ℕ) where
  named_three : (c : Command) → Fit (taken_of c) (Names (name ∷ other ∷ third ∷ [])) → files_taken (taken_of c) (Names (name ∷ other ∷ third ∷ [])) ≡ three_named (third_role c) name other third
  named_three (OfGrammar command) fit = absurd (omega (arith, fit))
  named_three (OfPair command) fit = absurd (omega (arith, fit))
  named_three Member fit = refl
  named_three Check fit = refl
  named_three Gen fit = absurd fit

  meant_three : (c : Command) (beside : PairAndText) → Fit (taken_of c) (Names (name ∷ other ∷ third ∷ [])) → IsMeantFor (taken_of c) (Names (name ∷ other ∷ third ∷ [])) (Text beside)
  meant_three (OfGrammar command) beside fit = absurd (omega (arith, fit))
  meant_three (OfPair command) beside fit = absurd (omega (arith, fit))
  meant_three Member beside fit = tt
  meant_three Check beside fit = tt
  meant_three Gen beside fit = absurd fit

  pub three_files : (c : Command) (arguments : PlainArguments) → arguments ≡ Names (name ∷ other ∷ third ∷ []) → Fit (taken_of c) arguments → files_taken (taken_of c) arguments ≡ three_named (third_role c) name other third
  three_files c arguments same fit =
      subst (λ (a : PlainArguments). files_taken (taken_of c) a ≡ three_named (third_role c) name other third) (sym same) (named_three c (subst (λ (a : PlainArguments). Fit (taken_of c) a) same fit))

  pub three_form : (c : Command) (arguments : PlainArguments) (beside : PairAndText) → arguments ≡ Names (name ∷ other ∷ third ∷ []) → Fit (taken_of c) arguments → IsMeantFor (taken_of c) arguments (Text beside)
  three_form c arguments beside same fit =
      subst (λ (a : PlainArguments). IsMeantFor (taken_of c) a (Text beside)) (sym same) (meant_three c beside (subst (λ (a : PlainArguments). Fit (taken_of c) a) same fit))

  pub three_not_none : (role : Role) (named : List Named) → named ≡ three_named role name other third → named ≡ [] → ⊥
  three_not_none role named three none = let both : three_named role name other third ≡ [] = sym three ∙ none in cc

-- no command takes another number of files
pub not_other : (c : Command) (names : List (List ℕ)) → Fit (taken_of c) (Names names) → (length names ≡ 1 → ⊥) → (length names ≡ 2 → ⊥) → (length names ≡ 3 → ⊥) → ⊥
not_other (OfGrammar command) names fit one two three = one fit
not_other (OfPair command) names fit one two three = two fit
not_other Member names fit one two three = three fit
not_other Check names fit one two three = three fit
not_other Gen names fit one two three = fit
