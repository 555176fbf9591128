-- What the contents of files mean is one thing.
use Rattle.std.proofs.Common.{◌≡◌, ℕ, List, [], ◌∷◌, Option, None, Some, Result, Ok, refl, sym, ap, ◌∙◌, subst}
use Rattle.cs_yacc.specs.Reading.File as yacc
use Rattle.cs_yacc.specs.Reading.Meaning.{declared_tokens, file_or_limit, file_with, limit_passed, name_fault, nonterminals, parts_of, unless, with_meaning}
use Rattle.cs_yacc.specs.Reading.Reading.{IsYaccFile}
use Rattle.cs_yacc.proofs.OnReading.OneFile as yacc_files
use Rattle.cs_yacc.proofs.OnReading.Whole.{parts_fit, started}
use Rattle.cs_yacc.specs.Items.Items.{items_of}
use Rattle.cs_lex.specs.Reading.File as lex
use Rattle.cs_lex.specs.Reading.Reading.{IsLexFile}
use Rattle.cs_lex.proofs.OnReading.OneFile as lex_files
use Rattle.cs_run.specs.declared.input.judging.Meant.{Meant}
use Rattle.cs_run.specs.declared.input.judging.Meant.TheVariants.{Grammar, Nothing, Pair, Text}
use Rattle.cs_run.specs.declared.input.judging.PairAndText.{PairAndText}
use Rattle.cs_run.specs.declared.input.judging.Pair as pair
use Rattle.cs_run.specs.Input.Files.{Content, Mean}

-- ---- what bytes mean is well formed

given_file : {A E : Type 0} (fault : Option E) (given : Result A E) (a : A) → unless fault given ≡ Ok a → (fault ≡ None) × (given ≡ Ok a)
given_file None given a is = (refl, is)
given_file (Some e) given a is = absurd cc

pub named : (bytes : List ℕ) (file : yacc.File) → IsYaccFile bytes file → yacc.IsFile file
unfolding IsYaccFile
named bytes file is =
    let meant = with_meaning is.items in
    let lefts = nonterminals (items_of meant) in
    let fine = given_file (name_fault is.items meant (declared_tokens (items_of meant)) lefts) (file_or_limit (parts_of is.items meant)) file is.is in
    let within = given_file (limit_passed (parts_of is.items meant)) (Ok (file_with (parts_of is.items meant))) file fine.1 in
    let made = within.1 in
    let same : file_with (parts_of is.items meant) ≡ file = cc in
    subst (λ (f : yacc.File). yacc.IsFile f) same (parts_fit is.items meant lefts refl refl is.taken (started is.items meant (declared_tokens (items_of meant)) lefts (sym fine.0)) within.0)

-- ---- what contents mean

-- no file, one file, two files, three files
by_none : (meant : Meant) → Mean [] meant → meant ≡ Nothing
by_none Nothing mean = refl
by_none (Grammar file) mean = absurd mean
by_none (Pair two) mean = absurd mean
by_none (Text beside) mean = absurd mean

by_one : (one : Content) (meant : Meant) → Mean (one ∷ []) meant → (file : yacc.File) × (meant ≡ Grammar file) × Mean (one ∷ []) (Grammar file)
by_one one Nothing mean = absurd mean
by_one one (Grammar file) mean = (file, refl, mean)
by_one one (Pair two) mean = absurd mean
by_one one (Text beside) mean = absurd mean

by_two : (one other : Content) (meant : Meant) → Mean (one ∷ other ∷ []) meant → (two : pair.Pair) × (meant ≡ Pair two) × Mean (one ∷ other ∷ []) (Pair two)
by_two one other Nothing mean = absurd mean
by_two one other (Grammar file) mean = absurd mean
by_two one other (Pair two) mean = (two, refl, mean)
by_two one other (Text beside) mean = absurd mean

by_three : (one other third : Content) (meant : Meant) → Mean (one ∷ other ∷ third ∷ []) meant → (beside : PairAndText) × (meant ≡ Text beside) × Mean (one ∷ other ∷ third ∷ []) (Text beside)
by_three one other third Nothing mean = absurd mean
by_three one other third (Grammar file) mean = absurd mean
by_three one other third (Pair two) mean = absurd mean
by_three one other third (Text beside) mean = (beside, refl, mean)

by_more : (one other third more : Content) (contents : List Content) (meant : Meant) → Mean (one ∷ other ∷ third ∷ more ∷ contents) meant → ⊥
by_more one other third more contents Nothing mean = mean
by_more one other third more contents (Grammar file) mean = mean
by_more one other third more contents (Pair two) mean = mean
by_more one other third more contents (Text beside) mean = mean

abbrev two_files : yacc.File → lex.File → pair.Pair
two_files file scanner = record { yacc = file; lex = scanner }

one_pair : (bytes more : List ℕ) (a b : pair.Pair) → IsYaccFile bytes a.yacc → IsLexFile more a.yacc a.lex → IsYaccFile bytes b.yacc → IsLexFile more b.yacc b.lex → a ≡ b
one_pair bytes more a b is is_lex also also_lex =
    let files = yacc_files.one_file bytes a.yacc b.yacc is also in
    let beside : IsLexFile more a.yacc b.lex = subst (λ (f : yacc.File). IsLexFile more f b.lex) (sym files) also_lex in
    let scanners : a.lex ≡ b.lex = lex_files.one_file more a.yacc a.lex b.lex (named bytes a.yacc is) is_lex beside in
    ap (λ (f : yacc.File). two_files f a.lex) files ∙ ap (λ (s : lex.File). two_files b.yacc s) scanners

abbrev with_text : pair.Pair → List ℕ → PairAndText
with_text two text = record { pair = two; text = text }

one_beside : (one other third : Content) (a b : PairAndText) → Mean (one ∷ other ∷ third ∷ []) (Text a) → Mean (one ∷ other ∷ third ∷ []) (Text b) → a ≡ b
one_beside one other third a b is also =
    let pairs = one_pair one.bytes other.bytes a.pair b.pair is.3 is.4 also.3 also.4 in
    ap (λ (p : pair.Pair). with_text p a.text) pairs ∙ ap (λ (t : List ℕ). with_text b.pair t) (is.5 ∙ sym also.5)

-- contents have one meaning
pub one_meaning : (contents : List Content) (a b : Meant) → Mean contents a → Mean contents b → a ≡ b
one_meaning [] a b is also = by_none a is ∙ sym (by_none b also)
one_meaning (one ∷ []) a b is also =
    let first = by_one one a is in
    let second = by_one one b also in
    first.1 ∙ ap Grammar (yacc_files.one_file one.bytes first.0 second.0 first.2.1 second.2.1) ∙ sym second.1
one_meaning (one ∷ other ∷ []) a b is also =
    let first = by_two one other a is in
    let second = by_two one other b also in
    first.1 ∙ ap Pair (one_pair one.bytes other.bytes first.0 second.0 first.2.2 first.2.3 second.2.2 second.2.3) ∙ sym second.1
one_meaning (one ∷ other ∷ third ∷ []) a b is also =
    let first = by_three one other third a is in
    let second = by_three one other third b also in
    first.1 ∙ ap Text (one_beside one other third first.0 second.0 first.2 second.2) ∙ sym second.1
one_meaning (one ∷ other ∷ third ∷ more ∷ contents) a b is also = absurd (by_more one other third more contents a is)
