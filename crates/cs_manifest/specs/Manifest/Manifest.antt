-- The manifest of a yacc file: which goals with which verdicts, tokens and texts, which bases and negatives, and the text of all
-- that (rule coverage by Purdom 1972, context-dependent rule coverage by Lämmel 2001, pairs, and token mutations by Raselimo,
-- Taljaard and Fischer 2019).
use Rattle.std.specs.Prelude.{◌≡◌, ℕ, ◌+◌, ◌*◌, ◌≤◌, ◌||◌, Bool, if◌then◌else◌, List, [], ◌∷◌, ◌++◌, length, map, take, not, bytes_eq, count_by, sum_by, true, false, Option, None, Some, IsSomeAnd, option_map}
use Rattle.std.specs.List.{All, AllZip, filter, flat_map, enumerate_from}
use Rattle.cs_grammar.specs.Grammar.{PlainGrammar, IsNumberOf}
use Rattle.cs_grammar.specs.Leftmost.{IsYield}
use Rattle.cs_grammar.specs.Laws.{AtMostOne}
use Rattle.cs_grammar.specs.Weights.{Measure, Weighed, byte_limit, byte_weight, nodes, weighed}
use Rattle.cs_yacc.specs.Reading.File.{File}
use Rattle.cs_choices.specs.declared.criteria.Criteria.{Criteria}
use Rattle.cs_goals.specs.declared.goal.Goal.{Goal}
use Rattle.cs_goals.specs.Goals.{goals}
use Rattle.cs_verdicts.specs.declared.positive.verdict.Verdict.{Verdict}
use Rattle.cs_verdicts.specs.declared.positive.verdict.Verdict.TheVariants.{Feasible, Infeasible, Large}
use Rattle.cs_verdicts.specs.Positive.Verdict.{IsVerdict}
use Rattle.cs_scanner.specs.Scan.Scan.{Scanning}
use Rattle.cs_scanner.specs.Lexeme.Lexeme.{AreLexemes}
use Rattle.cs_verdicts.specs.declared.cases.cases.Named.{Named}
use Rattle.cs_verdicts.specs.Cases.Cases.{IsPlaced, PlainCases, no_cases}
use Rattle.cs_texts.specs.Rendering.Rendering.{Rendering, IsRendered}
use Rattle.cs_choices.specs.declared.operators.Operators.{Operators}
use Rattle.cs_mutate.specs.declared.negative.Negative.{Negative}
use Rattle.cs_mutate.specs.Edit.{edited}
use Rattle.cs_mutate.specs.Edits.{edits}
use Rattle.cs_mutate.specs.Negatives.{AreNegatives}
use Rattle.cs_mutate.specs.Kept.{AreKept}
use Rattle.cs_manifest.specs.declared.manifest.verdict.SharedVerdict.{SharedVerdict}
use Rattle.cs_manifest.specs.declared.manifest.verdict.SharedVerdict.TheVariants as shared
use Rattle.cs_choices.specs.declared.format.Format.{Format}
use Rattle.cs_choices.specs.declared.format.Format.TheVariants.{One, Two}
use Rattle.cs_choices.specs.declared.weigh.Weigh.{Weigh}
use Rattle.cs_choices.specs.declared.weigh.Weigh.TheVariants.{Nodes, Bytes}
use Rattle.cs_verdicts.specs.Closed.Closed.{AreClosedSets, ClosedSets}
use Rattle.cs_manifest.specs.Output.Words.{with_numbers, numbered_from}
use Rattle.cs_manifest.specs.Manifest.SharedLines.{case_lines, shared_goal_line, shared_head_lines}
use Rattle.cs_manifest.specs.Manifest.Lines.{head_lines, goal_lines, base_line, negative_lines, end_words, is_feasible, is_infeasible, is_large}

-- ---- what is chosen

-- what texts are made by: a scanner's patterns, kinds and literals, and what stands between two lexemes
pub record Texts : Type 0 where
  pub scanning : Scanning
  pub separator : List ℕ

-- The criteria, the texts (the form of `rules` has none), the operators, how many bases there are at most, how many negatives are
-- kept of each operator and left mark (without a number, all), the format, and what was weighed, which the second format tells.
pub record Choice : Type 0 where
  pub criteria : Criteria
  pub texts : Option Texts
  pub operators : Operators
  pub most : ℕ
  pub first : Option ℕ
  pub format : Format
  pub weigh : Weigh

-- the form of `rules`: the rule goals alone
abbrev pub rules_form : Choice
rules_form = record {
  criteria = record { rule = true; cdrc = false; pair = false };
  texts = None;
  operators = record { delete = false; insert = false; replace = false; swap = false };
  most = 0;
  first = None;
  format = One;
  weigh = Nodes;
}

-- the lexeme of each token, where it has one; in the form of `rules` there is no such list
abbrev pub LexemeList : Type 0
LexemeList = List (Option (List ℕ))

-- bytes are counted: each token has the number of its lexeme's length
abbrev pub byte_measure : LexemeList → Measure
byte_measure lexemes = record { numbers = map (λ text. byte_weight (option_map length text)) lexemes; limit = byte_limit }

-- how trees are measured where there are so many tokens: by their nodes, or by the bytes of these lexemes, where there are some
abbrev pub measure_of : Weigh → ℕ → Option LexemeList → Measure
measure_of Nodes tokens lexemes = nodes tokens
measure_of Bytes tokens None = nodes tokens
measure_of Bytes tokens (Some lexemes) = byte_measure lexemes

-- what goals' own texts are made by: in the second format cases have texts, and goals have none
abbrev pub texts_at : Format → Option Texts → Option Texts
texts_at One texts = texts
texts_at Two texts = None

abbrev pub goal_texts : Choice → Option Texts
goal_texts choice = texts_at choice.format choice.texts

-- ---- lexemes and texts

-- the lexemes of the tokens
abbrev pub AreLexemesBy : Option Texts → ℕ → Option LexemeList → Type 0
AreLexemesBy None tokens lexemes = lexemes ≡ None
AreLexemesBy (Some texts) tokens lexemes = IsSomeAnd lexemes (AreLexemes texts.scanning tokens)

-- what comes of rendering these tokens
abbrev pub IsRenderedBy : Option Texts → Option LexemeList → List ℕ → Option Rendering → Type 0
IsRenderedBy (Some texts) (Some lexemes) tokens rendered =
    IsSomeAnd rendered (IsRendered texts.scanning lexemes texts.separator tokens)
IsRenderedBy (Some texts) None tokens rendered = rendered ≡ None
IsRenderedBy None lexemes tokens rendered = rendered ≡ None

-- ---- goals

-- a goal, its verdict, the tokens of its derivation, and what came of their rendering
pub record GoalEntry : Type 0 where
  pub goal : Goal
  pub verdict : Verdict
  pub tokens : List ℕ
  pub rendered : Option Rendering

-- the tokens of a verdict's derivation; there are none where it has no derivation
abbrev pub AreTokensOf : PlainGrammar → Verdict → List ℕ → Type 0
AreTokensOf g (Feasible size derivation) tokens = IsYield g derivation tokens
AreTokensOf g Infeasible tokens = tokens ≡ []
AreTokensOf g Large tokens = tokens ≡ []

-- only a feasible goal's tokens are rendered
abbrev pub IsTextOf : Option Texts → Option LexemeList → Verdict → List ℕ → Option Rendering → Type 0
IsTextOf texts lexemes (Feasible size derivation) tokens rendered = IsRenderedBy texts lexemes tokens rendered
IsTextOf texts lexemes Infeasible tokens rendered = rendered ≡ None
IsTextOf texts lexemes Large tokens rendered = rendered ≡ None

-- the verdict of the goal over all trees, with its tokens and their text
pub record IsEntryOf (of : Weighed) (texts : Option Texts) (lexemes : Option LexemeList) (goal : Goal) (entry : GoalEntry) : Type 0 where
  pub is_of : entry.goal ≡ goal
  pub verdict : IsVerdict of.weights of.grammar goal entry.verdict
  pub tokens : AreTokensOf of.grammar entry.verdict entry.tokens
  pub text : IsTextOf texts lexemes entry.verdict entry.tokens entry.rendered

-- one entry for each of these goals, in order
abbrev pub EntriesOf : Weighed → Option Texts → Option LexemeList → List Goal → List GoalEntry → Type 0
EntriesOf of texts lexemes goals entries = AllZip (IsEntryOf of texts lexemes) goals entries

-- ---- bases

-- the numbers of the feasible goals, each with the tokens of its derivation
abbrev pub yields : List GoalEntry → List (ℕ × List ℕ)
yields entries = map (λ e. (e.0, e.1.tokens)) (filter (λ e. is_feasible e.1.verdict) (enumerate_from 1 entries))

-- of those with the same tokens the first alone
abbrev pub distinct : List (ℕ × List ℕ) → List (ℕ × List ℕ)
distinct [] = []
distinct (first ∷ rest) = first ∷ filter (λ y. not (bytes_eq y.1 first.1)) (distinct rest)

-- some operator is chosen
abbrev pub has_operator : Operators → Bool
has_operator o = o.delete || o.insert || o.replace || o.swap

-- how many bases there are at most: where nothing is mutated, none
abbrev pub most_bases : Choice → ℕ
most_bases choice = if has_operator choice.operators then choice.most else 0

-- the first of these, as many as are wanted
abbrev pub bases : ℕ → List GoalEntry → List (ℕ × List ℕ)
bases most entries = take most (distinct (yields entries))

-- ---- negatives

-- an edit of a base, the first pair of the edited list that no sentence has, and what came of rendering that list
pub record NegativeEntry : Type 0 where
  pub negative : Negative
  pub rendered : Option Rendering

-- a base, the number of its first goal, and its negatives that are kept
pub record BaseEntry : Type 0 where
  pub goal : ℕ
  pub tokens : List ℕ
  pub negatives : List NegativeEntry

-- the entry of a negative of a base: its edited list was rendered
pub record IsNegativeOf (texts : Option Texts) (lexemes : Option LexemeList) (base : List ℕ) (negative : Negative) (entry : NegativeEntry) : Type 0 where
  pub is_of : entry.negative ≡ negative
  pub text : IsRenderedBy texts lexemes (edited base negative.edit) entry.rendered

-- the negatives of entries
abbrev pub negatives_of : List NegativeEntry → List Negative
negatives_of entries = map (λ e. e.negative) entries

-- those of all bases
abbrev pub kept_in : List BaseEntry → List Negative
kept_in bases = flat_map (λ b. negatives_of b.negatives) bases

-- one entry for each of the negatives of a base by these operators that are kept, in order, behind these of the bases before it
pub record AreNegativesOf (g : PlainGrammar) (choice : Choice) (lexemes : Option LexemeList) (before : List Negative) (base : List ℕ) (entries : List NegativeEntry) : Type 0 where
  pub negatives : List Negative
  pub kept : List Negative
  pub all : AreNegatives g base (edits g.tokens base choice.operators) negatives
  pub are_kept : AreKept g base choice.first before negatives kept
  pub each : AllZip (IsNegativeOf choice.texts lexemes base) kept entries

-- the entry of a base
pub record IsBaseOf (g : PlainGrammar) (choice : Choice) (lexemes : Option LexemeList) (before : List Negative) (base : ℕ × List ℕ) (entry : BaseEntry) : Type 0 where
  pub goal : entry.goal ≡ base.0
  pub tokens : entry.tokens ≡ base.1
  pub negatives : AreNegativesOf g choice lexemes before base.1 entry.negatives

-- one entry for each of these bases, in order, where these negatives are kept of the bases before them
abbrev pub BasesOf : PlainGrammar → Choice → Option LexemeList → List Negative → List (ℕ × List ℕ) → List BaseEntry → Type 0
BasesOf g choice lexemes before [] entries = entries ≡ []
BasesOf g choice lexemes before (base ∷ bases) entries =
    (first : BaseEntry) × (rest : List BaseEntry) × (entries ≡ first ∷ rest) × IsBaseOf g choice lexemes before base first
    × BasesOf g choice lexemes (before ++ negatives_of first.negatives) bases rest

-- ---- cases

-- the verdict of a goal in the second format, from the cases before it to those behind it: a feasible goal's derivation is placed
-- among them, and the goal names what is told then
abbrev pub IsSharedVerdict : PlainCases → Goal → Verdict → PlainCases → SharedVerdict → Type 0
IsSharedVerdict old goal (Feasible size derivation) new verdict =
    (named : Named) × (verdict ≡ shared.Feasible size named) × IsPlaced old goal derivation new named
IsSharedVerdict old goal Infeasible new verdict = (verdict ≡ shared.Infeasible) × (new ≡ old)
IsSharedVerdict old goal Large new verdict = (verdict ≡ shared.Large) × (new ≡ old)

-- the goal is feasible, and its derivation a new case
abbrev pub is_new : SharedVerdict → Bool
is_new (shared.Feasible size named) = named.fresh
is_new shared.Infeasible = false
is_new shared.Large = false

-- what comes of rendering these tokens, where that is asked for
abbrev pub IsRenderedIf : Bool → Option Texts → Option LexemeList → List ℕ → Option Rendering → Type 0
IsRenderedIf true texts lexemes tokens rendered = IsRenderedBy texts lexemes tokens rendered
IsRenderedIf false texts lexemes tokens rendered = rendered ≡ None

-- an entry, with its verdict in the second format; and where its derivation is a new case, what came of rendering the tokens
pub record SharedEntry : Type 0 where
  pub entry : GoalEntry
  pub verdict : SharedVerdict
  pub rendered : Option Rendering

pub record IsShared (texts : Option Texts) (lexemes : Option LexemeList) (old : PlainCases) (entry : GoalEntry) (new : PlainCases) (s : SharedEntry) : Type 0 where
  pub is_of : s.entry ≡ entry
  pub verdict : IsSharedVerdict old entry.goal entry.verdict new s.verdict
  pub text : IsRenderedIf (is_new s.verdict) texts lexemes entry.tokens s.rendered

-- one for each of these entries, in order, from the cases before them to those behind them
abbrev pub AreShared : Option Texts → Option LexemeList → PlainCases → List GoalEntry → PlainCases → List SharedEntry → Type 0
AreShared texts lexemes old [] new list = (list ≡ []) × (new ≡ old)
AreShared texts lexemes old (entry ∷ rest) new list =
    (mid : PlainCases) × (first : SharedEntry) × (others : List SharedEntry) × (list ≡ first ∷ others)
    × IsShared texts lexemes old entry mid first × AreShared texts lexemes mid rest new others

-- ---- the text

-- the lines of a goal, by its number
abbrev pub goal_entry_lines : File → ℕ → GoalEntry → List ℕ
goal_entry_lines file number entry = goal_lines file number entry.goal entry.verdict entry.tokens entry.rendered

-- the lines of a negative of a base, by its number
abbrev pub negative_entry_lines : File → ℕ → List ℕ → ℕ → NegativeEntry → List ℕ
negative_entry_lines file base tokens number entry =
    negative_lines file number base entry.negative (edited tokens entry.negative.edit) entry.rendered

-- the lines of bases, where so many negatives and bases stand before them; negatives are numbered through all bases
abbrev pub base_entry_lines : File → ℕ → ℕ → List BaseEntry → List ℕ
base_entry_lines file negatives number [] = []
base_entry_lines file negatives number (base ∷ rest) =
    base_line (number + 1) base.goal
    ++ numbered_from (negatives + 1) (negative_entry_lines file (number + 1) base.tokens) base.negatives
    ++ base_entry_lines file (negatives + length base.negatives) (number + 1) rest

-- the rule numbers of a verdict's derivation
abbrev pub derivation_in : Verdict → List ℕ
derivation_in (Feasible size derivation) = derivation
derivation_in Infeasible = []
derivation_in Large = []

-- the lines of the case of an entry with this verdict, where it is new
abbrev pub case_lines_by : File → GoalEntry → Option Rendering → SharedVerdict → List ℕ
case_lines_by file entry rendered (shared.Feasible size named) =
    if named.fresh then case_lines file named.case size (derivation_in entry.verdict) entry.tokens rendered else []
case_lines_by file entry rendered shared.Infeasible = []
case_lines_by file entry rendered shared.Large = []

abbrev pub new_case_lines : File → SharedEntry → List ℕ
new_case_lines file s = case_lines_by file s.entry s.rendered s.verdict

-- the lines of a goal in the second format, by its number: its case, where that is new, and its own line
abbrev pub shared_entry_lines : File → ℕ → SharedEntry → List ℕ
shared_entry_lines file number s = new_case_lines file s ++ shared_goal_line file number s.entry.goal s.verdict

-- the end, with how many goals there are, how many of each verdict, how many negatives, and how many cases, if there are some
abbrev pub end_line_with : Option ℕ → List GoalEntry → List BaseEntry → List ℕ
end_line_with many entries bases =
    end_words (length entries) (count_by (λ e. is_feasible e.verdict) entries) (count_by (λ e. is_infeasible e.verdict) entries)
    (count_by (λ e. is_large e.verdict) entries) (sum_by (λ b. length b.negatives) bases) many

-- that of the first format
abbrev pub end_line : List GoalEntry → List BaseEntry → List ℕ
end_line entries bases = end_line_with None entries bases

-- the text in the first format
abbrev pub manifest_text : File → Option LexemeList → List GoalEntry → List BaseEntry → List ℕ
manifest_text file lexemes entries bases =
    head_lines file lexemes ++ with_numbers (goal_entry_lines file) entries ++ base_entry_lines file 0 0 bases ++ end_line entries bases

-- the text in the second format, with so many cases
abbrev pub shared_text : File → Weigh → Option LexemeList → ClosedSets → List GoalEntry → List SharedEntry → ℕ → List BaseEntry → List ℕ
shared_text file weigh lexemes closed entries list many bases =
    shared_head_lines file weigh lexemes closed ++ with_numbers (shared_entry_lines file) list ++ base_entry_lines file 0 0 bases
    ++ end_line_with (Some many) entries bases

-- it is the text in the second format
pub record IsSharedText (choice : Choice) (file : File) (lexemes : Option LexemeList) (entries : List GoalEntry) (bases : List BaseEntry) (text : List ℕ) : Type 0 where
  pub closed : ClosedSets
  pub cases : PlainCases
  pub list : List SharedEntry
  pub are_closed : AreClosedSets file.grammar closed
  pub are_shared : AreShared choice.texts lexemes (no_cases file.grammar) entries cases list
  pub lines : text ≡ shared_text file choice.weigh lexemes closed entries list (length cases.codes) bases

-- it is the text in the format
abbrev pub IsTextIn : Format → Choice → File → Option LexemeList → List GoalEntry → List BaseEntry → List ℕ → Type 0
IsTextIn One choice file lexemes entries bases text = text ≡ manifest_text file lexemes entries bases
IsTextIn Two choice file lexemes entries bases text = IsSharedText choice file lexemes entries bases text

-- ---- the manifest

-- the grammar of the file, and how the choice measures its trees, with these lexemes
abbrev pub weighed_by : Choice → File → Option LexemeList → Weighed
weighed_by choice file lexemes = weighed file.grammar (measure_of choice.weigh file.grammar.tokens lexemes)

-- The text is the manifest of the file by the choice.
pub record IsManifest (choice : Choice) (file : File) (text : List ℕ) : Type 0 where
  pub lexemes : Option LexemeList
  pub entries : List GoalEntry
  pub mutants : List BaseEntry
  pub are_lexemes : AreLexemesBy choice.texts file.grammar.tokens lexemes
  pub verdicts : EntriesOf (weighed_by choice file lexemes) (goal_texts choice) lexemes (goals file.grammar choice.criteria) entries
  pub negatives : BasesOf file.grammar choice lexemes [] (bases (most_bases choice) entries) mutants
  pub lines : IsTextIn choice.format choice file lexemes entries mutants text

-- the lexemes and the renderings of tokens are one at most
pub record HasOneText (texts : Option Texts) : Type 0 where
  pub lexemes : (tokens : ℕ) → AtMostOne (AreLexemesBy texts tokens)
  pub rendered : (lexemes : Option LexemeList) (tokens : List ℕ) → AtMostOne (IsRenderedBy texts lexemes tokens)

-- where so many negatives are kept of each operator and left mark, all bases have at most so many for each of the four operators
-- and each left mark
abbrev pub HasFewNegatives : PlainGrammar → Choice → Type 0
HasFewNegatives g choice =
    (lexemes : Option LexemeList) (bases : List (ℕ × List ℕ)) (most : ℕ)
    → choice.first ≡ Some most → All (λ b. All (IsNumberOf g.tokens) b.1) bases
    → (entries : List BaseEntry) → BasesOf g choice lexemes [] bases entries
    → sum_by (λ b. length b.negatives) entries ≤ most * (4 * (g.tokens + 1))
