-- The lines that say why files are refused.
use Rattle.std.specs.Prelude.{ℕ, List, [], ◌++◌, codes, decimal}
use Rattle.cs_run.specs.Input.Files.{most_for}
use Rattle.cs_pattern.specs.declared.text.fault.PatternFault.{PatternFault}
use Rattle.cs_pattern.specs.declared.text.fault.PatternFault.TheVariants.{Anchor, Trailing, Condition, Collation, Syntax, UndefinedName, DefinitionCycle, TooDeep, TooManyPositions}
use Rattle.cs_yacc.specs.declared.reading.error.YaccError.{YaccError}
use Rattle.cs_yacc.specs.declared.reading.error.YaccError.TheVariants as yacc
use Rattle.cs_yacc.specs.declared.reading.error.YaccLimit.{YaccLimit}
use Rattle.cs_yacc.specs.declared.reading.error.YaccLimit.TheVariants as counted
use Rattle.cs_lex.specs.declared.reading.error.LexError.{LexError}
use Rattle.cs_lex.specs.declared.reading.error.LexError.TheVariants as lex
use Rattle.cs_lex.specs.declared.reading.error.LexLimit.{LexLimit}
use Rattle.cs_lex.specs.declared.reading.error.LexLimit.TheVariants as counted_lex
use Rattle.cs_run.specs.declared.input.refusal.Refusal.{Refusal}
use Rattle.cs_run.specs.declared.input.refusal.Refusal.TheVariants.{ManyChains, OfLex, OfYacc, States, TextStops, TextTokens, TooLong}
use Rattle.cs_words.specs.declared.command.Role.{Role}
use Rattle.cs_words.specs.declared.command.Role.TheVariants.{Lex, Manifest, Text, Yacc}

-- ---- words

abbrev pub role_word : Role → List ℕ
role_word Yacc = codes "yacc"
role_word Lex = codes "lex"
role_word Text = codes "text"
role_word Manifest = codes "manifest"

-- a word, and a number behind it
abbrev pub at_word : List ℕ → ℕ → List ℕ
at_word name at = name ++ decimal at ++ codes "\n"

-- `WHICH FOUND of MOST`
abbrev pub limit_words : List ℕ → ℕ → ℕ → List ℕ
limit_words which found most = which ++ (decimal found ++ (codes " of " ++ (decimal most ++ codes "\n")))

abbrev pub yacc_limit : YaccLimit → List ℕ
yacc_limit counted.Tokens = codes "Tokens "
yacc_limit counted.Nonterminals = codes "Nonterminals "
yacc_limit counted.Rules = codes "Rules "
yacc_limit counted.RightSide = codes "RightSide "

abbrev pub lex_limit : LexLimit → List ℕ
lex_limit counted_lex.Rules = codes "Rules "
lex_limit counted_lex.Positions = codes "Positions "

-- ---- lines behind `conform: yacc: ` and `conform: lex: `

abbrev pub yacc_words : YaccError → List ℕ
yacc_words (yacc.BadItem at) = at_word (codes "BadItem at ") at
yacc_words (yacc.Unended at) = at_word (codes "Unended at ") at
yacc_words (yacc.UnknownDirective at) = at_word (codes "UnknownDirective at ") at
yacc_words (yacc.Syntax at) = at_word (codes "Syntax at ") at
yacc_words (yacc.SecondStart at) = at_word (codes "SecondStart at ") at
yacc_words (yacc.TokenOnLeft at) = at_word (codes "TokenOnLeft at ") at
yacc_words (yacc.Undefined at) = at_word (codes "Undefined at ") at
yacc_words (yacc.StartNotNonterminal at) = at_word (codes "StartNotNonterminal at ") at
yacc_words (yacc.Limit which found most) = codes "Limit " ++ limit_words (yacc_limit which) found most
yacc_words yacc.Memory = []

abbrev pub fault_words : PatternFault → List ℕ
fault_words (Anchor at) = at_word (codes "Anchor at ") at
fault_words (Trailing at) = at_word (codes "Trailing at ") at
fault_words (Condition at) = at_word (codes "Condition at ") at
fault_words (Collation at) = at_word (codes "Collation at ") at
fault_words (Syntax at) = at_word (codes "Syntax at ") at
fault_words (UndefinedName at) = at_word (codes "UndefinedName at ") at
fault_words (DefinitionCycle at) = at_word (codes "DefinitionCycle at ") at
fault_words (TooDeep found most) = limit_words (codes "TooDeep ") found most
fault_words (TooManyPositions most) = at_word (codes "TooManyPositions above ") most

abbrev pub lex_words : LexError → List ℕ
lex_words (lex.Unended at) = at_word (codes "Unended at ") at
lex_words (lex.Layout at) = at_word (codes "Layout at ") at
lex_words (lex.UnknownDirective at) = at_word (codes "UnknownDirective at ") at
lex_words (lex.UnknownOption at) = at_word (codes "UnknownOption at ") at
lex_words (lex.StartCondition at) = at_word (codes "StartCondition at ") at
lex_words lex.NoRules = codes "NoRules\n"
lex_words (lex.DanglingBar at) = at_word (codes "DanglingBar at ") at
lex_words (lex.Limit which found most) = codes "Limit " ++ limit_words (lex_limit which) found most
lex_words (lex.Pattern at fault) = codes "Pattern at " ++ (decimal at ++ (codes ": " ++ fault_words fault))
lex_words lex.Memory = []

abbrev pub refusal_words : Refusal → List ℕ
refusal_words (TooLong role) = role_word role ++ at_word (codes ": Length above ") (most_for role)
refusal_words (OfYacc error) = codes "yacc: " ++ yacc_words error
refusal_words (OfLex error) = codes "lex: " ++ lex_words error
refusal_words States = codes "lex: States above 16384\n"
refusal_words (TextStops at) = codes "text: " ++ at_word (codes "Stops at ") at
refusal_words (TextTokens found) = codes "text: Tokens " ++ (decimal found ++ codes " of 2000\n")
refusal_words (ManyChains found) = codes "chains: Limit Goals " ++ (decimal found ++ codes " of 1000000\n")

-- the whole line
abbrev pub refusal_line : Refusal → List ℕ
refusal_line refusal = codes "conform: " ++ refusal_words refusal
