-- The commands: a row for each in these tables. Two may have one word, where one of them takes a lex file besides.
use Rattle.std.specs.Prelude.{ℕ, Bool, true, false, List, [], ◌∷◌, codes, length}
use Rattle.cs_words.specs.declared.command.Command.{Command}
use Rattle.cs_words.specs.declared.command.Command.TheVariants.{Check, Gen, Member, OfGrammar, OfPair}
use Rattle.cs_words.specs.declared.command.GrammarCommand.{GrammarCommand}
use Rattle.cs_words.specs.declared.command.GrammarCommand.TheVariants as of_grammar
use Rattle.cs_words.specs.declared.command.PairCommand.{PairCommand}
use Rattle.cs_words.specs.declared.command.PairCommand.TheVariants as of_pair
use Rattle.cs_words.specs.declared.command.Role.{Role}
use Rattle.cs_words.specs.declared.command.Role.TheVariants.{Lex, Manifest, Text, Yacc}
use Rattle.cs_words.specs.declared.setting.Kind.{Kind}
use Rattle.cs_words.specs.declared.setting.Kind.TheVariants as kinds

-- the word of a command that takes a yacc file, and of one that takes a lex file too
abbrev pub grammar_word : GrammarCommand → List ℕ
grammar_word of_grammar.Rules = codes "rules"
grammar_word of_grammar.Chains = codes "chains"

abbrev pub pair_word : PairCommand → List ℕ
pair_word of_pair.Suite = codes "suite"
pair_word of_pair.Lexical = codes "lexical"
pair_word of_pair.Spell = codes "spell"
pair_word of_pair.Deep = codes "deep"
pair_word of_pair.Chains = codes "chains"
pair_word of_pair.Wrong = codes "wrong"

-- the word of a command
abbrev pub command_word : Command → List ℕ
command_word (OfGrammar command) = grammar_word command
command_word (OfPair command) = pair_word command
command_word Member = codes "member"
command_word Check = codes "check"
command_word Gen = codes "gen"

-- what a command takes behind its word: names of files, each of a role, or a seed
pub data Taken : Type 0 where
  Files : List Role → Taken
  Seed : Taken

abbrev pub taken_of : Command → Taken
taken_of (OfGrammar command) = Files (Yacc ∷ [])
taken_of (OfPair command) = Files (Yacc ∷ Lex ∷ [])
taken_of Member = Files (Yacc ∷ Lex ∷ Text ∷ [])
taken_of Check = Files (Yacc ∷ Lex ∷ Manifest ∷ [])
taken_of Gen = Seed

-- how many words that are
abbrev pub taken_count : Taken → ℕ
taken_count (Files roles) = length roles
taken_count Seed = 1

-- whether it may have options of a kind
abbrev pub pair_may_have : PairCommand → Kind → Bool
pair_may_have of_pair.Suite kinds.Slips = false
pair_may_have of_pair.Suite kind = true
pair_may_have of_pair.Spell kinds.Separator = true
pair_may_have of_pair.Spell kinds.Weigh = true
pair_may_have of_pair.Deep kinds.Format = false
pair_may_have of_pair.Deep kinds.Slips = false
pair_may_have of_pair.Deep kinds.First = false
pair_may_have of_pair.Deep kind = true
pair_may_have of_pair.Chains kinds.Separator = true
pair_may_have of_pair.Chains kinds.Weigh = true
pair_may_have of_pair.Wrong kinds.Slips = true
pair_may_have of_pair.Wrong kinds.Separator = true
pair_may_have of_pair.Wrong kinds.Weigh = true
pair_may_have command kind = false

abbrev pub may_have : Command → Kind → Bool
may_have (OfPair command) kind = pair_may_have command kind
may_have command kind = false

-- whether it lists the chains of a grammar
abbrev pub lists_chains : Command → Bool
lists_chains (OfGrammar of_grammar.Chains) = true
lists_chains (OfPair of_pair.Chains) = true
lists_chains command = false

-- whether it takes the tokens of a text
abbrev pub takes_tokens : Command → Bool
takes_tokens Member = true
takes_tokens command = false
