-- Which symbol or mark has a name; the names themselves are those of `Names` of cs_yacc.
use Rattle.std.specs.Prelude.{◌≡◌, ◌≢◌, ◌<◌, ℕ, List, codes}
use Rattle.cs_grammar.specs.declared.symbol.Mark.{Mark}
use Rattle.cs_grammar.specs.declared.symbol.Mark.TheVariants as marks
use Rattle.cs_grammar.specs.Grammar.{IsNumberOf}
use Rattle.cs_yacc.specs.Reading.File.{File}
pub use Rattle.cs_yacc.specs.Reading.Names.{token_text, token_of, nonterminal_of, symbol_text, mark_text}

-- of so many numbers this is the first that has the name
pub record IsFirstNamed (many : ℕ) (name_of : ℕ → List ℕ) (name : List ℕ) (number : ℕ) : Type 0 where
  pub is_number : IsNumberOf many number
  pub named : name_of number ≡ name
  pub first : (k : ℕ) → IsNumberOf many k → k < number → name_of k ≢ name

-- the token with this name
abbrev pub IsTokenNamed : File → List ℕ → ℕ → Type 0
IsTokenNamed file name t = IsFirstNamed file.grammar.tokens (token_of file) name t

-- the nonterminal with this name
abbrev pub IsNonterminalNamed : File → List ℕ → ℕ → Type 0
IsNonterminalNamed file name n = IsFirstNamed file.grammar.nonterminals (nonterminal_of file) name n

-- what may stand behind a mark, with this name: a token or the end mark
abbrev pub IsBehindNamed : File → List ℕ → Mark → Type 0
IsBehindNamed file name marks.Begin = ⊥
IsBehindNamed file name (marks.Token t) = IsTokenNamed file name t
IsBehindNamed file name marks.End = name ≡ codes "<end>"

-- no token has the name, and no nonterminal
abbrev pub HasNoToken : File → List ℕ → Type 0
HasNoToken file name = (t : ℕ) → IsTokenNamed file name t → ⊥

abbrev pub HasNoNonterminal : File → List ℕ → Type 0
HasNoNonterminal file name = (n : ℕ) → IsNonterminalNamed file name n → ⊥
