-- Which numbers have names, and the names of tokens, one behind another; the names themselves are those of `Names` of cs_yacc.
use Rattle.std.specs.Prelude.{ℕ, List, ◌∷◌, ◌++◌, codes, length, All}
use Rattle.cs_bytes.specs.Names.{newline}
use Rattle.cs_grammar.specs.declared.symbol.Symbol.{Symbol}
use Rattle.cs_grammar.specs.declared.symbol.Mark.{Mark}
use Rattle.cs_grammar.specs.declared.symbol.Mark.TheVariants as marks
use Rattle.cs_grammar.specs.Grammar.{IsNumberOf, IsSymbol}
use Rattle.cs_yacc.specs.Reading.File.{File}
pub use Rattle.cs_yacc.specs.Reading.Names.{token_text, token_of, nonterminal_of, symbol_text, mark_text}
use Rattle.cs_manifest.specs.Output.Words.{spaced}

abbrev pub IsNamedToken : File → ℕ → Type 0
IsNamedToken file t = IsNumberOf (length file.token_names) t

abbrev pub AreNamedTokens : File → List ℕ → Type 0
AreNamedTokens file tokens = All (IsNamedToken file) tokens

abbrev pub IsNamedSymbol : File → Symbol → Type 0
IsNamedSymbol file symbol = IsSymbol (length file.token_names) (length file.nonterminal_names) symbol

abbrev pub IsNamedMark : File → Mark → Type 0
IsNamedMark file marks.Begin = Unit {0}
IsNamedMark file (marks.Token t) = IsNamedToken file t
IsNamedMark file marks.End = Unit {0}

abbrev pub AreNamedMarks : File → List Mark → Type 0
AreNamedMarks file marks = All (IsNamedMark file) marks

abbrev pub AreNamedNonterminals : File → List ℕ → Type 0
AreNamedNonterminals file nonterminals = All (IsNumberOf (length file.nonterminal_names)) nonterminals

-- ---- names, one behind another

-- the names of tokens, each behind a space
abbrev pub token_words : File → List ℕ → List ℕ
token_words file tokens = spaced (token_of file) tokens

-- the line of tokens without its newline
abbrev pub tokens_words : File → List ℕ → List ℕ
tokens_words file tokens = codes "  tokens" ++ token_words file tokens

-- the same, put with the newline of the line above
abbrev pub tokens_below : File → List ℕ → List ℕ
tokens_below file tokens = newline ∷ tokens_words file tokens
