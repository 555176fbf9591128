-- The lines of the head: which stands at which place, which are the yacc file's, and the sets that the closed lines claim.
use Rattle.std.specs.Prelude.{◌≡◌, ◌↔◌, ℕ, zero, suc, ◌+◌, List, [], ◌∷◌, ◌++◌, length, map, All, Option, if◌then◌else◌, drop}
use Rattle.std.specs.List.{Contains, range_with_len}
use Rattle.cs_grammar.specs.declared.symbol.Mark.{Mark}
use Rattle.cs_grammar.specs.declared.symbol.Mark.TheVariants as marks
use Rattle.cs_grammar.specs.Entries.{entry_or}
use Rattle.cs_grammar.specs.Grammar.{PlainGrammar, Production, IsRule}
use Rattle.cs_choices.specs.declared.weigh.Weigh.{Weigh}
use Rattle.cs_yacc.specs.Reading.File.{File}
use Rattle.cs_lines.specs.Words.Names.{token_of, nonterminal_of, symbol_text, mark_text, IsTokenNamed, IsNonterminalNamed, IsBehindNamed}
use Rattle.cs_lines.specs.Lines.Line.{SetKind, Productive, Reachable, Empty, RowKind, First, Last, Next, Line, Opening, Weighing, TokenLine, RuleLine, LexemeLine, SetLine, RowLine}
use Rattle.cs_closed.specs.Closed.Sets.{PlainSets, AreSetsOf, IsProductive, IsReachable, IsEmpty, IsFirst, IsLast, IsNext}
use Rattle.cs_check.specs.Passing.Above.{has_sets, sets, rows}

-- ---- which line is due at which place

-- a line of the head: of a token, a rule or a nonterminal with this number. A `next` line is of the mark that so many tokens
-- come up to: the first is of the begin mark.
pub data Due : Type 0 where
  TheOpening : Due
  TheWeighing : Due
  TheToken : (token : ℕ) → Due
  TheRule : (rule : ℕ) → Due
  TheLexeme : (token : ℕ) → Due
  TheSet : (kind : SetKind) → Due
  TheRow : (kind : RowKind) → (number : ℕ) → Due

-- the lines up to the lexemes
abbrev pub tables : PlainGrammar → List Due
tables g =
    TheOpening ∷ TheWeighing ∷ map TheToken (range_with_len 1 g.tokens)
    ++ map TheRule (range_with_len 1 (length g.rules)) ++ map TheLexeme (range_with_len 1 g.tokens)

-- the closed lines
abbrev pub claims : PlainGrammar → List Due
claims g =
    TheSet Productive ∷ TheSet Reachable ∷ TheSet Empty ∷ map (TheRow First) (range_with_len 1 g.nonterminals)
    ++ map (TheRow Last) (range_with_len 1 g.nonterminals) ++ map (TheRow Next) (range_with_len 0 (g.tokens + 1))

-- where there are sets the closed lines are there too
abbrev pub whole_head : PlainGrammar → List Due
whole_head g = tables g ++ claims g

-- how many lines the head has behind which these stand
abbrev pub head_size : PlainGrammar → List Line → ℕ
head_size g lines = if has_sets lines then length (whole_head g) else length (tables g)

-- the line is one for this place, with its number
abbrev pub Takes : Due → Line → Type 0
Takes TheOpening l = l ≡ Opening
Takes TheWeighing l = (weigh : Weigh) × (l ≡ Weighing weigh)
Takes (TheToken t) l = (name : List ℕ) × (l ≡ TokenLine t name)
Takes (TheRule r) l = (left : List ℕ) × (right : List (List ℕ)) × (l ≡ RuleLine r left right)
Takes (TheLexeme t) l = (name : List ℕ) × (text : Option (List ℕ)) × (l ≡ LexemeLine name text)
Takes (TheSet kind) l = (names : List (List ℕ)) × (l ≡ SetLine kind names)
Takes (TheRow kind n) l = (name : List ℕ) × (names : List (List ℕ)) × (l ≡ RowLine kind name names)

-- ---- which are the file's

abbrev pub IsTokenName : File → List ℕ → Type 0
IsTokenName file name = (t : ℕ) × IsTokenNamed file name t

abbrev pub IsNonterminalName : File → List ℕ → Type 0
IsNonterminalName file name = (n : ℕ) × IsNonterminalNamed file name n

abbrev pub IsBehindName : File → List ℕ → Type 0
IsBehindName file name = (m : Mark) × IsBehindNamed file name m

-- the mark of a `next` line
abbrev pub mark_at : ℕ → Mark
mark_at zero = marks.Begin
mark_at (suc t) = marks.Token (t + 1)

-- the name in front of `:`, and what may be named behind it
abbrev pub row_name : File → RowKind → ℕ → List ℕ
row_name file First n = nonterminal_of file n
row_name file Last n = nonterminal_of file n
row_name file Next n = mark_text file (mark_at n)

abbrev pub IsRowName : File → RowKind → List ℕ → Type 0
IsRowName file First name = IsTokenName file name
IsRowName file Last name = IsTokenName file name
IsRowName file Next name = IsBehindName file name

-- the line of this rule
abbrev pub rule_of : File → ℕ → Production → Line
rule_of file r p = RuleLine r (nonterminal_of file p.left) (map (symbol_text file) p.right)

-- what stands there is the file's
abbrev pub IsOfFile : File → Due → Line → Type 0
IsOfFile file TheOpening l = Unit {0}
IsOfFile file TheWeighing l = Unit {0}
IsOfFile file (TheToken t) l = l ≡ TokenLine t (token_of file t)
IsOfFile file (TheRule r) l = (p : Production) × IsRule file.grammar r p × (l ≡ rule_of file r p)
IsOfFile file (TheLexeme t) l = (text : Option (List ℕ)) × (l ≡ LexemeLine (token_of file t) text)
IsOfFile file (TheSet kind) l = (names : List (List ℕ)) × (l ≡ SetLine kind names) × All (IsNonterminalName file) names
IsOfFile file (TheRow kind n) l =
    (names : List (List ℕ)) × (l ≡ RowLine kind (row_name file kind n) names) × All (IsRowName file kind) names

-- ---- what the closed lines claim

-- the names of a list by number, from 1; none where there is none
abbrev pub entry : List (List (List ℕ)) → ℕ → List (List ℕ)
entry lists number = entry_or lists number []

-- the line of the set names the nonterminal
abbrev pub Claims : File → List Line → SetKind → ℕ → Type 0
Claims file lines kind n = (name : List ℕ) × Contains (entry (sets kind lines) 1) name × IsNonterminalNamed file name n

-- the line of the nonterminal names the token
abbrev pub ClaimsToken : File → List Line → RowKind → ℕ → ℕ → Type 0
ClaimsToken file lines kind n t = (name : List ℕ) × Contains (entry (rows kind lines) n) name × IsTokenNamed file name t

-- the names behind a mark: those of the begin mark stand first
abbrev pub names_behind : List Line → Mark → List (List ℕ)
names_behind lines marks.Begin = entry (rows Next lines) 1
names_behind lines (marks.Token t) = entry (drop 1 (rows Next lines)) t
names_behind lines marks.End = []

-- the line of the mark names the other behind it
abbrev pub ClaimsNext : File → List Line → Mark → Mark → Type 0
ClaimsNext file lines a b = (name : List ℕ) × Contains (names_behind lines a) name × IsBehindNamed file name b

-- the sets are those that the lines claim
pub record AreClaimed (file : File) (lines : List Line) (s : PlainSets) : Type 0 where
  pub fit : AreSetsOf file.grammar s
  pub productive : (n : ℕ) → IsProductive s n ↔ Claims file lines Productive n
  pub reachable : (n : ℕ) → IsReachable s n ↔ Claims file lines Reachable n
  pub empty : (n : ℕ) → IsEmpty s n ↔ Claims file lines Empty n
  pub first : (n t : ℕ) → IsFirst s n t ↔ ClaimsToken file lines First n t
  pub last : (n t : ℕ) → IsLast s n t ↔ ClaimsToken file lines Last n t
  pub next : (a b : Mark) → IsNext s a b ↔ ClaimsNext file lines a b
