-- What names add to sets. Working words of proofs.
use Rattle.std.specs.Prelude.{◌≡◌, ◌↔◌, ◌⊎◌, ◌≤◌, ◌+◌, ℕ, Bool, List, [], ◌∷◌, ◌++◌, length, All}
use Rattle.std.specs.List.{Contains}
use Rattle.cs_grammar.specs.declared.symbol.Mark.{Mark}
use Rattle.cs_grammar.specs.Grammar.{PlainGrammar, IsNumberOf}
use Rattle.cs_yacc.specs.Reading.File.{File}
use Rattle.cs_lines.specs.Words.Names.{IsTokenNamed, IsNonterminalNamed, IsBehindNamed}
use Rattle.cs_lines.specs.declared.lines.names.Names.{Names}
use Rattle.cs_lines.specs.declared.lines.line.SetKind as held_sets
use Rattle.cs_lines.specs.declared.lines.line.RowKind as held_rows
use Rattle.cs_lines.specs.Lines.Read.{names_in, set_kind, row_kind}
use Rattle.cs_lines.specs.Lines.Line.{SetKind, RowKind, First, Last, Next, Line, SetLine, RowLine}
use Rattle.cs_closed.specs.Closed.Sets.{PlainSets, IsIn, IsPair, IsNext}
use Rattle.cs_check.specs.Passing.Above.{sets, rows}
use Rattle.cs_check.specs.Passing.Head.{AreClaimed}

-- the nonterminals that have one of these names, the tokens, and the marks that may stand behind another
abbrev pub IsNonterminalOf : File → List (List ℕ) → ℕ → Type 0
IsNonterminalOf file names n = (name : List ℕ) × Contains names name × IsNonterminalNamed file name n

abbrev pub IsTokenOf : File → List (List ℕ) → ℕ → Type 0
IsTokenOf file names t = (name : List ℕ) × Contains names name × IsTokenNamed file name t

abbrev pub IsBehindOf : File → List (List ℕ) → Mark → Type 0
IsBehindOf file names m = (name : List ℕ) × Contains names name × IsBehindNamed file name m

-- the set has them, too
abbrev pub IsWithNonterminals : File → List (List ℕ) → List Bool → List Bool → Type 0
IsWithNonterminals file names old new = (n : ℕ) → IsIn new n ↔ (IsIn old n ⊎ IsNonterminalOf file names n)

-- the table has each of these tokens with the number, too
abbrev pub IsWithTokens : File → List (List ℕ) → ℕ → List (List Bool) → List (List Bool) → Type 0
IsWithTokens file names number old new =
    (n t : ℕ) → IsPair new n t ↔ (IsPair old n t ⊎ ((n ≡ number) × IsTokenOf file names t))

-- a table of so many rows with so many members each
pub record IsTable (many last : ℕ) (table : List (List Bool)) : Type 0 where
  pub rows : length table ≡ many
  pub each : All (λ set. length set ≡ last) table

-- the tables have a member for each number of the grammar
pub record AreWholeSets (g : PlainGrammar) (s : PlainSets) : Type 0 where
  pub productive : length s.productive ≡ g.nonterminals
  pub reachable : length s.reachable ≡ g.nonterminals
  pub empty : length s.empty ≡ g.nonterminals
  pub first : IsTable g.tokens g.nonterminals s.first
  pub last : IsTable g.tokens g.nonterminals s.last
  pub begin : length s.begin ≡ g.tokens
  pub next : IsTable g.tokens g.tokens s.next
  pub end : length s.end ≡ g.tokens

-- the sets but for the marks behind others are the same
pub record AreSameButNext (old new : PlainSets) : Type 0 where
  pub productive : new.productive ≡ old.productive
  pub reachable : new.reachable ≡ old.reachable
  pub empty : new.empty ≡ old.empty
  pub first : new.first ≡ old.first
  pub last : new.last ≡ old.last

-- the second mark stands behind the first, too
abbrev pub IsWithNext : Mark → Mark → PlainSets → PlainSets → Type 0
IsWithNext a b old new = (l r : Mark) → IsNext new l r ↔ (IsNext old l r ⊎ ((l ≡ a) × (r ≡ b)))

-- the marks with this name do
abbrev pub IsWithNamed : File → List ℕ → Mark → PlainSets → PlainSets → Type 0
IsWithNamed file name a old new = (l r : Mark) → IsNext new l r ↔ (IsNext old l r ⊎ ((l ≡ a) × IsBehindNamed file name r))

-- and those with these names
abbrev pub IsWithBehind : File → List (List ℕ) → Mark → PlainSets → PlainSets → Type 0
IsWithBehind file names a old new = (l r : Mark) → IsNext new l r ↔ (IsNext old l r ⊎ ((l ≡ a) × IsBehindOf file names r))

-- the line of this kind is the next, for this number
abbrev pub IsNextRow : List Line → RowKind → ℕ → Type 0
IsNextRow lines First n = n ≡ length (rows First lines) + 1
IsNextRow lines Last n = n ≡ length (rows Last lines) + 1
IsNextRow lines Next n = n ≡ length (rows Next lines)

-- a number that lines of this kind have
abbrev pub IsRowNumber : PlainGrammar → RowKind → ℕ → Type 0
IsRowNumber g First n = IsNumberOf g.nonterminals n
IsRowNumber g Last n = IsNumberOf g.nonterminals n
IsRowNumber g Next n = n ≤ g.tokens

-- sets that lines claim are then those that the lines claim with one more, of a set or of a row
abbrev pub ClaimsSet : File → SetKind → List (List ℕ) → PlainSets → PlainSets → Type 0
ClaimsSet file kind names old new =
    (lines : List Line) → AreClaimed file lines old → sets kind lines ≡ [] → AreClaimed file (lines ++ SetLine kind names ∷ []) new

abbrev pub ClaimsRow : File → RowKind → ℕ → List (List ℕ) → PlainSets → PlainSets → Type 0
ClaimsRow file kind number names old new =
    (lines : List Line) (name : List ℕ) → AreClaimed file lines old → IsNextRow lines kind number
    → AreClaimed file (lines ++ RowLine kind name names ∷ []) new

-- by the names of a line
abbrev pub HasTokens : File → Names → ℕ → List (List Bool) → List (List Bool) → Type 0
HasTokens file names number old new = IsWithTokens file (names_in names) number old new

abbrev pub HasBehind : File → Names → Mark → PlainSets → PlainSets → Type 0
HasBehind file names a old new = IsWithBehind file (names_in names) a old new

abbrev pub ClaimsSetLine : File → held_sets.SetKind → Names → PlainSets → PlainSets → Type 0
ClaimsSetLine file kind names old new = ClaimsSet file (set_kind kind) (names_in names) old new

abbrev pub ClaimsRowLine : File → held_rows.RowKind → ℕ → Names → PlainSets → PlainSets → Type 0
ClaimsRowLine file kind number names old new = ClaimsRow file (row_kind kind) number (names_in names) old new
