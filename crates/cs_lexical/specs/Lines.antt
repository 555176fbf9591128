-- The text of `lexical`: what each scanner rule wins, and in what each two of them overlap.
use Rattle.std.specs.Prelude.{◌≡◌, ℕ, ◌+◌, ◌-◌, List, [], ◌++◌, codes, count_by, is_none, is_some, sum_by, Option, None, Some, slice_get}
use Rattle.cs_manifest.specs.Output.Names.{token_of}
use Rattle.cs_manifest.specs.Output.Words.{line, numbered_word, quoted, with_numbers}
use Rattle.cs_pattern_parts.specs.declared.kind.Kind.{Kind}
use Rattle.cs_pattern_parts.specs.declared.kind.Kind.TheVariants.{Foreign, OwnByte, Skip, Token}
use Rattle.cs_scanner.specs.Scan.Compared.{scanning}
use Rattle.cs_scanner.specs.Scan.Scan.{Scanning}
use Rattle.cs_scanner.specs.declared.scanning.scanner.Scanner.{Scanner}
use Rattle.cs_yacc.specs.Reading.File.{File}
use Rattle.cs_lexical.specs.Least.{AreLeastTexts, LeastTexts, rules_of}

-- ---- the rules

-- `token NAME`, `literal`, `skip` or `foreign`
abbrev pub kind_words : File → Kind → List ℕ
kind_words file (Token token) = codes "token " ++ token_of file token
kind_words file OwnByte = codes "literal"
kind_words file Skip = codes "skip"
kind_words file Foreign = codes "foreign"

-- the words of a rule's kind; there are as many kinds as rules
abbrev pub kind_of : File → Option Kind → List ℕ
kind_of file None = []
kind_of file (Some kind) = kind_words file kind

-- ` wins "TEXT"` or ` shadowed`
abbrev pub win_words : Option (List ℕ) → List ℕ
win_words None = codes " shadowed"
win_words (Some text) = codes " wins " ++ quoted text

-- `rule R KIND`, and what it wins
abbrev pub rule_line : File → List Kind → ℕ → Option (List ℕ) → List ℕ
rule_line file kinds rule win =
    line (numbered_word (codes "rule ") rule ++ codes " " ++ kind_of file (slice_get kinds (rule - 1)) ++ win_words win)

-- of each rule
abbrev pub rule_lines : File → List Kind → List (Option (List ℕ)) → List ℕ
rule_lines file kinds wins = with_numbers (rule_line file kinds) wins

-- ---- each two rules

-- `overlap R S "TEXT"`; two rules that overlap nowhere have no line
abbrev pub overlap_line : ℕ → ℕ → Option (List ℕ) → List ℕ
overlap_line rule other None = []
overlap_line rule other (Some text) =
    line (numbered_word (codes "overlap ") rule ++ numbered_word (codes " ") other ++ codes " " ++ quoted text)

-- with the rule that stands so far behind the first one
abbrev pub overlap_behind : ℕ → ℕ → Option (List ℕ) → List ℕ
overlap_behind rule distance both = overlap_line rule (rule + distance) both

-- with each rule behind it
abbrev pub overlap_lines : ℕ → List (Option (List ℕ)) → List ℕ
overlap_lines rule row = with_numbers (overlap_behind rule) row

-- of each rule, with each rule behind it
abbrev pub pair_lines : List (List (Option (List ℕ))) → List ℕ
pair_lines rows = with_numbers overlap_lines rows

-- ---- the end

-- how many rules win nothing, how many pairs overlap, and how many don't
abbrev pub shadowed : LeastTexts → ℕ
shadowed texts = count_by is_none texts.wins

abbrev pub overlaps : LeastTexts → ℕ
overlaps texts = sum_by (count_by is_some) texts.rows

abbrev pub disjoint : LeastTexts → ℕ
disjoint texts = sum_by (count_by is_none) texts.rows

-- `end rules N shadowed H overlaps O disjoint D`
abbrev pub end_line : LeastTexts → List ℕ
end_line texts =
    line
    (numbered_word (codes "end rules ") (rules_of texts) ++ numbered_word (codes " shadowed ") (shadowed texts)
    ++ numbered_word (codes " overlaps ") (overlaps texts) ++ numbered_word (codes " disjoint ") (disjoint texts))

-- ---- the text

-- the head, a line for each rule, one for each two that overlap, and the end
abbrev pub lexical_lines : File → List Kind → LeastTexts → List ℕ
lexical_lines file kinds texts =
    line (codes "conform lexical") ++ rule_lines file kinds texts.wins ++ pair_lines texts.rows ++ end_line texts

-- The text tells of the scanner's rules by their least texts.
pub record IsLexical (file : File) (scanning : Scanning) (text : List ℕ) : Type 0 where
  pub texts : LeastTexts
  pub are : AreLeastTexts scanning.patterns texts
  pub lines : text ≡ lexical_lines file scanning.kinds texts

-- that of a scanner
abbrev pub IsLexicalOf : File → Scanner → List ℕ → Type 0
IsLexicalOf file scanner text = IsLexical file (scanning scanner) text
