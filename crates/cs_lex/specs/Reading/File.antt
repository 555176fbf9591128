-- A lex file as contracts see it.
use Rattle.std.specs.Prelude.{◌≡◌, ℕ, ◌<◌, ◌≤◌, List, All, length}
use Rattle.cs_pattern_parts.specs.declared.kind.Kind.{Kind}
use Rattle.cs_pattern_parts.specs.declared.kind.Kind.TheVariants.{Token, OwnByte, Skip, Foreign}
use Rattle.cs_pattern_parts.specs.declared.tree.pattern.Pattern.{Pattern}
use Rattle.cs_pattern_parts.specs.Tree.Pattern.{Regex, regexes}
use Rattle.cs_pattern_parts.specs.Tree.Scannable.{AreScannable}

-- Rule r has the pattern and the kind at the place r - 1. The literal of byte b has its token at the place b, or 0.
pub record File : Type 0 where
  pub patterns : List Regex
  pub kinds : List Kind
  pub literals : List ℕ

-- the file of these
abbrev pub file_of : List Pattern → List Kind → List ℕ → File
file_of patterns kinds literals = record { patterns = regexes patterns; kinds = kinds; literals = literals }

-- There are as many kinds as patterns and 256 literals, and an automaton can be made of the patterns.
pub record IsFile (file : File) : Type 0 where
  pub kinds : length file.kinds ≡ length file.patterns
  pub literals : length file.literals ≡ 256
  pub scannable : AreScannable file.patterns

-- a token that the kind names is one of so many
abbrev pub NamesTokenOf : ℕ → Kind → Type 0
NamesTokenOf tokens (Token t) = (0 < t) × (t ≤ tokens)
NamesTokenOf tokens OwnByte = Unit {0}
NamesTokenOf tokens Skip = Unit {0}
NamesTokenOf tokens Foreign = Unit {0}

-- each token that a kind or a literal of the file names is one of so many
pub record HasTokensOf (tokens : ℕ) (file : File) : Type 0 where
  pub kinds : All (NamesTokenOf tokens) file.kinds
  pub literals : All (λ t. t ≤ tokens) file.literals
