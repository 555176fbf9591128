-- Weights: a number for each token and a limit, by which the sizes of trees are measured.
use Rattle.std.specs.Prelude.{◌≡◌, ℕ, ◌+◌, ◌-◌, ◌*◌, List, Option, Some, None, All, min, length, replicate, slice_index_or}
use Rattle.cs_grammar.specs.Grammar.{PlainGrammar, IsNumberOf, IsGrammar}

-- how trees are measured: the numbers of the tokens, and the size above which a tree isn't written out
pub record Measure : Type 0 where
  pub numbers : List ℕ
  pub limit : ℕ

-- the number of a token; tokens are numbered from 1
abbrev pub number : Measure → ℕ → ℕ
number w token = slice_index_or w.numbers (token - 1) 1

-- each number and the limit are from 1 to the most that they may be
pub record IsMeasure (w : Measure) : Type 0 where
  pub numbers : All (IsNumberOf 1000000) w.numbers
  pub limit : IsNumberOf 1000000 w.limit

-- a size, with all sizes above the limit taken as one
abbrev pub capped : ℕ → ℕ → ℕ
capped limit n = min n (limit + 1)

-- the limits of sizes, which are this project's: a derivation tree above them is only known to exist. Where nodes are weighed
abbrev pub node_limit : ℕ
node_limit = 10000

-- where bytes are weighed
abbrev pub byte_limit : ℕ
byte_limit = 100000

-- nodes are counted: each of so many tokens has the number 1
abbrev pub nodes : ℕ → Measure
nodes tokens = record { numbers = replicate tokens 1; limit = node_limit }

-- the number of a token whose text has this length, or that has no text: short texts are cheap, and none is dear
abbrev pub byte_weight : Option ℕ → ℕ
byte_weight (Some bytes) = min (1 + 16 * bytes) 1000000
byte_weight None = 5000

-- a grammar, and weights by which its trees are measured
pub record Weighed : Type 0 where
  pub grammar : PlainGrammar
  pub weights : Measure

abbrev pub weighed : PlainGrammar → Measure → Weighed
weighed g w = record { grammar = g; weights = w }

-- a well-formed grammar, and weights that have a number for each of its tokens
pub record Weighs (w : Measure) (g : PlainGrammar) : Type 0 where
  pub grammar : IsGrammar g
  pub weights : IsMeasure w
  pub each : length w.numbers ≡ g.tokens
