-- The numbers of tokens by their lexemes are weights.
use Rattle.std.proofs.Common.{ℕ, List, Option, None, Some, length, map, get_or, arith}
use Rattle.std.specs.Prelude.{All, option_map}
use Rattle.std.proofs.lemmas.List.Elements.{All-map}
use Rattle.cs_grammar.specs.Grammar.{IsNumberOf}
use Rattle.cs_grammar.specs.Weights.{byte_weight}

-- the number of a token by its lexeme
abbrev pub number_by : Option (List ℕ) → ℕ
number_by text = byte_weight (option_map length text)

is_weight : (text : Option (List ℕ)) → IsNumberOf 1000000 (number_by text)
is_weight None = (omega arith, omega arith)
is_weight (Some bytes) = (omega arith, omega arith)

pub are_weights : (lexemes : List (Option (List ℕ))) → All (IsNumberOf 1000000) (map number_by lexemes)
are_weights lexemes = All-map (IsNumberOf 1000000) number_by lexemes (λ k d within. is_weight (get_or lexemes k d))
