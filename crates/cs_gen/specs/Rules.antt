-- The rules of a generated yacc file, and the order in which their parts are drawn.
use Rattle.std.specs.Prelude.{ℕ, ◌+◌, ◌==◌, nat_lt, if◌then◌else◌, List, [], ◌∷◌}
use Rattle.cs_gen.specs.declared.symbol.Symbol.{Symbol}
use Rattle.cs_gen.specs.declared.symbol.Symbol.TheVariants.{Token, Nonterminal}
use Rattle.cs_gen.specs.Draws.{Drawn, draw, one_of, several}

-- A symbol: first whether it is one of 24 tokens or one of 40 nonterminals, then which.
unfoldable pub symbol : ℕ → Drawn Symbol
symbol number =
    let kind = draw 2 number in
    let which = one_of (if kind.what == 0 then 24 else 40) kind.behind in
    record { what = if kind.what == 0 then Token which.what else Nonterminal which.what; behind = which.behind }

-- A body: first how many symbols, at most three, then these.
unfoldable pub body : ℕ → Drawn (List Symbol)
body number = let length = draw 4 number in several (λ _. symbol) length.what length.behind

-- The further bodies of a rule: first how many, one to three, then these.
unfoldable pub bodies : ℕ → Drawn (List (List Symbol))
bodies number = let count = one_of 3 number in several (λ _. body) count.what count.behind

-- A line of rules: the nonterminal that they are of, and their bodies.
pub record Line : Type 0 where
  pub left : ℕ
  pub first : List Symbol
  pub others : List (List Symbol)

-- the first body of a nonterminal: a token, and the next nonterminal, if there is one
abbrev pub first_body : ℕ → ℕ → List Symbol
first_body left token = Token token ∷ (if nat_lt left 40 then Nonterminal (left + 1) ∷ [] else [])

-- The line of a nonterminal: first a token, then the further bodies.
unfoldable pub line : ℕ → ℕ → Drawn Line
line left number =
    let token = one_of 24 number in
    let others = bodies token.behind in
    record { what = record { left = left; first = first_body left token.what; others = others.what }; behind = others.behind }

-- the lines of the 40 nonterminals, one behind the other
unfoldable pub lines : ℕ → List Line
lines seed = (several line 40 seed).what
