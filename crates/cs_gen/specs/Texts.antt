-- The text of the generated files.
use Rattle.std.specs.Prelude.{ℕ, zero, suc, List, [], ◌∷◌, ◌++◌, map, codes, decimal}
use Rattle.std.specs.List.{flat_map}
use Rattle.cs_gen.specs.declared.symbol.Symbol.{Symbol}
use Rattle.cs_gen.specs.declared.symbol.Symbol.TheVariants.{Token, Nonterminal}
use Rattle.cs_gen.specs.Rules.{body, bodies, Line, first_body, line, lines}

-- the numbers from 1 to n
abbrev pub up_to : ℕ → List ℕ
up_to zero = []
up_to (suc n) = up_to n ++ suc n ∷ []

-- tokens are named `t1`, `t2` and so on, nonterminals `n1`, `n2` and so on
abbrev pub name : Symbol → List ℕ
name (Token number) = codes "t" ++ decimal number
name (Nonterminal number) = codes "n" ++ decimal number

abbrev pub spaced_name : Symbol → List ℕ
spaced_name symbol = codes " " ++ name symbol

-- the names, each behind a space
abbrev pub names : List Symbol → List ℕ
names symbols = flat_map spaced_name symbols

-- ---- the yacc file

abbrev pub declaration : List ℕ
declaration = codes "%token" ++ names (map Token (up_to 24)) ++ codes "\n%%\n"

abbrev pub alternative : List Symbol → List ℕ
alternative symbols = codes " |" ++ names symbols

-- the bodies, each behind a bar
abbrev pub alternatives : List (List Symbol) → List ℕ
alternatives others = flat_map alternative others

abbrev pub line_text : Line → List ℕ
line_text l = name (Nonterminal l.left) ++ codes " :" ++ names l.first ++ alternatives l.others ++ codes " ;\n"

-- the text of what is drawn from a number of the sequence on
abbrev pub body_text : ℕ → List ℕ
body_text number = names (body number).what

abbrev pub bodies_text : ℕ → List ℕ
bodies_text number = alternatives (bodies number).what

abbrev pub first_text : ℕ → ℕ → List ℕ
first_text left token = names (first_body left token)

abbrev pub line_of : ℕ → ℕ → List ℕ
line_of left number = line_text (line left number).what

unfoldable pub yacc_text : ℕ → List ℕ
yacc_text seed = declaration ++ flat_map line_text (lines seed)

-- ---- the lex file

-- the rule of a token: its name is its pattern, and its action returns it
abbrev pub token_rule : ℕ → List ℕ
token_rule number = name (Token number) ++ codes " return " ++ name (Token number) ++ codes ";\n"

-- a rule for each token, and one that skips spaces and newlines
unfoldable pub lex_text : List ℕ
lex_text = codes "%%\n" ++ flat_map token_rule (up_to 24) ++ codes "[ \\n]+ ;\n"
