-- The definitions computed on small files.
use Rattle.std.proofs.Common.{◌≡◌, List, [], ◌∷◌, refl}
use Rattle.std.specs.Prelude.{codes, None, Some, Ok, Err}
use Rattle.cs_grammar.specs.declared.symbol.Symbol.TheVariants.{Token, Nonterminal}
use Rattle.cs_yacc.specs.declared.items.directive.Directive.TheVariants as directives
use Rattle.cs_yacc.specs.declared.reading.name.TokenName.TheVariants.{Word, Byte}
use Rattle.cs_yacc.specs.declared.reading.error.YaccError.TheVariants.{SecondStart, TokenOnLeft, Undefined, StartNotNonterminal}
use Rattle.cs_yacc.specs.Items.Items.{mark, directive, name, literal, block, colon, semicolon, bar, Placed}
use Rattle.cs_yacc.specs.Items.Table.{declarations}
use Rattle.cs_yacc.proofs.OnItems.Stuck.{stuck_at}
use Rattle.cs_yacc.specs.Reading.Meaning.{outcome}

-- %token NUM %% e : e '+' t | t ; t : NUM | '(' e ')' ;
abbrev sums : List Placed
sums = record { at = 0; item = directive directives.Token } ∷ record { at = 7; item = name (codes "NUM") } ∷ record { at = 11; item = mark } ∷ record { at = 14; item = name (codes "e") } ∷ record { at = 16; item = colon } ∷ record { at = 18; item = name (codes "e") }
    ∷ record { at = 20; item = literal 43 } ∷ record { at = 24; item = name (codes "t") } ∷ record { at = 26; item = bar } ∷ record { at = 28; item = name (codes "t") } ∷ record { at = 30; item = semicolon } ∷ record { at = 32; item = name (codes "t") } ∷ record { at = 34; item = colon }
    ∷ record { at = 36; item = name (codes "NUM") } ∷ record { at = 40; item = bar } ∷ record { at = 42; item = literal 40 } ∷ record { at = 46; item = name (codes "e") } ∷ record { at = 48; item = literal 41 } ∷ record { at = 52; item = semicolon } ∷ []

sums_taken : stuck_at declarations 54 sums ≡ None
sums_taken = refl

file_of_sums : outcome sums ≡ Ok (record {
  grammar = record {
    tokens = 4;
    nonterminals = 2;
    start = 1;
    rules = record { left = 1; right = Nonterminal 1 ∷ Token 2 ∷ Nonterminal 2 ∷ [] } ∷ record { left = 1; right = Nonterminal 2 ∷ [] } ∷ record { left = 2; right = Token 1 ∷ [] }
        ∷ record { left = 2; right = Token 3 ∷ Nonterminal 1 ∷ Token 4 ∷ [] } ∷ [];
  };
  token_names = Word (codes "NUM") ∷ Byte 43 ∷ Byte 40 ∷ Byte 41 ∷ [];
  nonterminal_names = codes "e" ∷ codes "t" ∷ [];
})
file_of_sums = refl

-- %% a : 'x' ; b
name_without_colon : stuck_at declarations 15 (record { at = 0; item = mark } ∷ record { at = 3; item = name (codes "a") } ∷ record { at = 5; item = colon } ∷ record { at = 7; item = literal 120 } ∷ record { at = 11; item = semicolon } ∷ record { at = 13; item = name (codes "b") } ∷ []) ≡ Some 15
name_without_colon = refl

-- %token A B %% A : 'x' ;
token_on_left : outcome (record { at = 0; item = directive directives.Token } ∷ record { at = 7; item = name (codes "A") } ∷ record { at = 9; item = name (codes "B") } ∷ record { at = 11; item = mark } ∷ record { at = 14; item = name (codes "A") } ∷ record { at = 16; item = colon } ∷ record { at = 18; item = literal 120 } ∷ record { at = 22; item = semicolon } ∷ [])
    ≡ Err (TokenOnLeft 14)
token_on_left = refl

-- %start s %start t %% s : ;
second_start : outcome (record { at = 0; item = directive directives.Start } ∷ record { at = 7; item = name (codes "s") } ∷ record { at = 9; item = directive directives.Start } ∷ record { at = 16; item = name (codes "t") } ∷ record { at = 18; item = mark } ∷ record { at = 21; item = name (codes "s") } ∷ record { at = 23; item = colon } ∷ record { at = 25; item = semicolon } ∷ [])
    ≡ Err (SecondStart 9)
second_start = refl

-- %start t %% s : 'x' ;
start_without_rules : outcome (record { at = 0; item = directive directives.Start } ∷ record { at = 7; item = name (codes "t") } ∷ record { at = 9; item = mark } ∷ record { at = 12; item = name (codes "s") } ∷ record { at = 14; item = colon } ∷ record { at = 16; item = literal 120 } ∷ record { at = 20; item = semicolon } ∷ [])
    ≡ Err (StartNotNonterminal 7)
start_without_rules = refl

-- %% s : t ;
undefined_name : outcome (record { at = 0; item = mark } ∷ record { at = 3; item = name (codes "s") } ∷ record { at = 5; item = colon } ∷ record { at = 7; item = name (codes "t") } ∷ record { at = 9; item = semicolon } ∷ []) ≡ Err (Undefined 7)
undefined_name = refl

-- %% s : 'x' %prec P { } | error ';' ;
left_out : outcome (record { at = 0; item = mark } ∷ record { at = 3; item = name (codes "s") } ∷ record { at = 5; item = colon } ∷ record { at = 7; item = literal 120 } ∷ record { at = 11; item = directive directives.Prec } ∷ record { at = 17; item = name (codes "P") } ∷ record { at = 19; item = block } ∷ record { at = 23; item = bar }
    ∷ record { at = 25; item = name (codes "error") } ∷ record { at = 31; item = literal 59 } ∷ record { at = 35; item = semicolon } ∷ []) ≡ Ok (record {
      grammar = record { tokens = 1; nonterminals = 1; start = 1; rules = record { left = 1; right = Token 1 ∷ [] } ∷ [] };
      token_names = Byte 120 ∷ [];
      nonterminal_names = codes "s" ∷ [];
    })
left_out = refl
