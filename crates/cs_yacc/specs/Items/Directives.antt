-- The directives of a yacc file, by their words (POSIX yacc, the grammar file; `%expect`, `%precedence` and `%empty` of GNU Bison).
use Rattle.std.specs.Prelude.{ℕ, if◌then◌else◌, List, Option, Some, None, codes}
use Rattle.std.specs.Str.{bytes_eq}
use Rattle.cs_yacc.specs.declared.items.directive.Directive.{Directive}
use Rattle.cs_yacc.specs.declared.items.directive.Directive.TheVariants.{Token, Left, Right, Nonassoc, Precedence, TypeOf, Start, Union, Expect, Prec, Empty}

-- the directive of a word, where one has it
abbrev pub directive_of : List ℕ → Option Directive
directive_of word =
    if bytes_eq word (codes "token") then Some Token
    else if bytes_eq word (codes "left") then Some Left
    else if bytes_eq word (codes "right") then Some Right
    else if bytes_eq word (codes "nonassoc") then Some Nonassoc
    else if bytes_eq word (codes "precedence") then Some Precedence
    else if bytes_eq word (codes "type") then Some TypeOf
    else if bytes_eq word (codes "start") then Some Start
    else if bytes_eq word (codes "union") then Some Union
    else if bytes_eq word (codes "expect") then Some Expect
    else if bytes_eq word (codes "prec") then Some Prec
    else if bytes_eq word (codes "empty") then Some Empty
    else None
