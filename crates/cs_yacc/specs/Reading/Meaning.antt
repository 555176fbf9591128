-- What the items of a yacc file mean (POSIX yacc, the grammar file). It speaks of items that the table takes: of others it
-- says nothing that counts.
use Rattle.std.specs.Prelude.{ℕ, suc, Bool, true, false, ◌==◌, ◌&&◌, not, if◌then◌else◌, List, [], ◌∷◌, ◌++◌, length, map, take, filter, Option, Some, None, option_map, Result, Ok, Err, nat_lt, codes}
use Rattle.std.specs.Option.{option_or}
use Rattle.std.specs.List.{list_any, position_or_len, flat_map}
use Rattle.std.specs.Str.{bytes_eq}
use Rattle.cs_grammar.specs.declared.symbol.Symbol.{Symbol}
use Rattle.cs_grammar.specs.declared.symbol.Symbol.TheVariants.{Token, Nonterminal}
use Rattle.cs_grammar.specs.Grammar.{Production}
use Rattle.cs_yacc.specs.declared.reading.name.TokenName.{TokenName}
use Rattle.cs_yacc.specs.declared.reading.name.TokenName.TheVariants.{Word, Byte}
use Rattle.cs_yacc.specs.declared.reading.error.YaccLimit.{YaccLimit}
use Rattle.cs_yacc.specs.declared.reading.error.YaccLimit.TheVariants.{Tokens, Nonterminals, Rules, RightSide}
use Rattle.cs_yacc.specs.declared.reading.error.YaccError.{YaccError}
use Rattle.cs_yacc.specs.declared.reading.error.YaccError.TheVariants.{SecondStart, TokenOnLeft, Undefined, StartNotNonterminal, Limit}
use Rattle.cs_yacc.specs.declared.items.directive.Directive.{Directive}
use Rattle.cs_yacc.specs.declared.items.directive.Directive.TheVariants as directives
use Rattle.cs_yacc.specs.Items.Items.{Item, mark, directive, name, literal, number, tag, block, colon, bar, comma, Placed, items_of}
use Rattle.cs_yacc.specs.Reading.File.{File}

-- the error, where there is one
abbrev pub unless : {A E : Type 0} → Option E → Result A E → Result A E
unless None r = r
unless (Some e) r = Err e

-- ---- spellings: a name, or a byte between quotes. Two literals of one byte are one spelling.

abbrev pub same_spelling : TokenName → TokenName → Bool
same_spelling (Word m) (Word n) = bytes_eq m n
same_spelling (Byte a) (Byte b) = a == b
same_spelling v w = false

abbrev pub has_spelling : List TokenName → TokenName → Bool
has_spelling words w = list_any (same_spelling w) words

-- each spelling once, in the order of their first places
abbrev pub distinct : List TokenName → List TokenName
distinct [] = []
distinct (w ∷ ws) = w ∷ filter (λ v. not (same_spelling w v)) (distinct ws)

-- the number of a spelling in a list, from 1
abbrev pub number_in : List TokenName → TokenName → ℕ
number_in words w = suc (position_or_len (same_spelling w) words)

-- the bytes that a spelling consists of, without quotes
abbrev pub bytes_of : TokenName → List ℕ
bytes_of (Word n) = n
bytes_of (Byte b) = b ∷ []

-- the spelling of an item that has one
abbrev pub spelling_at : Item → List TokenName
spelling_at (name n) = Word n ∷ []
spelling_at (literal b) = Byte b ∷ []
spelling_at i = []

-- ---- items, each seen with the items behind it

-- what each item gives, in order
abbrev pub from_each : {A : Type 0} → (Item → List Item → List A) → List Item → List A
from_each f [] = []
from_each f (i ∷ items) = f i items ++ from_each f items

-- the offset of the first item that passes
abbrev pub first_at : (Item → List Item → Bool) → List Placed → Option ℕ
first_at t [] = None
first_at t (p ∷ ps) = if t p.item (items_of ps) then Some p.at else first_at t ps

abbrev pub begins_with_colon : List Item → Bool
begins_with_colon (colon ∷ items) = true
begins_with_colon items = false

abbrev pub is_mark : Item → Bool
is_mark mark = true
is_mark i = false

-- the items behind the first mark
abbrev pub behind_mark : List Placed → List Placed
behind_mark [] = []
behind_mark (p ∷ ps) = if is_mark p.item then ps else behind_mark ps

abbrev pub is_start : Item → Bool
is_start (directive directives.Start) = true
is_start i = false

-- the items behind the first `%start`
abbrev pub behind_start : List Placed → List Placed
behind_start [] = []
behind_start (p ∷ ps) = if is_start p.item then ps else behind_start ps

-- the item behind the first `%start`, which names the start symbol
abbrev pub start_item : List Placed → List Placed
start_item ps = take 1 (behind_start ps)

-- ---- items with a meaning

abbrev pub is_prec : Item → Bool
is_prec (directive directives.Prec) = true
is_prec i = false

-- an item that has no meaning: `%empty`, a block, a tag, a number, a comma; `%prec` has one for the symbol behind it alone
abbrev pub is_idle : Item → Bool
is_idle (directive directives.Prec) = true
is_idle (directive directives.Empty) = true
is_idle block = true
is_idle tag = true
is_idle number = true
is_idle comma = true
is_idle i = false

-- whether this item, if any, is `%prec`
abbrev pub is_prec_before : Option Item → Bool
is_prec_before None = false
is_prec_before (Some i) = is_prec i

-- an item has a meaning unless it is idle or `%prec` stands directly before it
abbrev pub has_meaning : Option Item → Item → Bool
has_meaning before i = not (is_prec_before before) && not (is_idle i)

abbrev pub only_if : {A : Type 0} → Bool → A → List A
only_if b x = if b then x ∷ [] else []

-- the items with a meaning, where this one, if any, stands directly before the first
abbrev pub with_meaning_behind : Option Item → List Placed → List Placed
with_meaning_behind before [] = []
with_meaning_behind before (p ∷ ps) = only_if (has_meaning before p.item) p ++ with_meaning_behind (Some p.item) ps

abbrev pub with_meaning : List Placed → List Placed
with_meaning ps = with_meaning_behind None ps

-- ---- declarations

-- the names of the list that begins here; literals may stand between them
abbrev pub listed : List Item → List TokenName
listed (name n ∷ items) = Word n ∷ listed items
listed (literal b ∷ items) = listed items
listed items = []

-- whether the directive declares the names of its list; `%type` doesn't
abbrev pub declares : Directive → Bool
declares directives.Token = true
declares directives.Left = true
declares directives.Right = true
declares directives.Nonassoc = true
declares directives.Precedence = true
declares d = false

-- the directive of a list declares the names of its list
abbrev pub declared_at : Item → List Item → List TokenName
declared_at (directive d) items = if declares d then listed items else []
declared_at i items = []

abbrev pub declared : List Item → List TokenName
declared = from_each declared_at

-- the name `error`, which is always declared
abbrev pub error_spelling : TokenName
error_spelling = Word (codes "error")

-- the declared tokens, each once
abbrev pub declared_tokens : List Item → List TokenName
declared_tokens items = distinct (error_spelling ∷ declared items)

-- ---- rules

-- a name that a colon follows directly is a left side
abbrev pub left_at : Item → List Item → List TokenName
left_at (name n) items = if begins_with_colon items then Word n ∷ [] else []
left_at i items = []

abbrev pub left_sides : List Item → List TokenName
left_sides = from_each left_at

-- The spellings of the body that begins here: it goes to the next bar, semicolon, left side or mark.
abbrev pub body : List Item → List TokenName
body (name n ∷ items) = if begins_with_colon items then [] else Word n ∷ body items
body (literal b ∷ items) = Byte b ∷ body items
body items = []

-- The bodies of the left side that stands before: one behind each colon and bar, up to the next left side.
abbrev pub bodies : List Item → List (List TokenName)
bodies [] = []
bodies (colon ∷ items) = body items ∷ bodies items
bodies (bar ∷ items) = body items ∷ bodies items
bodies (name n ∷ items) = if begins_with_colon items then [] else bodies items
bodies (i ∷ items) = bodies items

-- a rule as the file spells it: its left side and the spellings of its body
pub record SpelledRule : Type 0 where
  pub left : TokenName
  pub right : List TokenName

abbrev pub rules_of : TokenName → List (List TokenName) → List SpelledRule
rules_of left bodies = map (λ right. record { left = left; right = right }) bodies

-- the rules of a left side
abbrev pub rules_at : Item → List Item → List SpelledRule
rules_at (name n) items = if begins_with_colon items then rules_of (Word n) (bodies items) else []
rules_at i items = []

-- the rules, in the file's order
abbrev pub rules : List Item → List SpelledRule
rules = from_each rules_at

-- a rule is kept unless its body holds `error`
abbrev pub is_kept : SpelledRule → Bool
is_kept r = not (has_spelling r.right error_spelling)

abbrev pub kept : List Item → List SpelledRule
kept items = filter is_kept (rules items)

-- ---- numbers

-- the nonterminals, in the order of their first left sides
abbrev pub nonterminals : List Item → List TokenName
nonterminals items = distinct (left_sides items)

-- the spellings of the rules' right sides, each once
abbrev pub used : List SpelledRule → List TokenName
used rules = distinct (flat_map (λ r. r.right) rules)

-- a token in use stands in a rule, and is no left side
abbrev pub is_in_use : List TokenName → List TokenName → TokenName → Bool
is_in_use used lefts w = has_spelling used w && not (has_spelling lefts w)

abbrev pub spelled : List Item → List TokenName
spelled = from_each (λ i items. spelling_at i)

-- the tokens in use, in the order of the first items that spell them
abbrev pub tokens : List TokenName → List TokenName → List Item → List TokenName
tokens used lefts items = distinct (filter (is_in_use used lefts) (spelled items))

-- the symbol that a spelling stands for, where these are the tokens and the nonterminals
abbrev pub symbol_of : List TokenName → List TokenName → TokenName → Symbol
symbol_of tokens nonterminals w = if has_spelling nonterminals w then Nonterminal (number_in nonterminals w) else Token (number_in tokens w)

abbrev pub production_of : List TokenName → List TokenName → SpelledRule → Production
production_of tokens nonterminals r = record { left = number_in nonterminals r.left; right = map (symbol_of tokens nonterminals) r.right }

-- the number of the first spelling, or 1
abbrev pub number_or_first : List TokenName → List TokenName → ℕ
number_or_first lefts [] = 1
number_or_first lefts (w ∷ ws) = number_in lefts w

-- the start symbol: what the item behind `%start` names, or the first left side
abbrev pub start_of : List TokenName → List Placed → ℕ
start_of lefts [] = 1
start_of lefts (p ∷ ps) = number_or_first lefts (spelling_at p.item)

-- what the items give before its symbols are numbered: the tokens in use, the nonterminals, the item that names the start
-- symbol, if one does, and the kept rules
pub record Parts : Type 0 where
  pub tokens : List TokenName
  pub nonterminals : List TokenName
  pub start : List Placed
  pub rules : List SpelledRule

-- the tokens of all items, where these have a meaning
abbrev pub tokens_of : List Placed → List Placed → List TokenName
tokens_of all items = tokens (used (kept (items_of items))) (nonterminals (items_of items)) (items_of all)

-- the parts of all items, where these have a meaning
abbrev pub parts_of : List Placed → List Placed → Parts
parts_of all items = record {
  tokens = tokens_of all items;
  nonterminals = nonterminals (items_of items);
  start = start_item all;
  rules = kept (items_of items);
}

-- the symbol that a spelling stands for
abbrev pub symbol_in : Parts → TokenName → Symbol
symbol_in p w = symbol_of p.tokens p.nonterminals w

abbrev pub symbols_in : Parts → List TokenName → List Symbol
symbols_in p right = map (symbol_in p) right

abbrev pub start_in : Parts → ℕ
start_in p = start_of p.nonterminals p.start

abbrev pub productions : Parts → List Production
productions p = map (production_of p.tokens p.nonterminals) p.rules

-- the file that the parts make
abbrev pub file_with : Parts → File
file_with p = record {
  grammar = record { tokens = length p.tokens; nonterminals = length p.nonterminals; start = start_of p.nonterminals p.start; rules = productions p };
  token_names = p.tokens;
  nonterminal_names = map bytes_of p.nonterminals;
}

-- ---- refusals

-- a left side that is a declared token
abbrev pub is_token_on_left : List TokenName → Item → List Item → Bool
is_token_on_left declared i items = list_any (has_spelling declared) (left_at i items)

-- a name that is neither declared nor a left side
abbrev pub is_undefined : List TokenName → List TokenName → Item → Bool
is_undefined declared lefts (name n) = not (has_spelling declared (Word n)) && not (has_spelling lefts (Word n))
is_undefined declared lefts i = false

-- an item that names no left side
abbrev pub is_no_left : List TokenName → Item → Bool
is_no_left lefts i = not (list_any (has_spelling lefts) (spelling_at i))

-- the offset of the item that names the start symbol, where it names no left side
abbrev pub wrong_start : List TokenName → List Placed → Option ℕ
wrong_start lefts [] = None
wrong_start lefts (p ∷ ps) = if is_no_left lefts p.item then Some p.at else None

-- the offset of the first `%start`
abbrev pub first_start : List Placed → Option ℕ
first_start ps = first_at (λ i _. is_start i) ps

-- the offset of the first name that is neither declared nor a left side
abbrev pub first_undefined : List TokenName → List TokenName → List Placed → Option ℕ
first_undefined declared lefts ps = first_at (λ i _. is_undefined declared lefts i) ps

-- The first fault of names: a second `%start`; a left side that is a declared token; a name of a body that is neither a
-- token nor a left side; a start symbol that is no left side.
abbrev pub name_fault : List Placed → List Placed → List TokenName → List TokenName → Option YaccError
name_fault all items declared lefts =
    option_or (option_map SecondStart (first_start (behind_start all)))
    (option_or (option_map TokenOnLeft (first_at (is_token_on_left declared) items))
    (option_or (option_map Undefined (first_undefined declared lefts (behind_mark items)))
    (option_map StartNotNonterminal (wrong_start lefts (start_item all)))))

abbrev pub above : YaccLimit → ℕ → ℕ → Option YaccError
above which found most = if nat_lt most found then Some (Limit which found most) else None

-- the first right side that is too long
abbrev pub long_right : List SpelledRule → Option YaccError
long_right [] = None
long_right (r ∷ rs) = option_or (above RightSide (length r.right) 128) (long_right rs)

-- the first limit that is passed
abbrev pub limit_passed : Parts → Option YaccError
limit_passed p =
    option_or (above Tokens (length p.tokens) 512)
    (option_or (above Nonterminals (length p.nonterminals) 1024)
    (option_or (above Rules (length p.rules) 8192)
    (long_right p.rules)))

-- the file that the parts make, or the first limit that they pass
abbrev pub file_or_limit : Parts → Result File YaccError
file_or_limit p = unless (limit_passed p) (Ok (file_with p))

-- what all items give, where these have a meaning
abbrev pub outcome_with : List Placed → List Placed → Result File YaccError
outcome_with all items =
    unless (name_fault all items (declared_tokens (items_of items)) (nonterminals (items_of items))) (file_or_limit (parts_of all items))

-- what the items of a file give: what they mean, or the first fault
abbrev pub outcome : List Placed → Result File YaccError
outcome ps = outcome_with ps (with_meaning ps)
