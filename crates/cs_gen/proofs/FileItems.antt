-- The items that the generated yacc file spells, and what holds of all of them.
use Rattle.std.proofs.Common.{ℕ, zero, suc, ◌≤◌, List, [], ◌∷◌, map, sym, subst, arith}
use Rattle.std.proofs.lemmas.List.{map_push}
use Rattle.std.specs.List.{AllByRecursion}
use Rattle.cs_yacc.specs.declared.items.directive.Directive.TheVariants as directives
use Rattle.cs_yacc.specs.Items.Items.{Item, mark, directive, name, colon, semicolon, bar}
use Rattle.cs_gen.specs.declared.symbol.Symbol.{Symbol}
use Rattle.cs_gen.specs.declared.symbol.Symbol.TheVariants.{Token, Nonterminal}
use Rattle.cs_gen.specs.Rules.{Line}
use Rattle.cs_gen.specs.Texts as texts
use Rattle.cs_gen.proofs.Digits.{all_push}
use Rattle.cs_gen.proofs.KnownLines.{IsKnown, AreKnown, AreBodies, AreLines}

abbrev pub symbol_item : Symbol → Item
symbol_item s = name (texts.name s)

-- the items of a body, of further bodies, of a line, with these behind them
abbrev pub body_onto : List Symbol → List Item → List Item
body_onto [] items = items
body_onto (s ∷ ss) items = symbol_item s ∷ body_onto ss items

abbrev pub alternatives_onto : List (List Symbol) → List Item → List Item
alternatives_onto [] items = items
alternatives_onto (b ∷ bs) items = bar ∷ body_onto b (alternatives_onto bs items)

abbrev pub line_onto : Line → List Item → List Item
line_onto l items = symbol_item (Nonterminal l.left) ∷ colon ∷ body_onto l.first (alternatives_onto l.others (semicolon ∷ items))

abbrev pub lines_items : List Line → List Item
lines_items [] = []
lines_items (l ∷ ls) = line_onto l (lines_items ls)

abbrev pub all_tokens : List Symbol
all_tokens = map Token (texts.up_to 24)

abbrev pub rest_items : List Line → List Item
rest_items ls = body_onto all_tokens (mark ∷ lines_items ls)

abbrev pub file_items : List Line → List Item
file_items ls = directive directives.Token ∷ rest_items ls

tokens_below : (n : ℕ) → n ≤ 24 → AreKnown (map Token (texts.up_to n))
tokens_below zero le = tt
tokens_below (suc n) le =
    subst AreKnown (sym (map_push Token (texts.up_to n) (suc n))) (all_push IsKnown (map Token (texts.up_to n)) (Token (suc n)) (tokens_below n (omega arith)) (omega arith, le))

pub tokens_known : AreKnown all_tokens
tokens_known = tokens_below 24 (omega arith)

-- what holds of the signs, the mark and each name holds of all items behind the directive
module _ (P : Item → Type 0) (colon_is : P colon) (bar_is : P bar) (semicolon_is : P semicolon) (mark_is : P mark) (name_is : (s : Symbol) → IsKnown s → P (symbol_item s)) where
  all_body : (ss : List Symbol) (items : List Item) → AreKnown ss → AllByRecursion P items → AllByRecursion P (body_onto ss items)
  all_body [] items known h = h
  all_body (s ∷ ss) items known h = (name_is s known.0, all_body ss items known.1 h)

  all_alternatives : (bs : List (List Symbol)) (items : List Item) → AreBodies bs → AllByRecursion P items → AllByRecursion P (alternatives_onto bs items)
  all_alternatives [] items known h = h
  all_alternatives (b ∷ bs) items known h = let first = known.0 in (bar_is, all_body b (alternatives_onto bs items) first.known (all_alternatives bs items known.1 h))

  all_lines : (ls : List Line) → AreLines ls → AllByRecursion P (lines_items ls)
  all_lines [] known = tt
  all_lines (l ∷ ls) known =
      let is = known.0 in
      let first = is.first in
      (name_is (Nonterminal l.left) is.left, (colon_is, all_body l.first (alternatives_onto l.others (semicolon ∷ lines_items ls)) first.known (all_alternatives l.others (semicolon ∷ lines_items ls) is.others (semicolon_is, all_lines ls known.1))))

  pub all_rest : (ls : List Line) → AreLines ls → AllByRecursion P (rest_items ls)
  all_rest ls known = all_body all_tokens (mark ∷ lines_items ls) tokens_known (mark_is, all_lines ls known)
