-- The table takes the items of the generated yacc file.
use Rattle.std.proofs.Common.{List, [], ◌∷◌, refl, drop}
use Rattle.cs_yacc.specs.Items.Items.{Item, mark, semicolon}
use Rattle.cs_yacc.specs.Items.Table.{Place, list, entry, rules, left, body, named, closed, Row, TakesTo, IsTaken}
use Rattle.cs_gen.specs.declared.symbol.Symbol.{Symbol}
use Rattle.cs_gen.specs.declared.symbol.Symbol.TheVariants.{Nonterminal}
use Rattle.cs_gen.specs.Rules.{Line}
use Rattle.cs_gen.proofs.FileItems.{symbol_item, body_onto, alternatives_onto, line_onto, lines_items, all_tokens, file_items}

-- a place in a body
data InBody : Place → Type 0 where
  begun : InBody body
  going : InBody named

takes_body : {place : Place} → InBody place → (ss : List Symbol) (items : List Item) (end : Place) → ((q : Place) → InBody q → TakesTo q items end) → TakesTo place (body_onto ss items) end
takes_body {place = place} p [] items end rest = rest place p
takes_body begun (s ∷ ss) items end rest = (named, refl, takes_body going ss items end rest)
takes_body going (s ∷ ss) items end rest = (named, refl, takes_body going ss items end rest)

takes_alternatives : {place : Place} → InBody place → (bs : List (List Symbol)) (items : List Item) (end : Place) → ((q : Place) → InBody q → TakesTo q items end) → TakesTo place (alternatives_onto bs items) end
takes_alternatives {place = place} p [] items end rest = rest place p
takes_alternatives begun (b ∷ bs) items end rest = (body, refl, takes_body begun b (alternatives_onto bs items) end (λ q i. takes_alternatives i bs items end rest))
takes_alternatives going (b ∷ bs) items end rest = (body, refl, takes_body begun b (alternatives_onto bs items) end (λ q i. takes_alternatives i bs items end rest))

takes_end : {place : Place} → InBody place → (items : List Item) (end : Place) → TakesTo closed items end → TakesTo place (semicolon ∷ items) end
takes_end begun items end rest = (closed, refl, rest)
takes_end going items end rest = (closed, refl, rest)

takes_line : (place : Place) (l : Line) (items : List Item) (end : Place) → Row place (symbol_item (Nonterminal l.left)) left → TakesTo closed items end → TakesTo place (line_onto l items) end
takes_line place l items end row rest =
    (left, row, (body, refl, takes_body begun l.first (alternatives_onto l.others (semicolon ∷ items)) end (λ q i. takes_alternatives i l.others (semicolon ∷ items) end (λ r j. takes_end j items end rest))))

takes_lines : (ls : List Line) → TakesTo closed (lines_items ls) closed
takes_lines [] = refl
takes_lines (l ∷ ls) = takes_line closed l (lines_items ls) closed refl (takes_lines ls)

takes_entries : (ss : List Symbol) (items : List Item) (end : Place) → TakesTo rules items end → TakesTo entry (body_onto ss (mark ∷ items)) end
takes_entries [] items end rest = (rules, refl, rest)
takes_entries (s ∷ ss) items end rest = (entry, refl, takes_entries ss items end rest)

-- where there is a line, the items are taken
pub file_taken : (l : Line) (ls : List Line) → IsTaken (file_items (l ∷ ls))
file_taken l ls =
    (closed, (list, refl, (entry, refl, takes_entries (drop 1 all_tokens) (lines_items (l ∷ ls)) closed (takes_line rules l (lines_items ls) closed refl (takes_lines ls)))), refl)
