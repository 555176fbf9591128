-- The left side, the first body and the alternatives; the numbers go on behind the alternatives.
use Rattle.cs_gen.proofs.Drawing.{line-written, line-behind}
use Rattle.cs_gen.proofs.yacc.put_line.Goals as goal

pub returns-clause-text : goal.returns-clause-text
returns-clause-text c =
    line-written _ _ _ c.one_of-token.ensures.what c.one_of-token.ensures.behind c.in_ok-put.ensures c.in_ok-extend_from_slice.ensures.items c.in_ok-put_first_body.ensures c.in_ok-put_alternatives.ensures.text
    c.in_ok-extend_from_slice-2.ensures.items

pub returns-clause-numbers : goal.returns-clause-numbers
returns-clause-numbers c = line-behind _ _ _ _ c.one_of-token.ensures.behind c.in_ok-put_alternatives.ensures.numbers
