-- All states were noted in the order of their texts, so the first text that was noted is the least.
use Rattle.std.proofs.Common.{sym, arith}
use Rattle.cs_scanner.proofs.OnLexeme.Lists.{written}
use Rattle.cs_scanner.specs.Lexeme.Texts.{texts_of}
use Rattle.cs_lexical.specs.Least.{lists}
use Rattle.cs_lexical.proofs.Noted.{noted_all}
use Rattle.cs_lexical.proofs.lexical.Lexical.new.Goals as goal

pub returns : goal.returns
returns c =
    let wins = c.in_ok-wins.wins in
    let rows = c.in_ok-rows.rows in
    let wins_is = written wins.items c.note_all.new.wins wins.len (sym wins.ok.0) (omega (arith, c.note_all.auto.wins, c.deref_mut.ensures.len)) in
    let rows_is = written rows.items c.note_all.new.rows rows.len (sym rows.ok.0) (omega (arith, c.note_all.auto.rows, c.deref_mut-2.ensures.len)) in
    rw (wins_is, rows_is)
    (noted_all c.args.automaton.now c.in_ok-met.met c.in_ok-met.ensures.texts c.note_all.new.wins (lists c.note_all.new.rows) (texts_of c.in_ok-texts.texts.items) c.in_ok-texts.ensures)
