-- The numbers that were put are those of the byte's classes.
use Rattle.std.proofs.Common.{◌∙◌, List, ℕ, sym, subst, arith}
use Rattle.cs_scanner.specs.Automaton.Bits.{Puts}
use Rattle.cs_scanner.specs.Automaton.Programs.{values}
use Rattle.cs_scanner.specs.Automaton.States.{IsRow, with_byte}
use Rattle.cs_scanner.proofs.OnAutomaton.Columning.{written, row_is}
use Rattle.cs_scanner.proofs.automaton.columns.row_of.Goals as goal

pub returns-clause-row : goal.returns-clause-row
returns-clause-row c =
    let h = c.in_ok-words.ensures.items_if_clones_equal (λ y e. e) in
    let d = c.deref_mut.ensures.value in
    let is = written c.in_ok-words.words.len c.mark.new.words c.in_ok-words.words.items (omega (arith, c.in_ok-words.words.ok.0)) (omega (arith, c.in_ok-words.ensures.len, c.deref_mut.ensures.len, c.mark.ensures.long)) in
    let P : List ℕ → Type 0 = λ t. IsRow (values c.args.classes.now) c.args.byte t in
    let Q : List ℕ → Type 0 = λ t. Puts t c.mark.new.words (with_byte 0 (values c.args.classes.now) c.args.byte) in
    subst P (sym is) (row_is c.args.classes.now c.args.width c.args.byte c.mark.new.words c.requires (subst Q (d ∙ h) c.mark.ensures))
