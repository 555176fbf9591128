-- One byte more by rank, whose step is put, or which leads nowhere, until the row has the steps of all bytes.
use Rattle.std.proofs.Common.{arith, ◌≡◌, ◌<◌, Some, ℕ, length, subst}
use Rattle.std.specs.Prelude.{slice_get, slice_index}
use Rattle.std.proofs.lemmas.Option.{slice_get-get_or}
use Rattle.cs_scanner.specs.Lexeme.Steps.{AreNoted}
use Rattle.cs_scanner.proofs.OnLexeme.Stepping.{no_row, noted_none, row_none, row_put, row_done}
use Rattle.cs_scanner.proofs.lexeme.steps.row_of.Goals as goal
use Rattle.cs_scanner.proofs.lexeme.steps.row_of.Goals.{in-Some+in_ok-put_step, in_default}

pub loop-i-init : goal.loop-i-init
loop-i-init c = rw c.new-row.ensures.items (record {
  is_row = no_row c.args.automaton.now c.args.state c.args.bytes.now;
  noted = noted_none (length c.args.automaton.now.sets) c.args.places.now c.requires.places;
})

pub loop-i-preserved : goal.loop-i-preserved
loop-i-preserved c =
    let mid = c.loop-i.invariant in
    let bytes = c.args.bytes.now in
    let place = c.loop-i.i in
    let here : slice_get bytes place ≡ Some (slice_index bytes place) = slice_get-get_or bytes place 0 c.loop-i-test.true in
    elim c.match-step.branch [
      | in-Some+in_ok-put_step w ↦
          let fits : slice_index bytes place < 256 = c.requires.bytes.are place 0 c.loop-i-test.true in
          let P : ℕ → Type 0 = λ count. AreNoted count w.put_step.new.row.items w.put_step.new.places in
          rw (w.row-is, w.places-is) (record {
            is_row = row_put c.args.automaton.now c.args.state bytes place (slice_index bytes place) w.in-Some.to c.loop-i.row.items w.put_step.new.row.items c.requires.bytes here fits w.in-Some.ensures.within w.in-Some.ensures.next w.in_ok-put_step.ensures.puts mid.is_row;
            noted = subst P mid.noted.all w.in_ok-put_step.ensures.noted;
          })
      | in_default w ↦
          rw (w.row-is, w.places-is) (record {
            is_row = row_none c.args.automaton.now c.args.state bytes place (slice_index bytes place) c.loop-i.row.items here w.in_default.ensures.next mid.is_row;
            noted = mid.noted;
          })
    ]

pub returns-clause-row : goal.returns-clause-row
returns-clause-row c = row_done c.args.automaton.now c.args.state c.args.bytes.now c.loop-i.i c.loop-i.row.items c.requires.bytes (omega arith) c.loop-i.invariant.is_row
