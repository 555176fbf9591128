-- One state's row more, and there are still as many places as states.
use Rattle.std.proofs.Common.{arith, ◌≡◌, ◌∷◌, [], length, sym}
use Rattle.std.proofs.lemmas.List.{map-append}
use Rattle.cs_scanner.specs.Lexeme.Steps.{rows_of}
use Rattle.cs_scanner.proofs.OnLexeme.Lists.{written}
use Rattle.cs_scanner.proofs.OnLexeme.Stepping.{first_row, next_row}
use Rattle.cs_scanner.proofs.lexeme.steps.all_steps.Goals as goal

pub loop-state-init : goal.loop-state-init
loop-state-init c = rw c.new-rows.ensures.items (record {
  are_rows = first_row c.args.automaton.now;
  all = omega (arith, c.in_ok-places.places.ok.0, c.in_ok-places.ensures.len, c.state_count.ensures.count);
})

pub loop-state-preserved : goal.loop-state-preserved
loop-state-preserved c =
    let all : length c.loop-state.places.items ≡ c.loop-state.places.len = sym c.loop-state.places.ok.0 in
    let same : length c.row_of.new.places ≡ c.loop-state.places.len = omega (arith, all, c.in_ok-row.ensures.places, c.loop-state.invariant.all) in
    rw (c.in_ok-push.ensures.items, map-append (λ v. v.items) c.loop-state.rows.items (c.in_ok-row.row ∷ []))
    (record {
      are_rows = next_row c.args.automaton.now c.loop-state.state (rows_of c.loop-state.rows.items) c.in_ok-row.row.items c.loop-state.invariant.are_rows c.in_ok-row.ensures.row;
      all = rw (written c.loop-state.places.items c.row_of.new.places c.loop-state.places.len all same) c.in_ok-row.ensures.places;
    })
