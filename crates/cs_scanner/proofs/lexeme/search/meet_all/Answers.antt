-- The states behind one place more are met; no state is met twice, so there are no more places than states.
use Rattle.std.proofs.Common.{arith, ◌≡◌, sym, length}
use Rattle.cs_scanner.specs.Lexeme.Table.{step_rows}
use Rattle.cs_scanner.proofs.OnLexeme.Lists.{written}
use Rattle.cs_scanner.proofs.OnLexeme.Meeting.{few_visits, search_next}
use Rattle.cs_scanner.proofs.lexeme.search.meet_all.Goals as goal

pub places-smaller : goal.places-smaller
places-smaller c = omega (arith, few_visits c.args.steps.now.automaton.now c.places.visits.items c.places.invariant.are_met.visits_are)

pub places-preserved : goal.places-preserved
places-preserved c =
    let e = c.in_ok-meet_behind.ensures in
    let all : length c.places.met.items ≡ c.places.met.len = sym c.places.met.ok.0 in
    let same : length c.meet_behind.new.met ≡ c.places.met.len = omega (arith, all, e.met.marked.all, c.places.invariant.are_met.marked.all) in
    rw (written c.places.met.items c.meet_behind.new.met c.places.met.len all same)
    (search_next c.args.steps.now.automaton.now (step_rows c.args.steps.now) c.args.from c.places.place c.args.visits.now.items c.places.visits.items c.meet_behind.new.visits.items c.places.met.items c.meet_behind.new.met (omega arith) e.met e.light e.extends e.closed c.places.invariant)
