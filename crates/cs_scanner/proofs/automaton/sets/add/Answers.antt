-- The set was there, or is put behind the others.
use Rattle.std.proofs.Common.{refl}
use Rattle.cs_scanner.proofs.OnAutomaton.Adding.{stored_there, added_once}
use Rattle.cs_scanner.proofs.automaton.sets.add.Goals as goal

pub returns-clause-found : goal.returns-clause-found
returns-clause-found c =
    let s = c.in_ok-index.ensures.stored in
    stored_there c.insert_full.new.self.keys c.args.set s.0 c.in_ok-index.index s.1 s.2

pub returns-clause-kept : goal.returns-clause-kept
returns-clause-kept c = added_once c.args.sets.now.keys c.insert_full.new.self.keys c.args.set _ refl c.in_ok-index.ensures.keys
