-- What a search among the rules that match finds.
use Rattle.std.proofs.Common.{Bool, sym, subst}
use Rattle.std.specs.Prelude.{IsTrue, ◌↔◌}
use Rattle.cs_scanner.specs.Automaton.Machine.{MatchesRule, patterns_of}
use Rattle.cs_scanner.proofs.OnAutomaton.Answering.{found_matches}
use Rattle.cs_scanner.proofs.automaton.automaton.Automaton.matches.Goals as goal

pub returns : goal.returns
returns c = λ x stands.
    let ps = patterns_of c.args.self.now in
    let P : Bool → Type 0 = λ b. IsTrue b ↔ MatchesRule ps c.args.rule x in
    subst P (sym c.is_ok.ensures.value)
    (found_matches ps x c.rules_at.result.now c.args.rule c.binary_search.result (c.rules_at.ensures x stands) c.binary_search.ensures.position)
