-- The first of the rules that match.
use Rattle.std.proofs.Common.{◌∙◌}
use Rattle.cs_scanner.specs.Automaton.Machine.{patterns_of}
use Rattle.cs_scanner.proofs.OnAutomaton.Answering.{first_matches}
use Rattle.cs_scanner.proofs.automaton.automaton.Automaton.first_rule.Goals as goal

pub returns : goal.returns
returns c = λ x stands.
    first_matches (patterns_of c.args.self.now) x c.rules_at.result.now c.copied.result (c.rules_at.ensures x stands) (c.copied.ensures ∙ c.first.ensures.value)
