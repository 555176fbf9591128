-- The rules of the state's entry.
use Rattle.std.proofs.Common.{◌∙◌, ℕ, ◌<◌, List, [], sym, subst, arith, length}
use Rattle.std.proofs.lemmas.List.{length-map}
use Rattle.std.proofs.lemmas.Option.{get_or_from_slice_get}
use Rattle.cs_scanner.specs.Automaton.Automata.{members}
use Rattle.cs_scanner.specs.Automaton.Machine.{Machine, StateOf, AreMatching, patterns_of}
use Rattle.cs_scanner.specs.Automaton.Sets.{lists}
use Rattle.cs_scanner.specs.Automaton.States.{option_lists}
use Rattle.cs_scanner.proofs.OnAutomaton.Answering.{rules_answer}
use Rattle.cs_scanner.proofs.OnAutomaton.Stating.{list_at}
use Rattle.cs_scanner.proofs.automaton.automaton.Automaton.rules_at.Goals as goal

pub returns : goal.returns
returns c =
    let inside = c.self.inside in
    let ws = lists inside.sets.keys in
    let rows = inside.rules.items in
    let R : Machine → Type 0 = λ m. c.args.state < length m.sets in
    let lt = subst R (sym c.self.view_is) c.requires in
    let within : c.args.state < length ws = omega (arith, lt, length-map ws members) in
    let there = list_at rows c.args.state c.index.result.now (omega (arith, within, c.self.invariant.each, length-map rows (λ v. v.items))) c.index.ensures in
    let is = c.as_slice.ensures.value ∙ sym (get_or_from_slice_get (lists rows) c.args.state c.index.result.now.items [] there) in
    let S : Machine → Type 0 = λ m. (x : List ℕ) → StateOf m c.args.state x → AreMatching (patterns_of m) x c.as_slice.result.now in
    subst S c.self.view_is (rules_answer inside.patterns.now ws (option_lists inside.steps.items) inside.column_of.items (lists rows) c.self.invariant c.args.state c.as_slice.result.now within is)
