-- The entry of the state and the byte's column.
use Rattle.std.proofs.Common.{◌≡◌, ◌∙◌, ℕ, ◌<◌, List, sym, ap, subst, arith, length}
use Rattle.std.specs.Prelude.{IfSome}
use Rattle.std.proofs.lemmas.List.{length-map, get_or_read}
use Rattle.cs_scanner.specs.Automaton.Automata.{members, step_at}
use Rattle.cs_scanner.specs.Automaton.Machine.{Machine, StateOf, IsNextState}
use Rattle.cs_scanner.specs.Automaton.Sets.{lists}
use Rattle.cs_scanner.specs.Automaton.States.{option_lists, step_in}
use Rattle.cs_scanner.proofs.OnAutomaton.Answering.{answer, answer_within}
use Rattle.cs_scanner.proofs.automaton.automaton.Automaton.step.Goals as goal
use Rattle.cs_scanner.proofs.automaton.automaton.Automaton.step.Goals.{After-step_in}

within : (c : After-step_in) → c.args.state < length (lists c.self.inside.sets.keys)
within c =
    let R : Machine → Type 0 = λ m. c.args.state < length m.sets in
    omega (arith, subst R (sym c.self.view_is) c.requires, length-map (lists c.self.inside.sets.keys) members)

-- the step that is read
step_is : (c : After-step_in) → c.step_in.result ≡ step_at (option_lists c.self.inside.steps.items) c.self.inside.column_of.items c.args.state c.args.byte
step_is c =
    let inside = c.self.inside in
    let column = get_or_read inside.column_of.items c.args.byte c.index.result.now (omega (arith, c.ranges.byte.fits, c.self.invariant.columns)) c.index.ensures 0 in
    c.step_in.ensures ∙ ap (λ t. step_in (option_lists t) c.args.state c.index.result.now) c.deref.ensures.value ∙ ap (λ n. step_in (option_lists inside.steps.items) c.args.state n) column

pub returns-clause-next : goal.returns-clause-next
returns-clause-next c =
    let at = (goal.at.returns-clause-next c).After-step_in in
    let inside = c.self.inside in
    let S : Machine → Type 0 = λ m. (x : List ℕ) → StateOf m c.args.state x → IsNextState m x c.args.byte c.step_in.result in
    subst S c.self.view_is
    (answer inside.patterns.now (lists inside.sets.keys) (option_lists inside.steps.items) inside.column_of.items (lists inside.rules.items) c.self.invariant c.args.state c.args.byte c.step_in.result (within at) (omega (arith, c.ranges.byte.fits)) (step_is at))

pub returns-clause-within : goal.returns-clause-within
returns-clause-within c =
    let at = (goal.at.returns-clause-within c).After-step_in in
    let inside = c.self.inside in
    let S : Machine → Type 0 = λ m. IfSome c.step_in.result (λ to. to < length m.sets) in
    subst S c.self.view_is
    (answer_within inside.patterns.now (lists inside.sets.keys) (option_lists inside.steps.items) inside.column_of.items (lists inside.rules.items) c.self.invariant c.args.state c.args.byte c.step_in.result (within at) (omega (arith, c.ranges.byte.fits)) (step_is at))
