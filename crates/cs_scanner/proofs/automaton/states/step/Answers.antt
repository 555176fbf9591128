-- The set behind the bytes of the row is none, or a state.
use Rattle.std.proofs.Common.{◌≡◌, ◌∙◌, ℕ, List, true, false, subst, arith}
use Rattle.std.proofs.lemmas.List.{length-map}
use Rattle.std.proofs.lemmas.Option.{slice_get_within}
use Rattle.cs_scanner.specs.Automaton.Bits.{bit}
use Rattle.cs_scanner.specs.Automaton.Sets.{lists}
use Rattle.cs_scanner.proofs.OnAutomaton.Columning.{once_length}
use Rattle.cs_scanner.proofs.OnAutomaton.Growing.{reach, step_nowhere, added, step_added}
use Rattle.cs_scanner.proofs.automaton.states.step.Goals as goal

pub returns-then-is_empty-clause-step : goal.returns-then-is_empty-clause-step
returns-then-is_empty-clause-step c = λ rs width state long ready column.
    let old = lists c.args.sets.now.keys in
    let words = c.in_ok-set.set.items in
    let P : List ℕ → Type 0 = λ t. (m : ℕ) → bit t m ≡ false in
    let none = subst P c.deref.ensures.value (c.is_empty.ensures.empty c.if-is_empty.true) in
    (record { states = ready.states; grows = λ k ps e. e }, λ byte is. step_nowhere rs old state byte words none (reach rs width old state byte c.args.next.now c.args.row.now words ready is c.in_ok-set.ensures.bits))

pub overflow_cast-result : goal.overflow_cast-result
overflow_cast-result c =
    let within = slice_get_within (lists c.add.new.sets.keys) c.in_ok-state.state c.in_ok-set.set.items c.in_ok-state.ensures.found in
    let once = once_length (lists c.args.sets.now.keys) (lists c.add.new.sets.keys) c.in_ok-set.set.items c.in_ok-state.ensures.kept in
    record { fits = omega (arith, within, once, length-map c.args.sets.now.keys (λ v. v.items), c.requires.few) }

pub returns-clause-step : goal.returns-clause-step
returns-clause-step c = λ rs width state long ready column.
    let old = lists c.args.sets.now.keys in
    let new = lists c.add.new.sets.keys in
    let words = c.in_ok-set.set.items in
    let next = c.args.next.now in
    let row = c.args.row.now in
    let other = c.is_empty.ensures.other c.if-is_empty.false in
    let P : List ℕ → Type 0 = λ t. bit t other.0 ≡ true in
    let some = subst P c.deref.ensures.value other.2 in
    let bits = c.in_ok-set.ensures.bits in
    let more = added rs width old new state column.byte other.0 words ready.words column.fits ready.states ready.there some (c.in_ok-set.ensures.long ∙ long) c.in_ok-set.ensures.words (reach rs width old state column.byte next row words ready column.is bits) c.in_ok-state.ensures.kept in
    (more, λ byte is. step_added rs width old new state byte c.in_ok-state.state other.0 words ready.words more ready.there some (reach rs width old state byte next row words ready is bits) c.in_ok-state.ensures.found)
