-- The start's visit stands in front, so the entry's state is that of the visit one place further.
use Rattle.std.proofs.Common.{◌≡◌, ◌∙◌, ◌+◌, ◌<◌, List, Some, sym, ap, subst, arith, length}
use Rattle.std.specs.Prelude.{slice_get}
use Rattle.std.proofs.lemmas.Option.{slice_get-get_or}
use Rattle.cs_scanner.specs.Lexeme.StateTexts.{StateText, entry_in}
use Rattle.cs_scanner.proofs.OnLexeme.Seeing.{length-seen, state_is}
use Rattle.cs_scanner.proofs.lexeme.state_texts.StateTexts.state.Goals as goal

pub overflow_add-place : goal.overflow_add-place
overflow_add-place c =
    let visits = c.self.inside.visits in
    let R : List StateText → Type 0 = λ m. c.args.place < length m in
    let lt = subst R (sym c.self.view_is) c.requires in
    omega (arith, lt, length-seen visits.items c.self.invariant.some, visits.ok.0)

pub index-requires : goal.index-requires
index-requires c =
    let visits = c.self.inside.visits in
    let R : List StateText → Type 0 = λ m. c.args.place < length m in
    let lt = subst R (sym c.self.view_is) c.requires in
    omega (arith, lt, length-seen visits.items c.self.invariant.some, visits.ok.0)

pub returns : goal.returns
returns c =
    let visits = c.self.inside.visits.items in
    let place = c.args.place in
    let v = c.index.result.now in
    let R : List StateText → Type 0 = λ m. place < length m in
    let lt = subst R (sym c.self.view_is) c.requires in
    let within : place + 1 < length visits = omega (arith, lt, length-seen visits c.self.invariant.some) in
    let at : slice_get visits (place + 1) ≡ Some v = slice_get-get_or visits (place + 1) v within ∙ ap Some (sym c.index.ensures) in
    let S : List StateText → Type 0 = λ m. v.state ≡ (entry_in m place).state in
    subst S c.self.view_is (state_is visits c.self.invariant.earlier place v at)
