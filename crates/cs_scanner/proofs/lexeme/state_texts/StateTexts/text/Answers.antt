-- The start's visit stands in front, so the entry's text is that of the visit one place further.
use Rattle.std.proofs.Common.{◌≡◌, ◌+◌, ◌<◌, List, IfOk, sym, ap, subst, arith, length}
use Rattle.std.proofs.lemmas.Result.{IfOk-weaker}
use Rattle.cs_scanner.specs.declared.lexeme.search.Visit.{Visit}
use Rattle.cs_scanner.specs.Lexeme.StateTexts.{StateText, entry_in}
use Rattle.cs_scanner.specs.Lexeme.Visits.{Spells}
use Rattle.cs_scanner.proofs.OnLexeme.Seeing.{length-seen, text_is}
use Rattle.cs_scanner.proofs.lexeme.state_texts.StateTexts.text.Goals as goal

pub overflow_add-place : goal.overflow_add-place
overflow_add-place c =
    let visits = c.self.inside.visits in
    let R : List StateText → Type 0 = λ m. c.args.place < length m in
    let lt = subst R (sym c.self.view_is) c.requires in
    omega (arith, lt, length-seen visits.items c.self.invariant.some, visits.ok.0)

pub text_at-requires-clause-place : goal.text_at-requires-clause-place
text_at-requires-clause-place c =
    let visits = c.self.inside.visits in
    let R : List StateText → Type 0 = λ m. c.args.place < length m in
    let lt = subst R (sym c.self.view_is) c.requires in
    omega (arith, lt, length-seen visits.items c.self.invariant.some, ap length c.deref.ensures.value)

pub returns : goal.returns
returns c =
    let visits = c.self.inside.visits.items in
    let place = c.args.place in
    let R : List StateText → Type 0 = λ m. place < length m in
    let lt = subst R (sym c.self.view_is) c.requires in
    let within : place + 1 < length visits = omega (arith, lt, length-seen visits c.self.invariant.some) in
    let P : List Visit → Type 0 = λ t. IfOk c.text_at.result (λ text. Spells t (place + 1) text.items) in
    let spells = subst P c.deref.ensures.value c.text_at.ensures in
    let S : List StateText → Type 0 = λ m. IfOk c.text_at.result (λ text. text.items ≡ (entry_in m place).text) in
    subst S c.self.view_is (IfOk-weaker c.text_at.result _ _ (λ text is. text_is visits c.self.invariant.earlier place text.items within is) spells)
