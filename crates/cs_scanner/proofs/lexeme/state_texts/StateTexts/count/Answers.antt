-- Each visit but the start's is an entry.
use Rattle.std.proofs.Common.{◌≡◌, ◌-◌, List, subst, arith, length}
use Rattle.cs_scanner.specs.Lexeme.StateTexts.{StateText}
use Rattle.cs_scanner.proofs.OnLexeme.Seeing.{length-seen}
use Rattle.cs_scanner.proofs.lexeme.state_texts.StateTexts.count.Goals as goal

pub returns : goal.returns
returns c =
    let visits = c.self.inside.visits in
    let S : List StateText → Type 0 = λ m. c.len.result - 1 ≡ length m in
    subst S c.self.view_is (omega (arith, length-seen visits.items c.self.invariant.some, c.len.ensures, visits.ok.0))
