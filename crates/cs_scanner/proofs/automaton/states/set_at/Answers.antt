-- The words of the state.
use Rattle.std.proofs.Common.{◌∙◌, Some, sym, ap, arith, length}
use Rattle.std.specs.Prelude.{slice_get}
use Rattle.cs_scanner.specs.Automaton.Sets.{lists}
use Rattle.cs_scanner.proofs.OnAutomaton.Stating.{list_at}
use Rattle.cs_scanner.proofs.automaton.states.set_at.Goals as goal

pub returns : goal.returns
returns c =
    let h = c.as_slice.ensures.keys in
    let d = c.deref.ensures.value in
    let at = list_at c.as_slice.result.now c.args.state c.index-as_slice-state.result (omega (arith, ap length h, c.requires)) c.index-as_slice-state.is in
    ap (λ t. slice_get (lists t) c.args.state) (sym h) ∙ at ∙ ap Some (sym d)
