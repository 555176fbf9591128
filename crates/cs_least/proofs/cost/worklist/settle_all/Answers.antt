-- A candidate whose nonterminal was settled before is dropped; with none left no rule leads below the table.
use Rattle.std.proofs.Common.{◌∙◌, sym, subst, arith}
use Rattle.cs_grammar.specs.Grammar.{IsNumberOf}
use Rattle.cs_least.proofs.OnCost.Settling.{the_candidate, take_least, at_dropped, closed_at_end, read_entry}
use Rattle.cs_least.proofs.cost.worklist.settle_all.Goals as goal

pub loop-candidate-preserved : goal.loop-candidate-preserved
loop-candidate-preserved c =
    let here = c.loop-candidate.invariant in
    let taken = take_least _ _ _ _ _ _ _ c.in-Some.candidate here.1 c.in-Some.ensures.permutation c.in-Some.ensures.heap_order c.in-Some.ensures.below_top in
    let number = (the_candidate _ _ _ _ _ _ _ taken).number in (
      c.in-Some.candidate.0.0,
      at_dropped _ _ _ _ _ _ _ taken
          (λ e. c.in_default-index.not-Never
          (read_entry _ _ _ (subst (λ n. IsNumberOf n c.in-Some.candidate.0.1) (sym here.1.sound.many) number) (rw c.place_of.ensures at c.index.ensures) ∙ e)),
    )

pub returns-clause-closed : goal.returns-clause-closed
returns-clause-closed c =
    closed_at_end _ _ _ _ _ _ (omega (arith, c.in_default.ensures.none, c.loop-candidate.work.heap.data.ok.0)) c.loop-candidate.invariant.1
