-- Rule by rule: each one that is put in takes the derivation one step on, until all are.
use Rattle.std.proofs.Common.{ℕ, List, subst}
use Rattle.std.proofs.lemmas.List.{take_all}
use Rattle.cs_grammar.specs.Leftmost.{Derives}
use Rattle.cs_grammar.specs.Walk.{in_hand}
use Rattle.cs_chain_text.proofs.OnRows.Around.{put_more}
use Rattle.cs_chain_text.proofs.rows.around.put_all_in.Goals as goal

pub loop-number-preserved : goal.loop-number-preserved
loop-number-preserved c =
    put_more c.args.grammar.now c.args.rules.now c.loop-number.number-index _ (in_hand c.args.done.now c.args.pending.now) (in_hand c.loop-number.done c.loop-number.pending) (in_hand c.put_in.new.done c.put_in.new.pending)
    c.loop-number-test.true c.loop-number.invariant (c.in_ok-put_in.ensures c.if-not-branch.false)

pub returns : goal.returns
returns c = λ _.
    subst (λ (l : List ℕ). Derives c.args.grammar.now (in_hand c.args.done.now c.args.pending.now) l (in_hand c.loop-number.done c.loop-number.pending))
    (take_all c.loop-number.number-index c.args.rules.now c.loop-number-test.false) c.loop-number.invariant
