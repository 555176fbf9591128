-- One row more for one chain more, until all chains have theirs.
use Rattle.std.proofs.Common.{List, [], sym, subst}
use Rattle.std.proofs.lemmas.List.{take_all}
use Rattle.cs_chain.specs.declared.chains.chain.Chain.{Chain}
use Rattle.cs_chain_text.specs.declared.rows.rows.Row.{Row}
use Rattle.cs_chain_text.specs.Rows.Rows.{AreRowsOf}
use Rattle.cs_chain_text.proofs.OnRows.Rows.{rows_more}
use Rattle.cs_chain_text.proofs.rows.rows.rows_of.Goals as goal

pub loop-chain-init : goal.loop-chain-init
loop-chain-init c = subst (λ (l : List Row). AreRowsOf c.args.cores.now [] l) (sym c.in_ok-rows.ensures.items) tt

pub loop-chain-preserved : goal.loop-chain-preserved
loop-chain-preserved c =
    rows_more c.args.cores.now c.args.chains.now c.loop-chain.chain-index _ c.loop-chain.rows.items c.push.new.self.items c.in-Some.row c.loop-chain-test.true c.loop-chain.invariant c.in-Some.ensures c.in_ok-push.ensures.items

pub returns : goal.returns
returns c = subst (λ (l : List Chain). AreRowsOf c.args.cores.now l c.loop-chain.rows.items) (take_all c.loop-chain.chain-index c.args.chains.now c.loop-chain-test.false) c.loop-chain.invariant
