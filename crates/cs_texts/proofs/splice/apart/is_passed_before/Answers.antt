-- Nothing was passed yet; one match more.
use Rattle.std.proofs.Common.{◌∷◌, ◌++◌, arith}
use Rattle.cs_scanner.specs.Scan.Compared.{scanning}
use Rattle.cs_scanner.proofs.OnScan.Together.{begun_none}
use Rattle.cs_texts.proofs.OnSplice.Standing.{passed_more}
use Rattle.cs_texts.proofs.splice.apart.is_passed_before.Goals as goal

pub matches-init : goal.matches-init
matches-init c = λ later. begun_none (scanning c.args.scanner.now) (c.args.separator.now ++ c.args.first ∷ later)

pub matches-preserved : goal.matches-preserved
matches-preserved c = λ later.
    passed_more (scanning c.args.scanner.now) (c.args.separator.now ++ c.args.first ∷ later) c.matches.rest.now c.args.first c.in-Some.step _ c.in-Some.ensures c.in-Nothing-Some.is-0 c.in-Nothing-Some.is-1 (omega arith) later (c.matches.invariant later)
