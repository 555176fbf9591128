-- Line by line, each is right up to the first one with a fault, or to the end.
use Rattle.std.proofs.Common.{◌∙◌, ap}
use Rattle.cs_bytes.specs.Places.{line_size}
use Rattle.cs_scanner.specs.Scan.Compared.{scanning}
use Rattle.cs_check.specs.Checking.Told.{checked_by}
use Rattle.cs_check.proofs.OnChecking.Pass.{passed_more, passed_fails, passed_end, passed_claims, passed_none}
use Rattle.cs_check.proofs.checking.pass.check.Goals as goal

pub loop-from-init : goal.loop-from-init
loop-from-init c =
    passed_none (checked_by c.args.yacc.now (scanning c.args.scanner.now)) c.args.manifest.now c.new-above.result c.new-above.ensures.knows c.new-above.ensures.whole

pub loop-from-preserved : goal.loop-from-preserved
loop-from-preserved c =
    passed_more (checked_by c.args.yacc.now (scanning c.args.scanner.now)) c.args.manifest.now c.requires c.loop-from.from c.loop-from.line c.loop-from.above
    c.loop-from.invariant c.loop-from-test.true c.line_size-size.result (c.line_size-size.ensures.size ∙ ap line_size c.from_offset-text.ensures)
    c.from_offset-text.result.now c.from_offset-text.ensures c.take.new.self _ c.in_ok-fault.ensures.judged c.in_default.is c.in_ok-fault.ensures.whole

pub returns-in-Some-clause-outcome : goal.returns-in-Some-clause-outcome
returns-in-Some-clause-outcome c =
    passed_fails (checked_by c.args.yacc.now (scanning c.args.scanner.now)) c.args.manifest.now c.requires c.loop-from.from c.loop-from.line c.loop-from.above
    c.loop-from.invariant c.loop-from-test.true c.line_size-size.result (c.line_size-size.ensures.size ∙ ap line_size c.from_offset-text.ensures)
    c.from_offset-text.result.now c.from_offset-text.ensures c.take.new.self _ c.in_ok-fault.ensures.judged c.in-Some.fault c.in-Some.is

pub returns-clause-outcome : goal.returns-clause-outcome
returns-clause-outcome c =
    passed_end (checked_by c.args.yacc.now (scanning c.args.scanner.now)) c.args.manifest.now c.requires c.loop-from.from c.loop-from.line c.loop-from.above
    c.loop-from.invariant c.loop-from-test.false c.at_end.result c.at_end.ensures

pub returns-clause-claims : goal.returns-clause-claims
returns-clause-claims c =
    passed_claims (checked_by c.args.yacc.now (scanning c.args.scanner.now)) c.args.manifest.now c.requires c.loop-from.from c.loop-from.line c.loop-from.above
    c.loop-from.invariant c.loop-from-test.false c.at_end.result c.at_end.ensures
