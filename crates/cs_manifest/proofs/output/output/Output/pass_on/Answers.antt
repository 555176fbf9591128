-- The front of the line goes from what waits to the sink, so both together have the same bytes.
use Rattle.std.proofs.Common.{◌≡◌, arith, length}
use Rattle.std.proofs.lemmas.Grind.{common_steps}
use Rattle.std.proofs.lemmas.List.{append-nil, take_min, length-take}
use Rattle.cs_manifest.proofs.output.output.Output.pass_on.Goals as goal

pub returns-clause-puts : goal.returns-clause-puts
returns-clause-puts g c =
    let long : length c.args.self.now.line.now ≡ 1024 = c.write_front-outcome.ensures.length in
    grind (arith, common_steps, take_min, length-take, append-nil, long)
