-- Match by match.
use Rattle.cs_scanner.proofs.OnScan.Stopping.{stops_one}
use Rattle.cs_scanner.proofs.scanning.laws.one_stop.Goals as goal

pub returns : goal.returns
returns c = λ s text at other h g. stops_one s h other g
