-- Match by match.
use Rattle.cs_scanner.proofs.OnScan.Stopping.{stopped}
use Rattle.cs_scanner.proofs.scanning.laws.stop_or_whole.Goals as goal

pub returns : goal.returns
returns c = stopped
