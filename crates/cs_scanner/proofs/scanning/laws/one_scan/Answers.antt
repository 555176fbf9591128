-- Match by match.
use Rattle.cs_scanner.proofs.OnScan.OneMatch.{runs_one}
use Rattle.cs_scanner.proofs.scanning.laws.one_scan.Goals as goal

pub returns : goal.returns
returns c = λ s text given other whole covers r q. runs_one s r other covers q
