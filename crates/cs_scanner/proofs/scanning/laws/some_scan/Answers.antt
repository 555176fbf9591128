-- A match that gives tokens makes the text shorter; where there is none, the scan stops.
use Rattle.cs_scanner.proofs.OnScan.SomeScan.{runs_some}
use Rattle.cs_scanner.proofs.scanning.laws.some_scan.Goals as goal

pub returns : goal.returns
returns c = runs_some
