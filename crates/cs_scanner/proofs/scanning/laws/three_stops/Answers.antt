-- A match gives what its kind says, and there is one match at most.
use Rattle.cs_scanner.proofs.OnScan.Reasons.{stops_there, stops_there_alone}
use Rattle.cs_scanner.proofs.scanning.laws.three_stops.Goals as goal

pub returns-clause-there : goal.returns-clause-there
returns-clause-there c = stops_there

pub returns-clause-alone : goal.returns-clause-alone
returns-clause-alone c = stops_there_alone
