-- Both are the longest, and the lowest rule of that size.
use Rattle.cs_scanner.proofs.OnScan.OneMatch.{match_one}
use Rattle.cs_scanner.proofs.scanning.laws.one_match.Goals as goal

pub returns : goal.returns
returns c = match_one
