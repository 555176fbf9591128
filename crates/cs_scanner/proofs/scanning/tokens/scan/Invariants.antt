-- The text scans to the tokens so far and what the rest scans to; each match makes the rest shorter.
use Rattle.std.proofs.Common.{length}
use Rattle.cs_scanner.specs.Scan.Compared.{scanning}
use Rattle.cs_scanner.specs.Scan.Going.{IsPassed}
use Rattle.cs_scanner.proofs.scanning.tokens.scan.Given as goal

abbrev pub invariant-matches : goal.invariant-matches
invariant-matches l = IsPassed (scanning l.scanner) l.text l.tokens.items l.rest

abbrev pub decreases-matches : goal.decreases-matches
decreases-matches l = length l.rest
