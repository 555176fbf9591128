-- The text scans to the tokens so far and what the rest scans to; each match makes the rest shorter.
use Rattle.std.proofs.Common.{◌≤◌, length, take}
use Rattle.cs_scanner.specs.Scan.Compared.{scanning}
use Rattle.cs_scanner.specs.Scan.Going.{IsBegunBy}
use Rattle.cs_scanner.proofs.scanning.comparing.agrees.Given as goal

abbrev pub invariant-matches : goal.invariant-matches
invariant-matches l = record {
  within : l.after ≤ length l.tokens;
  begun : IsBegunBy (scanning l.scanner) l.text (take l.after l.tokens) l.rest;
}

abbrev pub decreases-matches : goal.decreases-matches
decreases-matches l = length l.rest
