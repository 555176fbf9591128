-- The scan gives the tokens so far, and then those of what is left in front of the second text and of that.
use Rattle.std.proofs.Common.{◌≤◌, ◌++◌, length, take}
use Rattle.cs_scanner.specs.Scan.Compared.{scanning}
use Rattle.cs_scanner.specs.Scan.Going.{IsBegunBy}
use Rattle.cs_texts.proofs.splice.step.arrives.Given as goal

abbrev pub invariant-matches : goal.invariant-matches
invariant-matches l = record {
  within : l.count ≤ length l.tokens;
  begun : IsBegunBy (scanning l.scanner) (l.near ++ l.far) (take l.count l.tokens) (l.rest ++ l.far);
}

abbrev pub decreases-matches : goal.decreases-matches
decreases-matches l = length l.rest
