-- The scan passes over what is in front of the rest, whatever comes behind the byte.
use Rattle.std.proofs.Common.{List, ℕ, [], ◌∷◌, ◌++◌, length}
use Rattle.cs_scanner.specs.Scan.Compared.{scanning}
use Rattle.cs_scanner.specs.Scan.Going.{IsBegunBy}
use Rattle.cs_texts.proofs.splice.apart.is_passed_before.Given as goal

abbrev pub invariant-matches : goal.invariant-matches
invariant-matches l = (later : List ℕ) → IsBegunBy (scanning l.scanner) (l.separator ++ l.first ∷ later) [] (l.rest ++ l.first ∷ later)

abbrev pub decreases-matches : goal.decreases-matches
decreases-matches l = length l.rest
