-- A text in which the scan stops scans to no list.
use Rattle.cs_scanner.specs.Scan.Compared.{scanning}
use Rattle.cs_check.proofs.checking.scans.scans_to_long.Goals as goal

pub returns-in-Stops : goal.returns-in-Stops
returns-in-Stops c = (
  λ e. absurd cc,
  λ scans. absurd ((c.stop_or_whole.ensures (scanning c.args.scanner.now) c.args.text.now).covers c.args.tokens.now scans c.in-Stops.at (rw c.in-Stops.is at c.in_ok-scanned.ensures)),
)
