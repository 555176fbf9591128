-- What a scan answers.
use Rattle.std.specs.Prelude.{ℕ, List}
use Rattle.cs_scanner.specs.declared.scanning.tokens.Scanned.{Scanned}
use Rattle.cs_scanner.specs.declared.scanning.tokens.Scanned.TheVariants.{Tokens, Stops}
use Rattle.cs_scanner.specs.Scan.Scan.{Scanning, Scans, StopsAt}

-- The tokens of the text, which its scan covers, or the place where the scan stops. It is one of the two (`one_scan`,
-- `some_scan`, `one_stop`, `stop_or_whole`).
abbrev pub IsScanOf : Scanning → List ℕ → Scanned → Type 0
IsScanOf s text (Tokens tokens) = Scans s text tokens.items
IsScanOf s text (Stops at) = StopsAt s text at
