use Rattle.std.proofs.Common.{◌-◌, ◌≤◌, length}
use Rattle.cs_scanner.specs.Scan.Compared.{scanning}
use Rattle.cs_spell.specs.Texts.Searching.{IsLeft}
use Rattle.cs_spell.proofs.texts.matching.has_match.Given as goal

abbrev pub invariant-matches : goal.invariant-matches
invariant-matches l = record {
  within : l.at ≤ length l.text;
  left : IsLeft (scanning l.scanner) l.rule l.piece l.text l.at;
}

abbrev pub decreases-matches : goal.decreases-matches
decreases-matches l = length l.text - l.at
