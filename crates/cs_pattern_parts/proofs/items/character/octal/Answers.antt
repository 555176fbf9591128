-- The first byte is an octal digit, so the run has one or more.
use Rattle.std.proofs.Common.{arith}
use Rattle.cs_bytes.specs.Classes.{is_octal_digit}
use Rattle.cs_pattern_parts.proofs.OnItems.Moving.{run_some}
use Rattle.cs_pattern_parts.proofs.items.character.octal.Goals as goal

pub returns-clause-some : goal.returns-clause-some
returns-clause-some c = omega (arith, run_some is_octal_digit c.args.text.now c.requires)
