use Rattle.std.proofs.Common.{◌≡◌, ◌&&◌, drop}
use Rattle.std.specs.List.{list_all}
use Rattle.cs_manifest.specs.Output.Words.{is_plain_text}
use Rattle.cs_manifest.proofs.output.names.is_plain.Given as goal

abbrev pub invariant-loop-byte : goal.invariant-loop-byte
invariant-loop-byte l = (l.plain && list_all is_plain_text (drop l.byte-index l.text)) ≡ list_all is_plain_text l.text
