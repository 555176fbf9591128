use Rattle.std.proofs.Common.{◌≡◌, map, take}
use Rattle.cs_manifest.specs.Filling.ByToken.{spaced_name}
use Rattle.cs_manifest.proofs.filling.token_pieces.name_pieces.Given as goal

abbrev pub invariant-loop-name : goal.invariant-loop-name
invariant-loop-name l = l.pieces.items ≡ map spaced_name (take l.name-index l.names)
