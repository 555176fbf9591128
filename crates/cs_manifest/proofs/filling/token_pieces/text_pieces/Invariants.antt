use Rattle.std.proofs.Common.{◌≡◌, map, option_map, take}
use Rattle.cs_manifest.specs.Filling.Open.{between_quotes}
use Rattle.cs_manifest.proofs.filling.token_pieces.text_pieces.Given as goal

abbrev pub invariant-loop-place : goal.invariant-loop-place
invariant-loop-place l = l.pieces.items ≡ map (option_map between_quotes) (take l.place l.lexemes)
