use Rattle.std.proofs.Common.{◌≡◌, drop}
use Rattle.cs_pairs.specs.Kinds.Bare.{has_token}
use Rattle.cs_pairs.proofs.kinds.empties.has_token.Given as goal

abbrev pub invariant-loop-symbol : goal.invariant-loop-symbol
invariant-loop-symbol l = has_token l.symbols ≡ has_token (drop l.symbol-index l.symbols)
