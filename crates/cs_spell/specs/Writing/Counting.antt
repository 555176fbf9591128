-- How rules are counted, one after another. Working words of proofs.
use Rattle.std.specs.Prelude.{◌+◌, ◌<◌, ◌^◌}
use Rattle.cs_spell.specs.Telling.Told.{Told, Shadowed, Foreign, Literal, Infeasible, Large, Shown}
use Rattle.cs_spell.specs.declared.writing.counting.Counts.{Counts}

abbrev pub none_counted : Counts
none_counted = record { rules = 0; shown = 0; shadowed = 0; foreign = 0; literal = 0; infeasible = 0; large = 0 }

abbrev pub added : Counts → Told → Counts
added c (Shown showing) = record c { rules = c.rules + 1; shown = c.shown + 1 }
added c Shadowed = record c { rules = c.rules + 1; shadowed = c.shadowed + 1 }
added c Foreign = record c { rules = c.rules + 1; foreign = c.foreign + 1 }
added c Literal = record c { rules = c.rules + 1; literal = c.literal + 1 }
added c Infeasible = record c { rules = c.rules + 1; infeasible = c.infeasible + 1 }
added c Large = record c { rules = c.rules + 1; large = c.large + 1 }

-- there is room for one more of each
pub record AreFew (c : Counts) : Type 0 where
  pub rules : c.rules < 2 ^ 63
  pub shown : c.shown < 2 ^ 63
  pub shadowed : c.shadowed < 2 ^ 63
  pub foreign : c.foreign < 2 ^ 63
  pub literal : c.literal < 2 ^ 63
  pub infeasible : c.infeasible < 2 ^ 63
  pub large : c.large < 2 ^ 63
