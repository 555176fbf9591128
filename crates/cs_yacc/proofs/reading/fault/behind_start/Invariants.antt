use Rattle.std.proofs.Common.{◌≡◌, drop}
use Rattle.cs_yacc.specs.Reading.Meaning.{behind_start}
use Rattle.cs_yacc.specs.Items.Views.{placed_all}
use Rattle.cs_yacc.proofs.reading.fault.behind_start.Given as goal

abbrev pub invariant-loop-index : goal.invariant-loop-index
invariant-loop-index l = behind_start (placed_all (drop l.index l.items)) ≡ behind_start (placed_all l.items)
