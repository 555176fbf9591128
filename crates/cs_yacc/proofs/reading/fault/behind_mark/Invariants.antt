use Rattle.std.proofs.Common.{◌≡◌, drop}
use Rattle.cs_yacc.specs.Reading.Meaning.{behind_mark}
use Rattle.cs_yacc.specs.Items.Views.{placed_all}
use Rattle.cs_yacc.proofs.reading.fault.behind_mark.Given as goal

abbrev pub invariant-loop-index : goal.invariant-loop-index
invariant-loop-index l = behind_mark (placed_all (drop l.index l.items)) ≡ behind_mark (placed_all l.items)
