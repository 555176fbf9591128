use Rattle.std.proofs.Common.{◌≡◌, drop}
use Rattle.cs_yacc.specs.Reading.Meaning.{first_undefined}
use Rattle.cs_yacc.specs.Items.Views.{placed_all}
use Rattle.cs_yacc.proofs.reading.fault.first_undefined.Given as goal

abbrev pub invariant-loop-placed : goal.invariant-loop-placed
invariant-loop-placed l =
    first_undefined l.declared l.lefts (placed_all (drop l.placed-index l.items)) ≡ first_undefined l.declared l.lefts (placed_all l.items)
