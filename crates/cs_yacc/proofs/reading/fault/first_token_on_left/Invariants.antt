use Rattle.std.proofs.Common.{◌≡◌, drop}
use Rattle.cs_yacc.specs.Reading.Meaning.{first_at, is_token_on_left}
use Rattle.cs_yacc.specs.Items.Views.{placed_all}
use Rattle.cs_yacc.proofs.reading.fault.first_token_on_left.Given as goal

abbrev pub invariant-loop-index : goal.invariant-loop-index
invariant-loop-index l = first_at (is_token_on_left l.declared) (placed_all (drop l.index l.items)) ≡ first_at (is_token_on_left l.declared) (placed_all l.items)
