use Rattle.std.proofs.Common.{◌≡◌, ◌+◌, length}
use Rattle.cs_yacc.specs.Items.Items.{items_of}
use Rattle.cs_yacc.specs.Reading.Meaning.{body}
use Rattle.cs_yacc.specs.Items.Views.{placed_all}
use Rattle.cs_yacc.proofs.OnReading.Loops.{rest_at}
use Rattle.cs_yacc.proofs.reading.spelled.body_len.Given as goal

abbrev pub invariant-loop-index : goal.invariant-loop-index
invariant-loop-index l = l.index + length (body (rest_at l.items l.index)) ≡ length (body (items_of (placed_all l.items)))
