-- Reading stops, or the table is stuck, or the items give what they mean.
use Rattle.std.proofs.Common.{arith}
use Rattle.std.proofs.lemmas.List.{length-map}
use Rattle.cs_yacc.specs.Items.Views.{placed_of, placed_all}
use Rattle.cs_yacc.proofs.OnItems.Reading.{few_items}
use Rattle.cs_yacc.proofs.OnReading.Whole.{answers_from, answers_err, answers_stuck}
use Rattle.cs_yacc.proofs.reading.read.read_yacc.Goals as goal

pub returns-in-Some : goal.returns-in-Some
returns-in-Some c = answers_stuck c.args.bytes.now (placed_all c.in-Ok.items.items) c.in-Some.at c.in-Ok.ensures (rw c.deref.ensures.value at c.in-Some.ensures.stuck)

pub meaning-requires-clause-few : goal.meaning-requires-clause-few
meaning-requires-clause-few c = omega (arith, length-map c.in-Ok.items.items placed_of, few_items c.args.bytes.now (placed_all c.in-Ok.items.items) c.in-Ok.ensures, c.requires)

pub meaning-requires-clause-taken : goal.meaning-requires-clause-taken
meaning-requires-clause-taken c = rw c.deref.ensures.value at c.in-None.ensures.taken

pub returns-in-None : goal.returns-in-None
returns-in-None c = answers_from c.args.bytes.now (placed_all c.in-Ok.items.items) c.meaning.result c.in-Ok.ensures (rw c.deref.ensures.value at c.in-None.ensures.taken) c.meaning.ensures

pub returns-in-Err : goal.returns-in-Err
returns-in-Err c = rw c.from.ensures (answers_err c.args.bytes.now c.in-Err.error c.in-Err.ensures)
