-- The first slip that has such a list is written with it, and no later one.
use Rattle.cs_wrong.proofs.OnWriting.EachOnce.{each_once}
use Rattle.cs_wrong.specs.Writing.Text.{weighed_by}
use Rattle.cs_wrong.proofs.writing.laws.each_wrong_list_once.Goals as goal

pub returns : goal.returns
returns c = λ file chosen texts weigh text is. each_once (weighed_by weigh file is.lexemes) texts is.lexemes chosen is.entries is.slips
