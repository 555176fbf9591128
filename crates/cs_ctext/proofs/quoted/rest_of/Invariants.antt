use Rattle.cs_ctext.proofs.Ahead.{RestGoes}
use Rattle.cs_ctext.proofs.quoted.rest_of.Given as goal

abbrev pub invariant-loop-index : goal.invariant-loop-index
invariant-loop-index l = RestGoes l.mark l.text l.index l.is_taken
