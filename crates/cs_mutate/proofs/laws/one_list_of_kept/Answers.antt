-- Whether a negative is kept depends on those before it alone.
use Rattle.cs_mutate.proofs.KeptLists.{are_of_those, are_outside, keeps_all, one_kept, some_kept}
use Rattle.cs_mutate.proofs.laws.one_list_of_kept.Goals as goal

pub returns-clause-one : goal.returns-clause-one
returns-clause-one c g w first before ns a b p q = one_kept g w first before ns a b p q

pub returns-clause-some : goal.returns-clause-some
returns-clause-some c g w first before ns none = some_kept g w first before ns none

pub returns-clause-each : goal.returns-clause-each
returns-clause-each c g w first before ns kept are n h = are_of_those g w first before ns kept are n h

pub returns-clause-outside : goal.returns-clause-outside
returns-clause-outside c g w first es before ns kept all are n h sentence = are_outside g w first es before ns kept all are n h sentence

pub returns-clause-all : goal.returns-clause-all
returns-clause-all c g w before ns kept are = keeps_all g w before ns kept are
