-- The tokens of one entry more are a new base's where it is feasible and they are free; else the bases stay.
use Rattle.cs_writing.proofs.OnBases.Offers.{takes_free, passes_others}
use Rattle.cs_writing.proofs.bases.laws.bases_come_by_offers.Goals as goal

pub returns-clause-free : goal.returns-clause-free
returns-clause-free c = takes_free

pub returns-clause-others : goal.returns-clause-others
returns-clause-others c = passes_others
