-- From the beginning both readings take the same items and halt at the same place.
use Rattle.cs_yacc.proofs.OnItems.Reading as lemmas
use Rattle.cs_yacc.proofs.items.laws.one_reading.Goals as goal

pub returns : goal.returns
returns c = lemmas.one_reading
