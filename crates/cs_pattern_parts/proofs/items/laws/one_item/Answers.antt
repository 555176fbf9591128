-- Whatever a text spells in front, the front finds, with its size, and the front is one.
use Rattle.cs_pattern_parts.proofs.OnItems.Fronts.{one_spelled}
use Rattle.cs_pattern_parts.proofs.items.laws.one_item.Goals as goal

pub returns-clause-item : goal.returns-clause-item
returns-clause-item c = λ text n m i j p q. (one_spelled text n m i j p q).1

pub returns-clause-size : goal.returns-clause-size
returns-clause-size c = λ text n m i j p q. (one_spelled text n m i j p q).0
