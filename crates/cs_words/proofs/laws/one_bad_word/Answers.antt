-- The words before a bad place stand there, so none of them is bad, and accepted words all stand.
use Rattle.cs_words.proofs.OneBad.{one_bad, bad_not_accepted}
use Rattle.cs_words.proofs.laws.one_bad_word.Goals as goal

pub returns-clause-once : goal.returns-clause-once
returns-clause-once c = λ words a b x y. one_bad words a b x y

pub returns-clause-not_accepted : goal.returns-clause-not_accepted
returns-clause-not_accepted c = λ words accepted at bad. bad_not_accepted words at bad accepted
