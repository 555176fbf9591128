-- Accepted words have no bad place, two first bad ones are the same, and the words settle each part of a request.
use Rattle.cs_words.proofs.OneRequest.{one_asked}
use Rattle.cs_words.proofs.laws.one_request.Goals as goal

pub returns : goal.returns
returns c = one_asked
