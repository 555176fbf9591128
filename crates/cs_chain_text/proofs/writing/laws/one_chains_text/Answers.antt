-- The lexemes, the verdicts, their tokens and their texts are each one, and so is what is put of them.
use Rattle.cs_chain_text.proofs.OnWriting.OneText.{one_text_of}
use Rattle.cs_chain_text.proofs.writing.laws.one_chains_text.Goals as goal

pub returns : goal.returns
returns c = λ file texts weigh. one_text_of c.one_text.ensures file texts weigh
