-- Lexemes, classes, lists and renderings are one.
use Rattle.cs_wrong.proofs.OnWriting.OneWrong.{one_text_of}
use Rattle.cs_wrong.proofs.writing.laws.one_wrong_text.Goals as goal

pub returns : goal.returns
returns c = λ file chosen texts weigh. one_text_of c.one_text.ensures file texts weigh chosen
