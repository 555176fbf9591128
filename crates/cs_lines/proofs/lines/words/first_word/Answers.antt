-- The bytes before the first space are the first word.
use Rattle.cs_lines.proofs.OnLines.Splits.{split_at}
use Rattle.cs_lines.proofs.lines.words.first_word.Goals as goal

pub returns : goal.returns
returns c = split_at c.args.text.now _ c.word_len-size.ensures.len
