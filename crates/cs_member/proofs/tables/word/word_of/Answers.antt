-- In the word of a number the bit of that number is set, and no other.
use Rattle.cs_member.proofs.OnTables.Bits.{in_word_of}
use Rattle.cs_member.proofs.tables.word.word_of.Goals as goal

pub returns-clause-has : goal.returns-clause-has
returns-clause-has c = in_word_of c.args.number
