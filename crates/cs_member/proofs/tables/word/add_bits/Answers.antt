-- What stands at the place has the bits too, and the rest stays.
use Rattle.cs_member.proofs.OnTables.Bits.{or_bits_read}
use Rattle.cs_member.proofs.tables.word.add_bits.Goals as goal

pub returns-clause-has : goal.returns-clause-has
returns-clause-has c = or_bits_read c.args.set.now.items c.widen.new.set.items c.args.at c.args.bits c.index_mut.result.now c.in_ok-widen.ensures.within c.index_mut.ensures.value c.in_ok-widen.ensures.same
