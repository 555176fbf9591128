-- Where no gap stands a slash begins no closed comment; a byte that begins no item begins nothing.
use Rattle.std.proofs.Common.{arith, get_or, refl}
use Rattle.cs_yacc.proofs.OnItems.Gaps.{no_gap_no_comment}
use Rattle.cs_yacc.proofs.OnItems.Begin.{nothing_at, no_brace}
use Rattle.cs_yacc.proofs.items.item.front_of.Goals as goal

pub slash_at-requires-clause-no_comment : goal.slash_at-requires-clause-no_comment
slash_at-requires-clause-no_comment c = no_gap_no_comment _ c.requires.no_gap

pub returns-in_default-3 : goal.returns-in_default-3
returns-in_default-3 c =
    nothing_at c.args.text.now (get_or c.args.text.now 0 0) (omega arith) refl (omega arith) (omega arith) (omega arith) (no_brace c.args.text.now c.requires.no_block) (omega arith) (omega arith) (omega arith) (omega arith) (omega arith) (cc) (cc)
