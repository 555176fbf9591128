-- Both are what the scan of the character behind the quote gives.
use Rattle.cs_ctext.proofs.LiteralValues.{same_literal}
use Rattle.cs_ctext.proofs.laws.one_literal.Goals as goal

pub returns : goal.returns
returns c = same_literal
