-- Both sizes are the size that the scan of the text gives.
use Rattle.cs_ctext.proofs.QuotedSizes.{quoted_size-quoted}
use Rattle.cs_ctext.proofs.laws.one_quoted.Goals as goal

pub returns : goal.returns
returns c = λ text m n p q. let e = quoted_size-quoted text m p in let f = quoted_size-quoted text n q in cc
