-- Both blocks take the same parts and inner blocks in turn, and so they end at one place.
use Rattle.cs_ctext.proofs.BlockSteps.{same_block}
use Rattle.cs_ctext.proofs.laws.one_block.Goals as goal

pub returns : goal.returns
returns c = same_block
