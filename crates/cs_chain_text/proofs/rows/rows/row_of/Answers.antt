-- The frame and the core are kept, their costs add up, and the chain is theirs.
use Rattle.cs_chain_text.proofs.rows.rows.row_of.Goals as goal

pub returns : goal.returns
returns c = record {
  is = record { frame = c.requires; core = c.in_ok-core.ensures; cost = c.plus-cost.ensures; left = c.fits.ensures c.if-not-fits.false };
  chain_is = c.is_of.ensures c.if-not-is_of.false;
}
