-- The longest run has the size of the prefix, and a run of that size is the longest.
use Rattle.std.proofs.Common.{sym, subst}
use Rattle.cs_bytes.specs.Places.{IsRun}
use Rattle.cs_bytes.proofs.Runs.{IsRun-prefix_len, run_is}
use Rattle.cs_bytes.proofs.laws.one_run.Goals as goal

pub returns : goal.returns
returns c = λ passes text n. (λ r. run_is passes text n r, λ e. subst (λ m. IsRun passes text m) (sym e) (IsRun-prefix_len passes text))
