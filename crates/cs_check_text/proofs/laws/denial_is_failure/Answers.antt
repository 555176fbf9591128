-- The line of a text is that of the check's outcome, which denies the manifest exactly where a line has a fault.
use Rattle.cs_check_text.proofs.OneText.{denies_where_it_fails}
use Rattle.cs_check_text.proofs.laws.denial_is_failure.Goals as goal

pub returns : goal.returns
returns c = denies_where_it_fails
