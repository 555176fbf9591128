-- What is so on Ok.
use Rattle.std.proofs.Common.{Result, Ok, Err}
use Rattle.std.specs.Prelude.{IfOk}

-- what is so on Ok, said of what follows from it
pub if_ok_more : {A E : Type 0} {P Q : A → Type 0} (result : Result A E) → IfOk result P → ((a : A) → P a → Q a) → IfOk result Q
if_ok_more (Ok value) is more = more value is
if_ok_more (Err error) is more = tt
