-- An accepted yacc file is one with names, and each suite of a file with names passes.
use Rattle.cs_accord.proofs.OnSuite.Accords.{suite_passes}
use Rattle.cs_accord.proofs.OnSuite.ReadNames.{read_named}
use Rattle.cs_accord.proofs.laws.suites_pass.Goals as goal

pub returns : goal.returns
returns c = λ bytes file is texts choice text by m. suite_passes file (read_named bytes file is) texts choice text by m
