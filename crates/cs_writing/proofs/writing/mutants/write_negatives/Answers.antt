-- What is made first is of the base, and so is what is found from then on.
use Rattle.std.proofs.Common.{subst}
use Rattle.std.specs.Prelude.{OnOk}
use Rattle.cs_writing.specs.Mutants.Mutants.{Mutant}
use Rattle.cs_writing.specs.Writing.Mutants.{CountsMade, TellsMade}
use Rattle.cs_writing.proofs.writing.mutants.write_negatives.Goals as goal

pub returns-clause-adds : goal.returns-clause-adds
returns-clause-adds g c =
    subst (λ (m : Mutant). OnOk c.write_found.result (CountsMade c.args.keeper.now m.making c.args.search c.args.manifest.now c.write_found.new.manifest)) c.new-made.ensures c.write_found.ensures.adds

pub returns-clause-told : goal.returns-clause-told
returns-clause-told g c =
    subst (λ (m : Mutant). OnOk c.write_found.result (TellsMade m.making c.args.search c.args.keeper.now c.write_found.new.keeper)) c.new-made.ensures c.write_found.ensures.told
