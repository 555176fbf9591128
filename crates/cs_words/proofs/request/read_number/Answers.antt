-- The command takes a seed, and the first word is one.
use Rattle.cs_words.specs.Words.{texts}
use Rattle.cs_words.proofs.Standing.{seed_begins}
use Rattle.cs_words.proofs.request.read_number.Goals as goal

pub returns-in-Some-clause-begins : goal.returns-in-Some-clause-begins
returns-in-Some-clause-begins c = seed_begins c.args.command (texts c.args.words.now) c.in-Some.seed (texts c.in-Some.rest.now) c.requires c.in-Some.ensures.some
