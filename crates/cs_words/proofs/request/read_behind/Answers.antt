-- What the command takes stands and its options do, or the first word that doesn't is bad.
use Rattle.cs_words.specs.Words.{texts}
use Rattle.cs_words.specs.Commands.{taken_of}
use Rattle.cs_words.proofs.Standing.{arguments_fit, lacks_bad, option_bad, words_accepted}
use Rattle.cs_words.proofs.request.read_behind.Goals as goal

pub returns-in-Err-clause-bad : goal.returns-in-Err-clause-bad
returns-in-Err-clause-bad c = lacks_bad c.args.command (texts c.args.words.now) c.in-Err.at c.requires.chosen c.in-Err.ensures.lacks

pub returns-in-Ok-read_options-clause-accepted : goal.returns-in-Ok-read_options-clause-accepted
returns-in-Ok-read_options-clause-accepted c =
    words_accepted c.args.command (texts c.args.words.now) _ _ (texts c.in-Ok.taken.rest.now) c.in-Ok.ensures.begins c.in-Ok-read_options.ensures.stand

pub returns-in-Err-read_options-clause-bad : goal.returns-in-Err-read_options-clause-bad
returns-in-Err-read_options-clause-bad c =
    option_bad c.args.command (texts c.args.words.now) _ _ (texts c.in-Ok.taken.rest.now) c.in-Ok.ensures.begins c.in-Err-read_options.at c.requires.chosen c.in-Err-read_options.ensures.stops

pub returns-in-Ok-read_options-clause-fitting : goal.returns-in-Ok-read_options-clause-fitting
returns-in-Ok-read_options-clause-fitting c = arguments_fit (taken_of c.args.command) _ _ c.in-Ok.ensures.begins.are
