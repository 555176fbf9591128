-- The command takes what its files mean, and what is written of it is asked for.
use Rattle.std.proofs.Common.{ap, subst}
use Rattle.cs_words.specs.Requests.{plain_arguments}
use Rattle.cs_run.specs.Input.Read.{HasItsTokens, HasShortText}
use Rattle.cs_run.proofs.OnCommand.Performing.{asked_as, gen_so, names_no_seed, takes_grammar, takes_pair, takes_seed, takes_third}
use Rattle.cs_run.proofs.command.command.carry_out.Goals as goal

pub unreachable-requires : goal.unreachable-requires
unreachable-requires g c = names_no_seed c.args.request.now.command (plain_arguments c.args.request.now.arguments) _ c.args.meant.now c.in-Nothing.is c.requires.form (ap plain_arguments c.in-Files.is)

pub returns-in-Seed-clause-writes : goal.returns-in-Seed-clause-writes
returns-in-Seed-clause-writes g c =
    let request = c.args.request.now in
    let given = plain_arguments request.arguments in
    asked_as _ _ request c.args.meant.now _ c.in-Nothing.is
    (gen_so c.summary.result _ request.command given request.options c.in-Seed.seed (takes_seed request.command given c.args.meant.now c.in-Nothing.is c.requires.form).0 (ap plain_arguments c.in-Seed.is)
    c.summary.ensures.writes)

pub of_grammar-requires-clause-takes : goal.of_grammar-requires-clause-takes
of_grammar-requires-clause-takes g c = λ κs met.
    takes_grammar c.args.request.now.command (plain_arguments c.args.request.now.arguments) c.args.meant.now c.in-Grammar.file c.in-Grammar.is c.requires.form

pub returns-in-Grammar-clause-writes : goal.returns-in-Grammar-clause-writes
returns-in-Grammar-clause-writes g c =
    let request = c.args.request.now in
    asked_as _ _ request c.args.meant.now _ c.in-Grammar.is (c.of_grammar.ensures.writes (plain_arguments request.arguments) request.options)

pub of_pair-requires-clause-takes : goal.of_pair-requires-clause-takes
of_pair-requires-clause-takes g c = λ κs met.
    takes_pair c.args.request.now.command (plain_arguments c.args.request.now.arguments) c.args.meant.now c.in-Pair.pair c.in-Pair.is c.requires.form

pub returns-in-Pair-clause-writes : goal.returns-in-Pair-clause-writes
returns-in-Pair-clause-writes g c =
    let request = c.args.request.now in
    asked_as _ _ request c.args.meant.now _ c.in-Pair.is (c.of_pair.ensures.writes (plain_arguments request.arguments))

pub of_third-requires-clause-takes : goal.of_third-requires-clause-takes
of_third-requires-clause-takes g c =
    takes_third c.args.request.now.command (plain_arguments c.args.request.now.arguments) c.args.meant.now c.in-Text.beside c.in-Text.is c.requires.form

pub of_third-requires-clause-short : goal.of_third-requires-clause-short
of_third-requires-clause-short g c = subst HasShortText c.in-Text.is c.requires.short

pub of_third-requires-clause-tokens : goal.of_third-requires-clause-tokens
of_third-requires-clause-tokens g c = subst HasItsTokens c.in-Text.is c.requires.tokens

pub returns-in-Text-clause-writes : goal.returns-in-Text-clause-writes
returns-in-Text-clause-writes g c =
    let request = c.args.request.now in
    asked_as _ _ request c.args.meant.now _ c.in-Text.is (c.of_third.ensures.writes (plain_arguments request.arguments) request.options)
