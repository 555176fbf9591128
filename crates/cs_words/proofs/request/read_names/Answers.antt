-- There are fewer names than roles, and no name behind them.
use Rattle.cs_words.specs.Words.{texts}
use Rattle.cs_words.proofs.Standing.{names_lack}
use Rattle.cs_words.proofs.request.read_names.Goals as goal

pub returns-then-count-roles-clause-lacks : goal.returns-then-count-roles-clause-lacks
returns-then-count-roles-clause-lacks c =
    let count = c.count_names-count.ensures in
    names_lack c.args.command c.args.roles.now (texts c.args.words.now) c.count_names-count.result c.requires count.within c.if-count-roles.true count.names (count.stops c.if-count-roles.true)
