-- Where the names end before the tokens, they aren't the names of them all.
use Rattle.std.proofs.Common.{◌≡◌, map, get_or}
use Rattle.std.proofs.lemmas.List.{get_or_default}
use Rattle.cs_lines.specs.Words.Names.{token_of}
use Rattle.cs_lines.specs.Lines.Read.{names_in}
use Rattle.cs_check.proofs.OnChecking.Comparing.{compared_short}
use Rattle.cs_check.proofs.checking.texts.are_tokens.Goals as goal

pub returns-in_default : goal.returns-in_default
returns-in_default c =
    let file = c.args.file.now in
    let tokens = c.args.tokens.now in
    let place = c.loop-token.token-index in
    let front = get_or tokens place 0 in (
      λ e. absurd cc,
      λ all. absurd (compared_short (token_of file) tokens (names_in c.args.names ≡ map (token_of file) tokens) place (names_in c.loop-token.rest) c.loop-token.invariant
          c.loop-token-test.true front (get_or_default tokens place 0 front c.loop-token-test.true) c.in_default.ensures all),
    )
