use Rattle.std.proofs.Common.{◌≡◌, map}
use Rattle.cs_lines.specs.Words.Names.{token_of}
use Rattle.cs_lines.specs.Lines.Read.{names_in}
use Rattle.cs_check.proofs.OnChecking.Comparing.{Compared}
use Rattle.cs_check.proofs.checking.texts.are_tokens.Given as goal

abbrev pub invariant-loop-token : goal.invariant-loop-token
invariant-loop-token l =
    Compared (token_of l.file) l.tokens (names_in l.names ≡ map (token_of l.file) l.tokens) l.token-index (names_in l.rest)
