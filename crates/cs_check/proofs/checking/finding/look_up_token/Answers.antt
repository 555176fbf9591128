-- A name that isn't quoted is a word, and the file's table tells whether a token has it.
use Rattle.std.proofs.Common.{sym, ◌∙◌}
use Rattle.std.proofs.lemmas.Bool.{false≢true}
use Rattle.cs_check.proofs.OnChecking.Finding.{looked_up, not_found}
use Rattle.cs_check.proofs.checking.finding.look_up_token.Goals as goal

pub returns-else-is_quoted-clause-some : goal.returns-else-is_quoted-clause-some
returns-else-is_quoted-clause-some c =
    looked_up c.args.file.now c.token_names-named.ensures.named c.args.name.now
    (λ quoted. false≢true (sym c.if-is_quoted.false ∙ c.is_quoted.ensures.1 quoted))
    c.token.result c.token.ensures.found

pub returns-else-is_quoted-clause-none : goal.returns-else-is_quoted-clause-none
returns-else-is_quoted-clause-none c =
    not_found c.args.file.now c.token_names-named.ensures.named c.args.name.now
    (λ quoted. false≢true (sym c.if-is_quoted.false ∙ c.is_quoted.ensures.1 quoted))
    c.token.result c.token.ensures.none
