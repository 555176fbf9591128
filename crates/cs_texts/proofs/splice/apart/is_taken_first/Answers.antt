-- The match that the separator settles.
use Rattle.std.proofs.Common.{◌∙◌, ap, length}
use Rattle.std.proofs.lemmas.Bool.{eqb-true}
use Rattle.cs_scanner.specs.Scan.Compared.{scanning}
use Rattle.cs_texts.specs.declared.splice.step.GivenToken.TheVariants as variants
use Rattle.cs_texts.proofs.OnSplice.Standing.{taken_first}
use Rattle.cs_texts.proofs.splice.apart.is_taken_first.Goals as goal

pub returns-then-given-token : goal.returns-then-given-token
returns-then-given-token c = λ whole.
    taken_first (scanning c.args.scanner.now) c.args.lexeme.now c.args.separator.now c.in-Some.step c.args.token _ c.in-Some.ensures (c.in-Token-Some.is-0 ∙ ap variants.Token c.if-given-token.true) c.in-Token-Some.is-1 (eqb-true c.in-Some.step.size (length c.args.lexeme.now) whole)
