-- The pieces are of the file's names and of the lexemes, and the token stands apart.
use Rattle.std.proofs.Common.{◌∷◌, ap, ◌∙◌, subst}
use Rattle.cs_bytes.specs.Names.{space}
use Rattle.cs_manifest.specs.Output.Names.{token_of}
use Rattle.cs_manifest.specs.Filling.Open.{IsQuotedLexeme, TokenTable}
use Rattle.cs_writing.specs.Mutants.Makers.{PlainTools}
use Rattle.cs_writing.specs.Mutants.Rows.{IsTold}
use Rattle.cs_writing.specs.declared.mutants.tools.ToldToken.{ToldToken}
use Rattle.cs_writing.proofs.mutants.tools.Tools.told.Goals as goal

pub returns-clause-told : goal.returns-clause-told
returns-clause-told c =
    let h = c.self.invariant in
    let token = c.args.token in
    let lexeme = c.in_ok-lexeme.field-0 in
    let told : ToldToken = record { name = c.name.result; lexeme = lexeme } in
    subst (λ (t : PlainTools). IsTold t token told) c.self.view_is (record {
      name = c.name.ensures ∙ ap (λ (p : TokenTable). space ∷ token_of p.file token) h.pieces_are;
      lexeme = subst (λ (p : TokenTable). IsQuotedLexeme p.lexemes token lexeme) h.pieces_are c.in_ok-lexeme.ensures.some;
      apart = c.has.ensures.0 c.if-not-has.false;
      scan = h.scan;
    })
