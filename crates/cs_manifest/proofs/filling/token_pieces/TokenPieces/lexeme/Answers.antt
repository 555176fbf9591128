-- The piece at the token's place is its lexeme between quotes, and each token of the file has a place.
use Rattle.std.proofs.Common.{◌≡◌, ℕ, ◌<◌, List, Option, None, Some, IfSome, arith, ap, refl, get_or, length, option_map, subst, sym, ◌∙◌}
use Rattle.std.proofs.lemmas.List.{get_or-map}
use Rattle.std.specs.Borrow.{Bor}
use Rattle.std.specs.Option.{option_copied}
use Rattle.cs_scanner.specs.Lexeme.Lexeme.{lexeme_in}
use Rattle.cs_manifest.specs.Output.Names.{IsNamedToken}
use Rattle.cs_manifest.specs.Filling.Open.{IsQuotedLexeme, TokenTable, between_quotes}
use Rattle.cs_manifest.proofs.filling.token_pieces.TokenPieces.lexeme.Goals as goal

quoted : (lexemes : List (Option (List ℕ))) (token : ℕ) (result : Option (Bor (List ℕ))) (lexeme : Option (List ℕ)) → lexeme_in lexemes token ≡ lexeme
    → option_copied result ≡ option_map between_quotes lexeme → IfSome result (IsQuotedLexeme lexemes token)
quoted lexemes token None lexeme has is = tt
quoted lexemes token (Some piece) None has is = absurd (cc)
quoted lexemes token (Some piece) (Some lexeme) has is = record { lexeme = lexeme; has = has; is = cc }

pub returns-clause-some : goal.returns-clause-some
returns-clause-some c =
    let lexemes = c.self.inside.lexemes.now in
    let place = c.place_of.result in
    let named = subst (λ (t : TokenTable). IsNamedToken t.file c.args.token) (sym c.self.view_is) c.requires in
    let within : place < length lexemes = omega (arith, c.place_of.ensures, named.0, named.1, c.self.invariant.2) in
    let piece = c.index.ensures ∙ ap (λ (pieces : List (Option (List ℕ))). get_or pieces place c.index.result.now) c.self.invariant.1
    ∙ get_or-map (option_map between_quotes) lexemes place None c.index.result.now within
    ∙ ap (λ (n : ℕ). option_map between_quotes (get_or lexemes n None)) c.place_of.ensures in
    subst (λ (t : TokenTable). IfSome c.as_ref.result (IsQuotedLexeme t.lexemes c.args.token)) c.self.view_is
    (quoted lexemes c.args.token c.as_ref.result (lexeme_in lexemes c.args.token) refl (c.as_ref.ensures.value ∙ piece))
