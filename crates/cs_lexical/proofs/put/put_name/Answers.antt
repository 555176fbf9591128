-- The name stands one place below the token's number, or past the last there is none.
use Rattle.std.proofs.Common.{◌≡◌, ◌∙◌, ◌-◌, [], List, ℕ, Option, None, Some, ap, sym}
use Rattle.std.specs.Option.{option_map_or}
use Rattle.std.specs.Prelude.{slice_get}
use Rattle.std.proofs.lemmas.Option.{slice_get-get_or, slice_get_past}
use Rattle.cs_yacc.specs.declared.reading.name.TokenName.{TokenName}
use Rattle.cs_manifest.proofs.OnOutput.Pieces.{nothing, spelled}
use Rattle.cs_manifest.specs.Output.Names.{token_text}
use Rattle.cs_lexical.proofs.put.put_name.Goals as goal

pub returns-then-place-names : goal.returns-then-place-names
returns-then-place-names g c =
    let names = c.token_names-names.result.now in
    let token = c.args.token in
    let none : slice_get c.args.file.now.token_names (token - 1) ≡ None =
    ap (λ (l : List TokenName). slice_get l (token - 1)) (sym c.token_names-names.ensures.names)
    ∙ ap (λ (q : ℕ). slice_get names q) (sym c.saturating_sub-place.ensures)
    ∙ slice_get_past names c.saturating_sub-place.result c.if-place-names.true in
    spelled _ (ap (λ (o : Option TokenName). option_map_or token_text o []) (sym none)) (nothing _)

pub returns : goal.returns
returns g c =
    let names = c.token_names-names.result.now in
    let token = c.args.token in
    let name = c.index-names-place.result in
    let at : slice_get c.args.file.now.token_names (token - 1) ≡ Some name =
    ap (λ (l : List TokenName). slice_get l (token - 1)) (sym c.token_names-names.ensures.names)
    ∙ ap (λ (q : ℕ). slice_get names q) (sym c.saturating_sub-place.ensures)
    ∙ slice_get-get_or names c.saturating_sub-place.result name c.if-place-names.false
    ∙ ap Some (sym c.index-names-place.is) in
    spelled _ (ap (λ (o : Option TokenName). option_map_or token_text o []) (sym at)) c.put_token_name.ensures
