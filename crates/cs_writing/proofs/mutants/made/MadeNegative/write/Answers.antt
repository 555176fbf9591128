-- The lines of the row filled with the token, or of the rendered entry, are those of the negative.
use Rattle.std.proofs.Common.{◌≡◌, ap, sym, ◌∙◌, subst}
use Rattle.std.specs.Prelude.{IfSome, None, OnOk, Option, Some, option_copied, option_map, unwrap_or}
use Rattle.std.specs.Borrow.{Bor}
use Rattle.cs_manifest.specs.Filling.Open.{filled}
use Rattle.cs_manifest.specs.Writer.Progress.{Progress, lines_in}
use Rattle.cs_writing.specs.Mutants.Mutants.{Mutant}
use Rattle.cs_writing.specs.Mutants.Rows.{FillsRow, IsFilled, negative_in, negative_of}
use Rattle.cs_writing.specs.declared.mutants.made.Filling.{Filling}
use Rattle.cs_writing.specs.declared.mutants.made.Rendering.{Rendering}
use Rattle.cs_writing.specs.declared.mutants.row.Row.{Row}
use Rattle.cs_writing.proofs.OnMutants.Entries.{entry_behind, entry_lines, writes_lines, writes_made}
use Rattle.cs_writing.proofs.mutants.made.MadeNegative.write.Goals as goal

pub returns-in-Some : goal.returns-in-Some
returns-in-Some g c =
    let m = c.self.inside in
    let making = m.maker.now in
    let filling = c.in-Some.filling in
    let n = negative_of filling in
    let row = c.unwrap.result.now in
    let name = filling.token.name.now in
    let lexeme = filling.token.lexeme.now in
    let number = c.args.number.now in
    let old = c.args.manifest.now in
    let new = c.entry.new.self in
    let before = c.args.sink.now in
    let after = c.entry.new.sink in
    let e = c.entry.ensures in
    let has : FillsRow making m.rows filling = subst (λ (o : Option Filling). IfSome o (FillsRow making m.rows)) c.in-Some.is c.self.invariant.1 in
    let there : Some has.row ≡ Some row = sym has.there ∙ c.get.ensures ∙ ap (λ (o : Option (Bor Row)). option_map (λ r. r.now) o) c.unwrap.ensures in
    let fills : IsFilled making n row.lines name lexeme = subst (λ (r : Row). IsFilled making n r.lines name lexeme) (ap (λ (o : Option Row). unwrap_or o row) there) has.fills in
    let same : record { making = making; negative = Some n } ≡ c.args.self.now = ap (λ (o : Option Filling). record { making = making; negative = negative_in o m.rendering }) (sym c.in-Some.is) ∙ c.self.view_is in
    writes_made g.S.Sink making n number old new before after c.args.self.now c.entry.result same
    (writes_lines g.S.Sink making n number old new before after fills.told (filled row.lines number name lexeme) fills.of (fills.lines number) c.entry.result e.value e.unchanged e.lines)

pub returns-in-None : goal.returns-in-None
returns-in-None g c =
    let m = c.self.inside in
    let making = m.maker.now in
    let rendering = c.unwrap-rendering.result.now in
    let n = rendering.negative in
    let number = c.args.number.now in
    let old = c.args.manifest.now in
    let new = c.entry-in-None.new.self in
    let before = c.args.sink.now in
    let after = c.entry-in-None.new.sink in
    let result = c.entry-in-None.result in
    let entry = c.rendered-entry.result in
    let is = c.rendered-entry.ensures in
    let e = c.entry-in-None.ensures in
    let there : m.rendering ≡ Some rendering = sym c.as_ref.ensures.value ∙ ap (λ (o : Option (Bor Rendering)). option_copied o) c.unwrap-rendering.ensures in
    let same : record { making = making; negative = Some n } ≡ c.args.self.now =
    ap (λ (o : Option Rendering). record { making = making; negative = negative_in None o }) (sym there)
    ∙ ap (λ (o : Option Filling). record { making = making; negative = negative_in o m.rendering }) (sym c.in-None.is) ∙ c.self.view_is in
    let file = c.requires.file ∙ ap (λ (k : Mutant). k.making.tools.file) (sym c.self.view_is) in
    let value = subst (λ (p : Progress). OnOk result (new ≡ p)) (entry_behind making n number entry old is) e.value in
    writes_made g.S.Sink making n number old new before after c.args.self.now result same
    (writes_lines g.S.Sink making n number old new before after is.told (lines_in old entry) is.of (entry_lines making n number entry old is file) result value e.unchanged e.lines)
