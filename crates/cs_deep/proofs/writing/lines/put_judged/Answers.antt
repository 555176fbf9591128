-- An edit that is outside has its lines, and any other has none.
use Rattle.std.proofs.Common.{Bool, [], ap, ◌∙◌}
use Rattle.std.specs.Prelude.{if◌then◌else◌}
use Rattle.cs_deep.specs.Edits.Classes.{is_outside}
use Rattle.cs_deep.specs.Writing.Deep.{EditEntry, deep_lines}
use Rattle.cs_manifest.proofs.OnOutput.Pieces.{nothing, spelled}
use Rattle.cs_deep.proofs.writing.lines.put_judged.Goals as goal

-- nothing is put of an edit of another class
pub returns-then-not-is_outside : goal.returns-then-not-is_outside
returns-then-not-is_outside g c =
    let class = c.if-not-is_outside.ensures ∙ ap (λ (e : EditEntry). is_outside e.class) c.judged.view_is in
    spelled _ (ap (λ (b : Bool). if b then deep_lines c.args.file.now c.args.base c.args.number c.args.judged.now else []) class) (nothing _)
