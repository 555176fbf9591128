-- Nothing is put of a slip of another class.
use Rattle.std.proofs.Common.{Bool, [], ap, ◌∙◌}
use Rattle.std.specs.Prelude.{if◌then◌else◌}
use Rattle.cs_manifest.proofs.OnOutput.Pieces.{nothing, spelled}
use Rattle.cs_wrong.specs.Classes.Classes.{is_wrong}
use Rattle.cs_wrong.specs.Writing.Text.{SlipEntry, wrong_lines}
use Rattle.cs_wrong.proofs.writing.lines.put_judged.Goals as goal

pub returns-then-not-is_wrong : goal.returns-then-not-is_wrong
returns-then-not-is_wrong g c =
    let class = c.if-not-is_wrong.ensures ∙ ap (λ (e : SlipEntry). is_wrong e.class) c.judged.view_is in
    spelled _ (ap (λ (b : Bool). if b then wrong_lines c.args.file.now c.args.number c.args.judged.now else []) class) (nothing _)
